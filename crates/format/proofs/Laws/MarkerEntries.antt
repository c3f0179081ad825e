-- K8. The entries of a name map, as markers stand on them: read with their offsets they agree with the map's rows, their indices and offsets rise, and every sixteenth is a marker.
use Rattle.std.specs.Prelude.{ℕ, zero, suc, ◌+◌, ◌-◌, ◌/◌, ◌≤◌, ◌<◌, List, [], ◌∷◌, ◌++◌, ◌≡◌, length}
use Rattle.std.proofs.Math.Path.{refl}
use Rattle.std.proofs.Common.{sym, ap, arith}
use Rattle.format.specs.Reading.{got, filling}
use Rattle.format.specs.Numbers.{number}
use Rattle.format.specs.Parts.{Part, sized, name}
use Rattle.format.specs.Tables.{Table, nil, row, rows, table}
use Rattle.format.specs.Names.{name_map, Content, names, contents}
use Rattle.format.specs.Markers.{Entry, entry, entries, all_entries, thinned}
use Rattle.format.specs.Laws.Outcomes.{got_value, got_next, got_rest, in_turn}
use Rattle.format.specs.Laws.Turns.{in_row, in_table}
use Rattle.format.proofs.Laws.Numbers.{shortest_positive}
use Rattle.format.proofs.Laws.Codecs.{number_sound, sized_codec, Sorted, end, next}
use Rattle.format.specs.Laws.Laxer.{name_laxer, table_laxer, filled_laxer}
use Rattle.format.proofs.Laws.Passing.{Passes, number_passes, sized_passes, table_passes, Reaches, reach, reach_step}

-- One entry, and entries one by one, taken apart
pub in_entry {ℓ} : {C : Type ℓ} (o : ℕ) (bs : List ℕ) {e : Entry} {o' : ℕ} {rest : List ℕ} → entry o bs ≡ got e o' rest
    → ((k o₁ : ℕ) (r₁ : List ℕ) (text : Part) → number o bs ≡ got k o₁ r₁ → sized o₁ r₁ ≡ got text o' rest → record { index = k; offset = o; text = text } ≡ e → C) → C
unfolding entry
in_entry o bs is c =
    in_turn (number o bs) _ is λ k o₁ r₁ e₁ e₂. in_turn (sized o₁ r₁) _ e₂ λ text o₂ r₂ e₃ e₄.
    c k o₁ r₁ text e₁ (rw (got_next e₄, got_rest e₄) at e₃) (got_value e₄)

pub in_entries {ℓ} : {C : Type ℓ} (n o : ℕ) (bs : List ℕ) {es : List Entry} {o' : ℕ} {rest : List ℕ} → entries (suc n) o bs ≡ got es o' rest
    → ((e : Entry) (o₁ : ℕ) (r₁ : List ℕ) (more : List Entry) → entry o bs ≡ got e o₁ r₁ → entries n o₁ r₁ ≡ got more o' rest → e ∷ more ≡ es → C) → C
unfolding entries
in_entries n o bs is c =
    in_turn (entry o bs) _ is λ e o₁ r₁ e₁ e₂. in_turn (entries n o₁ r₁) _ e₂ λ more o₂ r₂ e₃ e₄.
    c e o₁ r₁ more e₁ (rw (got_next e₄, got_rest e₄) at e₃) (got_value e₄)

-- and one entry from its two readings
pub entry_reads : (o : ℕ) (bs : List ℕ) {k o₁ o' : ℕ} {r₁ rest : List ℕ} {text : Part} → number o bs ≡ got k o₁ r₁ → sized o₁ r₁ ≡ got text o' rest → entry o bs ≡ got (record { index = k; offset = o; text = text }) o' rest
unfolding entry
entry_reads o bs e₁ e₂ = rw (e₁, e₂)

-- what goes on holding one byte further holds behind an entry
pub entry_passes : (Holds : ℕ → List ℕ → Type 0) → ((o b : ℕ) (bs : List ℕ) → Holds o (b ∷ bs) → Holds (suc o) bs) → Passes Holds entry
entry_passes Holds step o bs e o' rest h is =
    in_entry o bs is λ k o₁ r₁ text e₁ e₂ _.
    sized_passes Holds step o₁ r₁ text o' rest (number_passes Holds step o bs k o₁ r₁ h e₁) e₂

-- an entry takes a byte at least
pub entry_far : (o : ℕ) (bs : List ℕ) {e : Entry} {o' : ℕ} {rest : List ℕ} → entry o bs ≡ got e o' rest → o < o'
entry_far o bs is =
    in_entry o bs is λ k o₁ r₁ text e₁ e₂ _.
    omega (arith, reach (λ end. entry_passes (Reaches end) (reach_step end)) o bs is, (number_sound o bs e₁).shorter, shortest_positive k, (sized_codec.sound o₁ r₁ e₂).shorter)

-- Entries stand in bytes from an offset on: one after the other, up to where the reading ended. Row by row they are a table's, the indices rise and the first is at least `least`
pub data Standing (last : ℕ) (left : List ℕ) : (least o : ℕ) (bs : List ℕ) → List Entry → Table Part → Type 0 where
  no_entry : {least : ℕ} → Standing last left least last left [] nil
  an_entry : {least o k next : ℕ} {bs rest : List ℕ} {text : Part} {es : List Entry} {t : Table Part} → least ≤ k → o < next → entry o bs ≡ got (record { index = k; offset = o; text = text }) next rest → Standing last left (suc k) next rest es t → Standing last left least o bs (record { index = k; offset = o; text = text } ∷ es) (row k text t)

-- a map's rows, read once more as entries
pub record AsEntries (n least o : ℕ) (bs : List ℕ) (t : Table Part) (o' : ℕ) (rest : List ℕ) : Type 0 where
  pub all : List Entry
  pub count : length all ≡ n
  pub reads : entries n o bs ≡ got all o' rest
  pub stand : Standing o' rest least o bs all t

pub rows_entries : (n least o : ℕ) (bs : List ℕ) {t : Table Part} {o' : ℕ} {rest : List ℕ} → rows sized n least o bs ≡ got t o' rest → AsEntries n least o bs t o' rest
unfolding rows entries
rows_entries zero least o bs e = rw (← got_value e, ← got_next e, ← got_rest e) (record { all = []; count = refl; reads = refl; stand = no_entry })
rows_entries (suc n) least o bs e =
    in_row sized n least o bs e λ k o₁ r₁ text o₂ r₂ more e₁ above e₂ e₃ is.
    let here = entry_reads o bs e₁ e₂ in
    let ih = rows_entries n (suc k) o₂ r₂ e₃ in
    rw (← is) (record {
      all = record { index = k; offset = o; text = text } ∷ ih.all;
      count = ap suc ih.count;
      reads = rw (here, ih.reads);
      stand = an_entry above (entry_far o bs here) here ih.stand;
    })

-- a whole map: its count, and its entries behind that
pub record MapEntries (o : ℕ) (bs : List ℕ) (t : Table Part) (o' : ℕ) (rest : List ℕ) : Type 0 where
  pub count : ℕ
  pub first : ℕ
  pub behind : List ℕ
  pub counted : number o bs ≡ got count first behind
  pub its : AsEntries count 0 first behind t o' rest

pub table_entries : (o : ℕ) (bs : List ℕ) {t : Table Part} {o' : ℕ} {rest : List ℕ} → table sized o bs ≡ got t o' rest → MapEntries o bs t o' rest
table_entries o bs e = in_table sized o bs e λ n o₁ r₁ e₁ e₂. record { count = n; first = o₁; behind = r₁; counted = e₁; its = rows_entries n 0 o₁ r₁ e₂ }

pub all_read : {o : ℕ} {bs : List ℕ} {t : Table Part} {o' : ℕ} {rest : List ℕ} (m : MapEntries o bs t o' rest) → all_entries o bs ≡ got m.its.all o' rest
unfolding all_entries
all_read m = rw (m.counted, m.its.reads)

-- of the contents of a subsection of function names, which the map fills
pub record Mapped (o : ℕ) (bs : List ℕ) (c : Content Part) : Type 0 where
  pub rows : Table Part
  pub is : c ≡ names rows
  pub its : MapEntries o bs rows (o + length bs) []

pub contents_entries : (o : ℕ) (bs : List ℕ) {c : Content Part} {o' : ℕ} {rest : List ℕ} → contents name_map o bs ≡ got c o' rest → Mapped o bs c
unfolding contents
contents_entries o bs e =
    in_turn (filling (table name) o bs) _ e λ t o₁ r₁ e₁ e₂.
    let (last, reads) = filled_laxer (table_laxer name_laxer) o bs e₁ in
    let far : last ≡ o + length bs = omega (arith, reach (λ end. table_passes (Reaches end) (reach_step end) sized (sized_passes (Reaches end) (reach_step end))) o bs reads) in
    record { rows = t; is = sym (got_value e₂); its = table_entries o bs (rw far at reads) }

-- What stands there
module _ {last : ℕ} {left : List ℕ} where
  -- it is what is read there
  pub standing_reads : {least o : ℕ} {bs : List ℕ} {es : List Entry} {t : Table Part} → Standing last left least o bs es t → entries (length es) o bs ≡ got es last left
  unfolding entries
  standing_reads no_entry = refl
  standing_reads (an_entry above far here s) = rw (here, standing_reads s)

  -- it ends no earlier than it begins
  pub standing_far : {least o : ℕ} {bs : List ℕ} {es : List Entry} {t : Table Part} → Standing last left least o bs es t → o ≤ last
  standing_far no_entry = omega arith
  standing_far (an_entry above far here s) = omega (arith, far, standing_far s)

  -- the rows are in order
  pub standing_sorted : {least o : ℕ} {bs : List ℕ} {es : List Entry} {t : Table Part} → Standing last left least o bs es t → Sorted (λ k text. Unit {0}) least t
  standing_sorted no_entry = end
  standing_sorted (an_entry above far here s) = next above tt (standing_sorted s)

-- EVERY SIXTEENTH
pub thinned_first : (e : Entry) (es : List Entry) → thinned 0 (e ∷ es) ≡ e ∷ thinned 15 es
unfolding thinned
thinned_first e es = refl

pub thinned_next : (before : ℕ) (e : Entry) (es : List Entry) → thinned (suc before) (e ∷ es) ≡ thinned before es
unfolding thinned
thinned_next before e es = refl

-- those that are passed over
pub thinned_passed : (n : ℕ) (xs es : List Entry) → length xs ≡ n → thinned n (xs ++ es) ≡ thinned 0 es
unfolding thinned
thinned_passed zero [] es h = refl
thinned_passed zero (x ∷ xs) es h = absurd (omega arith)
thinned_passed (suc n) [] es h = absurd (omega arith)
thinned_passed (suc n) (x ∷ xs) es h = thinned_passed n xs es (omega arith)

-- where all are passed over there is no marker
pub thinned_none : (before : ℕ) (es : List Entry) → length es ≤ before → thinned before es ≡ []
unfolding thinned
thinned_none before [] h = refl
thinned_none zero (e ∷ es) h = absurd (omega arith)
thinned_none (suc before) (e ∷ es) h = thinned_none before es (omega arith)

-- how many markers there are: a sixteenth of the entries, rounded up
pub thinned_length : (before : ℕ) (es : List Entry) → before ≤ 15 → length (thinned before es) ≡ (length es + (15 - before)) / 16
unfolding thinned
thinned_length before [] h = omega arith
thinned_length zero (e ∷ es) h = omega (arith, thinned_length 15 es (omega arith))
thinned_length (suc before) (e ∷ es) h = omega (arith, thinned_length before es (omega arith))

pub markers_count : (es : List Entry) → length (thinned 0 es) ≡ (length es + 15) / 16
markers_count es = thinned_length 0 es (omega arith)
