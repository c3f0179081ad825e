-- K8. Where the function names of an accepted payload lie: a table that knows no id keeps the part that the first edition looked into, and its entries stand there. So markers are made exactly where the payload is accepted.
use Prim.Native.Nat.{ℕ, zero, suc, ◌+◌, ◌≤◌}
use Rattle.std.specs.Prelude.{false, ◌↔◌, ◌≡◌, eqb, length}
use mathlib.Core.List.{List, [], ◌∷◌}
use Rattle.std.proofs.Math.Option.{none, some}
use Rattle.std.proofs.Math.Path.{refl}
use Rattle.std.proofs.Common.{sym, ap, ◌∙◌}
use borrow.Author.Tests.{le-leb, eqb-true}
use Rattle.std.proofs.Math.Seq.{slice}
use Rattle.format.specs.Reading.{got, accepted, refused, judged_then}
use Rattle.format.specs.Parts.{Part, remaining}
use Rattle.format.specs.Tables.{Table, nil, row, lookup}
use Rattle.format.specs.Names.{Kind, Content, names, whole, known, known_kind, contents, subsections, payload, judge_names}
use Rattle.format.specs.Questions.{answer, asked}
use Rattle.format.specs.Markers.{Markers, thinned, unknown, functions_part, markers_in, markers_of}
use Rattle.format.specs.declared.Query.TheVariants.{ItsContents}
use Rattle.format.specs.Laws.Outcomes.{got_value, got_next, got_rest, by_test, judged, then_refused}
use Rattle.format.specs.Laws.Turns.{in_subsection}
use Rattle.format.proofs.Laws.Places.{lies_all, lies_slice, lies_inside}
use Rattle.format.proofs.Laws.Found.{name_lies}
use Rattle.format.proofs.Laws.MarkerEntries.{MapEntries, contents_entries, all_read}

-- What is looked into, and what is kept of it: the part that it was read from
pub data Kept (kind_of : ℕ → Kind) (id : ℕ) (t u : Table (Content Part)) : Type 0 where
  not_there : lookup id t ≡ none → lookup id u ≡ none → Kept kind_of id t u
  there : (p : Part) (c : Content Part) {o : ℕ} {rest : List ℕ} → lookup id t ≡ some c → lookup id u ≡ some (whole p) → contents (kind_of id) p.at p.bytes ≡ got c o rest → Kept kind_of id t u

module _ (kind_of : ℕ → Kind) where
  kept_behind : (j id : ℕ) {c d : Content Part} {t u : Table (Content Part)} → eqb j id ≡ false → Kept kind_of j t u → Kept kind_of j (row id c t) (row id d u)
  unfolding lookup
  kept_behind j id q (not_there a b) = not_there (rw q a) (rw q b)
  kept_behind j id q (there p c a b is) = there p c (rw q a) (rw q b) is

  kept_row : (id : ℕ) (p : Part) (c : Content Part) {o : ℕ} {rest : List ℕ} {t u : Table (Content Part)} → contents (kind_of id) p.at p.bytes ≡ got c o rest → ((j : ℕ) → Kept kind_of j t u) → (j : ℕ) → Kept kind_of j (row id c t) (row id (whole p) u)
  unfolding lookup
  kept_row id p c is more j = by_test (eqb j id) (λ q. there p c (rw q) (rw q) (rw (← eqb-true j id q) at is)) (λ q. kept_behind j id q (more j))

  record Looked (most least o : ℕ) (bs : List ℕ) (t : Table (Content Part)) (o' : ℕ) (rest : List ℕ) : Type 0 where
    value : Table (Content Part)
    reads : subsections unknown most least o bs ≡ got value o' rest
    each : (id : ℕ) → Kept kind_of id t value

  looked_end : {t : Table (Content Part)} → nil ≡ t → (id : ℕ) → Kept kind_of id t nil
  unfolding lookup
  looked_end e id = not_there (rw (← e)) refl

  looked : (most least o : ℕ) (bs : List ℕ) {t : Table (Content Part)} {o' : ℕ} {rest : List ℕ} → subsections kind_of most least o bs ≡ got t o' rest → Looked most least o bs t o' rest
  unfolding subsections contents remaining
  looked zero least o bs e = record { value = nil; reads = rw (got_next e, got_rest e); each = looked_end (got_value e) }
  looked (suc most) least o [] e = record { value = nil; reads = rw (got_next e, got_rest e); each = looked_end (got_value e) }
  looked (suc most) least o (id ∷ bs) e =
      in_subsection kind_of most least o id bs e λ p o₁ r₁ c o₂ r₂ more above e₁ e₂ e₃ is.
      let ih = looked most (suc id) o₁ r₁ e₃ in
      rw (← is) (record { value = row id (whole p) ih.value; reads = rw (le-leb least id above, e₁, ih.reads); each = kept_row id p c e₂ ih.each })

  pub payload_kept : (at : ℕ) (bs : List ℕ) {t : Table (Content Part)} → judge_names kind_of at bs ≡ accepted t → (u : Table (Content Part)) × (judge_names unknown at bs ≡ accepted u) × ((id : ℕ) → Kept kind_of id t u)
  unfolding judge_names payload
  payload_kept at bs e =
      judged (subsections kind_of (length bs) 0 at bs) e λ o rest r.
      let l = looked (length bs) 0 at bs r in
      (l.value, rw l.reads refl, l.each)

-- where a part ends
abbrev pub end_of : Part → ℕ
end_of p = p.at + length p.bytes

-- The subsection of function names: its part, what the first edition read there, its entries, and that it lies there in the payload
pub record FunctionsIn (bs : List ℕ) (t : Table (Content Part)) (p : Part) (rows : Table Part) : Type 0 where
  pub part : functions_part bs ≡ accepted (some p)
  pub held : lookup 1 t ≡ some (names rows)
  pub map : MapEntries p.at p.bytes rows (end_of p) []
  pub bytes : slice p.at (end_of p) bs ≡ p.bytes
  pub inside : end_of p ≤ length bs

pub data MarkersIn (bs : List ℕ) (t : Table (Content Part)) : Markers → Type 0 where
  no_functions : functions_part bs ≡ accepted none → lookup 1 t ≡ none → MarkersIn bs t (record { marked = []; end = 0 })
  of_functions : {p : Part} {rows : Table Part} (f : FunctionsIn bs t p rows) → MarkersIn bs t (record { marked = thinned 0 f.map.its.all; end = end_of p })

functions_in : {bs : List ℕ} {t u : Table (Content Part)} (p : Part) {c : Content Part} {o : ℕ} {rest : List ℕ} → judge_names unknown 0 bs ≡ accepted u → lookup 1 t ≡ some c → lookup 1 u ≡ some (whole p) → contents (known_kind 1) p.at p.bytes ≡ got c o rest → (rows : Table Part) × FunctionsIn bs t p rows
unfolding functions_part asked answer known known_kind lookup
functions_in {bs} p e a b is =
    let m = contents_entries p.at p.bytes is in
    let part : functions_part bs ≡ accepted (some p) = rw (e, b) in
    let l = name_lies unknown 1 ItsContents bs 0 bs (lies_all bs) part in
    (m.rows, record { part = part; held = a ∙ ap some m.is; map = m.its; bytes = lies_slice l; inside = lies_inside l })

-- Of an accepted payload there are markers: none without such a subsection, otherwise every sixteenth of its entries
pub markers_stand : (bs : List ℕ) {t : Table (Content Part)} → judge_names known_kind 0 bs ≡ accepted t → (m : Markers) × (markers_of bs ≡ accepted m) × MarkersIn bs t m
unfolding markers_of functions_part asked answer
markers_stand bs {t} e = let (u, e₁, each) = payload_kept known_kind 0 bs e in by_part e₁ (each 1)
  where
    by_part : {u : Table (Content Part)} → judge_names unknown 0 bs ≡ accepted u → Kept known_kind 1 t u → (m : Markers) × (markers_of bs ≡ accepted m) × MarkersIn bs t m
    by_part e₁ (not_there a b) = (record { marked = []; end = 0 }, rw (e, e₁, b), no_functions (rw (e₁, b)) a)
    by_part e₁ (there p c a b is) = let (rows, f) = functions_in p e₁ a b is in (record { marked = thinned 0 f.map.its.all; end = end_of p }, rw (e, f.part, all_read f.map), of_functions f)

-- and they are refused exactly as the payload is
pub markers_refused : (bs : List ℕ) {n at : ℕ} → (markers_of bs ≡ refused n at) ↔ (judge_names known_kind 0 bs ≡ refused n at)
unfolding markers_of
markers_refused bs = then_refused (λ t. judged_then (functions_part bs) markers_in) (judge_names known_kind 0 bs) (λ t e. let (m, is, _) = markers_stand bs e in (m, sym (rw e) ∙ is))
