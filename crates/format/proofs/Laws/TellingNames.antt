-- What a name payload is told to be: the forms of its contents, subsection by subsection, and the whole.
use Prim.Native.Nat.{ℕ, zero, suc, ◌+◌, ◌≤◌, ◌<◌}
use Rattle.std.specs.Prelude.{true, false, ◌≡◌, leb}
use mathlib.Core.List.{List, [], ◌∷◌, ◌++◌}
use Rattle.std.proofs.Math.Option.{Option, none, some}
use Rattle.std.proofs.Math.Path.{refl, sym, ap}
use Rattle.std.proofs.Common.{ap₂, ◌∙◌}
use native.Mathlib.Omega.{arith}
use borrow.Author.Tests.{eqb-true, eqb-false, le-leb, lt-leb}
use Rattle.std.proofs.Math.ListN.{length, length-append}
use Rattle.format.specs.Bytes.{Bytes, same}
use Rattle.format.specs.Reading.{Outcome, got, stop, and_then, return, at_end}
use Rattle.format.specs.Numbers.{shortest}
use Rattle.format.specs.Options.{map_some, some_then}
use Rattle.format.specs.Parts.{Part, sized, name, remaining}
use Rattle.format.specs.Tables.{Table, nil, row, size, map_table, table}
use Rattle.format.specs.Names.{Kind, one_name, name_map, indirect_map, kept, Content, single, names, names_by, contents, subsections, payload, judge_names}
use Rattle.format.specs.Canonical.{write_part, write_rows, write_table, unless_empty, keep_rows, trim, bare, write_content, write_subsections, rewrite_names, canonical_names}
use Rattle.format.specs.Forms.{behind, no, told_by, told, told_end, is_yes, part_form, table_form, content_form, payload_form}
use Rattle.format.specs.Telling.{as_few, is_its_rewriting, names_are_canonical}
use Rattle.format.specs.Laws.Bytes.{same_true, same_self}
use Rattle.format.specs.Laws.Outcomes.{not_got, got_rest, by_test, by_outcome, in_turn}
use Rattle.format.specs.Laws.Options.{not_some, some_is, by_option}
use Rattle.format.proofs.Laws.Numbers.{shortest_mono}
use Rattle.format.proofs.Laws.Codecs.{sized_codec, write_part_mono}
use Rattle.format.proofs.Laws.Names.{contents_sound, subsections_sound, payload_end}
use Rattle.format.proofs.Laws.Trimming.{trim_shorter}
use Rattle.format.proofs.Laws.CanonicalNames.{subsections_shorter}
use Rattle.format.proofs.Laws.Unchanged.{payload_tight}
use Rattle.format.proofs.Laws.Telling.{told_few, told_more, in_told, by_no}

-- The forms of tables are the canonical writings: what is left of each row, written in its place
module _ {A : Type 0} (f : A → List ℕ) where
  size_map : (t : Table A) → size (map_table f t) ≡ size t
  unfolding size map_table
  size_map nil = refl
  size_map (row k v t) = ap suc (size_map t)

  rows_map : (t : Table A) → write_rows (λ x. x) (map_table f t) ≡ write_rows f t
  unfolding write_rows map_table
  rows_map nil = refl
  rows_map (row k v t) = rw (rows_map t)

  form_map : (t : Table A) → map_some (write_table (λ x. x)) (unless_empty (map_table f t)) ≡ map_some (write_table f) (unless_empty t)
  unfolding unless_empty write_table map_table
  form_map nil = refl
  form_map (row k v t) = ap some (ap₂ (λ (n : ℕ) (bs : List ℕ). shortest n ++ bs) (size_map (row k v t)) (rows_map (row k v t)))

keep_parts : (t : Table Part) → keep_rows part_form t ≡ map_table write_part (map_table (λ p. p.bytes) t)
unfolding keep_rows map_table part_form
keep_parts nil = refl
keep_parts (row k v t) = ap (row k (write_part v.bytes)) (keep_parts t)

pub map_form : (t : Table Part) → table_form part_form t ≡ map_some (write_table write_part) (unless_empty (map_table (λ p. p.bytes) t))
unfolding table_form
map_form t = rw (keep_parts t, form_map)

keep_lists : (t : Table (Table Part)) → keep_rows (table_form part_form) t ≡ map_table (write_table write_part) (keep_rows unless_empty (map_table (map_table (λ p. p.bytes)) t))
unfolding keep_rows map_table
keep_lists nil = refl
keep_lists (row k v t) =
    rw (map_form v) (by_option (unless_empty (map_table (λ p. p.bytes) v))
    (λ q. rw q (keep_lists t))
    (λ u q. rw q (ap (row k (write_table write_part u)) (keep_lists t))))

pub lists_form : (t : Table (Table Part)) → table_form (table_form part_form) t ≡ map_some (write_table (write_table write_part)) (unless_empty (keep_rows unless_empty (map_table (map_table (λ p. p.bytes)) t)))
unfolding table_form
lists_form t = rw (keep_lists t, form_map)

-- Contents
mapped_then : {A : Type 0} (x : Option A) (wrap : A → Content (List ℕ)) → map_some write_content (some_then x (λ u. some (wrap u))) ≡ map_some (λ u. write_content (wrap u)) x
mapped_then none wrap = refl
mapped_then (some u) wrap = refl

names_form : (t : Table Part) → content_form (names t) ≡ table_form part_form t
unfolding content_form bare write_content
names_form t = mapped_then (unless_empty (map_table (λ p. p.bytes) t)) names ∙ sym (map_form t)

groups_form : (t : Table (Table Part)) → content_form (names_by t) ≡ table_form (table_form part_form) t
unfolding content_form bare write_content
groups_form t = mapped_then (unless_empty (keep_rows unless_empty (map_table (map_table (λ p. p.bytes)) t))) names_by ∙ sym (lists_form t)

-- what fills its part exactly
pub left_over : (form : Option (List ℕ)) (o b : ℕ) (rest bs : List ℕ) → told_end (told_by form o (b ∷ rest) bs) ≡ no
left_over none o b rest bs = refl
left_over (some w) o b rest bs = by_test (as_few w (b ∷ rest) bs) (λ t. rw t) (λ t. rw t)

nothing_left : (form : Option (List ℕ)) (o : ℕ) (bs : List ℕ) → told_end (told_by form o [] bs) ≡ told_by form o [] bs
nothing_left none o bs = refl
nothing_left (some w) o bs = by_test (as_few w [] bs) (λ t. rw t) (λ t. rw t)

fill_told : {A : Type 0} (wrap : A → Content Part) (form_of : A → Option (List ℕ)) → ((v : A) → content_form (wrap v) ≡ form_of v) → (bs : List ℕ) (r : Outcome A) → told content_form bs (and_then (and_then r at_end) (λ v. return (wrap v))) ≡ told_end (told form_of bs r)
fill_told wrap form_of h bs (stop n at) = refl
fill_told wrap form_of h bs (got v o []) = rw (h v) (sym (nothing_left (form_of v) o bs))
fill_told wrap form_of h bs (got v o (b ∷ rest)) = sym (left_over (form_of v) o b rest bs)

pub one_name_told : (o : ℕ) (bs : List ℕ) → told content_form bs (contents one_name o bs) ≡ told_end (told part_form bs (name o bs))
unfolding contents content_form bare write_content part_form
one_name_told o bs = fill_told single part_form (λ v. refl) bs (name o bs)

pub map_told : (o : ℕ) (bs : List ℕ) → told content_form bs (contents name_map o bs) ≡ told_end (told (table_form part_form) bs (table name o bs))
unfolding contents
map_told o bs = fill_told names (table_form part_form) names_form bs (table name o bs)

pub indirect_told : (o : ℕ) (bs : List ℕ) → told content_form bs (contents indirect_map o bs) ≡ told_end (told (table_form (table_form part_form)) bs (table (table name) o bs))
unfolding contents
indirect_told o bs = fill_told names_by (table_form (table_form part_form)) groups_form bs (table (table name) o bs)

pub kept_told : (o : ℕ) (bs : List ℕ) → told content_form bs (contents kept o bs) ≡ behind (o + length bs) []
unfolding contents remaining content_form bare write_content
kept_told o bs = told_few {w = bs} (o + length bs) [] bs refl (omega arith)

-- contents are read to their part's end
filled : {A : Type 0} (a : A) (o : ℕ) (bs : List ℕ) {v : A} {o' : ℕ} {r₁ rest : List ℕ} → at_end a o bs ≡ got v o' r₁ → r₁ ≡ rest → rest ≡ []
filled a o [] e q = sym q ∙ sym (got_rest e)
filled a o (b ∷ bs) e q = absurd (not_got e)

pub contents_end : (k : Kind) (o : ℕ) (bs : List ℕ) {c : Content Part} {o' : ℕ} {rest : List ℕ} → contents k o bs ≡ got c o' rest → rest ≡ []
unfolding contents remaining
contents_end one_name o bs e = in_turn (and_then (name o bs) at_end) _ e λ x o₁ r₁ e₁ e₂. in_turn (name o bs) _ e₁ λ y o₂ r₂ e₃ e₄. filled y o₂ r₂ e₄ (got_rest e₂)
contents_end name_map o bs e = in_turn (and_then (table name o bs) at_end) _ e λ x o₁ r₁ e₁ e₂. in_turn (table name o bs) _ e₁ λ y o₂ r₂ e₃ e₄. filled y o₂ r₂ e₄ (got_rest e₂)
contents_end indirect_map o bs e = in_turn (and_then (table (table name) o bs) at_end) _ e λ x o₁ r₁ e₁ e₂. in_turn (table (table name) o bs) _ e₁ λ y o₂ r₂ e₃ e₄. filled y o₂ r₂ e₄ (got_rest e₂)
contents_end kept o bs e = sym (got_rest e)

-- Subsections, one after the other
module _ (kind_of : ℕ → Kind) where
  -- a payload's form is never longer
  left_shorter : (most least o : ℕ) (bs : List ℕ) {t : Table (Content Part)} {o' : ℕ} {rest : List ℕ} → subsections kind_of most least o bs ≡ got t o' rest → length (rewrite_names t) + length rest ≤ length bs
  unfolding rewrite_names
  left_shorter most least o bs e = let r = subsections_sound kind_of most least o bs e in omega (arith, r.shorter, subsections_shorter kind_of r.sorted)

  content_shorter : (k : Kind) (o : ℕ) (bs : List ℕ) {c : Content Part} {o' : ℕ} {rest : List ℕ} → contents k o bs ≡ got c o' rest → (w : List ℕ) → content_form c ≡ some w → length w ≤ length bs
  unfolding content_form
  content_shorter k o bs {c} e w is =
      let r = contents_sound k o bs e in
      by_option (trim (bare c))
      (λ q. absurd (not_some (rw q at is)))
      (λ d q. rw (← some_is (rw q at is)) (omega (arith, r.shorter, trim_shorter r.fine q)))

  -- a subsection and those behind it, written anew: without it where nothing is left of it
  payload_dropped : (id : ℕ) (c : Content Part) (t : Table (Content Part)) → content_form c ≡ none → payload_form (row id c t) ≡ some (rewrite_names t)
  unfolding payload_form rewrite_names map_table keep_rows content_form
  payload_dropped id c t e = by_option (trim (bare c)) (λ q. rw q) (λ d q. absurd (not_some (sym (rw q at e))))

  payload_stays : (id : ℕ) (c : Content Part) (t : Table (Content Part)) {w : List ℕ} → content_form c ≡ some w → payload_form (row id c t) ≡ some (id ∷ (write_part w ++ rewrite_names t))
  unfolding payload_form rewrite_names map_table keep_rows content_form write_subsections
  payload_stays id c t e = by_option (trim (bare c)) (λ q. absurd (not_some (rw q at e))) (λ d q. rw (q, ← some_is (rw q at e)))

  form_is : (t : Table (Content Part)) → payload_form t ≡ some (rewrite_names t)
  unfolding payload_form
  form_is t = refl

  part_length : (w : List ℕ) → length (write_part w) ≡ length (shortest (length w)) + length w
  unfolding write_part
  part_length w = length-append (shortest (length w)) w

  -- the end
  pub payload_told_end : (most least o : ℕ) → told payload_form [] (subsections kind_of most least o []) ≡ behind o []
  unfolding subsections rewrite_names payload_form map_table keep_rows write_subsections
  payload_told_end zero least o = refl
  payload_told_end (suc most) least o = refl

  module _ (most least o id : ℕ) (bs : List ℕ) where
    pub payload_told_low : id < least → told payload_form (id ∷ bs) (subsections kind_of (suc most) least o (id ∷ bs)) ≡ no
    unfolding subsections
    payload_told_low h = rw (lt-leb least id h)

    pub payload_told_none : {m at : ℕ} → sized (suc o) bs ≡ stop m at → told payload_form (id ∷ bs) (subsections kind_of (suc most) least o (id ∷ bs)) ≡ no
    unfolding subsections
    payload_told_none e = by_test (leb least id) (λ t. rw (t, e)) (λ t. rw t)

    module _ {p : Part} {o₁ : ℕ} {r₁ : List ℕ} (e : sized (suc o) bs ≡ got p o₁ r₁) where
      -- by what the contents and the subsections behind come to
      by_rest {ℓ} : {C : Type ℓ} → (told payload_form (id ∷ bs) (subsections kind_of (suc most) least o (id ∷ bs)) ≡ no → C) → ((c : Content Part) (o₂ : ℕ) (r₂ : List ℕ) (more : Table (Content Part)) (o₃ : ℕ) (r₃ : List ℕ) → contents (kind_of id) p.at p.bytes ≡ got c o₂ r₂ → subsections kind_of most (suc id) o₁ r₁ ≡ got more o₃ r₃ → told payload_form (id ∷ bs) (subsections kind_of (suc most) least o (id ∷ bs)) ≡ told_by (payload_form (row id c more)) o₃ r₃ (id ∷ bs) → C) → C
      unfolding subsections
      by_rest f g =
          by_test (leb least id)
          (λ t. by_outcome (contents (kind_of id) p.at p.bytes)
          (λ c o₂ r₂ e₁. by_outcome (subsections kind_of most (suc id) o₁ r₁)
          (λ more o₃ r₃ e₂. g c o₂ r₂ more o₃ r₃ e₁ e₂ (rw (t, e, e₁, e₂)))
          (λ m at e₂. f (rw (t, e, e₁, e₂))))
          (λ m at e₁. f (rw (t, e, e₁))))
          (λ t. f (rw t))

      size_sound : length (write_part p.bytes) + length r₁ ≤ length bs
      size_sound = (sized_codec.sound (suc o) bs e).shorter

      written_length : (w : List ℕ) (more : Table (Content Part)) → length (id ∷ (write_part w ++ rewrite_names more)) ≡ suc (length (write_part w) + length (rewrite_names more))
      written_length w more = ap suc (length-append (write_part w) (rewrite_names more))

      pub payload_told_padded : as_few (write_part p.bytes) r₁ bs ≡ false → told payload_form (id ∷ bs) (subsections kind_of (suc most) least o (id ∷ bs)) ≡ no
      payload_told_padded f =
          let longer = eqb-false (length (write_part p.bytes) + length r₁) (length bs) f in
          by_rest (λ q. q) λ c o₂ r₂ more o₃ r₃ e₁ e₂ is.
          let rest = left_shorter most (suc id) o₁ r₁ e₂ in
          is ∙ by_option (content_form c)
          (λ q. told_more o₃ r₃ (id ∷ bs) (payload_dropped id c more q) (omega (arith, size_sound)))
          (λ w q. told_more o₃ r₃ (id ∷ bs) (payload_stays id c more q) (omega (arith, size_sound, written_length w more, write_part_mono w p.bytes (content_shorter (kind_of id) p.at p.bytes e₁ w q))))

      pub payload_told_no : told content_form p.bytes (contents (kind_of id) p.at p.bytes) ≡ no → told payload_form (id ∷ bs) (subsections kind_of (suc most) least o (id ∷ bs)) ≡ no
      payload_told_no f =
          by_rest (λ q. q) λ c o₂ r₂ more o₃ r₃ e₁ e₂ is.
          let rest = left_shorter most (suc id) o₁ r₁ e₂ in
          let end = ap length (contents_end (kind_of id) p.at p.bytes e₁) in
          is ∙ by_no (content_form c) o₂ r₂ p.bytes (rw e₁ at f)
          (λ q. told_more o₃ r₃ (id ∷ bs) (payload_dropped id c more q) (omega (arith, size_sound)))
          (λ w q less. let few = content_shorter (kind_of id) p.at p.bytes e₁ w q in
          told_more o₃ r₃ (id ∷ bs) (payload_stays id c more q) (omega (arith, size_sound, written_length w more, part_length w, part_length p.bytes, shortest_mono (length w) (length p.bytes) few)))

      pub payload_told_on : as_few (write_part p.bytes) r₁ bs ≡ true → least ≤ id → {o₂ : ℕ} → told content_form p.bytes (contents (kind_of id) p.at p.bytes) ≡ behind o₂ [] → told payload_form (id ∷ bs) (subsections kind_of (suc most) least o (id ∷ bs)) ≡ told payload_form r₁ (subsections kind_of most (suc id) o₁ r₁)
      unfolding subsections
      payload_told_on f h g =
          let size_few = eqb-true (length (write_part p.bytes) + length r₁) (length bs) f in
          in_told content_form p.bytes (contents (kind_of id) p.at p.bytes) g λ c w e₁ q full.
          let long : length w ≡ length p.bytes = omega arith in
          let parts = ap (λ (n : ℕ). length (shortest n)) long in
          by_outcome (subsections kind_of most (suc id) o₁ r₁)
          (λ more o₃ r₃ e₂.
          let rest = left_shorter most (suc id) o₁ r₁ e₂ in
          let whole_long = written_length w more in
          let pw = part_length w in
          let pp = part_length p.bytes in
          rw (le-leb least id h, e, e₁, e₂) (by_test (as_few (rewrite_names more) r₃ r₁)
          (λ t. let equal = eqb-true (length (rewrite_names more) + length r₃) (length r₁) t in
          told_few o₃ r₃ (id ∷ bs) (payload_stays id c more q) (omega arith) ∙ sym (told_few o₃ r₃ r₁ (form_is more) equal))
          (λ t. let less = eqb-false (length (rewrite_names more) + length r₃) (length r₁) t in
          told_more o₃ r₃ (id ∷ bs) (payload_stays id c more q) (omega arith) ∙ sym (told_more o₃ r₃ r₁ (form_is more) (omega arith)))))
          (λ m at e₂. rw (le-leb least id h, e, e₁, e₂))

  -- The whole payload is told to be canonical exactly where it is its own rewriting
  pub payload_told : (bs : List ℕ) → Bytes bs → names_are_canonical kind_of bs ≡ is_yes (told payload_form bs (payload kind_of 0 bs))
  unfolding names_are_canonical is_its_rewriting canonical_names judge_names payload_form
  payload_told bs h =
      by_outcome (payload kind_of 0 bs)
      (λ t o rest e.
      let nothing = payload_end kind_of 0 bs e in
      rw (e, nothing) (by_test (as_few (rewrite_names t) [] bs)
      (λ s. let long = eqb-true (length (rewrite_names t) + 0) (length bs) s in
      rw (s, payload_tight kind_of 0 bs h e (omega arith)) (same_self bs))
      (λ s. let less = eqb-false (length (rewrite_names t) + 0) (length bs) s in
      rw s (by_test (same (rewrite_names t) bs) (λ q. absurd (omega (arith, ap length (same_true (rewrite_names t) bs q)))) (λ q. q)))))
      (λ n at e. rw e)
