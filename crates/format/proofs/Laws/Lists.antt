-- Function names from three lists: what is written is canonical, each listed index gives its own text, and every other question gets none.
use Rattle.std.specs.Prelude.{ℕ, suc, ◌+◌, ◌≤◌, ◌<◌, Bool, true, false, ◌&&◌, List, [], ◌∷◌, ◌↔◌, ◌≡◌, refl, ltb, leb, eqb, length, take, drop}
use Rattle.std.proofs.Math.Option.{Option, none, some}
use Rattle.std.proofs.Math.Path.{sym, ap}
use Rattle.std.proofs.Common.{◌∙◌, arith, ltb-true, leb-true, eqb-true, length-append}
use Rattle.format.specs.Reading.{Judged, accepted}
use Rattle.format.specs.Numbers.{shortest, limit32}
use Rattle.format.specs.Text.{utf8}
use Rattle.format.specs.Tables.{Table, nil, row, size, lookup}
use Rattle.format.specs.Names.{Kind, name_map, names}
use Rattle.format.specs.Questions.{answer, asked, id_of, query_of, ask_at, ask, as_told}
use Rattle.format.specs.declared.Question.{Question}
use Rattle.format.specs.declared.Question.TheVariants.{ModuleName, FunctionName, LocalName, LabelName, TypeName, TableName, MemoryName, GlobalName, ElementName, DataName, FieldName, TagName, KeptContents}
use Rattle.format.specs.declared.Query.{Query}
use Rattle.format.specs.Holding.{Has, first, later, Lists, first_listed, later_listed}
use Rattle.format.specs.Canonical.{write_part, write_rows, write_table, write_content, write_subsections, canonical_names}
use Rattle.format.specs.Lists.{Indices, sum, listed, unsorted_at, bad_text_at, unless, provided, subsection, function_names}
use Rattle.format.specs.Laws.Outcomes.{not_accepted, accepted_is, by_test}
use Rattle.format.specs.Laws.Options.{not_some, some_is}
use Rattle.format.proofs.Laws.Numbers.{shortest_positive}
use Rattle.format.proofs.Laws.Codecs.{Sorted, end, next, RowFine, TableFine}
use Rattle.format.proofs.Laws.Names.{NameFine, names_fine_lem, SubFine}
use Rattle.format.proofs.Laws.CanonicalNames.{norm_sorted, norm_answers, Canonical, canonical_accepted, canonical_held, canonical_stays, told_is}
use Rattle.format.proofs.Laws.Holding.{has_lookup, none_exactly}
use Rattle.format.specs.declared.FunctionIndex.{FunctionIndex}
use Rattle.format.specs.declared.Reason.{Reason}

part_longer : (x : List ℕ) → length x < length (write_part x)
unfolding write_part
part_longer x = simp length-append (omega (arith, shortest_positive (length x)))

listed_sorted : (is ns text : List ℕ) (position least start : ℕ) → Indices is → unsorted_at position least is ≡ none → bad_text_at start ns text ≡ none → length (write_rows write_part (listed is ns text)) < limit32 → Sorted (RowFine NameFine) least (listed is ns text)
unfolding listed unsorted_at bad_text_at write_rows
listed_sorted [] ns text position least start w u b h = end
listed_sorted (i ∷ is) [] text position least start w u b h = end
listed_sorted (i ∷ is) (n ∷ ns) text position least start w u b h =
    by_test (leb least i)
    (λ s. by_test (utf8 (take n text))
    (λ t. let h' : length (shortest i) + (length (write_part (take n text)) + length (write_rows write_part (listed is ns (drop n text)))) < limit32 = simp length-append at h in
    next (leb-true least i s) (w 0, (omega (arith, part_longer (take n text)), t))
    (listed_sorted is ns (drop n text) (suc position) (suc i) (start + n) (λ j. w (suc j)) (rw s at u) (rw t at b) (omega arith)))
    (λ t. absurd (not_some (sym (rw t at b)))))
    (λ s. absurd (not_some (sym (rw s at u))))

size_rows : (t : Table (List ℕ)) → size t ≤ length (write_rows write_part t)
unfolding size write_rows
size_rows nil = omega arith
size_rows (row k v t) = simp length-append (omega (arith, size_rows t, shortest_positive k))

-- What was written from lists that were taken
pub record Written (is ns text bs : List ℕ) : Type 0 where
  pub fine : TableFine NameFine (listed is ns text)
  pub small : length (write_content (names (listed is ns text))) < limit32
  pub bytes : write_subsections (subsection (listed is ns text)) ≡ bs

pub on_provided {ℓ} : {A : Type 0} {C : Type ℓ} (b : Bool) (why : Reason) (j : Judged A) {v : A} → provided b why j ≡ accepted v → (b ≡ true → j ≡ accepted v → C) → C
on_provided true why j e k = k refl e
on_provided false why j e k = absurd (not_accepted e)

pub on_unless {ℓ} : {A : Type 0} {C : Type ℓ} (x : Option ℕ) (why : Reason) (j : Judged A) {v : A} → unless x why j ≡ accepted v → (x ≡ none → j ≡ accepted v → C) → C
on_unless none why j e k = k refl e
on_unless (some at) why j e k = absurd (not_accepted e)

pub written : (is ns text : List ℕ) {bs : List ℕ} → Indices is → function_names is ns text ≡ accepted bs → Written is ns text bs
unfolding function_names write_content write_table
written is ns text w e =
    on_provided (eqb (length is) (length ns) && eqb (sum ns) (length text)) _ _ e λ c e₁.
    on_unless (unsorted_at 0 0 is) _ _ e₁ λ u e₂. on_unless (bad_text_at 0 ns text) _ _ e₂ λ b e₃.
    on_provided (ltb (length (write_table write_part (listed is ns text))) limit32) _ _ e₃ λ t e₄.
    let h = ltb-true (length (write_table write_part (listed is ns text))) limit32 t in
    let h' : length (shortest (size (listed is ns text))) + length (write_rows write_part (listed is ns text)) < limit32 = simp length-append at h in
    record {
      fine = record { count = omega (arith, size_rows (listed is ns text)); sorted = listed_sorted is ns text 0 0 0 w u b (omega arith) };
      small = h;
      bytes = accepted_is e₄;
    }

-- the lists' table has what the lists give
lists_has : {k : ℕ} {x : List ℕ} {is ns text : List ℕ} → Lists k x is ns text → Has k x (listed is ns text)
unfolding listed
lists_has (first_listed e) = rw e first
lists_has (later_listed l) = later (lists_has l)

lookup_lists : (k : ℕ) (is ns text : List ℕ) {x : List ℕ} → lookup k (listed is ns text) ≡ some x → Lists k x is ns text
unfolding listed lookup
lookup_lists k [] ns text e = absurd (not_some e)
lookup_lists k (i ∷ is) [] text e = absurd (not_some e)
lookup_lists k (i ∷ is) (n ∷ ns) text e =
    by_test (eqb k i)
    (λ q. rw (eqb-true k i q) (first_listed (some_is (rw q at e))))
    (λ q. later_listed (lookup_lists k is ns (drop n text) (rw q at e)))

module _ {is ns text bs : List ℕ} (w : Written is ns text bs) where
  pub listed_exactly : (k : ℕ) (x : List ℕ) → (lookup k (listed is ns text) ≡ some x) ↔ Lists k x is ns text
  listed_exactly k x = (lookup_lists k is ns text, λ l. has_lookup w.fine.sorted (lists_has l))

  module _ (kind_of : ℕ → Kind) (one : kind_of 1 ≡ name_map) where
    one_subsection : Sorted (SubFine kind_of) 0 (row 1 (names (listed is ns text)) nil)
    one_subsection = next {least = 0} {k = 1} {v = names (listed is ns text)} (omega arith) (rw one (names_fine_lem w.fine), w.small) end

    pub lists_canonical : Canonical kind_of bs
    unfolding subsection
    lists_canonical = record { subsections = subsection (listed is ns text); normal = norm_sorted kind_of one_subsection; written = sym w.bytes }

    pub lists_told : (id : ℕ) (q : Query) → as_told (asked kind_of id q 0 bs) ≡ accepted (answer id q (row 1 (names (listed is ns text)) nil))
    unfolding lists_canonical subsection
    lists_told id q =
        let a = canonical_accepted kind_of lists_canonical in
        told_is kind_of a id q ∙ ap accepted (ap (answer id q) (canonical_held kind_of lists_canonical a) ∙ norm_answers kind_of one_subsection id q)

-- Asked in the rules' words
answer_listed : (t : Table (List ℕ)) (k : FunctionIndex) → answer (id_of (FunctionName k)) (query_of (FunctionName k)) (row 1 (names t) nil) ≡ lookup k.0 t
unfolding answer lookup
answer_listed t k = refl

answer_other : (t : Table (List ℕ)) (q : Question) → ((k : FunctionIndex) → q ≡ FunctionName k → lookup k.0 t ≡ none) → answer (id_of q) (query_of q) (row 1 (names t) nil) ≡ none
unfolding answer lookup
answer_other t ModuleName h = refl
answer_other t (FunctionName k) h = h k refl
answer_other t (LabelName k j) h = refl
answer_other t (TypeName k) h = refl
answer_other t (TableName k) h = refl
answer_other t (MemoryName k) h = refl
answer_other t (GlobalName k) h = refl
answer_other t (ElementName k) h = refl
answer_other t (DataName k) h = refl
answer_other t (TagName k) h = refl
answer_other t (LocalName k j) h = refl
answer_other t (FieldName k j) h = refl
answer_other t (KeptContents id) h = by_test (eqb id 1) (λ e. rw e) (λ e. rw e)

module _ (kind_of : ℕ → Kind) (one : kind_of 1 ≡ name_map) {is ns text bs : List ℕ} (w : Written is ns text bs) where
  -- each listed index gives its own text
  pub listed_told : (k : FunctionIndex) (x : List ℕ) → Lists k.0 x is ns text → as_told (ask kind_of (FunctionName k) bs) ≡ accepted (some x)
  unfolding ask ask_at
  listed_told k x l = lists_told w kind_of one (id_of (FunctionName k)) (query_of (FunctionName k)) ∙ ap accepted (answer_listed (listed is ns text) k ∙ (listed_exactly w k.0 x).1 l)

  -- every other question gets none
  pub other_told : (q : Question) → ((k : FunctionIndex) (x : List ℕ) → q ≡ FunctionName k → Lists k.0 x is ns text → ⊥) → as_told (ask kind_of q bs) ≡ accepted none
  unfolding ask ask_at
  other_told q h =
      lists_told w kind_of one (id_of q) (query_of q)
      ∙ ap accepted (answer_other (listed is ns text) q (λ k e. (none_exactly (lookup k.0 (listed is ns text)) (λ x. listed_exactly w k.0 x)).1 (λ x l. h k x e l)))

  pub lists_stay : canonical_names kind_of bs ≡ accepted bs
  lists_stay = canonical_stays kind_of (lists_canonical w kind_of one)
