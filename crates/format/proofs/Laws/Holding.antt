-- A lookup finds exactly what its table has, and none exactly where it has nothing.
use Rattle.std.specs.Prelude.{ℕ, ◌≤◌, List, ◌↔◌, ◌≡◌, eqb}
use Rattle.std.proofs.Math.Option.{Option, none, some}
use Rattle.std.proofs.Common.{sym, ◌∙◌, arith, eqb-true}
use Rattle.format.specs.Options.{some_then}
use Rattle.format.specs.Tables.{Table, nil, row, lookup}
use Rattle.format.specs.Names.{Kind, Content, single, names, names_by, whole}
use Rattle.format.specs.Questions.{answer_in, answer}
use Rattle.format.specs.declared.Query.{Query}
use Rattle.format.specs.declared.Query.TheVariants.{ItsName, ItsContents, NameOf, NameWithin}
use Rattle.format.specs.Holding.{Has, first, later, HasWithin, Holds, the_name, the_entry, the_inner, the_contents}
use Rattle.format.specs.Laws.Outcomes.{by_test}
use Rattle.format.specs.Laws.Options.{not_some, some_is, by_option, in_then}
use Rattle.format.proofs.Laws.Codecs.{Sorted, end, next, TableFine}
use Rattle.format.proofs.Laws.Tables.{lookup_here, lookup_there, lookup_fine}
use Rattle.format.proofs.Laws.Names.{NameFine, ContentFine, names_fine_lem, names_by_fine, SubFine}
use Rattle.format.proofs.Laws.CanonicalNames.{AcceptedNames, held, read_whole}

module _ {A : Type 0} where
  pub has_least : {P : ℕ → A → Type 0} {k least : ℕ} {v : A} {t : Table A} → Sorted P least t → Has k v t → least ≤ k
  has_least end h = elim h [ ]
  has_least (next l p s) first = l
  has_least (next l p s) (later h) = let further = has_least s h in omega arith

  pub has_lookup : {P : ℕ → A → Type 0} {k least : ℕ} {v : A} {t : Table A} → Sorted P least t → Has k v t → lookup k t ≡ some v
  has_lookup end h = elim h [ ]
  has_lookup {k = k} {v = v} (next l p s) (first {t = t}) = lookup_here k v t
  has_lookup {k = k} (next l p s) (later {i = i} {w = w} {t = t} h) = let b = has_least s h in lookup_there k i w t (λ q. omega arith) ∙ has_lookup s h

  pub lookup_has : (k : ℕ) (t : Table A) {v : A} → lookup k t ≡ some v → Has k v t
  unfolding lookup
  lookup_has k nil e = absurd (not_some e)
  lookup_has k (row i w t) e = by_test (eqb k i) (λ q. rw (eqb-true k i q, some_is (rw q at e)) first) (λ q. later (lookup_has k t (rw q at e)))

-- none exactly where nothing is had, from: something exactly where it is had
pub none_exactly : {A : Type 0} {Had : A → Type 0} (x : Option A) → ((v : A) → (x ≡ some v) ↔ Had v) → (x ≡ none) ↔ ((v : A) → Had v → ⊥)
none_exactly x h = (λ e v had. not_some (sym e ∙ (h v).1 had), λ empty. by_option x (λ e. e) (λ v e. absurd (empty v ((h v).0 e))))

-- under two numbers
module _ {A : Type 0} {P : ℕ → A → Type 0} {Q : ℕ → Table A → Type 0} (sorted : (k : ℕ) (u : Table A) → Q k u → Sorted P 0 u) where
  pub within_exactly : {t : Table (Table A)} (k j : ℕ) → Sorted Q 0 t → (v : A) → (some_then (lookup k t) (lookup j) ≡ some v) ↔ HasWithin k j v t
  within_exactly {t} k j s v = (to, from)
    where
      to : some_then (lookup k t) (lookup j) ≡ some v → HasWithin k j v t
      to e = in_then (lookup k t) _ e λ u e₁ e₂. record { group = u; outer = lookup_has k t e₁; inner = lookup_has j u e₂ }

      from : HasWithin k j v t → some_then (lookup k t) (lookup j) ≡ some v
      from h = let e = has_lookup s h.outer in rw e (has_lookup (sorted k h.group (lookup_fine k s e)) h.inner)

-- a subsection's answer
module _ {t : Table (Content (List ℕ))} where
  held_in : (id : ℕ) (q : Query) (c : Content (List ℕ)) {x : List ℕ} → Has id c t → answer_in q c ≡ some x → Holds id q t x
  held_in id ItsName (single y) h e = rw (← some_is e) (the_name h)
  held_in id ItsName (names m) h e = absurd (not_some e)
  held_in id ItsName (names_by m) h e = absurd (not_some e)
  held_in id ItsName (whole y) h e = absurd (not_some e)
  held_in id ItsContents (single y) h e = absurd (not_some e)
  held_in id ItsContents (names m) h e = absurd (not_some e)
  held_in id ItsContents (names_by m) h e = absurd (not_some e)
  held_in id ItsContents (whole y) h e = rw (← some_is e) (the_contents h)
  held_in id (NameOf k) (single y) h e = absurd (not_some e)
  held_in id (NameOf k) (names m) h e = the_entry h (lookup_has k m e)
  held_in id (NameOf k) (names_by m) h e = absurd (not_some e)
  held_in id (NameOf k) (whole y) h e = absurd (not_some e)
  held_in id (NameWithin k j) (single y) h e = absurd (not_some e)
  held_in id (NameWithin k j) (names m) h e = absurd (not_some e)
  held_in id (NameWithin k j) (names_by m) h e = in_then (lookup k m) _ e λ u e₁ e₂. the_inner h (record { group = u; outer = lookup_has k m e₁; inner = lookup_has j u e₂ })
  held_in id (NameWithin k j) (whole y) h e = absurd (not_some e)

pub names_sorted : {k : Kind} {m : Table (List ℕ)} → ContentFine k (names m) → TableFine NameFine m
names_sorted (names_fine_lem h) = h

pub groups_sorted : {k : Kind} {m : Table (Table (List ℕ))} → ContentFine k (names_by m) → TableFine (TableFine NameFine) m
groups_sorted (names_by_fine h) = h

module _ (kind_of : ℕ → Kind) where
  in_order : {t : Table (Content (List ℕ))} {id : ℕ} {q : Query} {x : List ℕ} → Sorted (SubFine kind_of) 0 t → Holds id q t x → answer id q t ≡ some x
  unfolding answer
  in_order s (the_name h) = rw (has_lookup s h)
  in_order s (the_contents h) = rw (has_lookup s h)
  in_order {id = id} s (the_entry {m = m} h g) =
      let e = has_lookup s h in
      rw e (has_lookup (names_sorted (lookup_fine id s e).0).sorted g)
  in_order {id = id} s (the_inner {k = k} {j = j} {m = m} {x = x} h g) =
      let e = has_lookup s h in
      rw e ((within_exactly (λ _ u p. p.1.sorted) k j (groups_sorted (lookup_fine id s e).0).sorted x).1 g)

  -- an accepted payload answers exactly what it holds
  pub answer_exactly : {bs : List ℕ} (a : AcceptedNames kind_of bs) (id : ℕ) (q : Query) (x : List ℕ) → (answer id q (held kind_of a) ≡ some x) ↔ Holds id q (held kind_of a) x
  unfolding answer
  answer_exactly a id q x = (
    λ e. in_then (lookup id (held kind_of a)) _ e λ c e₁ e₂. held_in id q c (lookup_has id (held kind_of a) e₁) e₂,
    λ h. in_order (read_whole kind_of a).sorted h,
  )
