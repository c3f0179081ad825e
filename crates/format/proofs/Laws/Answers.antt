-- Answers: in bytes they are the bytes of the part that is answered; what may not be asked gets none; the rules' questions are exactly those that its table allows.
use Prim.Native.Nat.{ℕ, zero, suc, ◌<◌}
use mathlib.Core.List.{List, [], ◌∷◌}
use Rattle.std.specs.Prelude.{◌↔◌, ◌≡◌, eqb, length, Ok, Err, Some, None}
use Rattle.std.proofs.Math.Option.{Option, none, some}
use Rattle.std.proofs.Math.Path.{refl}
use Rattle.std.proofs.Common.{sym, ap, arith}
use borrow.Author.Tests.{eqb-true}
use Rattle.format.specs.Bytes.{Bytes}
use Rattle.format.specs.Reading.{got, Judged, accepted, refused, Accepted}
use Rattle.format.specs.Options.{map_some}
use Rattle.format.specs.Parts.{Part, place_of}
use Rattle.format.specs.Tables.{Table, row, lookup, map_table}
use Rattle.format.specs.Names.{Kind, Content, single, names, names_by, whole, subsections, payload, judge_names}
use Rattle.format.specs.Questions.{answer_in, answer, Allowed, an_id, an_index, two_indices, any_id, as_place, as_told, answered}
use Rattle.format.specs.declared.Query.{Query}
use Rattle.format.specs.declared.Query.TheVariants.{ItsName, ItsContents, NameOf, NameWithin}
use Rattle.format.specs.Metadata.{hint_answered}
use Rattle.format.specs.Canonical.{bare}
use Rattle.format.specs.Laws.Outcomes.{got_value, not_accepted, accepted_is, by_test, judged, refused_exactly}
use Rattle.format.specs.Laws.Options.{not_some, some_is, by_option}
use Rattle.format.specs.Laws.Refusals.{same_judgement}
use Rattle.format.specs.Laws.Turns.{in_subsection}
use Rattle.format.proofs.Laws.Passing.{sized_passes, bytes_step}
use Rattle.format.proofs.Laws.Tables.{lookup_map, lookup_fine}
use Rattle.format.proofs.Laws.Groups.{in_range_or_none}
use Rattle.format.proofs.Laws.Names.{ContentFine, single_fine, names_fine_lem, names_by_fine, whole_fine, payload_sound}
use Rattle.format.specs.Returned.{HintAnswer}
use Rattle.format.specs.declared.Place.{Place}
use Rattle.format.specs.Returned.{Answer}

bare_in : (q : Query) (c : Content Part) → answer_in q (bare c) ≡ map_some (λ p. p.bytes) (answer_in q c)
unfolding bare
bare_in ItsName (single x) = refl
bare_in ItsName (names t) = refl
bare_in ItsName (names_by t) = refl
bare_in ItsName (whole x) = refl
bare_in ItsContents (single x) = refl
bare_in ItsContents (names t) = refl
bare_in ItsContents (names_by t) = refl
bare_in ItsContents (whole x) = refl
bare_in (NameOf k) (single x) = refl
bare_in (NameOf k) (names t) = lookup_map (λ p. p.bytes) k t
bare_in (NameOf k) (names_by t) = refl
bare_in (NameOf k) (whole x) = refl
bare_in (NameWithin k j) (single x) = refl
bare_in (NameWithin k j) (names t) = refl
bare_in (NameWithin k j) (names_by t) = rw (lookup_map (map_table (λ p. p.bytes)) k t) (by_option (lookup k t) (λ e. rw e) (λ u e. rw e (lookup_map (λ p. p.bytes) j u)))
bare_in (NameWithin k j) (whole x) = refl

pub answer_bare : (id : ℕ) (q : Query) (t : Table (Content Part)) → answer id q (map_table bare t) ≡ map_some (λ p. p.bytes) (answer id q t)
unfolding answer
answer_bare id q t = rw (lookup_map bare id t) (by_option (lookup id t) (λ e. rw e) (λ c e. rw e (bare_in q c)))

-- an answer without its offset is none exactly where the answer is
pub told_none : (j : Judged (Option Part)) → (j ≡ accepted none) ↔ (as_told j ≡ accepted none)
unfolding as_told
told_none (accepted none) = (λ e. refl, λ e. refl)
told_none (accepted (some p)) = (λ e. absurd (not_some (sym (accepted_is e))), λ e. absurd (not_some (sym (accepted_is e))))
told_none (refused n at) = (λ e. absurd (not_accepted e), λ e. absurd (not_accepted e))

-- what is asked of a subsection is allowed, or gets none
asked_or_none {ℓ} : {C : Type ℓ} (kind_of : ℕ → Kind) (id : ℕ) (q : Query) {k : Kind} {c : Content (List ℕ)} → id < 256 → kind_of id ≡ k → ContentFine k c → (Allowed kind_of id q → C) → (answer_in q c ≡ none → C) → C
asked_or_none kind_of id ItsName b e (single_fine h) f g = f (an_id e)
asked_or_none kind_of id ItsName b e (names_fine_lem h) f g = g refl
asked_or_none kind_of id ItsName b e (names_by_fine h) f g = g refl
asked_or_none kind_of id ItsName b e whole_fine f g = g refl
asked_or_none kind_of id (NameOf k) b e (single_fine h) f g = g refl
asked_or_none kind_of id (NameOf k) b e (names_fine_lem {t = t} h) f g = by_option (lookup k t) g (λ v n. f (an_index e (lookup_fine k h.sorted n).0))
asked_or_none kind_of id (NameOf k) b e (names_by_fine h) f g = g refl
asked_or_none kind_of id (NameOf k) b e whole_fine f g = g refl
asked_or_none kind_of id (NameWithin k j) b e (single_fine h) f g = g refl
asked_or_none kind_of id (NameWithin k j) b e (names_fine_lem h) f g = g refl
asked_or_none kind_of id (NameWithin k j) b e (names_by_fine {t = t} h) f g =
    in_range_or_none (λ _ u p. (p.0, p.1.sorted)) (λ _ x p. p.0) h.sorted k j (λ l m. f (two_indices e l m)) g
asked_or_none kind_of id (NameWithin k j) b e whole_fine f g = g refl
asked_or_none kind_of id ItsContents b e (single_fine h) f g = g refl
asked_or_none kind_of id ItsContents b e (names_fine_lem h) f g = g refl
asked_or_none kind_of id ItsContents b e (names_by_fine h) f g = g refl
asked_or_none kind_of id ItsContents b e whole_fine f g = f (any_id b)

module _ (kind_of : ℕ → Kind) where
  -- the ids of a payload of bytes are bytes
  subsection_byte : (most least o : ℕ) (bs : List ℕ) {t : Table (Content Part)} {o' : ℕ} {rest : List ℕ} (id : ℕ) {c : Content Part} → Bytes bs → subsections kind_of most least o bs ≡ got t o' rest → lookup id t ≡ some c → id < 256
  unfolding subsections lookup
  subsection_byte zero least o bs id b e l = absurd (not_some (rw (← got_value e) at l))
  subsection_byte (suc most) least o [] id b e l = absurd (not_some (rw (← got_value e) at l))
  subsection_byte (suc most) least o (i ∷ bs) id {c} b e l =
      in_subsection kind_of most least o i bs e λ p o₁ r₁ c' o₂ r₂ more above e₁ e₂ e₃ is.
      let l' : lookup id (row i c' more) ≡ some c = rw (← is) at l in
      by_test (eqb id i)
      (λ t. omega (arith, eqb-true id i t, b 0))
      (λ t. subsection_byte most (suc i) o₁ r₁ id (sized_passes (λ _ bs. Bytes bs) bytes_step (suc o) bs p o₁ r₁ (bytes_step o i bs b) e₁) e₃ (rw t at l'))

  -- what is asked of an accepted payload is allowed, or gets none
  pub allowed_or_none {ℓ} : {C : Type ℓ} {bs : List ℕ} (a : Accepted (judge_names kind_of 0) bs) → Bytes bs → (id : ℕ) (q : Query) → (Allowed kind_of id q → C) → (answer id q (map_table bare a.value) ≡ none → C) → C
  unfolding judge_names answer payload
  allowed_or_none {bs = bs} a b id q f g =
      judged (payload kind_of 0 bs) a.judged λ o rest r.
      by_option (lookup id a.value)
      (λ n. g (rw (lookup_map bare id a.value, n)))
      (λ c n.
      let is : lookup id (map_table bare a.value) ≡ some (bare c) = rw (lookup_map bare id a.value, n) in
      asked_or_none kind_of id q (subsection_byte (length bs) 0 0 bs id b r n) refl (lookup_fine id (payload_sound kind_of 0 bs r).sorted is).0 f (λ m. g (rw is m)))

-- what an answer says tells answers apart: two results that meet one promise are equal
pub same_answer : (a b : Answer) → answered a ≡ answered b → a ≡ b
same_answer (Ok None) (Ok None) e = refl
same_answer (Ok None) (Ok (Some p)) e = absurd (not_some (accepted_is e))
same_answer (Ok None) (Err r) e = absurd (not_accepted (sym e))
same_answer (Ok (Some p)) (Ok None) e = absurd (not_some (sym (accepted_is e)))
same_answer (Ok (Some p)) (Ok (Some q)) e = ap (λ x. Ok (Some x)) (some_is (accepted_is e))
same_answer (Ok (Some p)) (Err r) e = absurd (not_accepted (sym e))
same_answer (Err r) (Ok None) e = absurd (not_accepted e)
same_answer (Err r) (Ok (Some p)) e = absurd (not_accepted e)
same_answer (Err r) (Err s) e = ap Err (same_judgement e)

pub same_hint_answer : (a b : HintAnswer) → hint_answered a ≡ hint_answered b → a ≡ b
same_hint_answer (Ok None) (Ok None) e = refl
same_hint_answer (Ok None) (Ok (Some h)) e = absurd (not_some (accepted_is e))
same_hint_answer (Ok None) (Err r) e = absurd (not_accepted (sym e))
same_hint_answer (Ok (Some h)) (Ok None) e = absurd (not_some (sym (accepted_is e)))
same_hint_answer (Ok (Some h)) (Ok (Some k)) e = ap (λ x. Ok (Some x)) (some_is (accepted_is e))
same_hint_answer (Ok (Some h)) (Err r) e = absurd (not_accepted (sym e))
same_hint_answer (Err r) (Ok None) e = absurd (not_accepted e)
same_hint_answer (Err r) (Ok (Some h)) e = absurd (not_accepted e)
same_hint_answer (Err r) (Err s) e = ap Err (same_judgement e)

-- an answer as a place, taken apart
pub place_none : (j : Judged (Option Part)) → accepted none ≡ as_place j → j ≡ accepted none
unfolding as_place
place_none (accepted none) e = refl
place_none (accepted (some x)) e = absurd (not_some (accepted_is e))
place_none (refused n at) e = absurd (not_accepted (sym e))

pub place_found : (j : Judged (Option Part)) {p : Place} → accepted (some p) ≡ as_place j → (x : Part) × (j ≡ accepted (some x)) × (place_of x ≡ p)
unfolding as_place
place_found (accepted none) e = absurd (not_some (sym (accepted_is e)))
place_found (accepted (some x)) e = (x, refl, sym (some_is (accepted_is e)))
place_found (refused n at) e = absurd (not_accepted (sym e))

pub place_refused : (j : Judged (Option Part)) {n at : ℕ} → refused n at ≡ as_place j → j ≡ refused n at
unfolding as_place
place_refused j e = (refused_exactly (map_some place_of) j).0 (sym e)
