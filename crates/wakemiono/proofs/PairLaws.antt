-- K3: the boundary says what `pairs` and `joining` say.
use Rattle.format.specs.declared.JoinRefusal.TheVariants.{Payload, Output}
use Rattle.std.specs.Prelude.{Ok, Err, Some, None}
use Prim.Native.Nat.{ℕ}
use mathlib.Core.List.{List}
use mathlib.Core.Option.{Option}
use mathlib.Core.Path.{◌≡◌, refl, ap, ◌∙◌}
use native.Mathlib.Omega.{arith}
use borrow.Author.Rules.{rules}
use denote.Enum.Declared.{tag_of}
use Rattle.format.specs.Joined.{join_written_as, JoinWrites}
use Rattle.format.specs.Names.{Kind}
use Rattle.format.specs.Pairs.{Paired, Supplied, ask_pair, as_places, pair_answered}
use Rattle.format.specs.Reading.{Judged}
use Rattle.format.specs.Refusals.{number_of}
use Rattle.format.specs.Returned.{JoinWritten}
use Rattle.format.specs.Returned.{PairAnswer}
use Rattle.format.specs.declared.Place.{Place}
use Rattle.format.specs.declared.Question.{Question}
use Rattle.format.specs.declared.Refusal.{Refusal}
use Rattle.format.specs.declared.Whose.{Whose}
use Rattle.format.specs.declared.Whose.TheVariants.{Separate, Own}
use Rattle.format.specs.contracts.Whose as whose_type
use Rattle.wakemiono.specs.Pairs.{wm_whose, wm_pair_refused, wm_pair, wm_join, WmJoins}
use Rattle.wakemiono.specs.declared.beside.WmPairAnswer.{WmPairAnswer}

-- whose it is
pub whose_separate : (w : Whose) → tag_of whose_type.the_type w ≡ 0 → 1 ≡ wm_whose w
whose_separate Separate h = refl
whose_separate Own h = absurd (omega arith)

pub whose_own : (w : Whose) → tag_of whose_type.the_type w ≡ 1 → 2 ≡ wm_whose w
whose_own Separate h = absurd (omega arith)
whose_own Own h = refl

-- the fields
pub refusal_is : (r : Refusal) (whose : ℕ) {n : ℕ} → n ≡ number_of r.reason → record { kind = 2; code = n; offset = r.offset.0; length = 0; whose = whose } ≡ wm_pair_refused whose (number_of r.reason) r.offset.0
refusal_is r whose e = rw e

module _ (a : PairAnswer) where
  pub pair_none : a ≡ Ok None → record { kind = 0; code = 0; offset = 0; length = 0; whose = 0 } ≡ wm_pair (pair_answered a)
  pair_none h = rw h

  pub pair_refused : {w : Whose} {r : Refusal} {n : ℕ} {x : WmPairAnswer} → a ≡ Err (w, r) → n ≡ wm_whose w → x ≡ wm_pair_refused n (number_of r.reason) r.offset.0 → x ≡ wm_pair (pair_answered a)
  pair_refused e q h = h ∙ rw (e, q)

  pub pair_found : {w : Whose} {p : Place} {n : ℕ} → a ≡ Ok (Some (w, p)) → n ≡ wm_whose w → record { kind = 1; code = 0; offset = p.offset.0; length = p.length; whose = n } ≡ wm_pair (pair_answered a)
  pair_found e q = rw (e, q)

module _ (j : JoinWritten) where
  pub join_payload_refused : {w : Whose} {r : Refusal} {n : ℕ} {x : WmPairAnswer} → j ≡ Err (Payload w r) → n ≡ wm_whose w → x ≡ wm_pair_refused n (number_of r.reason) r.offset.0 → x ≡ wm_join (join_written_as j)
  join_payload_refused e q h = h ∙ rw (e, q)

  pub join_refused : {r : Refusal} {x : WmPairAnswer} → j ≡ Err (Output r) → x ≡ wm_pair_refused 0 (number_of r.reason) r.offset.0 → x ≡ wm_join (join_written_as j)
  join_refused e h = h ∙ rw e

  pub join_length : {n : ℕ} → j ≡ Ok n → record { kind = 1; code = 0; offset = 0; length = n; whose = 0 } ≡ wm_join (join_written_as j)
  join_length e = rw e

-- and so does each call
pub says_pair : (a : WmPairAnswer) (x y : Paired (Option (Supplied Place))) → a ≡ wm_pair x → x ≡ y → a ≡ wm_pair y
says_pair a x y e q = e ∙ ap wm_pair q

pub says_join : {wanted : Paired (Judged (List ℕ))} {old new : List ℕ} {a : WmPairAnswer} (j : JoinWritten) → a ≡ wm_join (join_written_as j) → JoinWrites wanted old new j → WmJoins wanted old new a
says_join j e h = record { says = e ∙ ap wm_join h.says; leaves = h.leaves }

-- one question under two names
module _ (kind_of : ℕ → Kind) (s o : List ℕ) (a : WmPairAnswer) {q r : Question} (e : q ≡ r) where
  pub paired_so : a ≡ wm_pair (as_places (ask_pair kind_of q s o)) → a ≡ wm_pair (as_places (ask_pair kind_of r s o))
  paired_so h = rw e at h

pub ruleset pairs = (whose_separate, whose_own, refusal_is, pair_none, pair_refused, pair_found, join_payload_refused, join_refused, join_length, says_pair, says_join, paired_so, rules)
