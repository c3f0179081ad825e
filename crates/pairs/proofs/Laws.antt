-- Which payload answers, case by case, and that what is handed back is the very bytes of it.
use Rattle.std.specs.Prelude.{Ok, Err, Some, None}
use Prim.Native.Nat.{ℕ, ◌+◌}
use mathlib.Core.List.{List, []}
use mathlib.Core.Option.{Option, none, some}
use mathlib.Core.Path.{◌≡◌, refl, sym, ap, ◌∙◌}
use native.Mathlib.Omega.{arith}
use borrow.Author.Rules.{rules}
use denote.Enum.Declared.{tag_of}
use Rattle.format.specs.Names.{Kind, judge_names}
use Rattle.format.specs.Pairs.{Paired, agreed, refused_by, both_judged, first_of, Supplied, ask_pair, as_places, supplied_bytes, supplied_from, pair_answered}
use Rattle.format.specs.Parts.{Part}
use Rattle.format.specs.Questions.{id_of, query_of, answer, asked, ask_at, ask, as_place, as_bytes, start_of, answered}
use Rattle.format.specs.Reading.{Judged, accepted, refused, map_judged, verdict}
use Rattle.format.specs.Verdicts.{verdict_of}
use Rattle.format.specs.Returned.{Answer}
use Rattle.format.specs.Returned.{PairAnswer}
use Rattle.format.specs.declared.Place.{Place}
use Rattle.format.specs.declared.Question.{Question}
use Rattle.format.specs.declared.Refusal.{Refusal}
use Rattle.format.specs.Returned.{Verdict}
use Rattle.format.specs.declared.Whose.{Whose}
use Rattle.format.specs.declared.Whose.TheVariants.{Separate, Own}
use Rattle.format.proofs.Nested.{nested}
use Rattle.format.specs.contracts.Whose as whose_type
use Rattle.names.proofs.TakenLaws.{question_bytes, question_start}
use Rattle.reading.specs.Taken.{Takes}
use Rattle.pairs.specs.Settling.{own_answer, beside_own, HandsBack}

-- An arm that binds nothing gives the tag alone
as_separate : (w : Whose) → tag_of whose_type.the_type w ≡ 0 → w ≡ Separate
as_separate Separate h = refl
as_separate Own h = absurd (omega arith)

as_own : (w : Whose) → tag_of whose_type.the_type w ≡ 1 → w ≡ Own
as_own Separate h = absurd (omega arith)
as_own Own h = refl

-- The own payload's answer, and a name beside it
module _ (a : Answer) where
  pub own_none : a ≡ Ok None → Ok None ≡ own_answer a
  own_none e = rw e

  pub own_found : {p : Place} → a ≡ Ok (Some p) → Ok (Some (Own, p)) ≡ own_answer a
  own_found e = rw e

  pub own_refused : {r : Refusal} → a ≡ Err r → Err (Own, r) ≡ own_answer a
  own_refused e = rw e

pub ruleset owns = (own_none, own_found, own_refused, nested, rules)

module _ (p : Place) (v : Verdict) where
  pub beside_accepted : v ≡ Ok tt → Ok (Some (Separate, p)) ≡ beside_own p v
  beside_accepted e = rw e

  pub beside_refused : {r : Refusal} → v ≡ Err r → Err (Own, r) ≡ beside_own p v
  beside_refused e = rw e

pub ruleset besides = (beside_accepted, beside_refused, rules)

-- What the pair says where the separate payload gives none, and where it has the name
abbrev says_own : Judged (Option Place) → Paired (Option (Supplied Place))
says_own (accepted none) = agreed none
says_own (accepted (some p)) = agreed (some (record { whose = Own; value = p }))
says_own (refused n at) = refused_by Own n at

abbrev says_separate : Place → Judged (Unit {0}) → Paired (Option (Supplied Place))
says_separate p (accepted x) = agreed (some (record { whose = Separate; value = p }))
says_separate p (refused n at) = refused_by Own n at

own_says : (a : Answer) → pair_answered (own_answer a) ≡ says_own (answered a)
own_says (Ok None) = refl
own_says (Ok (Some p)) = refl
own_says (Err r) = refl

beside_says : (p : Place) (v : Verdict) → pair_answered (beside_own p v) ≡ says_separate p (verdict_of v)
beside_says p (Ok _) = refl
beside_says p (Err r) = refl

-- a name or none is not the other, and neither is a refusal
not_none : {p : Place} → ◌≡◌ {A = Judged (Option Place)} (accepted (some p)) (accepted none) → ⊥
not_none e = let z : ◌≡◌ {A = ℕ} 0 1 = cc in omega arith

not_refused : {n at : ℕ} {x : Option Place} → ◌≡◌ {A = Judged (Option Place)} (refused n at) (accepted x) → ⊥
not_refused e = let z : ◌≡◌ {A = ℕ} 0 1 = cc in omega arith

without_name : (j k : Judged (Option Part)) → as_place j ≡ accepted none → as_places (both_judged first_of j k) ≡ says_own (as_place k)
unfolding as_place as_places
without_name (accepted none) (accepted none) e = refl
without_name (accepted none) (accepted (some y)) e = refl
without_name (accepted none) (refused n at) e = refl
without_name (accepted (some x)) k e = absurd (not_none e)
without_name (refused n at) k e = absurd (not_refused e)

with_name : (j k : Judged (Option Part)) {p : Place} → as_place j ≡ accepted (some p) → as_places (both_judged first_of j k) ≡ says_separate p (verdict k)
unfolding as_place as_places
with_name (accepted none) k e = absurd (not_none (sym e))
with_name (accepted (some x)) (accepted y) e = let same = accepted_place e in rw same
  where
    accepted_place : {p q : Place} → ◌≡◌ {A = Judged (Option Place)} (accepted (some p)) (accepted (some q)) → p ≡ q
    accepted_place e = cc
with_name (accepted (some x)) (refused n at) e = refl
with_name (refused n at) k e = absurd (not_refused e)

refused_first : (j k : Judged (Option Part)) {n at : ℕ} → as_place j ≡ refused n at → as_places (both_judged first_of j k) ≡ refused_by Separate n at
unfolding as_place as_places
refused_first (accepted none) k e = absurd (not_refused (sym e))
refused_first (accepted (some x)) k e = absurd (not_refused (sym e))
refused_first (refused n at) k e = again e
  where
    again : {n m at at' : ℕ} → ◌≡◌ {A = Judged (Option Place)} (refused n at) (refused m at') → ◌≡◌ {A = Paired (Option (Supplied Place))} (refused_by Separate n at) (refused_by Separate m at')
    again e = cc

-- THE QUESTION
module _ (kind_of : ℕ → Kind) (q : Question) (s o : List ℕ) (a : Answer) (e : answered a ≡ as_place (ask kind_of q s)) where
  pub pair_refused : {r : Refusal} → a ≡ Err r → pair_answered (Err (Separate, r)) ≡ as_places (ask_pair kind_of q s o)
  unfolding ask_pair
  pair_refused h = sym (refused_first (ask kind_of q s) (ask kind_of q o) (sym e ∙ ap answered h))

  pub pair_own : (b : Answer) {r : PairAnswer} → a ≡ Ok None → answered b ≡ as_place (ask kind_of q o) → r ≡ own_answer b → pair_answered r ≡ as_places (ask_pair kind_of q s o)
  unfolding ask_pair
  pair_own b h f is =
      ap pair_answered is ∙ own_says b ∙ ap says_own f ∙ sym (without_name (ask kind_of q s) (ask kind_of q o) (sym e ∙ ap answered h))

  pub pair_separate : {p : Place} (v : Verdict) {r : PairAnswer} → a ≡ Ok (Some p) → verdict_of v ≡ verdict (judge_names kind_of 0 o) → r ≡ beside_own p v → pair_answered r ≡ as_places (ask_pair kind_of q s o)
  unfolding ask_pair ask ask_at asked
  pair_separate {p} v h f is =
      ap pair_answered is ∙ beside_says p v ∙ ap (says_separate p) (f ∙ judged_so (answer (id_of q) (query_of q)) (judge_names kind_of 0 o)) ∙ sym (with_name (ask kind_of q s) (ask kind_of q o) (sym e ∙ ap answered h))
    where
      judged_so : {A B : Type 0} (f : A → B) (j : Judged A) → verdict j ≡ verdict (map_judged f j)
      judged_so f (accepted x) = refl
      judged_so f (refused n at) = refl

pub ruleset settles = (pair_refused, pair_own, pair_separate, nested, rules)

-- WHAT IS HANDED BACK. The part at the place, of the one that supplied it
module _ {s o : List ℕ} {at_s at_o : ℕ × ℕ} {a : PairAnswer} where
  pub hands_separate : {w : Whose} {p : Place} {bytes : List ℕ} {begins : ℕ × ℕ} → a ≡ Ok (Some (w, p)) → tag_of whose_type.the_type w ≡ 0 → Takes s at_s (Ok (Some p)) bytes begins → HandsBack s o at_s at_o a bytes begins
  hands_separate {w} e h t = let is : w ≡ Separate = as_separate w h in record { part = rw (e, is) t }

  pub hands_own : {w : Whose} {p : Place} {bytes : List ℕ} {begins : ℕ × ℕ} → a ≡ Ok (Some (w, p)) → tag_of whose_type.the_type w ≡ 1 → Takes o at_o (Ok (Some p)) bytes begins → HandsBack s o at_s at_o a bytes begins
  hands_own {w} e h t = let is : w ≡ Own = as_own w h in record { part = rw (e, is) t }

  pub hands_none : a ≡ Ok None → HandsBack s o at_s at_o a [] at_s
  hands_none e = record { part = rw e (refl, refl) }

  pub hands_refused : {x : Whose × Refusal} → a ≡ Err x → HandsBack s o at_s at_o a [] at_s
  hands_refused {x = (w, r)} e = record { part = rw e (refl, refl) }

pub ruleset hands = (hands_separate, hands_own, hands_none, hands_refused, nested, rules)

-- What was answered tells which payload has the name: as that one alone would answer
abbrev from_one : Whose → (separate own : Judged (Option Place)) → Judged (Option Place)
from_one Separate a b = a
from_one Own a b = b

abbrev from_separate : Paired (Option (Supplied Place)) → Judged (Option Place)
from_separate (agreed none) = refused 0 0
from_separate (agreed (some x)) = from_one x.whose (accepted (some x.value)) (refused 0 0)
from_separate (refused_by w n at) = refused 0 0

abbrev from_own : Paired (Option (Supplied Place)) → Judged (Option Place)
from_own (agreed none) = refused 0 0
from_own (agreed (some x)) = from_one x.whose (refused 0 0) (accepted (some x.value))
from_own (refused_by w n at) = refused 0 0

supplied_separate : (j k : Judged (Option Part)) {p : Place} → accepted (some p) ≡ from_separate (as_places (both_judged first_of j k)) → accepted (some p) ≡ as_place j
unfolding as_place as_places
supplied_separate (accepted none) (accepted none) e = absurd (not_refused (sym e))
supplied_separate (accepted none) (accepted (some y)) e = absurd (not_refused (sym e))
supplied_separate (accepted none) (refused n at) e = absurd (not_refused (sym e))
supplied_separate (accepted (some x)) (accepted y) e = e
supplied_separate (accepted (some x)) (refused n at) e = absurd (not_refused (sym e))
supplied_separate (refused n at) k e = absurd (not_refused (sym e))

supplied_own : (j k : Judged (Option Part)) {p : Place} → accepted (some p) ≡ from_own (as_places (both_judged first_of j k)) → accepted (some p) ≡ as_place k
unfolding as_place as_places
supplied_own (accepted none) (accepted none) e = absurd (not_refused (sym e))
supplied_own (accepted none) (accepted (some y)) e = e
supplied_own (accepted none) (refused n at) e = absurd (not_refused (sym e))
supplied_own (accepted (some x)) (accepted y) e = absurd (not_refused (sym e))
supplied_own (accepted (some x)) (refused n at) e = absurd (not_refused (sym e))
supplied_own (refused n at) k e = absurd (not_refused (sym e))

-- so its bytes are the pair's, and where they begin
record Handed (j : Paired (Option (Supplied Part))) (at_s at_o : ℕ × ℕ) (bytes : List ℕ) (begins : ℕ × ℕ) : Type 0 where
  bytes_are : bytes ≡ supplied_bytes j
  begins_there : begins ≡ supplied_from j at_s at_o

handed_separate : (j k : Judged (Option Part)) {at_s at_o : ℕ × ℕ} {p : Place} {bytes : List ℕ} {begins : ℕ × ℕ} → accepted (some p) ≡ from_separate (as_places (both_judged first_of j k)) → bytes ≡ as_bytes j → begins ≡ (at_s.0, start_of j + at_s.1) → Handed (both_judged first_of j k) at_s at_o bytes begins
unfolding as_places as_bytes start_of supplied_bytes supplied_from
handed_separate (accepted none) (accepted none) e b g = absurd (not_refused (sym e))
handed_separate (accepted none) (accepted (some y)) e b g = absurd (not_refused (sym e))
handed_separate (accepted none) (refused n at) e b g = absurd (not_refused (sym e))
handed_separate (accepted (some x)) (accepted y) e b g = record { bytes_are = b; begins_there = g }
handed_separate (accepted (some x)) (refused n at) e b g = absurd (not_refused (sym e))
handed_separate (refused n at) k e b g = absurd (not_refused (sym e))

handed_own : (j k : Judged (Option Part)) {at_s at_o : ℕ × ℕ} {p : Place} {bytes : List ℕ} {begins : ℕ × ℕ} → accepted (some p) ≡ from_own (as_places (both_judged first_of j k)) → bytes ≡ as_bytes k → begins ≡ (at_o.0, start_of k + at_o.1) → Handed (both_judged first_of j k) at_s at_o bytes begins
unfolding as_places as_bytes start_of supplied_bytes supplied_from
handed_own (accepted none) (accepted none) e b g = absurd (not_refused (sym e))
handed_own (accepted none) (accepted (some y)) e b g = record { bytes_are = b; begins_there = g }
handed_own (accepted none) (refused n at) e b g = absurd (not_refused (sym e))
handed_own (accepted (some x)) (accepted y) e b g = absurd (not_refused (sym e))
handed_own (accepted (some x)) (refused n at) e b g = absurd (not_refused (sym e))
handed_own (refused n at) k e b g = absurd (not_refused (sym e))

-- no name, no bytes
abbrev named : Paired (Option (Supplied Place)) → Judged (Option Place)
named (agreed none) = accepted none
named (agreed (some x)) = accepted (some x.value)
named (refused_by w n at) = accepted none

handed_nothing : (j : Paired (Option (Supplied Part))) {at_s at_o : ℕ × ℕ} {bytes : List ℕ} {begins : ℕ × ℕ} → accepted none ≡ named (as_places j) → bytes ≡ [] → begins ≡ at_s → Handed j at_s at_o bytes begins
unfolding as_places supplied_bytes supplied_from
handed_nothing (agreed none) e b g = record { bytes_are = b; begins_there = g }
handed_nothing (agreed (some x)) e b g = absurd (not_none (sym e))
handed_nothing (refused_by w n at) e b g = record { bytes_are = b; begins_there = g }

module _ (kind_of : ℕ → Kind) (q : Question) (s o : List ℕ) {at_s at_o begins : ℕ × ℕ} {bytes : List ℕ} where
  handed : (a : PairAnswer) → pair_answered a ≡ as_places (ask_pair kind_of q s o) → HandsBack s o at_s at_o a bytes begins → Handed (ask_pair kind_of q s o) at_s at_o bytes begins
  unfolding ask_pair
  handed (Ok None) e h = let (b, g) = h.part in handed_nothing (both_judged first_of (ask kind_of q s) (ask kind_of q o)) (ap named e) b g
  handed (Ok (Some (Separate, p))) e h =
      let one = supplied_separate (ask kind_of q s) (ask kind_of q o) (ap from_separate e) in
      handed_separate (ask kind_of q s) (ask kind_of q o) (ap from_separate e) (question_bytes kind_of q s (Ok (Some p)) one h.part) (question_start kind_of q s (Ok (Some p)) one h.part)
  handed (Ok (Some (Own, p))) e h =
      let one = supplied_own (ask kind_of q s) (ask kind_of q o) (ap from_own e) in
      handed_own (ask kind_of q s) (ask kind_of q o) (ap from_own e) (question_bytes kind_of q o (Ok (Some p)) one h.part) (question_start kind_of q o (Ok (Some p)) one h.part)
  handed (Err (w, r)) e h = let (b, g) = h.part in handed_nothing (both_judged first_of (ask kind_of q s) (ask kind_of q o)) (ap named e) b g

  pub very_bytes : (a : PairAnswer) → pair_answered a ≡ as_places (ask_pair kind_of q s o) → HandsBack s o at_s at_o a bytes begins → bytes ≡ supplied_bytes (ask_pair kind_of q s o)
  very_bytes a e h = (handed a e h).bytes_are

  pub very_place : (a : PairAnswer) → pair_answered a ≡ as_places (ask_pair kind_of q s o) → HandsBack s o at_s at_o a bytes begins → begins ≡ supplied_from (ask_pair kind_of q s o) at_s at_o
  very_place a e h = (handed a e h).begins_there

pub ruleset handed_back = (very_bytes, very_place, rules)
