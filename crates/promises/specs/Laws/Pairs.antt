-- K3: what the calls over two payloads come to, by the calls that are lent one; and the part that is handed back.
use Rattle.std.specs.Prelude.{ℕ, ◌+◌, ◌≤◌, List, [], ◌↔◌, ◌≡◌, take, drop}
use Rattle.std.proofs.Math.Logic.Iff
use Rattle.std.proofs.Math.Option.{Option, none, some}
use Rattle.std.proofs.Math.Path.{refl, ap}
use Rattle.std.proofs.Common.{sym, ◌∙◌, arith}
use Rattle.std.proofs.Math.ListN.{length}
use Rattle.format.specs.Laws.Options.{not_some, some_is}
use Rattle.format.specs.Laws.Outcomes.{not_accepted, accepted_is, mapped}
use Rattle.format.specs.Laws.Pairs.{agreed_is, not_agreed}
use Rattle.format.specs.Names.{Kind, kind_in, judge_names}
use Rattle.format.proofs.PairTheorems.{pairs_answered}
use Rattle.format.specs.Pairs.{Paired, agreed, refused_by, both_judged, Supplied, first_of, ask_pair, lent_by, as_places, supplied_bytes, supplied_from, pair_told}
use Rattle.format.specs.Parts.{Part}
use Rattle.format.specs.Questions.{id_of, query_of, answer, asked, ask_at, ask, as_place, as_told}
use Rattle.format.specs.Reading.{Judged, accepted, refused, map_judged, verdict}
use Rattle.format.proofs.Theorems.{VeryBytes, questions_answered}
use Rattle.format.specs.declared.Edition.{Edition}
use Rattle.format.specs.declared.Question.{Question}
use Rattle.format.specs.declared.Whose.{Whose}
use Rattle.format.specs.declared.Whose.TheVariants.{Separate, Own}
use Rattle.wakemiono.specs.Boundary.{wm_none, wm_found, wm_refused, wm_place, wm_judged}
use Rattle.wakemiono.specs.Pairs.{wm_whose, wm_pair_none, wm_pair_found, wm_pair_refused, wm_pair}
use Rattle.wakemiono.specs.declared.WmAnswer.{WmAnswer}
use Rattle.wakemiono.specs.declared.beside.WmPairAnswer.{WmPairAnswer}
use Rattle.promises.specs.Demands.{PairReply, pair_none, pair_found, pair_refused, AsksPairs, HandsBack, bytes_of}
use Rattle.promises.specs.Laws.Refusing.{names_fair}
use Rattle.promises.specs.Laws.Saying.{judged_said}

-- equal answers have equal fields
pub pair_kind : {a b : WmPairAnswer} → a ≡ b → a.kind ≡ b.kind
pair_kind e = ap (λ (a : WmPairAnswer). a.kind) e

pub pair_whose : {a b : WmPairAnswer} → a ≡ b → a.whose ≡ b.whose
pair_whose e = ap (λ (a : WmPairAnswer). a.whose) e

a_kind : {a b : WmAnswer} → a ≡ b → a.kind ≡ b.kind
a_kind e = ap (λ (a : WmAnswer). a.kind) e

found_alike : {w at n at' n' : ℕ} → wm_pair_found w at n ≡ wm_pair_found w at' n' → wm_found 0 at n ≡ wm_found 0 at' n'
found_alike e = let o = ap (λ (a : WmPairAnswer). a.offset) e in let l = ap (λ (a : WmPairAnswer). a.length) e in λ i. wm_found 0 (o i) (l i)

alike_found : (w : ℕ) {at n at' n' : ℕ} → wm_found 0 at n ≡ wm_found 0 at' n' → wm_pair_found w at n ≡ wm_pair_found w at' n'
alike_found w e = let o = ap (λ (a : WmAnswer). a.offset) e in let l = ap (λ (a : WmAnswer). a.length) e in λ i. wm_pair_found w (o i) (l i)

-- THE ANSWER, from what both payloads answer
pair_reply : (P : Paired (Option (Supplied Part))) → PairReply (wm_pair (as_places P))
unfolding as_places
pair_reply (agreed none) = pair_none
pair_reply (agreed (some x)) = pair_found x.whose x.value.at (length x.value.bytes)
pair_reply (refused_by w n at) = pair_refused w n at

-- what both are asked is named, since it is written often
abbrev both : Judged (Option Part) → Judged (Option Part) → WmPairAnswer
both j k = wm_pair (as_places (both_judged first_of j k))

separate_said : (j k : Judged (Option Part)) (at n : ℕ) → (both j k ≡ wm_pair_found 1 at n) ↔ ((wm_place (as_place j) ≡ wm_found 0 at n) × ((w : Option Part) × (k ≡ accepted w)))
unfolding as_places as_place
separate_said (refused m o) k at n = (λ e. absurd (omega (arith, pair_kind e)), λ h. absurd (omega (arith, a_kind h.0)))
separate_said (accepted none) (refused m o) at n = (λ e. absurd (omega (arith, pair_kind e)), λ h. absurd (omega (arith, a_kind h.0)))
separate_said (accepted none) (accepted none) at n = (λ e. absurd (omega (arith, pair_kind e)), λ h. absurd (omega (arith, a_kind h.0)))
separate_said (accepted none) (accepted (some y)) at n = (λ e. absurd (omega (arith, pair_whose e)), λ h. absurd (omega (arith, a_kind h.0)))
separate_said (accepted (some x)) (refused m o) at n = (λ e. absurd (omega (arith, pair_kind e)), λ h. absurd (not_accepted h.1.1))
separate_said (accepted (some x)) (accepted w) at n = (λ e. (found_alike e, (w, refl)), λ h. alike_found 1 h.0)

own_said : (j k : Judged (Option Part)) (at n : ℕ) → (both j k ≡ wm_pair_found 2 at n) ↔ ((wm_place (as_place j) ≡ wm_none) × (wm_place (as_place k) ≡ wm_found 0 at n))
unfolding as_places as_place
own_said (refused m o) k at n = (λ e. absurd (omega (arith, pair_kind e)), λ h. absurd (omega (arith, a_kind h.0)))
own_said (accepted none) (refused m o) at n = (λ e. absurd (omega (arith, pair_kind e)), λ h. absurd (omega (arith, a_kind h.1)))
own_said (accepted none) (accepted none) at n = (λ e. absurd (omega (arith, pair_kind e)), λ h. absurd (omega (arith, a_kind h.1)))
own_said (accepted none) (accepted (some y)) at n = (λ e. (refl, found_alike e), λ h. alike_found 2 h.1)
own_said (accepted (some x)) (refused m o) at n = (λ e. absurd (omega (arith, pair_kind e)), λ h. absurd (omega (arith, a_kind h.0)))
own_said (accepted (some x)) (accepted w) at n = (λ e. absurd (omega (arith, pair_whose e)), λ h. absurd (omega (arith, a_kind h.0)))

neither_said : (j k : Judged (Option Part)) → (both j k ≡ wm_pair_none) ↔ ((wm_place (as_place j) ≡ wm_none) × (wm_place (as_place k) ≡ wm_none))
unfolding as_places as_place
neither_said (refused m o) k = (λ e. absurd (omega (arith, pair_kind e)), λ h. absurd (omega (arith, a_kind h.0)))
neither_said (accepted none) (refused m o) = (λ e. absurd (omega (arith, pair_kind e)), λ h. absurd (omega (arith, a_kind h.1)))
neither_said (accepted none) (accepted none) = (λ e. (refl, refl), λ h. refl)
neither_said (accepted none) (accepted (some y)) = (λ e. absurd (omega (arith, pair_kind e)), λ h. absurd (omega (arith, a_kind h.1)))
neither_said (accepted (some x)) (refused m o) = (λ e. absurd (omega (arith, pair_kind e)), λ h. absurd (omega (arith, a_kind h.0)))
neither_said (accepted (some x)) (accepted w) = (λ e. absurd (omega (arith, pair_kind e)), λ h. absurd (omega (arith, a_kind h.0)))

-- a refusal, and whose it is
refused_alike : {A : Type 0} {w n m at at' : ℕ} → wm_pair_refused w n at ≡ wm_pair_refused w m at' → ◌≡◌ {A = Judged A} (refused n at) (refused m at')
refused_alike e = let c = ap (λ (a : WmPairAnswer). a.code) e in let o = ap (λ (a : WmPairAnswer). a.offset) e in λ i. refused (c i) (o i)

alike_refused : {A : Type 0} (w : ℕ) {n m at at' : ℕ} → ◌≡◌ {A = Judged A} (refused n at) (refused m at') → wm_pair_refused w n at ≡ wm_pair_refused w m at'
alike_refused w e = cc

by_separate_said : (j k : Judged (Option Part)) (n at : ℕ) → (both j k ≡ wm_pair_refused 1 n at) ↔ (j ≡ refused n at)
unfolding as_places
by_separate_said (refused m o) k n at = (refused_alike, alike_refused 1)
by_separate_said (accepted x) (refused m o) n at = (λ e. absurd (omega (arith, pair_whose e)), λ e. absurd (not_accepted (sym e)))
by_separate_said (accepted none) (accepted none) n at = (λ e. absurd (omega (arith, pair_kind e)), λ e. absurd (not_accepted (sym e)))
by_separate_said (accepted none) (accepted (some y)) n at = (λ e. absurd (omega (arith, pair_kind e)), λ e. absurd (not_accepted (sym e)))
by_separate_said (accepted (some x)) (accepted y) n at = (λ e. absurd (omega (arith, pair_kind e)), λ e. absurd (not_accepted (sym e)))

by_own_said : (j k : Judged (Option Part)) (n at : ℕ) → (both j k ≡ wm_pair_refused 2 n at) ↔ (((w : Option Part) × (j ≡ accepted w)) × (k ≡ refused n at))
unfolding as_places
by_own_said (refused m o) k n at = (λ e. absurd (omega (arith, pair_whose e)), λ h. absurd (not_accepted h.0.1))
by_own_said (accepted x) (refused m o) n at = (λ e. ((x, refl), refused_alike e), λ h. alike_refused 2 h.1)
by_own_said (accepted none) (accepted none) n at = (λ e. absurd (omega (arith, pair_kind e)), λ h. absurd (not_accepted (sym h.1)))
by_own_said (accepted none) (accepted (some y)) n at = (λ e. absurd (omega (arith, pair_kind e)), λ h. absurd (not_accepted (sym h.1)))
by_own_said (accepted (some x)) (accepted y) n at = (λ e. absurd (omega (arith, pair_kind e)), λ h. absurd (not_accepted (sym h.1)))

-- and a refusal is one of both
some_refused : (j k : Judged (Option Part)) (w n at : ℕ) → both j k ≡ wm_pair_refused w n at → {C : Type 0} → (j ≡ refused n at → C) → (k ≡ refused n at → C) → C
unfolding as_places
some_refused (refused m o) k w n at e f g = f (let c = ap (λ (a : WmPairAnswer). a.code) e in let p = ap (λ (a : WmPairAnswer). a.offset) e in λ i. refused (c i) (p i))
some_refused (accepted x) (refused m o) w n at e f g = g (let c = ap (λ (a : WmPairAnswer). a.code) e in let p = ap (λ (a : WmPairAnswer). a.offset) e in λ i. refused (c i) (p i))
some_refused (accepted none) (accepted none) w n at e f g = absurd (omega (arith, pair_kind e))
some_refused (accepted none) (accepted (some y)) w n at e f g = absurd (omega (arith, pair_kind e))
some_refused (accepted (some x)) (accepted y) w n at e f g = absurd (omega (arith, pair_kind e))

-- THE QUESTIONS, over any table of ids
module _ (kind_of : ℕ → Kind) where
  -- a question is accepted exactly where the payload is
  asked_accepted : (q : Question) (p : List ℕ) (j : WmAnswer) → j ≡ wm_judged (length p) (verdict (judge_names kind_of 0 p)) → ((w : Option Part) × (ask kind_of q p ≡ accepted w)) ↔ (j.kind ≡ 1)
  unfolding ask ask_at asked
  asked_accepted q p j e = (
    λ h. mapped (answer (id_of q) (query_of q)) (judge_names kind_of 0 p) h.1 λ v is _. (judged_said (length p) (judge_names kind_of 0 p) e).found.1 (v, is),
    λ k. let (v, is) = (judged_said (length p) (judge_names kind_of 0 p) e).found.0 k in (answer (id_of q) (query_of q) v, ap (map_judged (answer (id_of q) (query_of q))) is),
  )

  asked_refused : (q : Question) (p : List ℕ) (j : WmAnswer) → j ≡ wm_judged (length p) (verdict (judge_names kind_of 0 p)) → (n at : ℕ) → (ask kind_of q p ≡ refused n at) ↔ (j ≡ wm_refused n at)
  asked_refused q p j e n at = Iff.trans ((questions_answered kind_of).refuses q p n at) (let r = (judged_said (length p) (judge_names kind_of 0 p) e).refusal n at in (r.1, r.0))

  pub asks_pairs : AsksPairs (λ p j. j ≡ wm_judged (length p) (verdict (judge_names kind_of 0 p))) (λ q p a. a ≡ wm_place (as_place (ask kind_of q p))) (λ q s o a. a ≡ wm_pair (as_places (ask_pair kind_of q s o)))
  unfolding ask_pair
  asks_pairs = record {
    answers = λ q s o a e. rw e (pair_reply (ask_pair kind_of q s o));
    separate_answers = λ q s o a b j e f g at n. rw (e, f) (Iff.trans (separate_said (ask kind_of q s) (ask kind_of q o) at n) (let own = asked_accepted q o j g in (λ h. (h.0, own.0 h.1), λ h. (h.0, own.1 h.1))));
    own_answers = λ q s o a b c e f g at n. rw (e, f, g) (own_said (ask kind_of q s) (ask kind_of q o) at n);
    none_answered = λ q s o a b c e f g. rw (e, f, g) (neither_said (ask kind_of q s) (ask kind_of q o));
    refuses_separate = λ q s o a i e f n at. rw e (Iff.trans (by_separate_said (ask kind_of q s) (ask kind_of q o) n at) (asked_refused q s i f n at));
    refuses_own = λ q s o a i j e f g n at. rw e (Iff.trans (by_own_said (ask kind_of q s) (ask kind_of q o) n at) (let first = asked_accepted q s i f in let own = asked_refused q o j g n at in (λ h. (first.0 h.0, own.0 h.1), λ h. (first.1 h.0, own.1 h.1))));
    numbered = λ q s o a e w n at is.
        some_refused (ask kind_of q s) (ask kind_of q o) w n at (sym e ∙ is)
        (λ r. (names_fair kind_of 0 s).numbered n at (((questions_answered kind_of).refuses q s n at).0 r))
        (λ r. (names_fair kind_of 0 o).numbered n at (((questions_answered kind_of).refuses q o n at).0 r));
  }

-- THE PART that is handed back
same_whose : (w x : Whose) → wm_whose w ≡ wm_whose x → w ≡ x
same_whose Separate Separate e = refl
same_whose Separate Own e = absurd (omega (arith, e))
same_whose Own Separate e = absurd (omega (arith, e))
same_whose Own Own e = refl

-- what is found lies in the payload that supplied it
abbrev pub AllVery : (s o : List ℕ) → Paired (Option (Supplied Part)) → Type 0
AllVery s o P = (x : Supplied Part) → P ≡ agreed (some x) → VeryBytes (lent_by x.whose s o) x.value

module _ (s o : List ℕ) (p r : ℕ × ℕ) (w : Whose) (at n : ℕ) where
  by_supplier : (P : Paired (Option (Supplied Part))) → AllVery s o P → wm_pair (as_places P) ≡ wm_pair_found (wm_whose w) at n → (at + n ≤ length (lent_by w s o)) × (supplied_bytes P ≡ take n (drop at (lent_by w s o))) × (supplied_from P p r ≡ (lent_by w p.0 r.0, at + lent_by w p.1 r.1))
  unfolding as_places supplied_bytes supplied_from
  by_supplier (agreed none) very e = absurd (omega (arith, pair_kind e))
  by_supplier (refused_by x m k) very e = absurd (omega (arith, pair_kind e))
  by_supplier (agreed (some x)) very e =
      let whose = same_whose x.whose w (pair_whose e) in
      let lies : VeryBytes (lent_by x.whose s o) x.value = very x refl in
      let v : VeryBytes (lent_by w s o) x.value = rw whose at lies in
      let place : x.value.at ≡ at = ap (λ (a : WmPairAnswer). a.offset) e in
      let long : length x.value.bytes ≡ n = ap (λ (a : WmPairAnswer). a.length) e in
      (rw (← place, ← long) v.inside, rw (← place, ← long) (sym v.bytes), rw (whose, place) refl)

nothing_handed : (P : Paired (Option (Supplied Part))) → ((wm_pair (as_places P)).kind ≡ 1 → ⊥) → supplied_bytes P ≡ []
unfolding as_places supplied_bytes
nothing_handed (agreed none) not_found = refl
nothing_handed (agreed (some x)) not_found = absurd (not_found refl)
nothing_handed (refused_by w n at) not_found = refl

pub hands_back : (edition : Edition) → HandsBack edition (λ q s o a. a ≡ wm_pair (as_places (ask_pair (kind_in edition) q s o)))
hands_back edition =
    let very : (q : Question) (s o : List ℕ) → AllVery s o (ask_pair (kind_in edition) q s o) = λ q s o x is. (pairs_answered (kind_in edition)).very_bytes q s o {x = x} is in
    record {
      of_separate = λ q s o bytes p r begins a e h at n is. let m = by_supplier s o p r Separate at n (ask_pair (kind_in edition) q s o) (very q s o) (sym e ∙ is) in (m.0, h.0 ∙ m.1, h.1 ∙ m.2);
      of_own = λ q s o bytes p r begins a e h at n is. let m = by_supplier s o p r Own at n (ask_pair (kind_in edition) q s o) (very q s o) (sym e ∙ is) in (m.0, h.0 ∙ m.1, h.1 ∙ m.2);
      else_empty = λ q s o bytes p r begins a e h not_found. h.0 ∙ nothing_handed (ask_pair (kind_in edition) q s o) (rw e at not_found);
    }

-- WHAT IS TOLD, without whose it is: none, or bytes
abbrev pub kind_for : Option (List ℕ) → ℕ
kind_for none = 0
kind_for (some bs) = 1

abbrev pub bytes_for : Option (List ℕ) → List ℕ
bytes_for none = []
bytes_for (some bs) = bs

pub told_alike : (v w : Option (List ℕ)) → ((kind_for v ≡ kind_for w) × (bytes_for v ≡ bytes_for w)) ↔ (v ≡ w)
told_alike none none = (λ _. refl, λ _. (refl, refl))
told_alike none (some bs) = (λ h. absurd (omega (arith, h.0)), λ e. absurd (not_some e))
told_alike (some bs) none = (λ h. absurd (omega (arith, h.0)), λ e. absurd (not_some (sym e)))
told_alike (some bs) (some cs) = (λ h. ap some h.1, λ e. (refl, some_is e))

pub pair_said : (s o : List ℕ) (P : Paired (Option (Supplied Part))) → AllVery s o P → {v : Option (List ℕ)} → pair_told P ≡ agreed v → ((wm_pair (as_places P)).kind ≡ kind_for v) × (bytes_of s o (wm_pair (as_places P)) ≡ bytes_for v)
unfolding as_places pair_told
pair_said s o (agreed none) very {v} e = rw (← agreed_is e) (refl, refl)
pair_said s o (agreed (some x)) very {v} e = rw (← agreed_is e) (refl, of_whose x.whose x.value (very x refl))
  where
    of_whose : (w : Whose) (y : Part) → VeryBytes (lent_by w s o) y → bytes_of s o (wm_pair_found (wm_whose w) y.at (length y.bytes)) ≡ y.bytes
    of_whose Separate y v = v.bytes
    of_whose Own y v = v.bytes
pair_said s o (refused_by w n at) very e = absurd (not_agreed e)

pub one_said : (p : List ℕ) (j : Judged (Option Part)) → ((y : Part) → j ≡ accepted (some y) → VeryBytes p y) → {v : Option (List ℕ)} → as_told j ≡ accepted v → ((wm_place (as_place j)).kind ≡ kind_for v) × (take (wm_place (as_place j)).length (drop (wm_place (as_place j)).offset p) ≡ bytes_for v)
unfolding as_place as_told
one_said p (accepted none) very e = rw (← accepted_is e) (refl, refl)
one_said p (accepted (some y)) very e = rw (← accepted_is e) (refl, (very y refl).bytes)
one_said p (refused n at) very e = absurd (not_accepted e)
