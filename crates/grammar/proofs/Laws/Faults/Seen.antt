-- What the walk has seen of sections, said of the sections themselves.
use Rattle.std.specs.Prelude.{ℕ, ◌≤◌, true, false, List, [], ◌∷◌, ◌≢◌, ◌≡◌, refl, eqb}
use Rattle.std.proofs.Math.Option.{some}
use Rattle.std.proofs.Common.{◌∙◌, arith, eqb-true, eq-eqb, ne_eqb}
use Rattle.std.proofs.lemmas.Bool.{eqb-false}
use Rattle.format.specs.Walk.{rank, Seen, is_row}
use Rattle.format.specs.Laws.Outcomes.{by_test}
use Rattle.grammar.specs.Modules.{Section, Among, here, further}
use Rattle.grammar.specs.Laws.Ranks.{either, left, right}
use Rattle.grammar.specs.Laws.Rows.{row_in, is_this_row, this_row_is}
use Rattle.grammar.proofs.Laws.Order.{after, Run, end, step}

abbrev pub after_all : Seen → List Section → Seen
after_all seen [] = seen
after_all seen (s ∷ ss) = after_all (after seen s) ss

-- the rank behind one more
same_rank : (seen : Seen) (s : Section) → eqb s.id 0 ≡ true → (after seen s).rank ≡ seen.rank
same_rank seen s t = rw t

new_rank : (seen : Seen) (s : Section) → eqb s.id 0 ≡ false → (after seen s).rank ≡ rank s.id
new_rank seen s t = rw t

-- what was seen stays seen
code_stays : (seen : Seen) (ss : List Section) → seen.code ≡ true → (after_all seen ss).code ≡ true
code_stays seen [] e = e
code_stays seen (s ∷ ss) e = code_stays (after seen s) ss (left seen.code (eqb s.id 10) e)

there_stays : (seen : Seen) (ss : List Section) (row : ℕ) → seen.there row ≡ true → (after_all seen ss).there row ≡ true
there_stays seen [] row e = e
there_stays seen (s ∷ ss) row e = there_stays (after seen s) ss row (left (seen.there row) (is_row (row_in s.custom) row) e)

rank_rises : {seen : Seen} {ss : List Section} → Run seen ss → seen.rank ≤ (after_all seen ss).rank
rank_rises end = omega arith
rank_rises (step {seen = seen} {s = s} h r) =
    by_test (eqb s.id 0)
    (λ t. omega (arith, rank_rises r, same_rank seen s t))
    (λ t. omega (arith, rank_rises r, new_rank seen s t, h.order (eqb-false s.id 0 t)))

-- each section is seen
pub code_seen : {s : Section} (seen : Seen) {ss : List Section} → Among s ss → s.id ≡ 10 → (after_all seen ss).code ≡ true
code_seen {s = s} seen (here {xs = xs}) e = code_stays (after seen s) xs (right seen.code (eqb s.id 10) (eq-eqb s.id 10 e))
code_seen seen (further {x = x} a) e = code_seen (after seen x) a e

pub there_seen : {s : Section} (seen : Seen) {ss : List Section} {row : ℕ} → Among s ss → row_in s.custom ≡ some row → (after_all seen ss).there row ≡ true
there_seen {s = s} seen {row = row} (here {xs = xs}) e = there_stays (after seen s) xs row (right (seen.there row) (is_row (row_in s.custom) row) (is_this_row e))
there_seen seen (further {x = x} a) e = there_seen (after seen x) a e

pub rank_seen : {seen : Seen} {ss : List Section} {s : Section} → Run seen ss → Among s ss → s.id ≢ 0 → rank s.id ≤ (after_all seen ss).rank
rank_seen end a n = elim a [ ]
rank_seen {s = s} (step {seen = seen} h r) here n = omega (arith, rank_rises r, new_rank seen s (ne_eqb s.id 0 n))
rank_seen (step h r) (further a) n = rank_seen r a n

-- and nothing else is
pub code_from {ℓ} : {C : Type ℓ} (seen : Seen) (ss : List Section) → (after_all seen ss).code ≡ true → (seen.code ≡ true → C) → ((s : Section) → Among s ss → s.id ≡ 10 → C) → C
code_from seen [] e old new = old e
code_from seen (s ∷ ss) e old new = code_from (after seen s) ss e (λ t. either seen.code (eqb s.id 10) t old (λ t. new s here (eqb-true s.id 10 t))) (λ t a. new t (further a))

pub there_from {ℓ} : {C : Type ℓ} (seen : Seen) (ss : List Section) (row : ℕ) → (after_all seen ss).there row ≡ true → (seen.there row ≡ true → C) → ((s : Section) → Among s ss → row_in s.custom ≡ some row → C) → C
there_from seen [] row e old new = old e
there_from seen (s ∷ ss) row e old new = there_from (after seen s) ss row e (λ t. either (seen.there row) (is_row (row_in s.custom) row) t old (λ t. new s here (this_row_is (row_in s.custom) t))) (λ t a. new t (further a))

pub rank_from {ℓ} : {C : Type ℓ} (seen : Seen) (ss : List Section) → ((after_all seen ss).rank ≡ seen.rank → C) → ((s : Section) → Among s ss → s.id ≢ 0 → (after_all seen ss).rank ≡ rank s.id → C) → C
rank_from seen [] old new = old refl
rank_from seen (s ∷ ss) old new =
    rank_from (after seen s) ss
    (λ e. by_test (eqb s.id 0) (λ t. old (e ∙ same_rank seen s t)) (λ t. new s here (eqb-false s.id 0 t) (e ∙ new_rank seen s t)))
    (λ t a. new t (further a))
