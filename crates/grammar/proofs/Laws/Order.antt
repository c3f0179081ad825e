-- The rules of order, said of every two sections, are what the walk checks from section to section by what it has seen.
use Rattle.std.specs.Prelude.{ℕ, ◌≤◌, ◌<◌, true, cond, ◌||◌, List, [], ◌∷◌, ◌≢◌, ◌≡◌, refl, eqb}
use Rattle.std.proofs.Math.Option.{some}
use Rattle.std.proofs.Common.{sym, ◌∙◌, arith, eqb-true, eq-eqb, ne_eqb}
use Rattle.std.proofs.lemmas.Bool.{eqb-false}
use Rattle.format.specs.Walk.{greatest_id, rank, name_section, tracked, name_row, before_code, Seen, nothing, is_row}
use Rattle.format.specs.Laws.Outcomes.{by_test, false_true}
use Rattle.grammar.specs.Modules.{Section, Among, here, further, Before, from_here, from_further, Ordered}
use Rattle.grammar.specs.Laws.Ranks.{either, left, right, before_rank, rank_before, ranked, id_known, known_id}
use Rattle.grammar.specs.Laws.Rows.{to_called, from_called, row_in, elem_among, before_code_is, in_row, row_called, row_of_lem, is_this_row, this_row_is}

-- what has been seen demands of a section
pub record Allows (seen : Seen) (t : Section) : Type 0 where
  pub known : t.id ≤ greatest_id
  pub order : t.id ≢ 0 → seen.rank < rank t.id
  pub no_data : seen.there name_row ≡ true → t.id ≢ 11
  pub not_again : (row : ℕ) → row_in t.custom ≡ some row → seen.there row ≡ true → ⊥
  pub not_late : (row : ℕ) → row_in t.custom ≡ some row → before_code row ≡ true → seen.code ≡ true → ⊥

-- what has been seen after one more
abbrev pub after : Seen → Section → Seen
after seen s = record {
  rank = cond (eqb s.id 0) seen.rank (rank s.id);
  code = seen.code || eqb s.id 10;
  there = λ row. seen.there row || is_row (row_in s.custom) row;
}

-- each section is allowed by what was seen before it
pub data Run : Seen → List Section → Type 0 where
  end : {seen : Seen} → Run seen []
  step : {seen : Seen} {s : Section} {ss : List Section} → Allows seen s → Run (after seen s) ss → Run seen (s ∷ ss)

-- FROM PAIRS TO STEPS
module _ {s : Section} {ss : List Section} (o : Ordered (s ∷ ss)) where
  rest_ordered : Ordered ss
  rest_ordered = record {
    known = λ t a. o.known t (further a);
    increasing = λ r t b. o.increasing r t (from_further b);
    one_of_each = λ x i r t b. o.one_of_each x i r t (from_further b);
    data_before_name = λ r t b. o.data_before_name r t (from_further b);
    before_code_lem = λ x i c r t b. o.before_code_lem x i c r t (from_further b);
  }

  still_allowed : (seen : Seen) → (t : Section) → Among t ss → Allows seen t → Allows (after seen s) t
  still_allowed seen t a old = record {
    known = old.known;
    order = λ n. by_test (eqb s.id 0) (λ e. rw e (old.order n)) (λ e. rw e (before_rank (o.increasing s t (from_here a) (eqb-false s.id 0 e) n)));
    no_data = λ e. either (seen.there name_row) _ e old.no_data (λ was. o.data_before_name s t (from_here a) (to_called _ s (row_called s.custom (this_row_is (row_in s.custom) was) refl)));
    not_again = λ row is e. either (seen.there row) _ e (old.not_again row is) (λ was.
        in_row t.custom is λ x there called. o.one_of_each x (elem_among tracked row there) s t (from_here a) (to_called _ s (row_called s.custom (this_row_is (row_in s.custom) was) there)) (to_called _ t called));
    not_late = λ row is c e. either seen.code _ e (old.not_late row is c) (λ code.
        in_row t.custom is λ x there called. o.before_code_lem x (elem_among tracked row there) (sym (before_code_is row there) ∙ c) s t (from_here a) (eqb-true s.id 10 code) (to_called _ t called));
  }

pairs_run : (seen : Seen) (ss : List Section) → Ordered ss → ((t : Section) → Among t ss → Allows seen t) → Run seen ss
pairs_run seen [] o all = end
pairs_run seen (s ∷ ss) o all = step (all s here) (pairs_run (after seen s) ss (rest_ordered o) (λ t a. still_allowed o seen t a (all t (further a))))

pub ordered_run : (ss : List Section) → Ordered ss → Run nothing ss
unfolding nothing
ordered_run ss o = pairs_run nothing ss o λ t a. record {
  known = id_known (o.known t a);
  order = λ n. ranked n (o.known t a);
  no_data = λ e. false_true e;
  not_again = λ row is e. false_true e;
  not_late = λ row is c e. false_true e;
}

-- FROM STEPS TO PAIRS
-- what allows a section after more has been seen allowed it before
lasting : (seen : Seen) (s t : Section) → Allows seen s → Allows (after seen s) t → Allows seen t
lasting seen s t own later = record {
  known = later.known;
  order = λ n. by_test (eqb s.id 0)
      (λ e. rw e at (later.order n))
      (λ e. let above : rank s.id < rank t.id = rw e at (later.order n) in omega (arith, own.order (eqb-false s.id 0 e)));
  no_data = λ e. later.no_data (left (seen.there name_row) _ e);
  not_again = λ row is e. later.not_again row is (left (seen.there row) _ e);
  not_late = λ row is c e. later.not_late row is c (left seen.code _ e);
}

run_allows : {seen : Seen} {ss : List Section} {t : Section} → Run seen ss → Among t ss → Allows seen t
run_allows end a = elim a [ ]
run_allows (step h r) here = h
run_allows {t = t} (step {seen = seen} {s = s} h r) (further a) = lasting seen s t h (run_allows r a)

-- what one section finds, and what it leaves for those after it
record Pair (s t : Section) : Type 0 where
  now : Seen
  first : Allows now s
  second : Allows (after now s) t

run_pair : {seen : Seen} {ss : List Section} {s t : Section} → Run seen ss → Before s t ss → Pair s t
run_pair end b = elim b [ ]
run_pair (step {seen = seen} h r) (from_here a) = record { now = seen; first = h; second = run_allows r a }
run_pair (step h r) (from_further b) = run_pair r b

pub run_ordered : {seen : Seen} {ss : List Section} → Run seen ss → Ordered ss
run_ordered r = record {
  known = λ s a. known_id s.id (run_allows r a).known;
  increasing = λ s t b n m.
      let p = run_pair r b in
      let above : rank s.id < rank t.id = rw (ne_eqb s.id 0 n) at (p.second.order m) in
      rank_before s.id t.id (omega (arith, p.first.order n)) above;
  one_of_each = λ x i s t b c d.
      let p = run_pair r b in
      row_of_lem s i c λ row is there.
      let one : row_in t.custom ≡ some row = rw (d.is, ← is, c.is) in
      p.second.not_again row one (right (p.now.there row) _ (is_this_row is));
  data_before_name = λ s t b c.
      let p = run_pair r b in
      let is : row_in s.custom ≡ some name_row = rw (from_called name_section s c) in
      p.second.no_data (right (p.now.there name_row) _ (is_this_row is));
  before_code_lem = λ x i f s t b c d.
      let p = run_pair r b in
      row_of_lem t i d λ row is there.
      p.second.not_late row is (before_code_is row there ∙ f) (right p.now.code _ (eq-eqb s.id 10 c));
}
