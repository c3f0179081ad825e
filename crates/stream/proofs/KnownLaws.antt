-- What is known of the sections behind: one law for each way through the code.
use Rattle.std.specs.Prelude.{Result, Ok, Err, Some, None}
use Prim.Native.Nat.{ℕ, zero, suc, ◌+◌, ◌*◌, ◌/◌, ◌%◌, ◌-◌, ◌≤◌, ◌<◌}
use mathlib.Core.Bool.{Bool, true, false, cond, ◌||◌}
use mathlib.Core.Option.{none, some}
use mathlib.Core.List.{[]}
use mathlib.Core.Path.{◌≡◌, refl, sym, ap, ◌∙◌}
use native.Mathlib.Omega.{arith}
use borrow.Author.Rules.{rules}
use borrow.Author.Tests.{eq-eqb, ne_eqb, eqb-true, eqb-false}
use lib.Dec.{eqb}
use Rattle.format.specs.Options.{or_else}
use Rattle.format.specs.Reading.{got, accepted}
use Rattle.format.specs.Walk.{rank, is_row, name_rules}
use Rattle.format.specs.Laws.Outcomes.{by_test, not_got, false_true}
use Rattle.format.specs.declared.Reason.{Reason}
use Rattle.walk.specs.Sections.{bit, seen_of, ruling, NameRuled, Sees}
use Rattle.walk.specs.Returned.{Called}
use Rattle.walk.specs.Returned.{Ruling}
use Rattle.walk.specs.declared.rules.Seen.{Seen}
use Rattle.stream.specs.Stream.{seen_in, place, placed, called_done, plain_done, kept, custom_done}
use Rattle.stream.specs.Calls.{most}
use Rattle.stream.specs.Fields.{flag, spot_of, rows_there, row_number, place_from, first_row}
use Rattle.stream.specs.Phases.{CallsRow, seen_so, blank_at}
use Rattle.stream.specs.Known.{done_of, known_in, between_at, skipping_at, paying_at, Behind, with_place, called_so, AfterCustom}
use Rattle.stream.specs.declared.Spot.{Spot}
use Rattle.stream.specs.declared.Stream.{Stream}
use Rattle.stream.specs.declared.known.Known.{Known}
use Rattle.stream.proofs.SectionLaws.{some_so, mixed}

pub spot_kept : {there : Bool} (p : Spot) → there ≡ true → p ≡ spot_of (place_from there p)
spot_kept p e = rw e

pub spot_dropped : {there : Bool} (p : Spot) → there ≡ false → record { offset = 0; length = 0 } ≡ spot_of (place_from there p)
spot_dropped p e = rw e

pub known_is : (f : Stream) (at : ℕ) {seen : Seen} → seen ≡ seen_so f → record { at = at; count = f.count; seen = seen; name = f.name; hints = f.hints; older = f.older } ≡ known_in f at
known_is f at e = rw e

pub ruleset spots = (spot_kept, spot_dropped, known_is, rules)

-- THE STATES THAT IT LEADS TO

-- a digit and its flag
digit : (n : ℕ) → flag (eqb (n % 2) 1) ≡ n % 2
digit n =
    by_test (eqb (n % 2) 1)
    (λ t. rw t (sym (eqb-true (n % 2) 1 t)))
    (λ t. rw t (let h = eqb-false (n % 2) 1 t in omega arith))

rows_kept : (k : Known) → rows_there (done_of k).told ≡ k.seen.there % 8
rows_kept k =
    let there = k.seen.there in
    (λ i. flag (some_so (bit there 0) k.name i) + 2 * flag (some_so (bit there 1) k.hints i) + 4 * flag (some_so (bit there 2) k.older i))
    ∙ (λ i. digit there i + 2 * digit (there / 2) i + 4 * digit (there / 2 / 2) i)
    ∙ omega arith

module _ (k : Known) (total : ℕ) {x : Stream} (e : x ≡ blank_at total 1) where
  abbrev kept_so : (name hints older : Spot) (code : ℕ) → Stream
  kept_so name hints older code = record {
    total = x.total;
    count = k.count;
    name = name;
    hints = hints;
    older = older;
    at = x.at;
    begins = x.begins;
    text = x.text;
    left = x.left;
    rest = x.rest;
    low = x.low;
    least = x.least;
    point = x.point;
    phase = x.phase;
    refusal = x.refusal;
    rank = k.seen.rank;
    code = code;
    there = k.seen.there % 8;
    id = x.id;
    come = x.come;
    wanted = x.wanted;
    met = x.met;
    row = x.row;
  }

  pub between_is : {name hints older : Spot} {code : ℕ} → code ≡ flag k.seen.code → name ≡ spot_of (place_from (bit k.seen.there 0) k.name) → hints ≡ spot_of (place_from (bit k.seen.there 1) k.hints) → older ≡ spot_of (place_from (bit k.seen.there 2) k.older) → kept_so name hints older code ≡ between_at total k
  between_is c n h o = rw (c, n, h, o, rows_kept k, e)

pub ruleset betweens = (between_is, rules)

module _ (k : Known) {total : ℕ} {x : Stream} (e : x ≡ between_at total k) where
  pub skipping_is : (at left : ℕ) → mixed x 4 x.id at left x.come x.low x.begins x.text x.rest x.wanted x.least x.point x.met x.row x.refusal ≡ skipping_at total k at left
  skipping_is at left = ap (λ x. mixed x 4 x.id at left x.come x.low x.begins x.text x.rest x.wanted x.least x.point x.met x.row x.refusal) e

  row_again : (n : ℕ) → n ≡ row_number (first_row n)
  row_again zero = refl
  row_again (suc n) = refl

  pub paying_is : (at left row text : ℕ) → mixed x 7 x.id at left x.come x.low x.begins text x.rest x.wanted x.least x.point x.met row x.refusal ≡ paying_at total k at left row text
  paying_is at left row text =
      ap (λ x. mixed x 7 x.id at left x.come x.low x.begins text x.rest x.wanted x.least x.point x.met row x.refusal) e
      ∙ ap (λ n. mixed (between_at total k) 7 0 at left 0 0 0 text 0 0 0 0 (record { name = 0; hints = 0; older = 0 }) n 0) (row_again row)

pub ruleset states = (skipping_is, paying_is, rules)

-- BEHIND A SECTION THAT IS NOT CUSTOM

-- it leaves the places as they are
none_placed : (before : Bool) (now : Bool) (spot : Spot) → now ≡ (before || false) → place_from now spot ≡ or_else (place_from before spot) none
none_placed true now spot e = rw e
none_placed false now spot e = rw e

module _ (k : Known) (id : ℕ) {next : Seen} (q : Sees k.seen id None next) where
  there_so : (row : ℕ) → bit next.there row ≡ (bit k.seen.there row || false)
  there_so row = q.there_is.says row

  pub plain_is : (to : ℕ) {r : Known} → (r.at ≡ to) × (r.count ≡ k.count + 1) × (r.seen ≡ next) × (r.name ≡ k.name) × (r.hints ≡ k.hints) × (r.older ≡ k.older) → Behind (plain_done (done_of k) id) to r
  plain_is to {r} (a, c, s, n, h, o) =
      let up : k.count + 1 ≡ suc k.count = omega arith in
      record {
        at = a;
        done = λ i. record {
          rank = (ap (λ x. x.rank) s ∙ q.rank_is) i;
          code = (ap (λ x. x.code) s ∙ q.code_is) i;
          told = record {
            count = (c ∙ up) i;
            name = ((λ j. place_from (bit (s j).there 0) (n j)) ∙ none_placed (bit k.seen.there 0) (bit next.there 0) k.name (there_so 0)) i;
            hints = ((λ j. place_from (bit (s j).there 1) (h j)) ∙ none_placed (bit k.seen.there 1) (bit next.there 1) k.hints (there_so 1)) i;
            older = ((λ j. place_from (bit (s j).there 2) (o j)) ∙ none_placed (bit k.seen.there 2) (bit next.there 2) k.older (there_so 2)) i;
          };
        };
      }

pub ruleset plains = (plain_is, rules)

-- BEHIND A CUSTOM ONE

pub row_other : CallsRow 0 None
row_other = record { row_is = refl; known = tt }

pub row_called : (row : ℕ) → row ≤ 3 → (row ≡ 0 → ⊥) → CallsRow row (Some (row - 1))
row_called zero h n = absurd (n refl)
row_called (suc row) h n =
    let one : suc row - 1 ≡ row = omega arith in
    record { row_is = ap some one; known = omega arith }

pub other_at : {row : ℕ} → row ≡ 0 → CallsRow row None
other_at e = rw e row_other

pub ruleset rows = (row_called, other_at, rules)

module _ (k : Known) (spot : Spot) where
  pub name_place : {row : ℕ} → row ≡ 1 → record { at = k.at; count = k.count; seen = k.seen; name = spot; hints = k.hints; older = k.older } ≡ with_place k row spot
  name_place e = rw e

  pub hint_place : {row : ℕ} → row ≡ 2 → record { at = k.at; count = k.count; seen = k.seen; name = k.name; hints = spot; older = k.older } ≡ with_place k row spot
  hint_place e = rw e

  pub older_place : {row : ℕ} → row ≡ 3 → record { at = k.at; count = k.count; seen = k.seen; name = k.name; hints = k.hints; older = spot } ≡ with_place k row spot
  older_place e = rw e

  pub no_place : {row : ℕ} → (row ≡ 1 → ⊥) → (row ≡ 2 → ⊥) → (row ≡ 3 → ⊥) → k ≡ with_place k row spot
  no_place {row} a b c = rw (ne_eqb row 1 a, ne_eqb row 2 b, ne_eqb row 3 c)

pub ruleset placing = (name_place, hint_place, older_place, no_place, rules)

row_here : (row k : ℕ) → is_row (first_row row) k ≡ eqb row (suc k)
row_here zero k = sym (ne_eqb 0 (suc k) (λ e. absurd (omega arith)))
row_here (suc j) k =
    by_test (eqb j k)
    (λ t. t ∙ sym (eq-eqb (suc j) (suc k) (ap suc (eqb-true j k t))))
    (λ t. t ∙ sym (ne_eqb (suc j) (suc k) (λ e. other t (omega arith))))
  where
    other : eqb j k ≡ false → j ≡ k → ⊥
    other t e = false_true (sym t ∙ eq-eqb j k e)

-- a place that is put where none was
put : (there here : Bool) (spot before : Spot) → (here ≡ true → there ≡ false) → place_from (there || here) (cond here spot before) ≡ or_else (place_from there before) (cond here (some (place spot.offset spot.length)) none)
put true true spot before h = false_true (sym (h refl))
put true false spot before h = refl
put false true spot before h = refl
put false false spot before h = refl

-- a row whose rules are kept was not there
not_there : (seen : _) (id row : ℕ) → name_rules seen id (some row) 0 [] ≡ got tt 0 [] → seen.there row ≡ false
unfolding name_rules
not_there seen id row e =
    by_test (seen.there row)
    (λ t. absurd (not_got (rw t at e)))
    (λ t. t)

-- the walk's rules know of the code's numbers what they know of the definition's
name_same : (k : Known) (id row : ℕ) → row ≤ 3 → name_rules (seen_in (done_of k)) id (first_row row) 0 [] ≡ name_rules (seen_of k.seen) id (first_row row) 0 []
unfolding name_rules
name_same k id zero h = refl
name_same k id (suc zero) h = rw (some_so (bit k.seen.there 0) k.name)
name_same k id (suc (suc zero)) h = rw (some_so (bit k.seen.there 1) k.hints)
name_same k id (suc (suc (suc zero))) h = rw (some_so (bit k.seen.there 2) k.older)
name_same k id (suc (suc (suc (suc row)))) h = absurd (omega arith)

at_is : {x y : Known} → ◌≡◌ {A = Result Known Reason} (Ok x) (Ok y) → y.at ≡ x.at
at_is {x} {y} f = let s : x ≡ y = cc in ap (λ x. x.at) (sym s)

not_behind : {why : Reason} {next : Known} → ◌≡◌ {A = Result Known Reason} (Err why) (Ok next) → ⊥
not_behind e = let w : ◌≡◌ {A = ℕ} 1 0 = cc in omega arith

-- without a row it is as if it were not custom
pub after_other : (k : Known) {row : ℕ} (spot : Spot) {to : ℕ} {next : Known} → row ≡ 0 → Behind (plain_done (done_of k) 0) to next → AfterCustom k row spot to (Ok next)
unfolding custom_done name_rules
after_other k spot e b = record { says = λ id. rw e (ap accepted (sym b.done)); at = λ x f. at_is f ∙ b.at }

module _ (k : Known) (row : ℕ) (spot : Spot) (to : ℕ) (m : (k.count < most) × (row ≤ 3)) {called : Called} (c : CallsRow row called) where
  ruled : {v : Ruling} → NameRuled k.seen called v → (id : ℕ) → name_rules (seen_in (done_of k)) id (first_row row) 0 [] ≡ ruling v id 0 []
  ruled q id = name_same k id row m.1 ∙ sym (q.says id 0 [] ∙ ap (λ x. name_rules (seen_of k.seen) id x 0 []) c.row_is)

  judged : {v : Ruling} → NameRuled k.seen called v → (id : ℕ) → custom_done (done_of k) id (accepted (called_so row spot)) ≡ kept (ruling v id 0 []) (called_done (done_of k) (called_so row spot))
  unfolding custom_done
  judged q id = ap (λ x. kept x (called_done (done_of k) (called_so row spot))) (ruled q id)

  pub after_against : {why : Reason} → NameRuled k.seen called (Err why) → AfterCustom k row spot to (Err why)
  after_against q = record { says = λ id. judged q id; at = λ next f. absurd (not_behind f) }

  module _ (q : NameRuled k.seen called (Ok tt)) {next : Seen} (w : Sees k.seen 0 called next) where
    fresh_row : (j : ℕ) → is_row (first_row row) j ≡ true → bit k.seen.there j ≡ false
    fresh_row j h = not_there (seen_of k.seen) 0 j (ap (λ x. name_rules (seen_of k.seen) 0 x 0 []) (sym (is row h)) ∙ sym (name_same k 0 row m.1) ∙ ruled q 0)
      where
        is : (n : ℕ) → is_row (first_row n) j ≡ true → first_row n ≡ some j
        is zero h = false_true h
        is (suc n) h = ap some (eqb-true n j h)

    there_after : (j : ℕ) → bit next.there j ≡ (bit k.seen.there j || is_row (first_row row) j)
    there_after j = w.there_is.says j ∙ ap (λ x. bit k.seen.there j || is_row x j) c.row_is

    -- the place of a row
    placed_so : (j : ℕ) (before : Spot) → place_from (bit next.there j) (cond (eqb row (suc j)) spot before) ≡ placed (place_from (bit k.seen.there j) before) (first_row row) j (place spot.offset spot.length)
    placed_so j before =
        ap (λ x. place_from (bit next.there j) (cond x spot before)) (sym (row_here row j))
        ∙ ap (λ b. place_from b (cond (is_row (first_row row) j) spot before)) (there_after j)
        ∙ put (bit k.seen.there j) (is_row (first_row row) j) spot before (fresh_row j)

    pub after_behind : {g : Known} → g ≡ with_place k row spot → AfterCustom k row spot to (Ok (record { at = to; count = k.count + 1; seen = next; name = g.name; hints = g.hints; older = g.older }))
    after_behind {g} p =
        let up : k.count + 1 ≡ suc k.count = omega arith in
        record {
          says = λ id. judged q id ∙ ap accepted (sym (λ i. record {
            rank = w.rank_is i;
            code = w.code_is i;
            told = record {
              count = up i;
              name = (ap (λ x. place_from (bit next.there 0) x.name) p ∙ placed_so 0 k.name) i;
              hints = (ap (λ x. place_from (bit next.there 1) x.hints) p ∙ placed_so 1 k.hints) i;
              older = (ap (λ x. place_from (bit next.there 2) x.older) p ∙ placed_so 2 k.older) i;
            };
          }));
          at = λ x f. at_is f;
        }

pub ruleset afters = (after_other, after_against, after_behind, rules)
