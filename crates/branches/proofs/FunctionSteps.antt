-- The functions of an accepted hint payload, one after the other.
use Rattle.std.specs.Prelude.{Result, Ok, Err, Some, None}
use Prim.Native.Nat.{ℕ, suc, ◌-◌, ◌≤◌, ◌<◌}
use mathlib.Core.List.{List, [], ◌∷◌}
use mathlib.Core.Option.{Option, none, some}
use mathlib.Core.Path.{◌≡◌, refl, sym, ap, ◌∙◌}
use native.Mathlib.Omega.{arith}
use borrow.Author.Rules.{rules}
use Rattle.format.specs.Numbers.{number}
use Rattle.format.specs.Older.{times, vector}
use Rattle.format.specs.Parts.{Part, sized}
use Rattle.format.specs.Reading.{accepted, refused}
use Rattle.format.specs.Verdicts.{verdict_of}
use Rattle.format.specs.Laws.Outcomes.{in_turn, got_value, got_next, got_rest}
use Rattle.format.specs.declared.Reason.TheVariants.{NoBody}
use Rattle.format.specs.declared.Refusal.{Refusal}
use Rattle.format.specs.Returned.{Verdict}
use Rattle.reading.specs.Cursors.{Inside, left, part_of}
use Rattle.reading.specs.Standing.{Stands, Known}
use Rattle.reading.specs.declared.Cursor.{Cursor}
use Rattle.reading.specs.declared.again.Number.{Number}
use Rattle.reading.proofs.Standing.{stand, one_value, one_end}
use Rattle.older.proofs.ReadAgain.{times_none}
use Rattle.branches.specs.Bodies.{body_of, seat_in}
use Rattle.branches.specs.Branches.{each_hint, hints_of, one_function, each_function}
use Rattle.branches.specs.Functions.{Opened, placed, Onward, Turns, Listed, Checks}
use Rattle.branches.specs.Hints.{Placed, Hints, placed_row, placed_rows, function_hints, all_hints}
use Rattle.branches.specs.Laws.Hints.{RisingHints, RisingFunctions}
use Rattle.branches.specs.Lists.{Kept, SameFrom, Finding, Looks}
use Rattle.branches.specs.Reads.{refusal_with}
use Rattle.branches.specs.Sitting.{Ready, SitsIn}
use Rattle.branches.specs.declared.bodies.Bodies.{Bodies}
use Rattle.branches.specs.Returned.{Sat}
use Rattle.branches.proofs.HintSteps.{rising_first}
use Rattle.branches.proofs.LookLaws.{some_more}
use Rattle.branches.proofs.RowLaws.{number_passable, sized_passable, rows_passable, NextRow, next_row}

-- one function, by its hints and its body
function_without : (first : ℕ) (parts : List Part) (at f : ℕ) (hs : Hints) → [] ≡ hs → one_function first parts (record { at = at; number = f; value = hs }) ≡ accepted tt
unfolding one_function
function_without first parts at f hs e = without (body_of first parts f) hs e
  where
    without : (found : Option Part) (hs : Hints) → [] ≡ hs → hints_of at found hs ≡ accepted tt
    without found hs e = rw (← e)

some_hints : (first : ℕ) (parts : List Part) (at f : ℕ) (hs : Hints) {h : Placed Part} {more : Hints} → hs ≡ h ∷ more → {body : Part} → body_of first parts f ≡ some body → one_function first parts (record { at = at; number = f; value = hs }) ≡ each_hint (seat_in body) hs
unfolding one_function
some_hints first parts at f hs e is = rw (is, e)

no_body : (first : ℕ) (parts : List Part) (at f : ℕ) (hs : Hints) {h : Placed Part} {more : Hints} → hs ≡ h ∷ more → body_of first parts f ≡ none → one_function first parts (record { at = at; number = f; value = hs }) ≡ refused 19 at
unfolding one_function
no_body first parts at f hs e is = rw (is, e)

-- all bodies serve all functions
all_onward : {s : List ℕ} {bodies : Bodies} (k : Kept s bodies) (function : ℕ) → Onward s bodies k.parts function bodies
all_onward k function = record { kept = k; same = λ f l. refl }

module _ {s : List ℕ} {next : Cursor} (o : Opened s next) where
  pub index_known : Known number s next
  index_known = record { value = o.function; next = o.middle; stands = o.index }

  module _ {x : Number} (a : Stands number s next x.value x.next) where
    same_function : o.function ≡ x.value
    same_function = one_value o.index a

    same_middle : o.middle ≡ x.next
    same_middle = one_end o.index a

    counted : Stands number s x.next o.n o.rows
    counted = rw same_middle at o.count

    pub count_known : Known number s x.next
    count_known = record { value = o.n; next = o.rows; stands = counted }

    module _ {y : Number} (b : Stands number s x.next y.value y.next) where
      same_n : o.n ≡ y.value
      same_n = one_value counted b

      same_rows : o.rows ≡ y.next
      same_rows = one_end counted b

      rows_stand : Stands (times (placed_row sized) y.value) s y.next o.hints o.behind
      rows_stand = rw (same_n, same_rows) at o.stand

      pub rows_ready : Ready s y.next y.value
      rows_ready = record { hints = o.hints; last = o.behind; stand = rows_stand; rising = o.rising }

      pub turn_without : {bodies : Bodies} → Kept s bodies → y.value ≡ 0 → Turns s next bodies (Ok (y.next, bodies))
      turn_without {bodies} k z =
          let end = times_none (placed_row sized) y.value (omega (arith, z)) rows_stand in
          record { opened = o; kept = k; says = (end.1, function_without bodies.first k.parts next.at o.function o.hints end.0, all_onward k o.function) }

      module _ (z : y.value ≡ 0 → ⊥) where
        pub rows_some : 0 < y.value
        rows_some = some_more y.value z

        first_hint : NextRow sized s y.next y.value o.hints o.behind
        first_hint = next_row sized_passable y.value rows_some rows_stand

        module _ {bodies : Bodies} where
          pub turn_no_body : {r : Refusal} → Looks s bodies x.value None → r ≡ refusal_with NoBody next.at → Turns s next bodies (Err r)
          turn_no_body l is =
              rw is (record { opened = o; kept = l.kept; says = no_body bodies.first l.kept.parts next.at o.function o.hints first_hint.is (rw same_function l.says) })

          module _ {body : Cursor} {behind : Bodies} (l : Looks s bodies x.value (Some (body, behind))) where
            looked : Finding s bodies x.value l.kept.parts body behind
            looked = l.says

            pub body_inside : Inside s body
            body_inside = looked.inside

            module _ {sat : Sat} (g : SitsIn s y.next y.value body sat) where
              judged : one_function bodies.first l.kept.parts (placed next o) ≡ each_hint (seat_in (part_of s body)) g.ready.hints
              judged = some_hints bodies.first l.kept.parts next.at o.function o.hints first_hint.is (rw same_function looked.is) ∙ ap (each_hint (seat_in (part_of s body))) (one_value rows_stand g.ready.stand)

            pub turn_refused : {r : Refusal} → SitsIn s y.next y.value body (Err r) → Turns s next bodies (Err r)
            turn_refused g = record { opened = o; kept = l.kept; says = judged g ∙ g.says }

            pub turn_goes : {after : Cursor} → SitsIn s y.next y.value body (Ok after) → Turns s next bodies (Ok (after, behind))
            turn_goes g = record { opened = o; kept = l.kept; says = (g.says.0 ∙ sym (one_end rows_stand g.ready.stand), judged g ∙ g.says.1, record { kept = looked.left; same = λ f h. looked.same f (omega (arith, h, same_function)) }) }

pub ruleset function_steps = (index_known, count_known, rows_ready, turn_without, rows_some, turn_no_body, body_inside, turn_refused, turn_goes, rules)

-- What stands there is one function only
one_opened : {s : List ℕ} {next : Cursor} (o p : Opened s next) → (o.function ≡ p.function) × (o.hints ≡ p.hints) × (o.behind ≡ p.behind)
one_opened {s} o p =
    let middle = one_end o.index p.index in
    let count : Stands number s p.middle o.n o.rows = rw middle at o.count in
    let n = one_value count p.count in
    let rows = one_end count p.count in
    let all : Stands (times (placed_row sized) p.n) s p.rows o.hints o.behind = rw (n, rows) at o.stand in
    (one_value o.index p.index, one_value all p.stand, one_end all p.stand)

one_parts : {s : List ℕ} {bodies : Bodies} (k l : Kept s bodies) → k.parts ≡ l.parts
one_parts k l = one_value k.stand l.stand

-- the next function of those to come
opened_next : {s : List ℕ} {next : Cursor} {more : ℕ} {to_come_lem : List (Placed Hints)} {last : Cursor} (r : NextRow (placed_rows sized) s next more to_come_lem last) → RisingHints 0 r.value → (o : Opened s next) × (o.function ≡ r.first) × (o.hints ≡ r.value) × (o.behind ≡ r.behind)
unfolding placed_rows vector
opened_next {s} r rise =
    in_turn (number r.middle.at (left s r.middle)) _ r.content.reads λ n o₁ r₁ e₁ e₂.
    let count = stand number_passable r.content.inside e₁ in
    let same = got_rest (sym e₁ ∙ count.reads) in
    let rows : Cursor = record { at = o₁; end = r.middle.end } in (
      record {
        function = r.first;
        n = n;
        hints = r.value;
        middle = r.middle;
        rows = rows;
        behind = r.behind;
        index = r.index;
        count = count;
        stand = record { inside = count.behind; reads = rw same at e₂; behind = r.content.behind; same_end = r.content.same_end };
        rising = rise;
      },
      refl,
      refl,
      refl,
    )

-- the functions of a payload, behind their number
list_rows : {s : List ℕ} {payload : Cursor} {v : ℕ} {c : Cursor} (l : Listed s payload) → Stands number s payload v c → Stands (times function_hints v) s c l.functions l.last
unfolding all_hints vector
list_rows {s} {payload} l a =
    in_turn (number payload.at (left s payload)) _ l.stand.reads λ n o₁ r₁ e₁ e₂.
    let same = sym e₁ ∙ a.reads in
    record { inside = a.behind; reads = rw (got_value same, got_next same, got_rest same) at e₂; behind = l.stand.behind; same_end = l.stand.same_end ∙ sym a.same_end }

pub list_known : {s : List ℕ} {payload : Cursor} → Listed s payload → Known number s payload
unfolding all_hints vector
list_known {s} {payload} l =
    in_turn (number payload.at (left s payload)) _ l.stand.reads λ n o₁ r₁ e₁ e₂.
    record { value = _; next = _; stands = stand number_passable l.stand.inside e₁ }

-- one function is judged alike by bodies that are the same for it
judged_alike : (first first' : ℕ) (parts parts' : List Part) (f : Placed Hints) → body_of first parts f.number ≡ body_of first' parts' f.number → one_function first parts f ≡ one_function first' parts' f
unfolding one_function
judged_alike first first' parts parts' f e = rw e

-- Whenever the loop's test is reached
pub record Going (s : List ℕ) (begun : Cursor) (n : ℕ) (all : Bodies) (next : Cursor) (more : ℕ) (bodies : Bodies) : Type 0 where
  pub functions : List (Placed Hints)
  pub last : Cursor
  pub whole : Stands (times function_hints n) s begun functions last
  pub all_kept : Kept s all
  pub kept : Kept s bodies
  pub to_come_lem : List (Placed Hints)
  pub rest : Stands (times function_hints more) s next to_come_lem last
  pub least : ℕ
  pub rising : RisingFunctions least to_come_lem
  pub same_bodies : SameFrom least all.first all_kept.parts bodies.first kept.parts
  pub same : each_function all.first all_kept.parts functions ≡ each_function all.first all_kept.parts to_come_lem

module _ {s : List ℕ} {payload : Cursor} {all : Bodies} {x : Number} where
  pub going_begins : Listed s payload → Stands number s payload x.value x.next → Kept s all → Going s x.next x.value all x.next x.value all
  going_begins l a k =
      let rows = list_rows l a in
      record { functions = l.functions; last = l.last; whole = rows; all_kept = k; kept = k; to_come_lem = l.functions; rest = rows; least = 0; rising = l.rising; same_bodies = λ f h. refl; same = refl }

module _ {s : List ℕ} {begun : Cursor} {n : ℕ} {all : Bodies} {next : Cursor} {more : ℕ} {bodies : Bodies} (t : Going s begun n all next more bodies) where
  pub going_kept : Kept s bodies
  going_kept = t.kept

  -- what the rest comes to, all comes to
  checked : {payload : Cursor} {r : Verdict} → Listed s payload → Stands number s payload n begun → verdict_of r ≡ each_function all.first t.all_kept.parts t.to_come_lem → Checks s payload all r
  checked l a e = record { listed = l; kept = t.all_kept; says = e ∙ sym t.same ∙ ap (each_function all.first t.all_kept.parts) (one_value t.whole (list_rows l a)) }

  pub going_ended : {payload : Cursor} → Listed s payload → Stands number s payload n begun → more ≤ 0 → Checks s payload all (Ok tt)
  unfolding each_function
  going_ended l a h = checked l a (ap (each_function all.first t.all_kept.parts) (times_none function_hints more h t.rest).0)

  module _ (h : 0 < more) where
    next_function : NextRow (placed_rows sized) s next more t.to_come_lem t.last
    unfolding function_hints
    next_function = next_row (rows_passable sized_passable) more h t.rest

    rises : (t.least ≤ next_function.first) × RisingHints 0 next_function.value × RisingFunctions (suc next_function.first) next_function.others
    rises = rising_first (rw next_function.is at t.rising)

    the_next : (o : Opened s next) × (o.function ≡ next_function.first) × (o.hints ≡ next_function.value) × (o.behind ≡ next_function.behind)
    the_next = opened_next next_function rises.1

    pub going_opened : Opened s next
    going_opened = the_next.0

    module _ {y : Result (Cursor × Bodies) Refusal} (g : Turns s next bodies y) where
      alike : (g.opened.function ≡ next_function.first) × (g.opened.hints ≡ next_function.value) × (g.opened.behind ≡ next_function.behind)
      alike =
          let (o, f, hs, b) = the_next in
          let q = one_opened g.opened o in
          (q.0 ∙ f, q.1 ∙ hs, q.2 ∙ b)

      first_is : t.to_come_lem ≡ placed next g.opened ∷ next_function.others
      first_is = let q = alike in next_function.is ∙ (λ i. record { at = next.at; number = sym q.0 i; value = sym q.1 i } ∷ next_function.others)

      first_judged : one_function all.first t.all_kept.parts (placed next g.opened) ≡ one_function bodies.first g.kept.parts (placed next g.opened)
      first_judged = judged_alike all.first bodies.first t.all_kept.parts g.kept.parts (placed next g.opened) (t.same_bodies g.opened.function (omega (arith, rises.0, alike.0)) ∙ ap (λ ps. body_of bodies.first ps g.opened.function) (one_parts t.kept g.kept))

    pub going_refused : {payload : Cursor} {r : Refusal} → Listed s payload → Stands number s payload n begun → Turns s next bodies (Err r) → Checks s payload all (Err r)
    unfolding each_function
    going_refused l a g = checked l a (sym (ap (each_function all.first t.all_kept.parts) (first_is g) ∙ rw (first_judged g ∙ g.says)))

    pub going_on : {after : Cursor} {behind : Bodies} → Turns s next bodies (Ok (after, behind)) → Going s begun n all after (more - 1) behind
    unfolding each_function function_hints
    going_on {after} g =
        let said = g.says in
        let there : next_function.behind ≡ after = sym (alike g).2 ∙ sym said.0 in
        record {
          functions = t.functions;
          last = t.last;
          whole = t.whole;
          all_kept = t.all_kept;
          kept = said.2.kept;
          to_come_lem = next_function.others;
          rest = rw there at next_function.rest;
          least = suc next_function.first;
          rising = rises.2;
          same_bodies = λ f l. t.same_bodies f (omega (arith, l, rises.0)) ∙ ap (λ ps. body_of bodies.first ps f) (one_parts t.kept g.kept) ∙ said.2.same f (omega (arith, l, (alike g).0));
          same = t.same ∙ ap (each_function all.first t.all_kept.parts) (first_is g) ∙ rw (first_judged g ∙ said.1);
        }

pub ruleset going = (going_begins, list_known, going_kept, going_ended, going_opened, going_refused, going_on, rules)
