-- Sections whose heads a part has whole: one law for each way through the code.
use Rattle.std.specs.Prelude.{Result, Ok, Some, None}
use Prim.Native.Nat.{ℕ, zero, suc, ◌+◌, ◌-◌, ◌≤◌, ◌<◌}
use mathlib.Core.Bool.{Bool}
use mathlib.Core.List.{List, [], ◌∷◌}
use mathlib.Core.Option.{none}
use mathlib.Core.Path.{◌≡◌, refl, sym, ap, ◌∙◌}
use native.Mathlib.Nat.{zero-add, suc-add}
use native.Mathlib.Omega.{arith}
use borrow.Author.Rules.{rules}
use borrow.Author.Tests.{leb-true, le-leb}
use lib.ListN.{length, take, drop, get_or}
use lib.Seq.{slice, slice-cons, slice_empty, length-slice, take-take, take-nil}
use Rattle.format.specs.Bytes.{same}
use Rattle.format.specs.Reading.{got, accepted}
use Rattle.format.specs.Parts.{name}
use Rattle.format.specs.Walk.{tracked, first_row, id_rules}
use Rattle.format.specs.declared.Reason.{Reason}
use Rattle.reading.specs.Cursors.{Inside, left, NumberReads, PartReads}
use Rattle.reading.specs.declared.Cursor.{Cursor}
use Rattle.reading.specs.Returned.{NumberRead}
use Rattle.reading.specs.Returned.{PartRead}
use Rattle.reading.proofs.Laws.{number_means, number_inside, number_moves, name_means, name_behind}
use Rattle.walk.specs.Sections.{bit, seen_of, ruling, IdRuled, row_called, InTable, Calls}
use Rattle.walk.specs.Returned.{Called}
use Rattle.walk.specs.Returned.{Ruling}
use Rattle.walk.proofs.RowLaws.{row_below}
use Rattle.stream.specs.Contents.{paying, content_ends}
use Rattle.stream.specs.Stream.{seen_in, plain_done, custom_done, Phase, settled, skipping, skip, custom, enter, State, standing, steps}
use Rattle.stream.specs.Calls.{most}
use Rattle.stream.specs.Fields.{row_number, in_phase, held, first_row as row_of}
use Rattle.stream.specs.Fits.{fits}
use Rattle.stream.specs.Phases.{Reaches}
use Rattle.stream.specs.Known.{done_of, between_at, skipping_at, paying_at, Behind, judged_after, AfterCustom, stands, Within, Sized, NameRead, IsCustomHead, CustomHead, HeadRead, PlainRead, CustomRead, head_of, Heads, Here, Read, Onward, Begins, Sectioned}
use Rattle.stream.specs.Laws.Bulk.{skip_many, contents_many, paying_stays, steps_slices}
use Rattle.stream.specs.Laws.Fields.{row_back}
use Rattle.stream.specs.Laws.Fits.{steps_fit}
use Rattle.stream.specs.Laws.Heads.{size_many, name_read_many, id_then}
use Rattle.stream.specs.declared.Stream.{Stream}
use Rattle.stream.specs.declared.heads.Head.{Head}
use Rattle.stream.specs.declared.heads.Head.TheVariants as head
use Rattle.stream.specs.declared.heads.Moved.{Moved}
use Rattle.stream.specs.declared.heads.Passed.{Passed}
use Rattle.stream.specs.declared.heads.Passed.TheVariants as passed
use Rattle.stream.specs.declared.known.Known.{Known}
use Rattle.stream.proofs.SectionLaws.{limit64, some_so, enter_plain, skip_on, custom_on}

pub reaches_here : {here left : ℕ} → here < left → Reaches here left here
reaches_here h = record { inside = omega arith; lent = omega arith; least = λ _. refl; moves = λ a b. a }

pub reaches_left : {here left : ℕ} → left ≤ here → Reaches here left left
reaches_left h = record { inside = omega arith; lent = h; least = λ l. absurd (omega arith); moves = λ a b. b }

pub ruleset reaching = (reaches_here, reaches_left, rules)

-- A ROW

pub row_none : {x : Called} → x ≡ None → 0 ≡ row_number (row_called x)
row_none e = rw e

pub row_some : {x : Called} {row : ℕ} → x ≡ Some row → row + 1 ≡ row_number (row_called x)
row_some {row = row} e = let one : row + 1 ≡ suc row = omega arith in rw (e, one)

pub row_adds : {x : Called} {row : ℕ} → InTable x → x ≡ Some row → row + 1 < 256
row_adds {row = row} h e = let t : row < length tracked = rw e at h in omega arith

pub ruleset row_numbers = (row_none, row_some, row_adds, rules)

-- A NAME

take_drop : (i n : ℕ) (x : List ℕ) → take n (drop i x) ≡ drop i (take (i + n) x)
take_drop zero n x = rw zero-add
take_drop (suc i) n [] = rw (take-nil n, take-nil (suc i + n))
take_drop (suc i) n (b ∷ x) = rw suc-add (take_drop i n x)

-- the front of a slice is the slice up to there
slice_front : (s : List ℕ) (i end to : ℕ) → i ≤ to → to ≤ end → slice i to s ≡ take (to - i) (slice i end s)
slice_front s i end to h k =
    let far : i + (to - i) ≡ to = omega arith in
    sym (take_drop i (to - i) (take end s) ∙ ap (drop i) (ap (λ n. take n (take end s)) far ∙ take-take to end s k))

pub found_known : (bs : List ℕ) {x : Called} → Calls bs x → InTable x
found_known bs {x} q = known x q.row_is
  where
    known : (x : Called) → first_row 0 tracked (λ x. same x bs) ≡ row_called x → InTable x
    known (Some row) e = row_below 0 tracked (λ x. same x bs) e
    known None e = tt

row_most : (x : Called) → InTable x → row_number (row_called x) ≤ 3
row_most (Some row) t = omega arith
row_most None t = omega arith

module _ {part : List ℕ} {from size here : ℕ} (k : Sized part from size here) where
  abbrev contents : Cursor
  contents = record { at = from; end = from + here }

  pub contents_inside : Inside part contents
  contents_inside = record { ahead = omega arith; within = k.within }

  module _ {x : PartRead} {text payload : Cursor} {told : Bool} (p : PartReads name part contents x) (e : x ≡ Ok (text, payload, told)) where
    pub text_inside : Inside part text
    text_inside = (name_behind contents_inside p e).in_part

    pub payload_ahead : from ≤ payload.at
    payload_ahead = let b = name_behind contents_inside p e in let f = b.forward in let n = b.ends in let a = b.in_part.ahead in omega arith

    payload_within : payload.at ≤ from + here
    payload_within = let b = name_behind contents_inside p e in let n = b.same_end in let a = b.in_rest.ahead in omega arith

    pub payload_inside : payload.at - from ≤ size
    payload_inside = let w = payload_within in let h = payload_ahead in let i = k.inside in omega arith

    pub payload_small : size < 4_294_967_296 → payload.at - from < 4_294_967_296
    payload_small s = let i = payload_inside in omega arith

    pub name_read : {called : Called} {row : ℕ} → Calls (left part text) called → row ≡ row_number (row_called called) → CustomHead part from size (head.Custom row payload.at (size - (payload.at - from)))
    name_read {called} {row} c r = record {
      says = record {
        moves = payload_ahead;
        within = let w = payload_within in let i = k.within in omega arith;
        row_known = let m = row_most called (found_known (left part text) c) in omega arith;
        reads = λ d at o.
            ap (steps (standing o (custom d at size _ o))) (slice_front part from (from + here) payload.at payload_ahead payload_within)
            ∙ name_read_many d at o (left part contents) from (name_means p e) size o payload_inside
            ∙ ap (λ x. standing (o + (payload.at - from)) (custom d at (size - (payload.at - from)) (paying x (o + (payload.at - from))) (o + (payload.at - from)))) (c.row_is ∙ sym (ap row_of r ∙ row_back (row_called called)));
      };
    }

pub ruleset name_heads = (contents_inside, text_inside, payload_ahead, payload_inside, payload_small, name_read, found_known, rules)

-- A HEAD

-- the walk's rules know of the code's numbers what they know of the definition's
id_same : (k : Known) (at id : ℕ) → id_rules (seen_in (done_of k)) at id 0 [] ≡ id_rules (seen_of k.seen) at id 0 []
unfolding id_rules
id_same k at id = rw (some_so (bit k.seen.there 0) k.name)

module _ {part : List ℕ} {k : Known} (h : Within part k) where
  abbrev behind_id : Cursor
  behind_id = record { at = k.at + 1; end = length part }

  pub behind_inside : Inside part behind_id
  behind_inside = let l = h.here in record { ahead = omega arith; within = omega arith }

  module _ {x : NumberRead} {size : ℕ} {next : Cursor} {told : Bool} (n : NumberReads part behind_id x) (e : x ≡ Ok (size, next, told)) where
    pub size_within : next.at ≤ length part
    size_within = let i = number_inside behind_inside n e in let a = i.ahead in let w = i.within in omega arith

    size_ahead : k.at + 1 < next.at
    size_ahead = number_moves behind_inside n e

    pub contents_sized : {here : ℕ} → Reaches (length part - next.at) size here → Sized part next.at size here
    contents_sized r = let w = size_within in let l = r.lent in record { within = omega arith; inside = r.inside }

    module _ {v : Ruling} (j : IdRuled k.seen (get_or part k.at 0) v) (f : v ≡ Ok tt) where
      admitted : (at : ℕ) → id_rules (seen_in (done_of k)) at (get_or part k.at 0) 0 [] ≡ got tt 0 []
      admitted at = id_same k at (get_or part k.at 0) ∙ sym (j.says at 0 []) ∙ ap (λ x. ruling x at 0 []) f

      head_steps : (at : ℕ) → steps (standing at (settled (accepted (done_of k)))) (slice k.at next.at part) ≡ standing (at + (next.at - k.at)) (enter (done_of k) (get_or part k.at 0) at size (at + (next.at - k.at)))
      head_steps at =
          let l = h.here in let w = size_within in let m = size_ahead in
          let up : suc k.at ≡ k.at + 1 = omega arith in
          let far : suc at + (next.at - (k.at + 1)) ≡ at + (next.at - k.at) = omega arith in
          ap (steps (standing at (settled (accepted (done_of k))))) (slice-cons k.at next.at part 0 (omega arith) w)
          ∙ id_then (done_of k) at (get_or part k.at 0) (slice (suc k.at) next.at part) (admitted at)
          ∙ ap (steps (standing (suc at) _)) (ap (λ i. slice i next.at part) up ∙ slice_front part (k.at + 1) (length part) next.at (omega arith) w)
          ∙ size_many (done_of k) (get_or part k.at 0) at (left part behind_id) (k.at + 1) (number_means n e) (suc at)
          ∙ ap (λ o. standing o (enter (done_of k) (get_or part k.at 0) at size o)) far

      pub plain_head : (get_or part k.at 0 ≡ 0 → ⊥) → Heads part k (head.Plain (get_or part k.at 0) next.at size)
      plain_head z = let m = size_ahead in record {
        says = record {
          head = record {
            moves = omega arith;
            within = size_within;
            reads = λ at. head_steps at ∙ ap (standing (at + (next.at - k.at))) (enter_plain (done_of k) (get_or part k.at 0) at size (at + (next.at - k.at)) z);
          };
        };
      }

      custom_read : {row to more : ℕ} → get_or part k.at 0 ≡ 0 → NameRead part next.at size row to more → CustomRead part k row to more
      unfolding enter
      custom_read {row} {to} {more} z r =
          let m = size_ahead in let n = r.moves in
          record {
            row_known = r.row_known;
            head = record {
              moves = omega arith;
              within = r.within;
              reads = λ at.
                  let o = at + (next.at - k.at) in
                  let far : (at + (next.at - k.at)) + (to - next.at) ≡ at + (to - k.at) = omega arith in
                  steps_slices (standing at (settled (accepted (done_of k)))) part k.at next.at to (omega arith) n
                  ∙ ap (λ s. steps s (slice next.at to part)) (head_steps at ∙ ap (λ id. standing o (enter (done_of k) id at size o)) z)
                  ∙ r.reads (done_of k) at o
                  ∙ ap (λ x. standing x (custom (done_of k) at more (paying (row_of row) x) x)) far;
            };
          }

      custom_says : (r : Head) → get_or part k.at 0 ≡ 0 → IsCustomHead part next.at size r → head_of part k r
      custom_says head.Unread z c = tt
      custom_says (head.Plain id from more) z c = absurd c
      custom_says (head.Custom row from more) z c = custom_read z c

      pub custom_head_lem : {r : Head} → get_or part k.at 0 ≡ 0 → CustomHead part next.at size r → Heads part k r
      custom_head_lem {r} z c = record { says = custom_says r z c.says }

pub ruleset whole_heads = (behind_inside, size_within, contents_sized, plain_head, custom_head_lem, rules)

-- ONE SECTION

-- a head from which so many bytes of contents are here
module _ {base : ℕ} {part : List ℕ} {k : Known} (h : Here base part k) where
  pub count_room : k.count < most
  count_room = let l = h.here in let c = h.counted in let r = h.room in omega arith

  pub end_room : base + length part < limit64
  end_room = let r = h.room in omega arith

  pub at_room : base + k.at < limit64
  at_room = let r = h.room in let l = h.here in omega arith

  module _ {from : ℕ} {then : (at o : ℕ) → Phase} (r : HeadRead part k from then) where
    from_within : from ≤ length part
    from_within = r.within

    from_room : base + from < limit64
    from_room = let w = r.within in let m = h.room in omega arith

    -- the head, and bytes behind it
    onward : (to : ℕ) → from ≤ to → steps (stands base k) (slice k.at to part) ≡ steps (standing (base + from) (then (base + k.at) (base + from))) (slice from to part)
    onward to l =
        let m = r.moves in
        let far : (base + k.at) + (from - k.at) ≡ base + from = omega arith in
        steps_slices (stands base k) part k.at from to (omega arith) l
        ∙ ap (λ s. steps s (slice from to part)) (r.reads (base + k.at) ∙ ap (λ o. standing o (then (base + k.at) o)) far)

    long : (to : ℕ) → from ≤ to → to ≤ length part → length (slice from to part) ≡ to - from
    long to l w = length-slice from to part w

    far_end : (to : ℕ) → from ≤ to → (base + from) + (to - from) ≡ base + to
    far_end to l = omega arith

  held_at : {x : Stream} {s : State} {total : ℕ} {p : Phase} → x ≡ in_phase total p → s ≡ standing total p → x ≡ held s
  unfolding held
  held_at e q = e ∙ sym (ap held q)

  module _ {id from size : ℕ} (c : PlainRead part k id from size) where
    abbrev plain_part : HeadRead part k from (λ at o. skip (plain_done (done_of k) id) at size)
    plain_part = c.head

    skipped : (to : ℕ) → from ≤ to → to ≤ length part → to - from ≤ size → steps (stands base k) (slice k.at to part) ≡ standing (base + to) (skip (plain_done (done_of k) id) (base + k.at) (size - (to - from)))
    skipped to l w f =
        let n = long plain_part to l w in
        onward plain_part to l
        ∙ skip_many (plain_done (done_of k) id) (base + k.at) size (base + from) (slice from to part) (omega arith)
        ∙ ap (λ n. standing ((base + from) + n) (skip (plain_done (done_of k) id) (base + k.at) (size - n))) n
        ∙ ap (λ o. standing o (skip (plain_done (done_of k) id) (base + k.at) (size - (to - from)))) (far_end plain_part to l)

    pub plain_within : from ≤ length part
    plain_within = from_within plain_part

    pub plain_cut : {next : Known} {x : Stream} → length part - from < size → Behind (plain_done (done_of k) id) (length part) next → x ≡ skipping_at (base + length part) next (base + k.at) (size - (length part - from)) → Onward base part k (passed.Cut x)
    plain_cut {next} l b e = record {
      says = held_at
          (e ∙ ap (λ d. in_phase (base + length part) (skipping d (base + k.at) (size - (length part - from)))) b.done)
          (skipped (length part) plain_part.within (omega arith) (omega arith) ∙ ap (standing (base + length part)) (skip_on (plain_done (done_of k) id) (base + k.at) (size - (length part - from)) (λ z. omega arith)));
    }

    pub plain_whole : {next : Known} → size ≤ length part - from → Behind (plain_done (done_of k) id) (from + size) next → Onward base part k (passed.Behind next)
    unfolding skip
    plain_whole {next} l b =
        let w = plain_part.within in let m = plain_part.moves in let a = b.at in
        let none : size - ((from + size) - from) ≡ 0 = omega arith in
        record {
          says = record {
            moves = omega arith;
            within = omega arith;
            means =
                ap (λ i. standing (base + i) (settled (accepted (done_of next)))) a
                ∙ ap (λ d. standing (base + (from + size)) (settled (accepted d))) b.done
                ∙ sym (ap (λ i. steps (stands base k) (slice k.at i part)) a ∙ skipped (from + size) (omega arith) (omega arith) (omega arith) ∙ ap (λ n. standing (base + (from + size)) (skip (plain_done (done_of k) id) (base + k.at) n)) none);
          };
        }

  module _ {row from size : ℕ} (c : CustomRead part k row from size) where
    abbrev custom_part : HeadRead part k from (λ at o. custom (done_of k) at size (paying (row_of row) o) o)
    custom_part = c.head

    paid : (to : ℕ) → from ≤ to → to ≤ length part → to - from ≤ size → steps (stands base k) (slice k.at to part) ≡ standing (base + to) (custom (done_of k) (base + k.at) (size - (to - from)) (paying (row_of row) (base + from)) (base + to))
    paid to l w f =
        let n = long custom_part to l w in
        onward custom_part to l
        ∙ contents_many (paying (row_of row) (base + from)) (paying_stays (row_of row) (base + from)) (done_of k) (base + k.at) size (base + from) (slice from to part) (omega arith)
        ∙ ap (λ n. standing ((base + from) + n) (custom (done_of k) (base + k.at) (size - n) (paying (row_of row) (base + from)) ((base + from) + n))) n
        ∙ ap (λ o. standing o (custom (done_of k) (base + k.at) (size - (to - from)) (paying (row_of row) (base + from)) o)) (far_end custom_part to l)

    pub custom_within : from ≤ length part
    custom_within = from_within custom_part

    pub custom_room : base + from < limit64
    custom_room = from_room custom_part

    pub custom_row : row ≤ 3
    custom_row = c.row_known

    pub custom_cut : {x : Stream} → length part - from < size → x ≡ paying_at (base + length part) k (base + k.at) (size - (length part - from)) row (base + from) → Onward base part k (passed.Cut x)
    custom_cut l e = record {
      says = held_at e (paid (length part) custom_part.within (omega arith) (omega arith) ∙ ap (standing (base + length part)) (custom_on (done_of k) (base + k.at) (size - (length part - from)) (paying (row_of row) (base + from)) (base + length part) (λ z. omega arith)));
    }

    pub custom_whole : {x : Result Known Reason} {next : Known} → size ≤ length part - from → AfterCustom k row (record { offset = base + from; length = size }) (from + size) x → x ≡ Ok next → Onward base part k (passed.Behind next)
    unfolding custom content_ends
    custom_whole {x} {next} l b e =
        let w = custom_part.within in let m = custom_part.moves in
        let a : next.at ≡ from + size = b.at next e in
        let none : size - ((from + size) - from) ≡ 0 = omega arith in
        let size_is : (base + (from + size)) - (base + from) ≡ size = omega arith in
        record {
          says = record {
            moves = omega arith;
            within = omega arith;
            means =
                ap (λ i. standing (base + i) (settled (accepted (done_of next)))) a
                ∙ sym (ap (λ i. steps (stands base k) (slice k.at i part)) a
                ∙ paid (from + size) (omega arith) (omega arith) (omega arith)
                ∙ ap (λ n. standing (base + (from + size)) (custom (done_of k) (base + k.at) n (paying (row_of row) (base + from)) (base + (from + size)))) none
                ∙ ap (λ n. standing (base + (from + size)) (settled (custom_done (done_of k) (base + k.at) (accepted (record { row = row_of row; at = base + from; length = n }))))) size_is
                ∙ ap (λ j. standing (base + (from + size)) (settled j)) (b.says (base + k.at) ∙ ap (judged_after (base + k.at)) e));
          };
        }

pub ruleset plain_sections = (count_room, end_room, at_room, plain_within, plain_cut, plain_whole, rules)

pub ruleset custom_sections = (count_room, end_room, at_room, custom_within, custom_room, custom_row, custom_cut, custom_whole, rules)

pub here_within : {base : ℕ} {part : List ℕ} {k : Known} → Here base part k → Within part k
here_within l = record { here = l.here }

module _ {part : List ℕ} {k : Known} {x : Head} (h : Heads part k x) where
  pub plain_part_read : {id from size : ℕ} → x ≡ head.Plain id from size → PlainRead part k id from size
  plain_part_read e = rw e at h.says

  pub custom_part_read : {row from size : ℕ} → x ≡ head.Custom row from size → CustomRead part k row from size
  custom_part_read e = rw e at h.says

pub ruleset sections = (here_within, plain_part_read, custom_part_read, rules)

-- FROM SECTION TO SECTION

pub stopped_so : (k : Known) (total : ℕ) {x : Stream} → x ≡ between_at total k → ◌≡◌ {A = Moved} (record { stream = x; at = k.at }) (record { stream = between_at total k; at = k.at })
stopped_so k total e = rw e

pub stopped_room : (base at : ℕ) → base + at ≤ most → base + at < limit64
stopped_room base at h = omega arith

pub ruleset stopping = (stopped_so, stopped_room, rules)

pub record Going (base : ℕ) (part : List ℕ) (first now : Known) : Type 0 where
  pub onward : first.at ≤ now.at
  pub within : now.at ≤ length part
  pub counted : now.count ≤ base + now.at
  pub means : stands base now ≡ steps (stands base first) (slice first.at now.at part)

pub going_first : {base : ℕ} {part : List ℕ} {k : Known} → Begins base part k → Going base part k k
unfolding steps
going_first {base} {part} {k} b = record { onward = omega arith; within = b.within; counted = b.counted; means = sym (ap (steps (stands base k)) (slice_empty k.at part)) }

between_held : (total : ℕ) (k : Known) → between_at total k ≡ held (standing total (settled (accepted (done_of k))))
unfolding held
between_held total k = refl

module _ {base : ℕ} {part : List ℕ} {first now : Known} (b : Begins base part first) (g : Going base part first now) where
  pub going_here : now.at < length part → Here base part now
  going_here l = record { here = l; counted = g.counted; room = b.room }

  pub going_room : base + now.at ≤ most
  going_room = let w = g.within in let r = b.room in omega arith

  pub going_ends : {r : Moved} → r ≡ record { stream = between_at (base + now.at) now; at = now.at } → Sectioned base part first r
  going_ends e = rw e (record { onward = g.onward; within = g.within; means = between_held (base + now.at) now ∙ ap held g.means })

  module _ {x : Passed} (o : Onward base part now x) where
    pub going_cut : {s : Stream} → x ≡ passed.Cut s → Sectioned base part first (record { stream = s; at = length part })
    going_cut {s} e =
        let w = g.within in let f = g.onward in
        let is : s ≡ held (steps (stands base now) (slice now.at (length part) part)) = rw e at o.says in
        record {
          onward = omega arith;
          within = omega arith;
          means = is ∙ ap (λ x. held (steps x (slice now.at (length part) part))) g.means ∙ ap held (sym (steps_slices (stands base first) part first.at now.at (length part) g.onward g.within));
        }

    module _ {next : Known} (e : x ≡ passed.Behind next) where
      read : Read base part now next
      read = rw e at o.says

      counted_next : next.count ≤ base + next.at
      unfolding fits
      counted_next = leb-true next.count (base + next.at) (ap fits read.means ∙ steps_fit (stands base now) (slice now.at next.at part) (le-leb now.count (base + now.at) g.counted))

      pub going_on : Going base part first next
      going_on =
          let m = read.moves in let f = g.onward in
          record {
            onward = omega arith;
            within = read.within;
            counted = counted_next;
            means = read.means ∙ ap (λ s. steps s (slice now.at next.at part)) g.means ∙ sym (steps_slices (stands base first) part first.at now.at next.at g.onward (omega arith));
          }

      pub going_less : length part - next.at < length part - now.at
      going_less = let m = read.moves in let w = read.within in omega arith

pub ruleset going = (going_first, going_here, going_room, going_ends, going_cut, going_on, going_less, rules)
