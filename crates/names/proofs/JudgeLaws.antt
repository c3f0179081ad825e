-- The loops over a payload's subsections: one judges, the other finds an id where all were accepted.
use Rattle.std.specs.Prelude.{Option as RustOption, Ok, Err, Some, None}
use Prim.Native.Nat.{ℕ, zero, suc, ◌+◌, ◌-◌, ◌≤◌, ◌<◌}
use mathlib.Core.Bool.{Bool}
use mathlib.Core.List.{List, [], ◌∷◌}
use mathlib.Core.Logic.{◌⊎◌, ⊎_elim}
use mathlib.Core.Option.{Option, none, some}
use mathlib.Core.Path.{◌≡◌, refl, sym, ap, ◌∙◌}
use native.Mathlib.Numerals.{add-one}
use native.Mathlib.Omega.{arith}
use borrow.Author.Rules.{rules}
use borrow.Author.Tests.{eq-eqb, ne_eqb}
use lib.Dec.{leb}
use lib.ListN.{length, get_or}
use lib.Seq.{length-slice, slice-cons, slice_empty}
use Rattle.format.specs.Reading.{Outcome, got, stop, Reader, and_then, ◌>>=◌, return, accepted, judge, verdict}
use Rattle.format.specs.Verdicts.{verdict_of}
use Rattle.format.specs.Parts.{Part, sized, go_on, inside}
use Rattle.format.specs.Questions.{answered}
use Rattle.format.specs.Tables.{Table, nil, row, lookup}
use Rattle.format.specs.Names.{Kind, Content, contents, subsections, payload, judge_names}
use Rattle.format.specs.Laws.Outcomes.{not_accepted, got_value, got_next, got_rest, by_test, by_outcome, judged, accepted_is}
use Rattle.format.proofs.Laws.Codecs.{sized_codec}
use Rattle.format.proofs.Laws.Passing.{sized_passes}
use Rattle.format.proofs.Nested.{nested}
use Rattle.format.specs.declared.Place.{Place}
use Rattle.format.specs.Returned.{Answer}
use Rattle.format.specs.declared.Refusal.{Refusal}
use Rattle.format.specs.Returned.{Verdict}
use Rattle.reading.proofs.Laws.{left_all, over_inside}
use Rattle.reading.proofs.Standing.{stand}
use Rattle.reading.specs.Cursors.{Inside, left, over_all}
use Rattle.reading.specs.declared.Cursor.{Cursor}
use Rattle.names.specs.Contents.{Rules}
use Rattle.names.specs.Frames.{Headed, frame, frames, judge_frames, behind_id, Forward, FrameReads, KnownFrame, FrameStands}
use Rattle.names.specs.Places.{KnownFrames, Finds}
use Rattle.names.specs.Returned.{FrameRead}
use Rattle.names.specs.declared.frames.Framed.{Framed}
use Rattle.names.proofs.FrameLaws.{in_frames, no_frames}

-- a subsection that was read
module _ {least : ℕ} {s : List ℕ} {c : Cursor} {x : FrameRead} (p : FrameReads least s c x) where
  module _ {id : ℕ} {part next : Cursor} {told : Bool} (e : x ≡ Ok (Some (id, part, next, told))) where
    pub forward : Forward least s c id part next
    forward = rw e at p.forward

    pub frame_shorter : next.end - next.at < c.end - c.at
    frame_shorter = let f = forward in omega (arith, f.moves, f.same_end, f.in_rest.ahead)

    pub frame_inside : Inside s part
    frame_inside = forward.in_part

-- where the end is kept beside the place
pub frame_onward : {least : ℕ} {s : List ℕ} {at end : ℕ} {x : FrameRead} {id : ℕ} {part next : Cursor} {told : Bool} → FrameReads least s (record { at = at; end = end }) x → x ≡ Ok (Some (id, part, next, told)) → end - next.at < end - at
frame_onward p e = let f = forward p e in omega (arith, f.moves, f.same_end, f.in_rest.ahead)

-- Judging, by verdicts alone: the subsections to come, by the frame that is next
module _ (kind_of : ℕ → Kind) where
  abbrev then : (most id : ℕ) → Content Part → Reader (Table (Content Part))
  then most id c = subsections kind_of most (suc id) >>= λ more. return (row id c more)

  abbrev onward : ℕ → Option Headed → Reader (Table (Content Part))
  onward most none = return nil
  onward most (some h) = inside (contents (kind_of h.id)) h.value >>= then most h.id

  by_frame : (most least o : ℕ) (bs : List ℕ) → length bs ≤ most → subsections kind_of most least o bs ≡ and_then (frame least o bs) (onward (most - 1))
  unfolding subsections frame
  by_frame zero least o [] h = refl
  by_frame zero least o (id ∷ bs) h = absurd (omega arith)
  by_frame (suc most) least o [] h = refl
  by_frame (suc most) least o (id ∷ bs) h =
      let d : suc most - 1 ≡ most = omega arith in
      rw d (by_test (leb least id)
      (λ t. rw t (by_outcome (sized (suc o) bs) (λ p o₁ r₁ e. rw e) (λ n at e. rw e)))
      (λ t. rw t))

-- and whether it is passed hangs on its contents, then on those behind it
stops : {A B : Type 0} (r : Outcome A) (x : Refusal) (o : ℕ) (bs : List ℕ) (f : A → Reader B) → verdict (answered (Err x)) ≡ verdict (judge r) → verdict_of (Err x) ≡ verdict (judge (and_then (go_on r o bs) f))
stops (got a o₁ r₁) x o bs f e = absurd (not_accepted e)
stops (stop m at) x o bs f e = e

goes_on : {A B : Type 0} (r : Outcome A) (y : RustOption Place) (o : ℕ) (bs : List ℕ) (f : A → Reader B) (after : Outcome B) → verdict (answered (Ok y)) ≡ verdict (judge r) → ((a : A) → verdict (judge (f a o bs)) ≡ verdict (judge after)) → verdict (judge (and_then (go_on r o bs) f)) ≡ verdict (judge after)
goes_on (got a o₁ r₁) y o bs f after e g = g a
goes_on (stop m at) None o bs f after e g = absurd (not_accepted (sym e))
goes_on (stop m at) (Some p) o bs f after e g = absurd (not_accepted (sym e))

with_row : (id : ℕ) (c : Content Part) (r : Outcome (Table (Content Part))) → verdict (judge (and_then r (λ more. return (row id c more)))) ≡ verdict (judge r)
with_row id c (got t o bs) = refl
with_row id c (stop n at) = refl

-- whenever the loop is reached
pub record Turn (kind_of : ℕ → Kind) (s : List ℕ) (c next : Cursor) (least : ℕ) : Type 0 where
  pub most : ℕ
  pub inside : Inside s next
  pub enough : next.end - next.at ≤ most
  pub same : verdict (judge_names kind_of c.at (left s c)) ≡ verdict (judge (subsections kind_of most least next.at (left s next)))

module _ {kind_of : ℕ → Kind} {s : List ℕ} {c : Cursor} where
  pub turn_begins : Inside s c → Turn kind_of s c c 0
  unfolding judge_names payload
  turn_begins i = record { most = length (left s c); inside = i; enough = omega (arith, length-slice c.at c.end s i.within); same = refl }

  module _ {next : Cursor} {least : ℕ} {x : FrameRead} (t : Turn kind_of s c next least) (f : FrameReads least s next x) where
    opened : verdict (judge_names kind_of c.at (left s c)) ≡ verdict (judge (and_then (frame least next.at (left s next)) (onward kind_of (t.most - 1))))
    opened = t.same ∙ ap (λ r. verdict (judge r)) (by_frame kind_of t.most least next.at (left s next) (omega (arith, t.enough, length-slice next.at next.end s t.inside.within)))

    pub turn_refused : {r : Refusal} → x ≡ Err r → verdict_of (Err r) ≡ verdict (judge_names kind_of c.at (left s c))
    turn_refused e = sym (opened ∙ rw (← rw e at f.means))

    pub turn_ends : x ≡ Ok None → verdict_of (Ok tt) ≡ verdict (judge_names kind_of c.at (left s c))
    turn_ends e = sym (opened ∙ rw (← rw e at f.means))

    module _ {id : ℕ} {part after : Cursor} {told : Bool} (e : x ≡ Ok (Some (id, part, after, told))) {kind : Kind} {y : Answer} (k : kind ≡ kind_of id) (v : Rules kind s part y) where
      pub turn_bad : {r : Refusal} → y ≡ Err r → verdict_of (Err r) ≡ verdict (judge_names kind_of c.at (left s c))
      turn_bad {r} q = stops (contents (kind_of id) part.at (left s part)) r after.at (left s after) (then kind_of (t.most - 1) id) (rw (q, k) at v.says) ∙ sym (opened ∙ rw (← rw e at f.means))

  module _ {at end least : ℕ} {x : FrameRead} (t : Turn kind_of s c (record { at = at; end = end }) least) (f : FrameReads least s (record { at = at; end = end }) x) {id : ℕ} {part after : Cursor} {told : Bool} (e : x ≡ Ok (Some (id, part, after, told))) {kind : Kind} {y : Answer} (k : kind ≡ kind_of id) (v : Rules kind s part y) where
    pub turn_next : {p : RustOption Place} → y ≡ Ok p → Turn kind_of s c (record { at = after.at; end = end }) (id + 1)
    turn_next {p} q =
        let far = forward f e in
        let to_come_lem = subsections kind_of (t.most - 1) (suc id) after.at (left s after) in
        let on = goes_on (contents (kind_of id) part.at (left s part)) p after.at (left s after) (then kind_of (t.most - 1) id) to_come_lem (rw (q, k) at v.says) (λ content. with_row id content to_come_lem) in
        rw (← far.same_end, add-one) (record {
          most = t.most - 1;
          inside = far.in_rest;
          enough = omega (arith, t.enough, far.moves, far.same_end, far.in_rest.ahead);
          same = opened t f ∙ rw (← rw e at f.means) on;
        })

pub ruleset judge_turns = (turn_begins, turn_refused, turn_ends, turn_bad, turn_next, frame_inside, frame_onward, nested, rules)

-- all of what was lent
pub judge_all : (kind_of : ℕ → Kind) (s : List ℕ) {c : Cursor} (v : Verdict) → c ≡ over_all s → verdict_of v ≡ verdict (judge_names kind_of c.at (left s c)) → verdict_of v ≡ verdict (judge_names kind_of 0 s)
judge_all kind_of s v over e = rw (over, left_all s) at e

pub ruleset judge_steps = (judge_all, over_inside, rules)

-- Finding an id: whenever the loop is reached, it is not among those that were passed
pub record Search (s : List ℕ) (c next : Cursor) (id : ℕ) : Type 0 where
  pub inside : Inside s next
  pub most : ℕ
  pub least : ℕ
  pub to_come_lem : Table Part
  pub behind : ℕ
  pub rest : List ℕ
  pub enough : next.end - next.at ≤ most
  pub reads : frames most least next.at (left s next) ≡ got to_come_lem behind rest
  pub same : (f : Table Part) → judge_frames c.at (left s c) ≡ accepted f → lookup id f ≡ lookup id to_come_lem

module _ {s : List ℕ} {c : Cursor} {id : ℕ} where
  pub search_begins : KnownFrames s c → Search s c c id
  unfolding judge_frames
  search_begins k =
      judged (frames (length (left s c)) 0 c.at (left s c)) k.known.judged λ o rest e.
      record {
        inside = k.inside;
        most = _;
        least = _;
        to_come_lem = k.known.value;
        behind = o;
        rest = rest;
        enough = omega (arith, length-slice c.at c.end s k.inside.within);
        reads = e;
        same = λ f q. ap (lookup id) (accepted_is (sym q ∙ k.known.judged));
      }

  module _ {next : Cursor} (t : Search s c next id) where
    pub search_ends : next.end ≤ next.at → Finds s c.at (left s c) id None
    unfolding lookup
    search_ends h =
        let q : next.end ≡ next.at = omega (arith, t.inside.ahead) in
        let nothing : left s next ≡ [] = rw (q, slice_empty) in
        let none_left = no_frames t.most t.least next.at (rw nothing at t.reads) in
        record { stands = λ f e. record { is = sym (t.same f e ∙ rw (← none_left) refl); inside = tt } }

    module _ (h : next.at < next.end) where
      -- the one that is next, and those behind it
      front {ℓ} : {C : Type ℓ} → ((p : Part) (o₁ : ℕ) (r₁ : List ℕ) (more : Table Part) → sized (behind_id next).at (left s (behind_id next)) ≡ got p o₁ r₁ → frames (t.most - 1) (suc (get_or s next.at 0)) o₁ r₁ ≡ got more t.behind t.rest → row (get_or s next.at 0) p more ≡ t.to_come_lem → C) → C
      front k =
          let one : t.most ≡ suc (t.most - 1) = omega (arith, t.enough) in
          let cut = slice-cons next.at next.end s 0 h t.inside.within in
          let reads : frames (suc (t.most - 1)) t.least next.at (get_or s next.at 0 ∷ left s (record { at = suc next.at; end = next.end })) ≡ got t.to_come_lem t.behind t.rest = rw (one, cut) at t.reads in
          in_frames (t.most - 1) t.least next.at (get_or s next.at 0) (left s (record { at = suc next.at; end = next.end })) reads λ p o₁ r₁ more e₁ e₂ is.
          k p o₁ r₁ more (rw add-one e₁) e₂ is

      pub search_frame : KnownFrame s next
      search_frame =
          let i : Inside s (behind_id next) = record { ahead = omega arith; within = t.inside.within } in
          front λ p o₁ r₁ more e₁ e₂ is.
          record { inside = t.inside; ahead = h; contents = record { value = _; next = _; stands = stand sized_passes i e₁ } }

      module _ {r : Framed} (w : FrameStands s next r) where
        pub search_here : r.id ≡ id → Finds s c.at (left s c) id (Some r.part)
        unfolding lookup
        search_here q =
            front λ p o₁ r₁ more e₁ e₂ is.
            let part_is = got_value (sym e₁ ∙ w.contents.stands.reads) in
            record { stands = λ f e. record { is = sym (t.same f e ∙ rw (← is, ← w.id_is, eq-eqb id r.id (sym q), part_is)); inside = w.contents.in_part } }

        pub search_less : r.next.end - r.next.at < next.end - next.at
        search_less = let b = w.contents.stands in omega (arith, (sized_codec.sound (behind_id next).at (left s (behind_id next)) b.reads).shorter, length-slice (behind_id next).at (behind_id next).end s b.inside.within, length-slice r.next.at r.next.end s b.behind.within, b.same_end, b.behind.ahead, h)

        pub search_next : (r.id ≡ id → ⊥) → Search s c r.next id
        unfolding lookup
        search_next n =
            front λ p o₁ r₁ more e₁ e₂ is.
            let there = sym e₁ ∙ w.contents.stands.reads in
            record {
              inside = w.contents.stands.behind;
              most = t.most - 1;
              least = suc (get_or s next.at 0);
              to_come_lem = more;
              behind = t.behind;
              rest = t.rest;
              enough = omega (arith, t.enough, search_less);
              reads = rw (got_next there, got_rest there) at e₂;
              same = λ f e. t.same f e ∙ rw (← is, ← w.id_is, ne_eqb id r.id (λ q. n (sym q)));
            }

pub ruleset find_turns = (search_begins, search_ends, search_frame, search_here, search_next, search_less, rules)
