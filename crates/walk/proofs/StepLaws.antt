-- One step of the walk.
use Rattle.std.specs.Prelude.{Result, Ok, Err, Some, None}
use Prim.Native.Nat.{ℕ, zero, suc, ◌+◌, ◌≤◌, ◌<◌}
use mathlib.Core.Bool.{Bool, true, false, ◌||◌}
use mathlib.Core.List.{List, [], ◌∷◌}
use mathlib.Core.Option.{none, some}
use mathlib.Core.Path.{◌≡◌, refl, sym, ap, ◌∙◌}
use native.Mathlib.Numerals.{add-one}
use native.Mathlib.Omega.{arith}
use borrow.Author.Rules.{rules}
use lib.ListN.{length, drop, get_or, drop_of_length-le}
use lib.Seq.{slice, take-length, drop-cons}
use Rattle.format.specs.Reading.{Outcome, got, stop, Reader, and_then, ◌>>◌, return}
use Rattle.format.specs.Parts.{sized, name, remaining, inside}
use Rattle.format.specs.Text.{utf8}
use Rattle.format.specs.Walk.{custom, is_called, Tracked, tracked, first_row, row_of, is_row, seeing, name_rules, section, step}
use Rattle.format.specs.Laws.Outcomes.{by_outcome}
use Rattle.format.specs.declared.Reason.{Reason}
use Rattle.format.specs.declared.Reason.TheVariants.{NotText}
use Rattle.format.specs.declared.Refusal.{Refusal}
use Rattle.reading.specs.Cursors.{Inside, left, part_of, PartReads}
use Rattle.reading.specs.declared.Cursor.{Cursor}
use Rattle.reading.proofs.Laws.{sized_means, name_means, Behind, part_behind, name_behind}
use Rattle.reading.proofs.PartSteps.{name_refused, name_taken, name_not_text, part_ahead, part_within}
use Rattle.walk.specs.Sections.{bit, seen_of, ruling, IdRuled, InTable, NameRuled, Calls, Sees, custom_of, CustomReads, CallsCustom, CustomInside}
use Rattle.walk.specs.Steps.{behind_size, AfterSize, Steps}
use Rattle.walk.specs.Returned.{Called}
use Rattle.walk.specs.declared.rules.Seen.{Seen}
use Rattle.walk.specs.Returned.{Ruling}
use Rattle.walk.specs.Returned.{Custom}
use Rattle.walk.specs.Returned.{Step}
use Rattle.walk.specs.declared.step.Walk.{Walk}
use Rattle.walk.proofs.RowLaws.{row_below}

custom_other : (id o : ℕ) (bs : List ℕ) → (id ≡ 0 → ⊥) → custom id o bs ≡ got none o bs
unfolding custom
custom_other zero o bs n = absurd (n refl)
custom_other (suc id) o bs n = refl

read_is : {c d : Custom} → ◌≡◌ {A = Result Custom Refusal} (Ok c) (Ok d) → c ≡ d
read_is e = cc

module _ {m : List ℕ} {id : ℕ} {contents : Cursor} where
  pub not_custom : (id ≡ 0 → ⊥) → CustomReads m id contents (Ok None)
  not_custom n = record { means = λ o bs. rw (custom_other id contents.at (left m contents) n); within = λ c e. rw (← read_is e) tt }

  module _ (z : id ≡ 0) where
    no_name : {r : Refusal} → PartReads name m contents (Err r) → CustomReads m id contents (Err r)
    unfolding custom
    no_name p = record { means = λ o bs. rw (z, ← p.means); within = λ c q. absurd (let w : ◌≡◌ {A = ℕ} 0 1 = cc in omega arith) }

    pub custom_refused : {r : Refusal} → PartReads sized m contents (Err r) → CustomReads m id contents (Err r)
    custom_refused p = no_name (name_refused p)

    module _ {part payload : Cursor} {told b : Bool} (p : PartReads sized m contents (Ok (part, payload, told))) (q : b ≡ utf8 (left m part)) where
      pub custom_not_text : b ≡ false → CustomReads m id contents (Err (record { reason = NotText; offset = record { 0 = part.at } }))
      custom_not_text t = no_name (name_not_text p q t)

      pub custom_read : Inside m contents → b ≡ true → CustomReads m id contents (Ok (Some (part, payload)))
      unfolding custom remaining
      custom_read i t =
          let taken = name_taken p q t in
          record { means = λ o bs. rw (z, name_means taken refl); within = λ c q. rw (← read_is q) (let b = name_behind i taken refl in (b.in_part, b.in_rest)) }

pub ruleset customs = (not_custom, custom_not_text, custom_read, part_ahead, part_within, rules)

-- the row of a section that has a name
module _ {m : List ℕ} where
  pub unnamed : {c : Custom} → c ≡ None → CallsCustom m c None
  unfolding is_called
  unnamed e = rw e (record { row_is = no_row 0 tracked })
    where
      no_row : (k : ℕ) (ts : List Tracked) → first_row k ts (λ x. false) ≡ none
      no_row k [] = refl
      no_row k (t ∷ ts) = no_row (suc k) ts

  module _ {c : Custom} {part payload : Cursor} (e : c ≡ Some (part, payload)) where
    pub name_inside : CustomInside m c → Inside m part
    name_inside i = let both = rw e at i in both.0

    pub named : {called : Called} → Calls (left m part) called → CallsCustom m c called
    unfolding is_called
    named r = rw e (record { row_is = r.row_is })

pub ruleset namings = (unnamed, name_inside, named, rules)

-- behind the size
pub called_in_table : {m : List ℕ} {c : Custom} {called : Called} → CallsCustom m c called → InTable called
called_in_table {m} {c} {called = Some row} k = let below = row_below 0 tracked (λ x. is_called x (custom_of m c)) k.row_is in omega arith
called_in_table {called = None} k = tt

pub custom_inside : {m : List ℕ} {id : ℕ} {contents : Cursor} {c : Custom} → CustomReads m id contents (Ok c) → CustomInside m c
custom_inside {c = c} r = r.within c refl

ruled : (m : List ℕ) (w : Walk) (c : Custom) (next : ℕ) {called : Called} {v : Ruling} → CallsCustom m c called → NameRuled w.seen called v → ruling v w.at next (drop next m) ≡ name_rules (seen_of w.seen) w.at (row_of (custom_of m c)) next (drop next m)
ruled m w c next k j = j.says w.at next (drop next m) ∙ ap (λ r. name_rules (seen_of w.seen) w.at r next (drop next m)) (sym k.row_is)

module _ {m : List ℕ} {w : Walk} {id : ℕ} {contents : Cursor} {next : ℕ} where
  pub after_refused : {n : Refusal} → CustomReads m id contents (Err n) → AfterSize m w id contents next (Err n)
  unfolding behind_size
  after_refused r = record { means = rw (← r.means next (drop next m)); seen = tt; forward = tt }

  module _ {c : Custom} {called : Called} {v : Ruling} (r : CustomReads m id contents (Ok c)) (k : CallsCustom m c called) (j : NameRuled w.seen called v) where
    pub after_against : {why : Reason} → v ≡ Err why → AfterSize m w id contents next (Err (record { reason = why; offset = record { 0 = w.at } }))
    unfolding behind_size
    after_against a = record { means = rw (← r.means next (drop next m), ← ruled m w c next k j, a); seen = tt; forward = tt }

    pub after_fine : {seen : Seen} → Inside m contents × (w.at < contents.at) × (w.at < next) × (next ≤ length m) → v ≡ Ok tt → Sees w.seen id called seen → AfterSize m w id contents next (Ok (Some (record { id = id; at = record { 0 = w.at }; contents = contents; custom = c }, record { at = next; seen = seen })))
    unfolding behind_size seeing
    after_fine i a s = record {
      means = rw (← r.means next (drop next m), ← ruled m w c next k j, a);
      seen = λ j. record {
        rank = s.rank_is j;
        code = s.code_is j;
        there = λ row. (s.there_is.says row ∙ ap (λ r. bit w.seen.there row || is_row r row) (sym k.row_is)) j;
      };
      forward = record { inside = record { behind = i.1; contents = i.0; custom = custom_inside r }; moves = i.2; within = i.3 };
    }

pub ruleset behind = (after_refused, custom_inside, called_in_table, after_against, after_fine, rules)

-- what is made of a section can be made in the last step
made_last : {A B : Type 0} (r : Outcome A) (rules : A → Reader (Unit {0})) (make : A → B) → and_then (and_then r (λ c. rules c >> return (make c))) (λ s. return (some s)) ≡ and_then r (λ c. rules c >> return (some (make c)))
made_last (stop n at) rules make = refl
made_last (got c o bs) rules make = by_outcome (rules c o bs) (λ _ o₁ r₁ e. rw e) (λ n at e. rw e)

-- The step itself: the id byte, the rules about it, the size, and what is behind it
abbrev behind_id : List ℕ → Walk → Cursor
behind_id m w = record { at = w.at + 1; end = length m }

left_all : (m : List ℕ) (o : ℕ) → slice o (length m) m ≡ drop o m
left_all m o = ap (drop o) (take-length m)

sized_there : (m : List ℕ) (w : Walk) → sized (suc w.at) (drop (suc w.at) m) ≡ sized (w.at + 1) (left m (behind_id m w))
sized_there m w = rw (left_all m (w.at + 1), add-one)

opened : (m : List ℕ) (w : Walk) → w.at < length m → step (seen_of w.seen) w.at (drop w.at m) ≡ and_then (section (seen_of w.seen) w.at (get_or m w.at 0) (suc w.at) (drop (suc w.at) m)) (λ s. return (some s))
unfolding step
opened m w h = rw (drop-cons m w.at 0 h)

module _ {m : List ℕ} {w : Walk} where
  pub step_done : length m ≤ w.at → Steps m w (Ok None)
  unfolding step
  step_done h = record { means = rw (drop_of_length-le m h); seen = tt; forward = tt }

  module _ {v : Ruling} (h : w.at < length m) (j : IdRuled w.seen (get_or m w.at 0) v) where
    pub step_against : {why : Reason} → v ≡ Err why → Steps m w (Err (record { reason = why; offset = record { 0 = w.at } }))
    unfolding section
    step_against a = record { means = rw (opened m w h, ← j.says w.at (suc w.at) (drop (suc w.at) m), a); seen = tt; forward = tt }

    behind_inside : Inside m (behind_id m w)
    behind_inside = record { ahead = omega arith; within = omega arith }

    module _ (a : v ≡ Ok tt) where
      pub step_size_refused : {r : Refusal} → PartReads sized m (behind_id m w) (Err r) → Steps m w (Err r)
      unfolding section
      step_size_refused p = record { means = rw (opened m w h, ← j.says w.at (suc w.at) (drop (suc w.at) m), a, sized_there m w, ← p.means); seen = tt; forward = tt }

      module _ {contents next : Cursor} {told : Bool} (p : PartReads sized m (behind_id m w) (Ok (contents, next, told))) where
        read_behind : Behind m (behind_id m w) contents next
        read_behind = part_behind behind_inside p refl

        pub contents_inside : Inside m contents
        contents_inside = read_behind.in_part

        pub contents_behind : w.at < contents.at
        contents_behind = let b = read_behind in omega (arith, b.forward)

        pub contents_forward : w.at < next.at
        contents_forward = let b = read_behind in omega (arith, b.forward, b.in_part.ahead, b.ends)

        pub contents_within : next.at ≤ length m
        contents_within = let b = read_behind in omega (arith, b.in_rest.ahead, b.same_end)

        pub step_after : {r : Step} → AfterSize m w (get_or m w.at 0) contents next.at r → Steps m w r
        unfolding section behind_size
        step_after s =
            let rest : left m next ≡ drop next.at m = ap (λ n. slice next.at n m) read_behind.same_end ∙ left_all m next.at in
            record {
              means = s.means ∙ sym (rw (opened m w h, ← j.says w.at (suc w.at) (drop (suc w.at) m), a, sized_there m w, sized_means p refl, rest) (made_last (inside (custom (get_or m w.at 0)) (part_of m contents) next.at (drop next.at m)) (λ c. name_rules (seen_of w.seen) w.at (row_of c)) _));
              seen = s.seen;
              forward = s.forward;
            }

pub ruleset steps = (step_done, step_against, step_size_refused, contents_inside, contents_behind, contents_forward, contents_within, step_after, rules)
