-- K5: the boundary says what `stream` says.
use Prim.Native.Nat.{ℕ}
use mathlib.Core.Bool.{Bool, true, false}
use mathlib.Core.List.{List}
use mathlib.Core.Path.{◌≡◌}
use borrow.Author.Rules.{rules}
use lib.ListN.{length}
use Rattle.format.specs.Verdicts.{verdict_of}
use Rattle.stream.specs.Calls.{taken, ended}
use Rattle.stream.specs.declared.Ended.{Ended}
use Rattle.stream.specs.declared.Ending.{Ending}
use Rattle.stream.specs.declared.Stream.{Stream}
use Rattle.stream.specs.declared.Taken.{Taken}
use Rattle.wakemiono.specs.Arriving.{kind_of, wm_ending, turned_by, over_by}
use Rattle.wakemiono.specs.Boundary.{wm_judged}
use Rattle.wakemiono.specs.declared.WmAnswer.{WmAnswer}
use Rattle.wakemiono.specs.declared.arriving.WmStreamAnswer.{WmStreamAnswer}

pub kind_found : {b : Bool} → b ≡ true → 1 ≡ kind_of b
kind_found e = rw e

pub kind_refused : {b : Bool} → b ≡ false → 2 ≡ kind_of b
kind_refused e = rw e

pub ending_is : (e : Ending) {kind : ℕ} → kind ≡ kind_of e.accepted → record {
  kind = kind;
  code = e.refusal;
  offset = e.offset;
  length = e.count;
  name_kind = e.name.there;
  name_offset = e.name.offset;
  name_length = e.name.length;
  hints_kind = e.hints.there;
  hints_offset = e.hints.offset;
  hints_length = e.hints.length;
  old_hints_kind = e.older.there;
  old_hints_offset = e.older.offset;
  old_hints_length = e.older.length;
} ≡ wm_ending e
ending_is e k = rw k

pub turned_is : (s : Stream) (part : List ℕ) {x : Taken} {a : WmAnswer} → x ≡ taken s part → a ≡ wm_judged (length part) (verdict_of x.verdict) → record { state = x.stream; answer = a } ≡ turned_by s part
turned_is s part e q = rw (q, e)

pub over_is : (s : Stream) {x : Ended} {a : WmStreamAnswer} → x ≡ ended s → a ≡ wm_ending x.ending → record { state = x.stream; answer = a } ≡ over_by s
over_is s e q = rw (q, e)

pub ruleset arrivals = (kind_found, kind_refused, ending_is, turned_is, over_is, rules)
