-- K5: the fields of what the finish of a stream answers, and what a part and the finish leave and answer. Assumes nothing.
use Rattle.std.specs.Prelude.{ℕ, Bool, true, false, List, length}
use Rattle.format.specs.Verdicts.{verdict_of}
use Rattle.stream.specs.Calls.{taken, ended}
use Rattle.stream.specs.declared.Ending.{Ending}
use Rattle.stream.specs.declared.Stream.{Stream}
use Rattle.wakemiono.specs.Boundary.{wm_judged}
use Rattle.wakemiono.specs.declared.arriving.Over.{Over}
use Rattle.wakemiono.specs.declared.arriving.Turned.{Turned}
use Rattle.wakemiono.specs.declared.arriving.WmStreamAnswer.{WmStreamAnswer}

abbrev pub kind_of : Bool → ℕ
kind_of true = 1
kind_of false = 2

abbrev pub wm_ending : Ending → WmStreamAnswer
wm_ending e = record {
  kind = kind_of e.accepted;
  code = e.refusal;
  offset = e.offset;
  length = e.count;
  name_kind = e.name.there;
  name_offset = e.name.offset;
  name_length = e.name.length;
  hints_kind = e.hints.there;
  hints_offset = e.hints.offset;
  hints_length = e.hints.length;
  old_hints_kind = e.older.there;
  old_hints_offset = e.older.offset;
  old_hints_length = e.older.length;
}

abbrev pub turned_by : Stream → List ℕ → Turned
turned_by s part = record { state = (taken s part).stream; answer = wm_judged (length part) (verdict_of (taken s part).verdict) }

abbrev pub over_by : Stream → Over
over_by s = record { state = (ended s).stream; answer = wm_ending (ended s).ending }
