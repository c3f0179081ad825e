-- Rule R5.9 of docs/RULES.md.
-- What a verdict says, as the code hands it back. Assumes nothing.
use Rattle.std.specs.Prelude.{Ok, Err}
use Rattle.format.specs.Refusals.{number_of}
use Rattle.format.specs.Reading.{Judged, accepted, refused}
use Rattle.format.specs.declared.Reason.TheVariants.{NoPreamble}
use Rattle.format.specs.declared.Refusal.{Refusal}
use Rattle.format.specs.Returned.{Verdict}

abbrev pub verdict_of : Verdict → Judged (Unit {0})
verdict_of (Ok _) = accepted tt
verdict_of (Err r) = refused (number_of r.reason) r.offset.0

-- the refusal of a verdict that is one
abbrev pub refusal_in : Verdict → Refusal
refusal_in (Ok _) = record { reason = NoPreamble; offset = record { 0 = 0 } }
refusal_in (Err r) = r
