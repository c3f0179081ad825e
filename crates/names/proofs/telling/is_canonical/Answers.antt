use Rattle.format.proofs.Nested.{ok_some}
use Rattle.format.specs.Bytes.{Bytes}
use Rattle.names.proofs.TellLaws.{tell_turns}
use Rattle.names.proofs.telling.is_canonical.Goals as goal

pub loop-read-init : goal.loop-read-init
loop-read-init c = let known : Bytes c.args.p.now = λ i. (c.type_inv.p i).fits in search (tell_turns, known)

pub loop-read-preserved : goal.loop-read-preserved
loop-read-preserved c = search tell_turns

pub returns-in_default : goal.returns-in_default
returns-in_default c = search tell_turns

pub returns-in_default-read : goal.returns-in_default-read
returns-in_default-read c = search tell_turns

pub returns-then-not-is_tidy : goal.returns-then-not-is_tidy
returns-then-not-is_tidy c = let e = ok_some c.in-Ok.is c.in-Some.is in search tell_turns

pub returns-then-not-shortest : goal.returns-then-not-shortest
returns-then-not-shortest c = let e = ok_some c.in-Ok.is c.in-Some.is in search tell_turns
