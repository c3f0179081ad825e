use Rattle.format.specs.Bytes.{Bytes}
use Rattle.metadata.proofs.TellLaws.{tell_steps}
use Rattle.metadata.proofs.telling.are_items_canonical.Goals as goal

pub returns-then-p-eq-NOTHING_LENGTH : goal.returns-then-p-eq-NOTHING_LENGTH
returns-then-p-eq-NOTHING_LENGTH c = search tell_steps

pub returns : goal.returns
returns c = let known : Bytes c.args.p.now = λ i. (c.type_inv.p i).fits in search (tell_steps, known)
