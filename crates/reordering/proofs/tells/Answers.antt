use Rattle.format.specs.Bytes.{Bytes}
use Rattle.reordering.proofs.Payloads.{telling_steps}
use Rattle.reordering.proofs.tells.Goals as goal

pub number_here-count-requires : goal.number_here-count-requires
number_here-count-requires c = search telling_steps

pub survey-found-requires : goal.survey-found-requires
survey-found-requires c = search telling_steps

pub overflow_add-needed : goal.overflow_add-needed
overflow_add-needed c = search telling_steps

pub returns-then-needed-gt-MOST : goal.returns-then-needed-gt-MOST
returns-then-needed-gt-MOST c = search telling_steps

pub returns-then-found : goal.returns-then-found
returns-then-found c = let known : Bytes c.args.p.now = λ i. (c.type_inv.p i).fits in search (telling_steps, known)

pub returns : goal.returns
returns c = search telling_steps
