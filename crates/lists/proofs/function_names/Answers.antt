use Rattle.std.specs.Prelude.{Err}
use mathlib.Core.Path.{◌≡◌}
use borrow.Author.Rules.{rules}
use Rattle.lists.proofs.Payloads.{namings}
use Rattle.lists.proofs.function_names.Goals as goal

pub write-requires : goal.write-requires
write-requires c = search (c.in_ok-size.was, namings)

pub returns-in_err-size : goal.returns-in_err-size
returns-in_err-size c =
    let e : c.from_residual.result ≡ Err c.in_err-size.field-0.0 = search rules in
    search (e, c.in_err-size.was, namings)

pub returns : goal.returns
returns c = search (c.in_ok-size.was, namings)
