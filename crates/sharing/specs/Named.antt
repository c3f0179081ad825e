-- Name payloads of the first edition, as the table's payloads: their canonical form, and a function's name.
use Rattle.std.specs.Prelude.{ℕ, List}
use Rattle.std.proofs.Math.Option.{Option, none}
use Rattle.format.specs.Canonical.{canonical_names}
use Rattle.format.specs.Names.{known_kind}
use Rattle.format.specs.Questions.{ask, as_told}
use Rattle.format.specs.Reading.{Judged, accepted, refused}
use Rattle.format.specs.declared.Question.TheVariants.{FunctionName}
use Rattle.sharing.specs.Laws.Named.{still}
use Rattle.sharing.specs.Model.{Payloads}

-- a question is asked of accepted payloads alone
unfoldable pub name_in : Judged (Option (List ℕ)) → Option (List ℕ)
name_in (accepted name) = name
name_in (refused n at) = none

unfoldable pub function_name : List ℕ → ℕ → Option (List ℕ)
function_name p index = name_in (as_told (ask known_kind (FunctionName (record { 0 = index })) p))

unfoldable pub names : Payloads
names = record { canonical = canonical_names known_kind; name = function_name; again = still }
