-- THE PROMISES of the crate `lists`, each by the name of its function. They stand in the `ensures` of the public functions and nowhere else: what is shown of these names is shown of the functions. A promise relates what is lent to what comes back.
use Rattle.std.specs.Prelude.{ℕ, List}
use Rattle.format.specs.Lists.{function_names}
use Rattle.format.specs.Outputs.{Writes}
use Rattle.format.specs.Returned.{Written}

-- lists
abbrev pub ListsFunctionNames : (indices lengths text old : List ℕ) → List ℕ → Written → Type 0
ListsFunctionNames indices lengths text old new r = Writes (function_names indices lengths text) old new r
