-- Rule R16.21 of docs/RULES.md.
-- Whose call it is. K13's step is nobody's.
use Rattle.std.specs.Prelude.{ℕ, Bool, false, eqb}
use Rattle.sharing.specs.Model.{Call, opening, asking, closing, tidying}

unfoldable pub owns : ℕ → Call → Bool
owns c (opening d payload work) = eqb c d
owns c (asking d hold index out) = eqb c d
owns c (closing d hold) = eqb c d
owns c tidying = false
