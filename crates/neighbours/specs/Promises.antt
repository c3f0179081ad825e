-- THE PROMISES of the crate `neighbours`, each by the name of its function. They stand in the `ensures` of the public functions and nowhere else: what is shown of these names is shown of the functions. A promise relates what is lent to what comes back.
use Rattle.std.specs.Prelude.{ℕ, List, ◌≡◌, Result}
use Rattle.format.specs.Why.{why_function, why_local}
use Rattle.format.specs.declared.FunctionIndex.{FunctionIndex}
use Rattle.format.specs.declared.LocalIndex.{LocalIndex}
use Rattle.format.specs.declared.Refusal.{Refusal}
use Rattle.neighbours.specs.Maps.{why_meant}
use Rattle.neighbours.specs.declared.Why.{Why}

-- neighbours::functions
abbrev pub NeighboursWhyFunction : (p : List ℕ) (function : FunctionIndex) → Result Why Refusal → Type 0
NeighboursWhyFunction p function r = why_meant r ≡ why_function function p

-- neighbours::locals
abbrev pub NeighboursWhyLocal : (p : List ℕ) (function : FunctionIndex) (local : LocalIndex) → Result Why Refusal → Type 0
NeighboursWhyLocal p function local r = why_meant r ≡ why_local function local p
