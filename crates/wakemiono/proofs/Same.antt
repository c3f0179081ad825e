-- Two results that meet one promise are equal, the output included. An answer without an output equals a function of the arguments by its promise.
use Prim.Native.Nat.{ℕ}
use mathlib.Core.List.{List}
use mathlib.Core.Path.{◌≡◌, sym, ◌∙◌}
use Rattle.format.specs.Reading.{Judged}
use Rattle.wakemiono.specs.Boundary.{WmWrites}
use Rattle.wakemiono.specs.declared.WmAnswer.{WmAnswer}

pub wm_writes_same : {wanted : Judged (List ℕ)} {old new new' : List ℕ} {a a' : WmAnswer} → WmWrites wanted old new a → WmWrites wanted old new' a' → (a ≡ a') × (new ≡ new')
wm_writes_same p q = (p.says ∙ sym q.says, p.leaves ∙ sym q.leaves)
