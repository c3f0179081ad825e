use Prim.Native.Nat.{ℕ, ◌-◌, ◌≤◌, ◌<◌, zero-le}
use mathlib.Core.Path.{◌≡◌}
use mathlib.Core.List.{List, [], ◌∷◌}
use lib.Dec.{T}
use borrow.Author.Rules.{rules}
use Rattle.instructions.specs.declared.shapes.Shape.{Shape}
use Rattle.instructions.specs.declared.shapes.Shape.TheVariants.{Plain}
use Rattle.instructions.specs.Opcodes.{opcodes, among, shape_of}
use Rattle.instructions.proofs.ShapeLaws.{code_of, Rest, skipped, agrees, keys_agree, ranged, keyed, any_key}
use Rattle.instructions.proofs.shapes.shape_of.Goals as goal

-- the single numbers of the arms, the last arm's first
abbrev keys : List (List ℕ)
keys = (68 ∷ []) ∷ (67 ∷ []) ∷ (66 ∷ []) ∷ (65 ∷ []) ∷ (17 ∷ []) ∷ (14 ∷ []) ∷ (16 ∷ []) ∷ (5 ∷ 11 ∷ 15 ∷ []) ∷ []

between : (s : Shape) (lo hi x : ℕ) → lo ≤ x → x < hi → Rest keys x → T (agrees keys (code_of s) lo (hi - lo)) → s ≡ shape_of x
between = ranged keys

-- the lowest interval has no lower bound
below : (s : Shape) (hi x : ℕ) → x < hi → Rest keys x → T (agrees keys (code_of s) 0 (hi - 0)) → s ≡ shape_of x
below s hi x q r h = ranged keys s 0 hi x zero-le q r h

ruleset shapes = (between, below, keyed, rules)

pub returns-in-14 : goal.returns-in-14
unfolding Rest agrees skipped code_of shape_of among opcodes
returns-in-14 c = search shapes

pub returns-in-17 : goal.returns-in-17
unfolding Rest agrees skipped code_of shape_of among opcodes
returns-in-17 c = search shapes

pub returns-in-65 : goal.returns-in-65
unfolding Rest agrees skipped code_of shape_of among opcodes
returns-in-65 c = search shapes

pub returns-in-66 : goal.returns-in-66
unfolding Rest agrees skipped code_of shape_of among opcodes
returns-in-66 c = search shapes

pub returns-in-67 : goal.returns-in-67
unfolding Rest agrees skipped code_of shape_of among opcodes
returns-in-67 c = search shapes

pub returns-in-68 : goal.returns-in-68
unfolding Rest agrees skipped code_of shape_of among opcodes
returns-in-68 c = search shapes

pub returns-in-2-to-4 : goal.returns-in-2-to-4
unfolding Rest agrees skipped code_of shape_of among opcodes
returns-in-2-to-4 c = search shapes

pub returns-in-40-to-62 : goal.returns-in-40-to-62
unfolding Rest agrees skipped code_of shape_of among opcodes
returns-in-40-to-62 c = search shapes

pub returns-in-63-to-64 : goal.returns-in-63-to-64
unfolding Rest agrees skipped code_of shape_of among opcodes
returns-in-63-to-64 c = search shapes

pub returns-in-69-to-191 : goal.returns-in-69-to-191
unfolding Rest agrees skipped code_of shape_of among opcodes
returns-in-69-to-191 c = search shapes

pub returns-in_default : goal.returns-in_default
unfolding Rest agrees skipped code_of shape_of among opcodes
returns-in_default c = search shapes

pub returns-in_default-2 : goal.returns-in_default-2
unfolding Rest agrees skipped code_of shape_of among opcodes
returns-in_default-2 c = search shapes

pub returns-in_default-3 : goal.returns-in_default-3
unfolding Rest agrees skipped code_of shape_of among opcodes
returns-in_default-3 c = search shapes

pub returns-in_default-4 : goal.returns-in_default-4
unfolding Rest agrees skipped code_of shape_of among opcodes
returns-in_default-4 c = search shapes

pub returns-in_default-5 : goal.returns-in_default-5
unfolding Rest agrees skipped code_of shape_of among opcodes
returns-in_default-5 c = search shapes

pub returns-in-12-to-13 : goal.returns-in-12-to-13
unfolding Rest agrees skipped code_of shape_of among opcodes
returns-in-12-to-13 c = search shapes

pub returns-in-12-to-13-2 : goal.returns-in-12-to-13-2
unfolding Rest agrees skipped code_of shape_of among opcodes
returns-in-12-to-13-2 c = search shapes

pub returns-in-12-to-13-3 : goal.returns-in-12-to-13-3
unfolding Rest agrees skipped code_of shape_of among opcodes
returns-in-12-to-13-3 c = search shapes

pub returns-in-0 : goal.returns-in-0
unfolding keys_agree code_of shape_of among opcodes
returns-in-0 c = search (any_key Plain (5 ∷ 11 ∷ 15 ∷ []), rules)

pub returns-in-0-2 : goal.returns-in-0-2
unfolding Rest agrees skipped code_of shape_of among opcodes
returns-in-0-2 c = search shapes

pub returns-in-0-3 : goal.returns-in-0-3
unfolding Rest agrees skipped code_of shape_of among opcodes
returns-in-0-3 c = search shapes
