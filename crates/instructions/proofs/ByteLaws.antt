-- What one byte has to be.
use Prim.Native.Nat.{ℕ, ◌≤◌, ◌<◌}
use mathlib.Core.Bool.{Bool, true, false}
use mathlib.Core.List.{List, [], ◌∷◌}
use mathlib.Core.Path.{◌≡◌, refl, ap, ◌∙◌}
use borrow.Author.Rules.{rules}
use borrow.Author.Tests.{eq-eqb, ne_eqb, le-leb, lt-leb}
use denote.Enum.Declared.{tag_of}
use lib.Dec.{eqb, ltb, leb}
use lib.ListN.{get_or}
use Rattle.instructions.specs.Immediates.{is_value_type, is_block_type, is_last_of32, is_last_of64, is_of}
use Rattle.instructions.specs.declared.pieces.ByteKind.{ByteKind}
use Rattle.instructions.specs.declared.pieces.ByteKind.TheVariants.{ValueType, BlockType, Zero, LastOf32, LastOf64}
use Rattle.instructions.specs.contracts.pieces.ByteKind as kind_type

module _ (b : ℕ) where
  pub value_below : b < 0x7C → false ≡ is_value_type b
  unfolding is_value_type
  value_below h = rw (lt-leb 0x7C b h)

  pub value_up_to : {r : Bool} → 0x7C ≤ b → r ≡ leb b 0x7F → r ≡ is_value_type b
  unfolding is_value_type
  value_up_to h e = rw (le-leb 0x7C b h, e)

  pub block_empty : b ≡ 0x40 → true ≡ is_block_type b
  unfolding is_block_type
  block_empty e = rw (eq-eqb b 0x40 e)

  pub block_value : {r : Bool} → (b ≡ 0x40 → ⊥) → r ≡ is_value_type b → r ≡ is_block_type b
  unfolding is_block_type
  block_value n e = rw (ne_eqb b 0x40 n, e)

  pub last_small : b ≤ 0x07 → true ≡ is_last_of32 b
  unfolding is_last_of32
  last_small h = rw (le-leb b 0x07 h)

  pub last_between : 0x07 < b → b < 0x78 → false ≡ is_last_of32 b
  unfolding is_last_of32
  last_between l h = rw (lt-leb b 0x07 l, lt-leb 0x78 b h)

  pub last_great : {r : Bool} → 0x07 < b → 0x78 ≤ b → r ≡ ltb b 0x80 → r ≡ is_last_of32 b
  unfolding is_last_of32
  last_great l h e = rw (lt-leb b 0x07 l, le-leb 0x78 b h, e)

  pub last_zero : b ≡ 0x00 → true ≡ is_last_of64 b
  unfolding is_last_of64
  last_zero e = rw (eq-eqb b 0x00 e)

  pub last_not_zero : {r : Bool} → (b ≡ 0x00 → ⊥) → r ≡ eqb b 0x7F → r ≡ is_last_of64 b
  unfolding is_last_of64
  last_not_zero n e = rw (ne_eqb b 0x00 n, e)

pub ruleset byte_kinds = (value_below, value_up_to, block_empty, block_value, last_small, last_between, last_great, last_zero, last_not_zero, rules)

-- an arm that binds nothing gives the tag alone: the kinds in the order in which they are declared
abbrev kinds : List ByteKind
kinds = ValueType ∷ BlockType ∷ Zero ∷ LastOf32 ∷ LastOf64 ∷ []

by_tag : (kind : ByteKind) → kind ≡ get_or kinds (tag_of kind_type.the_type kind) Zero
by_tag ValueType = refl
by_tag BlockType = refl
by_tag Zero = refl
by_tag LastOf32 = refl
by_tag LastOf64 = refl

told : (kind : ByteKind) {tag : ℕ} → tag_of kind_type.the_type kind ≡ tag → kind ≡ get_or kinds tag Zero
told kind t = by_tag kind ∙ ap (λ n. get_or kinds n Zero) t

module _ (b : ℕ) {r : Bool} (kind : ByteKind) where
  pub of_value : tag_of kind_type.the_type kind ≡ 0 → r ≡ is_value_type b → r ≡ is_of kind b
  of_value t e = rw (told kind t) e

  pub of_block : tag_of kind_type.the_type kind ≡ 1 → r ≡ is_block_type b → r ≡ is_of kind b
  of_block t e = rw (told kind t) e

  pub of_zero : tag_of kind_type.the_type kind ≡ 2 → r ≡ eqb b 0x00 → r ≡ is_of kind b
  of_zero t e = rw (told kind t) e

  pub of_last_32 : tag_of kind_type.the_type kind ≡ 3 → r ≡ is_last_of32 b → r ≡ is_of kind b
  of_last_32 t e = rw (told kind t) e

  pub of_last_64 : tag_of kind_type.the_type kind ≡ 4 → r ≡ is_last_of64 b → r ≡ is_of kind b
  of_last_64 t e = rw (told kind t) e

pub ruleset kinds_told = (of_value, of_block, of_zero, of_last_32, of_last_64, rules)
