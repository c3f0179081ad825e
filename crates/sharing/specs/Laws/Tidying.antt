-- The step of K13 on a shelf: the rows in their order, then the blocks that stood there as free ones. It keeps the model.
use Prim.Native.Nat.{ℕ, zero, suc, ◌+◌, ◌-◌, ◌≤◌}
use Rattle.std.specs.Prelude.{◌≡◌, Bool, false, length, drop, replicate}
use Rattle.std.proofs.Math.Path.{refl, sym, ap, ap₂}
use Rattle.std.proofs.Common.{◌∙◌, arith, length-drop, drop_at}
use Rattle.std.proofs.Math.Bool.{true}
use mathlib.Core.List.{List, [], ◌∷◌, ◌++◌, map, append_assoc, append-nil}
use Rattle.std.proofs.lemmas.List.{length-replicate}
use Rattle.sharing.specs.Blocks.{need}
use Rattle.sharing.specs.Laws.Blocks.{scatter_whole, Whole, Whole.none, Whole.more, whole_append}
use Rattle.sharing.specs.Table.{Mark}
use Rattle.sharing.specs.Tidy.{pack, packed_blocks, packed_marks}
use Rattle.sharing.specs.Laws.Shelf.{Piece, gap, row, Shelf, width, size, spread, blocks_of, marks_of, taken_of, spread_append, spread_length, blocks_width, marks_width, taken_width, size_append}
use Rattle.sharing.specs.Laws.Holds.{more}
use Rattle.sharing.specs.Laws.Swaps.{gaps_size, gaps_blocks, gaps_marks}

unfoldable pub only_rows : Shelf → Shelf
only_rows [] = []
only_rows (gap b ∷ sh) = only_rows sh
only_rows (row p u ∷ sh) = row p u ∷ only_rows sh

-- what stands behind the rows afterwards
unfoldable pub left_over : Shelf → List (List ℕ)
left_over sh = drop (size (only_rows sh)) (spread blocks_of sh)

unfoldable pub tidy_shelf : Shelf → Shelf
tidy_shelf sh = only_rows sh ++ map gap (left_over sh)

-- Packing

module _ {A : Type 0} where
  pack_append : (ts us : List Bool) (l k : List A) → length l ≡ length ts → pack (ts ++ us) (l ++ k) ≡ pack ts l ++ pack us k
  unfolding pack
  pack_append [] us [] k e = refl
  pack_append [] us (x ∷ l) k e = absurd (omega arith)
  pack_append (t ∷ ts) us [] k e = absurd (omega arith)
  pack_append (true ∷ ts) us (x ∷ l) k e = ap (λ (r : List A). x ∷ r) (pack_append ts us l k (omega arith))
  pack_append (false ∷ ts) us (x ∷ l) k e = pack_append ts us l k (omega arith)

  pack_all : (n : ℕ) (l : List A) → length l ≡ n → pack (replicate n true) l ≡ l
  unfolding pack
  pack_all zero [] e = refl
  pack_all zero (x ∷ l) e = absurd (omega arith)
  pack_all (suc n) [] e = absurd (omega arith)
  pack_all (suc n) (x ∷ l) e = ap (λ (r : List A). x ∷ r) (pack_all n l (omega arith))

  pack_one : (l : List A) → length l ≡ 1 → pack (false ∷ []) l ≡ []
  unfolding pack
  pack_one [] e = refl
  pack_one (x ∷ l) e = refl

  pack_none : (l : List A) → pack [] l ≡ []
  unfolding pack
  pack_none l = refl

  module _ (f : Piece → List A) (wide : (x : Piece) → length (f x) ≡ width x) where
    pub pack_rows : (sh : Shelf) (tail : List A) → pack (spread taken_of sh) (spread f sh ++ tail) ≡ spread f (only_rows sh)
    unfolding only_rows
    pack_rows [] tail = pack_none tail
    pack_rows (gap b ∷ sh) tail =
        ap (pack (false ∷ spread taken_of sh)) (append_assoc (f (gap b)) (spread f sh) tail)
        ∙ pack_append (false ∷ []) (spread taken_of sh) (f (gap b)) (spread f sh ++ tail) (wide (gap b))
        ∙ ap₂ ◌++◌ (pack_one (f (gap b)) (wide (gap b))) (pack_rows sh tail)
    pack_rows (row p u ∷ sh) tail =
        ap (pack (replicate (need (length p)) true ++ spread taken_of sh)) (append_assoc (f (row p u)) (spread f sh) tail)
        ∙ pack_append (replicate (need (length p)) true) (spread taken_of sh) (f (row p u)) (spread f sh ++ tail) (wide (row p u) ∙ sym (length-replicate (need (length p)) true))
        ∙ ap₂ ◌++◌ (pack_all (need (length p)) (f (row p u)) (wide (row p u))) (pack_rows sh tail)

pub rows_fewer : (sh : Shelf) → size (only_rows sh) ≤ size sh
unfolding only_rows
rows_fewer [] = omega arith
rows_fewer (gap b ∷ sh) = omega (arith, rows_fewer sh)
rows_fewer (row p u ∷ sh) = omega (arith, rows_fewer sh)

pub left_length : (sh : Shelf) → length (left_over sh) ≡ size sh - size (only_rows sh)
unfolding left_over
left_length sh = length-drop (size (only_rows sh)) (spread blocks_of sh) ∙ ap (λ (n : ℕ). n - size (only_rows sh)) (spread_length blocks_of blocks_width sh)

pub tidy_size : (sh : Shelf) → size (tidy_shelf sh) ≡ size sh
unfolding tidy_shelf
tidy_size sh = omega (arith, size_append (only_rows sh) (map gap (left_over sh)), gaps_size (left_over sh), left_length sh, rows_fewer sh)

pub tidy_blocks : (sh : Shelf) → packed_blocks (spread taken_of sh) (spread blocks_of sh) ≡ spread blocks_of (tidy_shelf sh)
unfolding packed_blocks tidy_shelf left_over
tidy_blocks sh =
    let e : pack (spread taken_of sh) (spread blocks_of sh) ≡ spread blocks_of (only_rows sh) = rw (append-nil (spread blocks_of sh)) at (pack_rows blocks_of blocks_width sh []) in
    rw e (ap (λ (n : ℕ). spread blocks_of (only_rows sh) ++ drop n (spread blocks_of sh)) (spread_length blocks_of blocks_width (only_rows sh))
    ∙ ap (λ (l : List (List ℕ)). spread blocks_of (only_rows sh) ++ l) (sym (gaps_blocks (drop (size (only_rows sh)) (spread blocks_of sh))))
    ∙ sym (spread_append blocks_of (only_rows sh) (map gap (drop (size (only_rows sh)) (spread blocks_of sh)))))

pub tidy_marks : (sh : Shelf) (tail : List Mark) → packed_marks (spread taken_of sh) (spread marks_of sh ++ tail) ≡ spread marks_of (tidy_shelf sh) ++ tail
unfolding packed_marks tidy_shelf
tidy_marks sh tail =
    let n = spread_length taken_of taken_width sh in
    rw (pack_rows marks_of marks_width sh tail, n, spread_length marks_of marks_width (only_rows sh), drop_at (spread marks_of sh) tail (size sh) (spread_length marks_of marks_width sh), ← left_length sh, ← gaps_marks (left_over sh))
    (sym (ap (λ (l : List Mark). l ++ tail) (spread_append marks_of (only_rows sh) (map gap (left_over sh))) ∙ append_assoc (spread marks_of (only_rows sh)) (spread marks_of (map gap (left_over sh))) tail))

whole_rows : (sh : Shelf) → Whole (spread blocks_of (only_rows sh))
unfolding only_rows
whole_rows [] = none
whole_rows (gap b ∷ sh) = whole_rows sh
whole_rows (row p u ∷ sh) = whole_append (scatter_whole p) (whole_rows sh)

whole_drop : (n : ℕ) (bs : List (List ℕ)) → Whole bs → Whole (drop n bs)
whole_drop zero bs w = w
whole_drop (suc n) [] w = none
whole_drop (suc n) (b ∷ bs) (more e w) = whole_drop n bs w

pub tidy_whole : (sh : Shelf) → Whole (spread blocks_of sh) → Whole (spread blocks_of (tidy_shelf sh))
unfolding tidy_shelf left_over
tidy_whole sh w = rw (spread_append blocks_of (only_rows sh) (map gap (drop (size (only_rows sh)) (spread blocks_of sh))), gaps_blocks (drop (size (only_rows sh)) (spread blocks_of sh))) (whole_append (whole_rows sh) (whole_drop (size (only_rows sh)) (spread blocks_of sh) w))
