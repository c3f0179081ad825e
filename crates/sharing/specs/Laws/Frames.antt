-- A payload is written in no other blocks than it needs, and the step of K13 leaves the blocks behind the stored ones.
use Rattle.std.specs.Prelude.{ℕ, ◌+◌, ◌≤◌, ◌≡◌, refl, Bool, List, ◌++◌, length, take, drop}
use Rattle.std.proofs.Common.{sym, ap, ◌∙◌, take_at, drop_at, drop-drop, length-take-le}
use Rattle.sharing.specs.Table.{paste}
use Rattle.sharing.specs.Tidy.{pack, packed_blocks}

pub paste_before : (at : ℕ) (new bs : List (List ℕ)) → at ≤ length bs → take at (paste at new bs) ≡ take at bs
unfolding paste
paste_before at new bs h = take_at (take at bs) (new ++ drop (at + length new) bs) at (length-take-le at bs h)

pub paste_behind : (at : ℕ) (new bs : List (List ℕ)) → at ≤ length bs → drop (at + length new) (paste at new bs) ≡ drop (at + length new) bs
unfolding paste
paste_behind at new bs h =
    sym (drop-drop (length new) at (paste_of))
    ∙ ap (drop (length new)) (drop_at (take at bs) (new ++ drop (at + length new) bs) at (length-take-le at bs h))
    ∙ drop_at new (drop (at + length new) bs) (length new) refl
  where
    paste_of : List (List ℕ)
    paste_of = take at bs ++ (new ++ drop (at + length new) bs)

pub packed_behind : (ts : List Bool) (bs : List (List ℕ)) → drop (length (pack ts bs)) (packed_blocks ts bs) ≡ drop (length (pack ts bs)) bs
unfolding packed_blocks
packed_behind ts bs = drop_at (pack ts bs) (drop (length (pack ts bs)) bs) (length (pack ts bs)) refl
