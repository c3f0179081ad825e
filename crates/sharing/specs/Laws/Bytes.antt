-- What a call writes, as bytes of the store: for code, which has the bytes and no blocks.
use Rattle.std.specs.Prelude.{ℕ, zero, suc, ◌+◌, ◌*◌, ◌/◌, ◌≤◌, ◌<◌, ◌≡◌, take}
use mathlib.Core.List.{List, [], ◌∷◌, ◌++◌, append_assoc}
use Rattle.std.proofs.Math.Path.{refl, ap, ap₂}
use Rattle.std.proofs.Common.{sym, ◌∙◌, drop_of_length-le, drop-drop}
use native.Mathlib.Omega.{arith}
use Rattle.std.proofs.Math.ListN.{length, drop}
use Rattle.std.proofs.Math.Seq.{take-nil, drop-nil, take-append-add, drop-append-add}
use Rattle.sharing.specs.Blocks.{join, cut}
use Rattle.sharing.specs.Laws.Blocks.{Whole}
use Rattle.sharing.specs.Table.{blocks, paste}
use Rattle.sharing.specs.Laws.Histories.{join_cut, whole_cut, cut_length}

pub join_append : (ks bs : List (List ℕ)) → join (ks ++ bs) ≡ join ks ++ join bs
unfolding join
join_append [] bs = refl
join_append (k ∷ ks) bs = ap (λ (l : List ℕ). k ++ l) (join_append ks bs) ∙ sym (append_assoc k (join ks) (join bs))

wide : (b : ℕ) (x : List ℕ) → length x ≡ 512 → suc b * 512 ≡ length x + b * 512
wide b x e = omega arith

pub join_take : (b : ℕ) (bs : List (List ℕ)) → Whole bs → join (take b bs) ≡ take (b * 512) (join bs)
unfolding join
join_take zero bs w = refl
join_take (suc b) [] w = sym (take-nil (suc b * 512))
join_take (suc b) (x ∷ bs) (Whole.more e w) = ap (λ (l : List ℕ). x ++ l) (join_take b bs w) ∙ sym (ap (λ (n : ℕ). take n (x ++ join bs)) (wide b x e) ∙ take-append-add x (join bs) (b * 512))

pub join_drop : (b : ℕ) (bs : List (List ℕ)) → Whole bs → join (drop b bs) ≡ drop (b * 512) (join bs)
unfolding join
join_drop zero bs w = refl
join_drop (suc b) [] w = sym (drop-nil (suc b * 512))
join_drop (suc b) (x ∷ bs) (Whole.more e w) = join_drop b bs w ∙ sym (ap (λ (n : ℕ). drop n (x ++ join bs)) (wide b x e) ∙ drop-append-add x (join bs) (b * 512))

module _ (s : List ℕ) (n : ℕ) (e : length s ≡ n * 512) where
  blocks_cut : blocks s ≡ cut n s
  unfolding blocks
  blocks_cut = let z : length s / 512 ≡ n = omega arith in rw z refl

  -- the bytes before, the blocks written, the bytes behind
  pub paste_bytes : (at : ℕ) (new : List (List ℕ)) → join (paste at new (blocks s)) ≡ take (at * 512) s ++ (join new ++ drop ((at + length new) * 512) s)
  unfolding paste
  paste_bytes at new =
      let w = whole_cut n s e in
      rw blocks_cut (join_append (take at (cut n s)) (new ++ drop (at + length new) (cut n s))
      ∙ ap₂ (λ (x y : List ℕ). x ++ y) (join_take at (cut n s) w ∙ ap (take (at * 512)) (join_cut n s e))
      (join_append new (drop (at + length new) (cut n s)) ∙ ap (λ (l : List ℕ). join new ++ l) (join_drop (at + length new) (cut n s) w ∙ ap (drop ((at + length new) * 512)) (join_cut n s e))))

  -- a payload's blocks are the bytes from its first block on
  pub blocks_bytes : (at : ℕ) → join (drop at (blocks s)) ≡ drop (at * 512) s
  blocks_bytes at = rw blocks_cut (join_drop at (cut n s) (whole_cut n s e) ∙ ap (drop (at * 512)) (join_cut n s e))

-- One block of a store, by its place

cut_cons : (b n : ℕ) (s : List ℕ) → b < n → drop b (cut n s) ≡ take 512 (drop (b * 512) s) ∷ drop (suc b) (cut n s)
unfolding cut
cut_cons b zero s h = absurd (omega arith)
cut_cons zero (suc n) s h = refl
cut_cons (suc b) (suc n) s h =
    let z : 512 + b * 512 ≡ suc b * 512 = omega arith in
    cut_cons b n (drop 512 s) (omega arith) ∙ ap (λ (l : List ℕ). take 512 l ∷ drop (suc b) (cut n (drop 512 s))) (drop-drop (b * 512) 512 s ∙ ap (λ (i : ℕ). drop i s) z)

pub blocks_cons : (s : List ℕ) (b : ℕ) → b < length s / 512 → drop b (blocks s) ≡ take 512 (drop (b * 512) s) ∷ drop (suc b) (blocks s)
unfolding blocks
blocks_cons s b h = cut_cons b (length s / 512) s h

pub blocks_length : (s : List ℕ) → length (blocks s) ≡ length s / 512
unfolding blocks
blocks_length s = cut_length (length s / 512) s

pub blocks_end : (s : List ℕ) (b : ℕ) → length s / 512 ≤ b → drop b (blocks s) ≡ []
blocks_end s b h = drop_of_length-le (blocks s) {i = b} (omega (arith, blocks_length s))
