-- K13, for code, which moves one thing after another: a list whose first b places are passed.
use Prim.Native.Nat.{ℕ, zero, suc, ◌+◌, ◌-◌, ◌*◌, ◌≤◌, ◌<◌}
use Rattle.std.specs.Prelude.{◌≡◌, Bool, true, false, take}
use Rattle.std.proofs.Math.Path.{refl, ap}
use Rattle.std.proofs.Common.{sym, ◌∙◌, take_all}
use mathlib.Core.List.{List, [], ◌∷◌, ◌++◌, append_assoc}
use native.Mathlib.Omega.{arith}
use Rattle.std.proofs.Math.ListN.{length, get_or, set, drop, replicate, length-append, length-drop, length-replicate}
use Rattle.std.proofs.Math.Seq.{append_snoc, drop-cons, get_or-append-add, get_or-drop, set_at, take_at, take-nil}
use Rattle.std.proofs.lemmas.List.{set_split}
use Rattle.sharing.specs.Blocks.{join}
use Rattle.sharing.specs.Laws.Blocks.{no_true, no_false, Whole, none, more}
use Rattle.sharing.specs.Laws.Bytes.{join_append, join_take, join_drop}
use Rattle.sharing.specs.Table.{Mark, blank}
use Rattle.sharing.specs.Tidy.{pack, rank, packed_blocks, packed_marks}
use Rattle.writing.specs.Wrote.{Wrote}

-- Ranks

pub rank_none : (ts : List Bool) → rank ts 0 ≡ 0
unfolding rank
rank_none [] = refl
rank_none (t ∷ ts) = refl

pub rank_more : (ts : List Bool) (b : ℕ) → get_or ts b false ≡ true → rank ts (suc b) ≡ suc (rank ts b)
unfolding rank
rank_more [] b e = absurd (no_true e)
rank_more (true ∷ ts) zero e = ap suc (rank_none ts)
rank_more (false ∷ ts) zero e = absurd (no_true e)
rank_more (true ∷ ts) (suc b) e = ap suc (rank_more ts b e)
rank_more (false ∷ ts) (suc b) e = rank_more ts b e

pub rank_same : (ts : List Bool) (b : ℕ) → get_or ts b false ≡ false → rank ts (suc b) ≡ rank ts b
unfolding rank
rank_same [] b e = refl
rank_same (true ∷ ts) zero e = absurd (no_false e)
rank_same (false ∷ ts) zero e = rank_none ts
rank_same (true ∷ ts) (suc b) e = ap suc (rank_same ts b e)
rank_same (false ∷ ts) (suc b) e = rank_same ts b e

pub rank_inside : (ts : List Bool) (b : ℕ) → rank ts b ≤ b
unfolding rank
rank_inside [] b = omega arith
rank_inside (t ∷ ts) zero = omega arith
rank_inside (true ∷ ts) (suc b) = omega (arith, rank_inside ts b)
rank_inside (false ∷ ts) (suc b) = omega (arith, rank_inside ts b)

pub rank_few : (ts : List Bool) (b : ℕ) → rank ts b ≤ length ts
unfolding rank
rank_few [] b = omega arith
rank_few (t ∷ ts) zero = omega arith
rank_few (true ∷ ts) (suc b) = omega (arith, rank_few ts b)
rank_few (false ∷ ts) (suc b) = omega (arith, rank_few ts b)

-- a block that is had is one of the blocks
pub had_inside : (ts : List Bool) (b : ℕ) → get_or ts b false ≡ true → b < length ts
had_inside [] b e = absurd (no_true e)
had_inside (t ∷ ts) zero e = omega arith
had_inside (t ∷ ts) (suc b) e = omega (arith, had_inside ts b e)

-- Lists

module _ {A : Type 0} where
  pack_more : (ts : List Bool) (b : ℕ) (l : List A) (d : A) → get_or ts b false ≡ true → length ts ≤ length l → pack (take (suc b) ts) l ≡ pack (take b ts) l ++ (get_or l b d ∷ [])
  unfolding pack
  pack_more [] b l d e h = absurd (no_true e)
  pack_more (t ∷ ts) b [] d e h = absurd (omega arith)
  pack_more (true ∷ ts) zero (x ∷ l) d e h = refl
  pack_more (false ∷ ts) zero (x ∷ l) d e h = absurd (no_true e)
  pack_more (true ∷ ts) (suc b) (x ∷ l) d e h = ap (λ (k : List A). x ∷ k) (pack_more ts b l d e (omega arith))
  pack_more (false ∷ ts) (suc b) (x ∷ l) d e h = pack_more ts b l d e (omega arith)

  pack_same : (ts : List Bool) (b : ℕ) (l : List A) → get_or ts b false ≡ false → length ts ≤ length l → pack (take (suc b) ts) l ≡ pack (take b ts) l
  unfolding pack
  pack_same [] b l e h = rw (take-nil {A = Bool} b) refl
  pack_same (t ∷ ts) b [] e h = absurd (omega arith)
  pack_same (true ∷ ts) zero (x ∷ l) e h = absurd (no_false e)
  pack_same (false ∷ ts) zero (x ∷ l) e h = refl
  pack_same (true ∷ ts) (suc b) (x ∷ l) e h = ap (λ (k : List A). x ∷ k) (pack_same ts b l e (omega arith))
  pack_same (false ∷ ts) (suc b) (x ∷ l) e h = pack_same ts b l e (omega arith)

  pub pack_ranked : (ts : List Bool) (b : ℕ) (l : List A) → length ts ≤ length l → length (pack (take b ts) l) ≡ rank ts b
  unfolding pack rank
  pack_ranked [] zero l h = refl
  pack_ranked [] (suc b) l h = refl
  pack_ranked (t ∷ ts) zero l h = refl
  pack_ranked (t ∷ ts) (suc b) [] h = absurd (omega arith)
  pack_ranked (true ∷ ts) (suc b) (x ∷ l) h = ap suc (pack_ranked ts b l (omega arith))
  pack_ranked (false ∷ ts) (suc b) (x ∷ l) h = pack_ranked ts b l (omega arith)

  -- what is moved stands in front, and behind it what stood there
  unfoldable pub packed_to : List Bool → ℕ → List A → List A
  packed_to ts b l = pack (take b ts) l ++ drop (rank ts b) l

  -- the same where what is moved leaves something behind
  unfoldable pub cleared_to : A → List Bool → ℕ → List A → List A
  cleared_to z ts b l = pack (take b ts) l ++ (replicate (b - rank ts b) z ++ drop b l)

  pub packed_none : (ts : List Bool) (l : List A) → packed_to ts 0 l ≡ l
  unfolding packed_to pack
  packed_none ts l = rw (rank_none ts) refl

  pub cleared_none : (z : A) (ts : List Bool) (l : List A) → cleared_to z ts 0 l ≡ l
  unfolding cleared_to pack
  cleared_none z ts l = rw (rank_none ts) refl

  replicate_more : (n : ℕ) (z : A) (l : List A) → replicate n z ++ (z ∷ l) ≡ z ∷ (replicate n z ++ l)
  replicate_more zero z l = refl
  replicate_more (suc n) z l = ap (λ (k : List A). z ∷ k) (replicate_more n z l)

  module _ (ts : List Bool) (b : ℕ) (l : List A) (h : length ts ≤ length l) where
    front : length (pack (take b ts) l) ≡ rank ts b
    front = pack_ranked ts b l h

    pub packed_length : length (packed_to ts b l) ≡ length l
    unfolding packed_to
    packed_length = length-append (pack (take b ts) l) (drop (rank ts b) l) ∙ omega (arith, front, length-drop (rank ts b) l, rank_few ts b)

    -- what was not passed stands as it was
    pub packed_ahead : (d : A) → get_or (packed_to ts b l) b d ≡ get_or l b d
    unfolding packed_to
    packed_ahead d =
        let z : b ≡ length (pack (take b ts) l) + (b - rank ts b) = omega (arith, front, rank_inside ts b) in
        let y : rank ts b + (b - rank ts b) ≡ b = omega (arith, rank_inside ts b) in
        ap (λ (i : ℕ). get_or (pack (take b ts) l ++ drop (rank ts b) l) i d) z ∙ get_or-append-add (pack (take b ts) l) (drop (rank ts b) l) (b - rank ts b) d ∙ get_or-drop (rank ts b) l (b - rank ts b) d ∙ ap (λ (i : ℕ). get_or l i d) y

    pub packed_same : get_or ts b false ≡ false → packed_to ts b l ≡ packed_to ts (suc b) l
    unfolding packed_to
    packed_same e = rw (pack_same ts b l e h, rank_same ts b e) refl

    pub packed_more : (d : A) → get_or ts b false ≡ true → set (packed_to ts b l) (rank ts b) (get_or l b d) ≡ packed_to ts (suc b) l
    unfolding packed_to
    packed_more d e =
        let p = pack (take b ts) l in
        let c = drop-cons l (rank ts b) d (omega (arith, rank_inside ts b, had_inside ts b e)) in
        ap (λ (k : List A). set (p ++ k) (rank ts b) (get_or l b d)) c ∙ set_at p (get_or l (rank ts b) d) (drop (suc (rank ts b)) l) (get_or l b d) (rank ts b) front
        ∙ rw (pack_more ts b l d e h, rank_more ts b e) (sym (append_snoc p (get_or l b d) (drop (suc (rank ts b)) l)))

    module _ (z : A) (there : b < length l) where
      -- one thing taken from its place
      cleared_out : set (cleared_to z ts b l) b z ≡ pack (take b ts) l ++ (z ∷ (replicate (b - rank ts b) z ++ drop (suc b) l))
      unfolding cleared_to
      cleared_out =
          let p = pack (take b ts) l in
          let r = replicate (b - rank ts b) z in
          let d = drop (suc b) l in
          let n : length (p ++ r) ≡ b = length-append p r ∙ omega (arith, front, length-replicate (b - rank ts b) z, rank_inside ts b) in
          ap (λ (k : List A). set k b z) (sym (append_assoc p r (drop b l)) ∙ ap (λ (k : List A). (p ++ r) ++ k) (drop-cons l b z there))
          ∙ set_at (p ++ r) (get_or l b z) d z b n ∙ append_assoc p r (z ∷ d) ∙ ap (λ (k : List A). p ++ k) (replicate_more (b - rank ts b) z d)

      pub cleared_same : get_or ts b false ≡ false → set (cleared_to z ts b l) b z ≡ cleared_to z ts (suc b) l
      unfolding cleared_to
      cleared_same e =
          let n : suc b - rank ts b ≡ suc (b - rank ts b) = omega (arith, rank_inside ts b) in
          cleared_out ∙ rw (pack_same ts b l e h, rank_same ts b e, n) refl

      pub cleared_more : (d : A) → get_or ts b false ≡ true → set (set (cleared_to z ts b l) b z) (rank ts b) (get_or l b d) ≡ cleared_to z ts (suc b) l
      unfolding cleared_to
      cleared_more d e =
          let p = pack (take b ts) l in
          let behind = replicate (b - rank ts b) z ++ drop (suc b) l in
          let n : suc b - suc (rank ts b) ≡ b - rank ts b = omega arith in
          ap (λ (k : List A). set k (rank ts b) (get_or l b d)) cleared_out ∙ set_at p z behind (get_or l b d) (rank ts b) front
          ∙ rw (pack_more ts b l d e h, rank_more ts b e, n) (sym (append_snoc p (get_or l b d) behind))

pub packed_blocks_lem : (ts : List Bool) (b : ℕ) (l : List (List ℕ)) → length ts ≤ length l → length ts ≤ b → packed_to ts b l ≡ packed_blocks ts l
unfolding packed_to packed_blocks
packed_blocks_lem ts b l h e = rw (← pack_ranked ts b l h, take_all b ts e) refl

pub cleared_marks : (ts : List Bool) (l : List Mark) → length ts ≤ length l → cleared_to blank ts (length ts) l ≡ packed_marks ts l
unfolding cleared_to packed_marks
cleared_marks ts l h = rw (← pack_ranked ts (length ts) l h, take_all (length ts) ts (omega arith)) refl

-- Blocks

whole_at : (b : ℕ) {bs : List (List ℕ)} → Whole bs → b < length bs → length (get_or bs b []) ≡ 512
whole_at b none h = absurd (omega arith)
whole_at zero (more e w) h = e
whole_at (suc b) (more e w) h = whole_at b w (omega arith)

pub whole_set : (i : ℕ) (k : List ℕ) {bs : List (List ℕ)} → length k ≡ 512 → Whole bs → Whole (set bs i k)
whole_set i k e none = none
whole_set zero k e (more f w) = more e w
whole_set (suc i) k e (more f w) = more f (whole_set i k e w)

module _ (bs : List (List ℕ)) (w : Whole bs) where
  -- one block of the bytes
  block_at : (b : ℕ) → b < length bs → take 512 (drop (b * 512) (join bs)) ≡ get_or bs b []
  unfolding join
  block_at b h = ap (take 512) (sym (join_drop b bs w) ∙ ap join (drop-cons bs b [] h)) ∙ take_at (get_or bs b []) (join (drop (suc b) bs)) 512 (whole_at b w h)

  -- a block's bytes over another's
  pub block_over : (from to : ℕ) (new : List ℕ) → from < length bs → to < length bs → Wrote (join bs) new (to * 512) (to * 512 + 512) (take 512 (drop (from * 512) (join bs))) → new ≡ join (set bs to (get_or bs from []))
  block_over from to new h k wrote =
      let n : to * 512 + 512 ≡ suc to * 512 = omega arith in
      let v = get_or bs from [] in
      wrote.written ∙ rw (block_at from h, n, ← join_take to bs w, ← join_drop (suc to) bs w) (sym (ap join (set_split bs to v k) ∙ join_append (take to bs) (v ∷ drop (suc to) bs) ∙ ap (λ (l : List ℕ). join (take to bs) ++ l) (unfold join in refl)))

  pub whole_moved : (from to : ℕ) → from < length bs → Whole (set bs to (get_or bs from []))
  whole_moved from to h = whole_set to (get_or bs from []) (whole_at from w h) w
