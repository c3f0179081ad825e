-- What is scattered into blocks is gathered again, with right checks; a store and its blocks.
use Rattle.std.specs.Prelude.{ℕ, zero, suc, ◌+◌, ◌-◌, ◌*◌, ◌≤◌, ◌<◌, ◌≡◌, refl, true, false, List, [], ◌∷◌, ◌++◌, leb, length, take, drop, replicate}
use Rattle.std.proofs.Common.{sym, ap, ap₂, ◌∙◌, append_assoc, append-nil, arith, length-append, length-take, length-drop, take-append-drop, take_at, drop_at, length-take-le, take_all, leb-true, leb-false}
use Rattle.format.specs.Laws.Bytes.{same_self}
use Rattle.format.specs.Laws.Outcomes.{by_test, false_true}
use Rattle.std.proofs.lemmas.List.{length-replicate}
use Rattle.std.proofs.Math.Seq.{take-append-add}
use Rattle.sharing.specs.Blocks.{little_endian, check, right, body, seal, extra, need, scatter_in, scatter, bodies, gather, are_all_right, cut, join}

pub no_true : false ≡ true → ⊥
no_true e = false_true e

pub no_false : true ≡ false → ⊥
no_false e = no_true (sym e)

body_length : (p : List ℕ) → length (body p) ≡ 508
unfolding body
body_length p = simp (length-append, length-replicate, length-take) (omega arith)

pub seal_length : (p : List ℕ) → length (seal p) ≡ 512
unfolding seal check little_endian
seal_length p = length-append (body p) (check (body p)) ∙ omega (arith, body_length p)

seal_front : (p : List ℕ) → take 508 (seal p) ≡ body p
unfolding seal
seal_front p = take_at (body p) (check (body p)) 508 (body_length p)

seal_back : (p : List ℕ) → drop 508 (seal p) ≡ check (body p)
unfolding seal
seal_back p = drop_at (body p) (check (body p)) 508 (body_length p)

pub seal_right : (p : List ℕ) → right (seal p) ≡ true
unfolding right
seal_right p = rw (seal_front p, seal_back p) (same_self (check (body p)))

pub scatter_in_length : (k : ℕ) (p : List ℕ) → length (scatter_in k p) ≡ k
unfolding scatter_in
scatter_in_length zero p = refl
scatter_in_length (suc k) p = ap suc (scatter_in_length k (drop 508 p))

pub scatter_length : (p : List ℕ) → length (scatter p) ≡ need (length p)
unfolding scatter
scatter_length p = scatter_in_length (need (length p)) p

-- the blocks behind the first
unfoldable pub rest : List ℕ → List (List ℕ)
rest p = scatter_in (extra (length p)) (drop 508 p)

pub scatter_cons : (p : List ℕ) → scatter p ≡ seal p ∷ rest p
unfolding scatter scatter_in need rest
scatter_cons p = refl

pub rest_length : (p : List ℕ) → length (rest p) ≡ extra (length p)
unfolding rest
rest_length p = scatter_in_length (extra (length p)) (drop 508 p)

-- every block that is written has a right check, whatever stands behind
pub scatter_in_right : (k : ℕ) (p : List ℕ) (bs : List (List ℕ)) → are_all_right k (scatter_in k p ++ bs) ≡ true
unfolding are_all_right scatter_in
scatter_in_right zero p bs = refl
scatter_in_right (suc k) p bs = rw (seal_right p) (scatter_in_right k (drop 508 p) bs)

pub scatter_right : (p : List ℕ) (bs : List (List ℕ)) → are_all_right (need (length p)) (scatter p ++ bs) ≡ true
unfolding scatter
scatter_right p bs = scatter_in_right (need (length p)) p bs

body_short : (p : List ℕ) → length p ≤ 508 → body p ≡ p ++ replicate (508 - length p) 0
unfolding body
body_short p h = rw (take_all 508 p h)

body_long : (p : List ℕ) → 508 < length p → body p ≡ take 508 p
unfolding body
body_long p h = rw (length-take-le 508 p (omega arith)) (append-nil (take 508 p))

bodies_back : (k : ℕ) (p : List ℕ) (bs : List (List ℕ)) → length p ≤ 508 * k → take (length p) (bodies k (scatter_in k p ++ bs)) ≡ p
unfolding bodies scatter_in
bodies_back zero [] bs h = refl
bodies_back zero (x ∷ p) bs h = absurd (omega arith)
bodies_back (suc k) p bs h =
    rw (seal_front p) (by_test (leb (length p) 508)
    (λ t. rw (body_short p (leb-true (length p) 508 t), append_assoc p) (take_at p _ (length p) refl))
    (λ t. let l : 508 < length p = leb-false (length p) 508 t in
    let e : length p ≡ length (take 508 p) + length (drop 508 p) = simp (length-take, length-drop) (omega arith) in
    rw (body_long p l) (ap (λ (n : ℕ). take n (take 508 p ++ bodies k (scatter_in k (drop 508 p) ++ bs))) e
    ∙ take-append-add (take 508 p) _ (length (drop 508 p))
    ∙ ap (λ (x : List ℕ). take 508 p ++ x) (bodies_back k (drop 508 p) bs (simp length-drop (omega arith)))
    ∙ take-append-drop 508 p)))

need_enough : (n : ℕ) → n ≤ 508 * need n
unfolding need extra
need_enough n = omega arith

-- what was scattered is gathered again
pub gather_scatter : (p : List ℕ) (bs : List (List ℕ)) → gather (length p) (scatter p ++ bs) ≡ p
unfolding gather scatter
gather_scatter p bs = bodies_back (need (length p)) p bs (need_enough (length p))

pub data Whole : List (List ℕ) → Type 0 where
  none : Whole []
  more : {b : List ℕ} {bs : List (List ℕ)} → length b ≡ 512 → Whole bs → Whole (b ∷ bs)

pub whole_append : {ks bs : List (List ℕ)} → Whole ks → Whole bs → Whole (ks ++ bs)
whole_append none w = w
whole_append (more e v) w = more e (whole_append v w)

pub scatter_in_whole : (k : ℕ) (p : List ℕ) → Whole (scatter_in k p)
unfolding scatter_in
scatter_in_whole zero p = none
scatter_in_whole (suc k) p = more (seal_length p) (scatter_in_whole k (drop 508 p))

pub scatter_whole : (p : List ℕ) → Whole (scatter p)
unfolding scatter
scatter_whole p = scatter_in_whole (need (length p)) p

pub cut_join : {bs : List (List ℕ)} → Whole bs → cut (length bs) (join bs) ≡ bs
unfolding cut join
cut_join none = refl
cut_join (more {b = b} {bs = bs} e w) = ap₂ (λ (x : List ℕ) (y : List (List ℕ)). x ∷ y) (take_at b (join bs) 512 e) (ap (cut (length bs)) (drop_at b (join bs) 512 e) ∙ cut_join w)

pub join_length : {bs : List (List ℕ)} → Whole bs → length (join bs) ≡ length bs * 512
unfolding join
join_length none = refl
join_length (more {b = b} {bs = bs} e w) = length-append b (join bs) ∙ omega (arith, join_length w)
