-- What the table of opcodes gives at a key and on an interval of the match, by tests that are computed. No law names an instruction.
use Prim.Native.Nat.{ℕ, zero, suc, ◌+◌, ◌-◌, ◌≤◌, ◌<◌}
use mathlib.Core.Path.{◌≡◌, refl, sym, ap, subst, ◌∙◌}
use mathlib.Core.Bool.{Bool, true, false, ◌&&◌, ◌||◌}
use mathlib.Core.List.{List, [], ◌∷◌}
use mathlib.Core.Logic.{◌⊎◌, inl, inr, ⊎_elim}
use native.Mathlib.Nat.{eq-or-lt_of_le}
use native.Mathlib.Omega.{arith}
use lib.Dec.{eqb, T, eqb→eq}
use lib.ListN.{get_or}
use types.Run.{OneOf, hit}
use mir.Val.{has_key}
use Rattle.instructions.specs.declared.shapes.Shape.{Shape}
use Rattle.instructions.specs.declared.shapes.Shape.TheVariants.{Plain, Block, Index, Table, Indirect, Memory, Zero, Const32, Const64, Float32, Float64, Unknown}
use Rattle.instructions.specs.Opcodes.{shape_of}

-- a number for each shape, so that a test can compare two
unfoldable pub code_of : Shape → ℕ
code_of Plain = 0
code_of Block = 1
code_of Index = 2
code_of Table = 3
code_of Indirect = 4
code_of Memory = 5
code_of Zero = 6
code_of Const32 = 7
code_of Const64 = 8
code_of Float32 = 9
code_of Float64 = 10
code_of Unknown = 11

unfoldable shapes : List Shape
shapes = Plain ∷ Block ∷ Index ∷ Table ∷ Indirect ∷ Memory ∷ Zero ∷ Const32 ∷ Const64 ∷ Float32 ∷ Float64 ∷ Unknown ∷ []

decoded : (s : Shape) → get_or shapes (code_of s) Unknown ≡ s
unfolding code_of shapes
decoded Plain = refl
decoded Block = refl
decoded Index = refl
decoded Table = refl
decoded Indirect = refl
decoded Memory = refl
decoded Zero = refl
decoded Const32 = refl
decoded Const64 = refl
decoded Float32 = refl
decoded Float64 = refl
decoded Unknown = refl

same_shape : (s : Shape) (x : ℕ) → code_of (shape_of x) ≡ code_of s → s ≡ shape_of x
same_shape s x e = sym (decoded s) ∙ ap (λ (n : ℕ). get_or shapes n Unknown) (sym e) ∙ decoded (shape_of x)

-- the keys that an arm of ranges knows not to be there, as the check hands them over: the last arm's first
unfoldable pub Rest : List (List ℕ) → ℕ → Type 0
Rest [] x = Unit {0}
Rest (ks ∷ kss) x = Rest kss x × (OneOf ks x → ⊥)

unfoldable pub skipped : List (List ℕ) → ℕ → Bool
skipped [] x = false
skipped (ks ∷ kss) x = has_key ks x || skipped kss x

-- at each of the n bytes from lo on, but for the keys, the shape is the one with the number c
unfoldable pub agrees : List (List ℕ) → ℕ → ℕ → ℕ → Bool
agrees kss c lo zero = true
agrees kss c lo (suc n) = (skipped kss lo || eqb (code_of (shape_of lo)) c) && agrees kss c (suc lo) n

-- the tests mean what they say
either : (a b : Bool) → T (a || b) → T a ⊎ T b
either true b h = inl tt
either false b h = inr h

both : (a b : Bool) → T (a && b) → T a × T b
both true b h = (tt, h)
both false b h = absurd h

not_skipped : (kss : List (List ℕ)) (x : ℕ) → Rest kss x → T (skipped kss x) → ⊥
unfolding Rest skipped
not_skipped [] x r h = h
not_skipped (ks ∷ kss) x r h = ⊎_elim (λ a. r.1 (hit ks x a)) (λ b. not_skipped kss x r.0 b) (either (has_key ks x) (skipped kss x) h)

agree_at : (kss : List (List ℕ)) (c lo n : ℕ) → T (agrees kss c lo n) → (b : ℕ) → lo ≤ b → b < lo + n → Rest kss b → code_of (shape_of b) ≡ c
unfolding agrees
agree_at kss c lo zero h b p q r = absurd (omega arith)
agree_at kss c lo (suc n) h b p q r =
    let here = both (skipped kss lo || eqb (code_of (shape_of lo)) c) (agrees kss c (suc lo) n) h in
    ⊎_elim
    (λ (e : lo ≡ b). subst (λ (x : ℕ). code_of (shape_of x) ≡ c) e (⊎_elim
    (λ k. absurd (not_skipped kss lo (subst (Rest kss) (sym e) r) k))
    (λ k. eqb→eq (code_of (shape_of lo)) c k)
    (either (skipped kss lo) (eqb (code_of (shape_of lo)) c) here.0)))
    (λ (l : lo < b). agree_at kss c (suc lo) n here.1 b l (omega arith) r)
    (eq-or-lt_of_le p)

-- on an interval
pub ranged : (kss : List (List ℕ)) (s : Shape) (lo hi x : ℕ) → lo ≤ x → x < hi → Rest kss x → T (agrees kss (code_of s) lo (hi - lo)) → s ≡ shape_of x
ranged kss s lo hi x p q r h = same_shape s x (agree_at kss (code_of s) lo (hi - lo) h x p (omega arith) r)

-- at a key
pub keyed : (s : Shape) (k x : ℕ) → x ≡ k → T (eqb (code_of (shape_of k)) (code_of s)) → s ≡ shape_of x
keyed s k x e h = same_shape s x (ap (λ (n : ℕ). code_of (shape_of n)) e ∙ eqb→eq (code_of (shape_of k)) (code_of s) h)

-- at one of several keys
unfoldable pub keys_agree : ℕ → List ℕ → Bool
keys_agree c [] = true
keys_agree c (k ∷ ks) = eqb (code_of (shape_of k)) c && keys_agree c ks

pub any_key : (s : Shape) (ks : List ℕ) (x : ℕ) → OneOf ks x → T (keys_agree (code_of s) ks) → s ≡ shape_of x
unfolding keys_agree
any_key s [] x h t = absurd h
any_key s (k ∷ []) x h t = keyed s k x h (both (eqb (code_of (shape_of k)) (code_of s)) true t).0
any_key s (k ∷ j ∷ ks) x h t =
    let here = both (eqb (code_of (shape_of k)) (code_of s)) (keys_agree (code_of s) (j ∷ ks)) t in
    ⊎_elim (λ (e : x ≡ k). keyed s k x e here.0) (λ (r : OneOf (j ∷ ks) x). any_key s (j ∷ ks) x r here.1) h
