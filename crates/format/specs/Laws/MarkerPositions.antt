-- K8. What a marker is, by positions, from 0: the marker at a position is the entry at sixteen times that position.
use Prim.Native.Nat.{ℕ, zero, suc, ◌+◌, ◌*◌}
use mathlib.Core.List.{List, [], ◌∷◌, map}
use Rattle.std.specs.Prelude.{◌≡◌}
use Rattle.std.proofs.Math.Path.{refl}
use native.Mathlib.Omega.{arith}
use Rattle.std.proofs.Math.ListN.{get_elem?}
use Rattle.format.specs.Markers.{Entry, thinned}

-- of what a marker tells of its entry; so many entries are passed over before the first marker
module _ (tells : Entry → ℕ) where
  thinned_at : (before : ℕ) (es : List Entry) (i : ℕ) → get_elem? (map tells (thinned before es)) i ≡ get_elem? (map tells es) (before + 16 * i)
  unfolding thinned
  thinned_at before [] i = refl
  thinned_at zero (e ∷ es) zero = refl
  thinned_at zero (e ∷ es) (suc i) = let q : 0 + 16 * suc i ≡ suc (15 + 16 * i) = omega arith in rw q (thinned_at 15 es i)
  thinned_at (suc before) (e ∷ es) i = let q : suc before + 16 * i ≡ suc (before + 16 * i) = omega arith in rw q (thinned_at before es i)

  pub marker_at : (es : List Entry) (i : ℕ) → get_elem? (map tells (thinned 0 es)) i ≡ get_elem? (map tells es) (16 * i)
  marker_at es i = let q : 0 + 16 * i ≡ 16 * i = omega arith in rw q at (thinned_at 0 es i)
