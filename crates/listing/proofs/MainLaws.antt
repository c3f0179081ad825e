-- The room for a listing is as long as it is said to be.
use Prim.Native.Nat.{ℕ}
use mathlib.Core.Path.{◌≡◌, sym}
use lib.ListN.{length, replicate, length-replicate}

pub zeros_long : (n : ℕ) → n ≡ length {A = ℕ} (replicate n 0)
zeros_long n = sym (length-replicate n 0)
