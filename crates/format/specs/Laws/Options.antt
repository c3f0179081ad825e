-- What may be missing, taken apart.
use Rattle.std.specs.Prelude.{ℕ, ◌≡◌, refl}
use Rattle.std.proofs.Math.Option.{Option, none, some}
use Rattle.std.proofs.Common.{arith}
use Rattle.format.specs.Options.{some_then, or_else}

pub not_some : {A : Type 0} {a : A} → none ≡ some a → ⊥
not_some e = let z : ◌≡◌ {A = ℕ} 0 1 = cc in omega arith

pub some_is : {A : Type 0} {a b : A} → some a ≡ some b → a ≡ b
some_is e = cc

pub by_option {ℓ} : {A : Type 0} {C : Type ℓ} (x : Option A) → (x ≡ none → C) → ((a : A) → x ≡ some a → C) → C
by_option none f g = f refl
by_option (some a) f g = g a refl

-- an option that went on
pub in_then {ℓ} : {A B : Type 0} {C : Type ℓ} (x : Option A) (f : A → Option B) {b : B} → some_then x f ≡ some b → ((a : A) → x ≡ some a → f a ≡ some b → C) → C
in_then none f e k = absurd (not_some e)
in_then (some a) f e k = k a refl e

-- the first that is there
pub or_none : {A : Type 0} (x : Option A) → or_else x none ≡ x
or_none none = refl
or_none (some v) = refl

pub or_else_lem : {A : Type 0} (x y z : Option A) → or_else (or_else x y) z ≡ or_else x (or_else y z)
or_else_lem none y z = refl
or_else_lem (some v) y z = refl
