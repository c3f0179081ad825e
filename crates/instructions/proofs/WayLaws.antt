-- What a piece that was read, or could not be, gives to what is read behind it.
use Rattle.std.specs.Prelude.{Ok, Err, Some, None}
use Prim.Native.Nat.{ℕ, ◌≤◌}
use mathlib.Core.Bool.{Bool}
use mathlib.Core.List.{List}
use mathlib.Core.Path.{◌≡◌, refl, sym, ◌∙◌}
use native.Mathlib.Omega.{arith}
use Rattle.format.specs.Reading.{Outcome, got, stop, Reader, and_then}
use Rattle.format.specs.Numbers.{number}
use Rattle.reading.specs.Cursors.{Inside, left, NumberReads}
use Rattle.format.specs.declared.Refusal.{Refusal}
use Rattle.reading.specs.declared.Cursor.{Cursor}
use Rattle.reading.specs.Returned.{NumberRead}
use Rattle.reading.proofs.Laws.{number_means, number_end, number_moves}
use Rattle.instructions.specs.Ways.{behind, unreadable, passing, WayEnd, Goes}
use Rattle.instructions.specs.Returned.{Way}

pub not_behind : {o : ℕ} {bs : List ℕ} → unreadable ≡ behind o bs → ⊥
not_behind e = let z : ◌≡◌ {A = ℕ} 0 1 = cc in omega arith

-- what was passed was read, and what was not stopped
pub went : {A : Type 0} (r : Outcome A) {o : ℕ} {bs : List ℕ} → behind o bs ≡ passing r → (v : A) × (r ≡ got v o bs)
went (got v o' bs') e = (v, same v e)
  where
    same : {A : Type 0} (v : A) {o o' : ℕ} {bs bs' : List ℕ} → behind o bs ≡ behind o' bs' → got v o' bs' ≡ got v o bs
    same v e = cc
went (stop n at) e = absurd (not_behind (sym e))

pub halted : {A : Type 0} (r : Outcome A) → unreadable ≡ passing r → (n : ℕ) × (at : ℕ) × (r ≡ stop n at)
halted (got v o bs) e = absurd (not_behind e)
halted (stop n at) e = (n, at, refl)

-- a way that begins further on
pub end_joined : {c d : Cursor} (y : Way) → c.at ≤ d.at → d.end ≡ c.end → WayEnd d y → WayEnd c y
end_joined (Some next) l far h = (omega (arith, h.0), omega (arith, h.1), h.2 ∙ far)
end_joined None l far h = tt

module _ {A : Type 0} {read : Reader A} {s : List ℕ} {c : Cursor} where
  module _ {next : Cursor} (g : Goes read s c (Some next)) where
    pub goes_far : (c.at ≤ next.at) × (next.at ≤ c.end) × (next.end ≡ c.end)
    goes_far = g.same_part

    pub goes_inside : Inside s c → Inside s next
    goes_inside i = let far = goes_far in record { ahead = omega (arith, far.1, far.2); within = omega (arith, far.2, i.within) }

    -- what is read behind a piece
    pub goes_then : {B : Type 0} (second : Reader B) {y : Way} → Goes second s next y → Goes (λ o bs. and_then (read o bs) (λ _. second)) s c y
    goes_then second {y} h =
        let (v, is) = went (read c.at (left s c)) g.means in
        let far = goes_far in
        record { means = rw is h.means; same_part = end_joined y far.0 far.2 h.same_part }

  pub goes_stops : Goes read s c None → {B : Type 0} (f : A → Reader B) → Goes (λ o bs. and_then (read o bs) f) s c None
  goes_stops g f =
      let (n, at, is) = halted (read c.at (left s c)) g.means in
      record { means = rw is; same_part = tt }

-- and behind a number
pub no_number : {x : NumberRead} {s : List ℕ} {c : Cursor} → NumberReads s c x → {r : Refusal} → x ≡ Err r → (n : ℕ) × (at : ℕ) × (number c.at (left s c) ≡ stop n at)
no_number n e = (_, _, sym (rw e at n.means))

module _ {A : Type 0} (f : ℕ → Reader A) {s : List ℕ} {c : Cursor} {x : NumberRead} (n : NumberReads s c x) where
  pub number_stops : {r : Refusal} → x ≡ Err r → Goes (λ o bs. and_then (number o bs) f) s c None
  number_stops e = let (m, at, is) = no_number n e in record { means = rw is; same_part = tt }

  pub number_goes : {v : ℕ} {next : Cursor} {told : Bool} {y : Way} → Inside s c → x ≡ Ok (v, next, told) → Goes (f v) s next y → Goes (λ o bs. and_then (number o bs) f) s c y
  number_goes {y = y} i e g =
      let moves = number_moves i n e in
      record { means = rw (number_means n e) g.means; same_part = end_joined y (omega arith) (number_end n e) g.same_part }
