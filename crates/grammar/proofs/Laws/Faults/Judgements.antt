-- A judgement whose readings stop exactly at faults: what it refuses, that no bytes have two faults, and that bytes have a fault exactly where they have no meaning.
use Rattle.std.specs.Prelude.{ℕ, ◌+◌, List, ◌++◌, ◌↔◌, ◌≡◌}
use Rattle.std.proofs.Common.{sym, ap, ◌∙◌, arith}
use Rattle.format.specs.Bytes.{Bytes}
use Rattle.format.specs.Reading.{Outcome, got, stop, Reader, Judged, refused, map_judged, judge}
use Rattle.format.specs.Walk.{framing, walk}
use Rattle.format.specs.Laws.Outcomes.{not_got, not_accepted, by_outcome, refused_exactly}
use Rattle.grammar.specs.Numbers.{Grammar}
use Rattle.grammar.specs.Faults.Numbers.{Faults}
use Rattle.grammar.specs.Faults.Modules.{ModuleFault}
use Rattle.grammar.specs.Laws.Faults.Stops.{stop_number, stop_place, Found, Stops, Reads, went, goes}
use Rattle.grammar.proofs.Laws.Faults.Modules.{walk_found, walk_stops}

-- of bytes that begin at an offset of what was lent
pub record Judges {A : Type 0} (at : ℕ) (judgement : List ℕ → Judged A) (F : Faults) : Type 0 where
  pub found : (p : List ℕ) {n k : ℕ} → Bytes p → judgement p ≡ refused n k → Found F p at n k
  pub refuses : {p : List ℕ} {n place : ℕ} → F p n place → judgement p ≡ refused n (at + place)

module _ {A : Type 0} where
  pub refused_number : {n m i j : ℕ} → ◌≡◌ {A = Judged A} (refused n i) (refused m j) → n ≡ m
  refused_number e = cc

  pub refused_place : {n m i j : ℕ} → ◌≡◌ {A = Judged A} (refused n i) (refused m j) → i ≡ j
  refused_place e = cc

  stopped : (r : Outcome A) {n k : ℕ} → judge r ≡ refused n k → r ≡ stop n k
  stopped (got v o bs) e = absurd (not_accepted (sym e))
  stopped (stop n k) e = cc

  pub judged_by : {read : Reader A} {F : Faults} → Stops read F → (at : ℕ) → Judges at (λ p. judge (read at p)) F
  judged_by {read = read} s at = record { found = λ p h e. s.found at p h (stopped (read at p) e); refuses = λ f. ap judge (s.stops f at) }

pub walked : Judges 0 walk ModuleFault
unfolding walk
walked = record {
  found = λ m {n} {k} h e. record { place = k; is = omega arith; fault = walk_found m h (stopped (framing 0 m) e) };
  refuses = λ {p} {n} {place} f. let from_zero : place ≡ 0 + place = omega arith in ap judge (walk_stops f) ∙ ap (refused n) from_zero;
}

module _ {A : Type 0} {at : ℕ} {judgement : List ℕ → Judged A} {F : Faults} (j : Judges at judgement F) where
  pub refuses_exactly : (p : List ℕ) → Bytes p → (n k : ℕ) → (judgement p ≡ refused n k) ↔ ((place : ℕ) × (k ≡ at + place) × F p n place)
  refuses_exactly p h n k = (
    λ e. let f = j.found p h e in (f.place, f.is, f.fault),
    λ f. j.refuses f.2 ∙ ap (refused n) (sym f.1),
  )

  pub one_fault_only : (p : List ℕ) (n m i k : ℕ) → F p n i → F p m k → (n ≡ m) × (i ≡ k)
  one_fault_only p n m i k f g =
      let e = sym (j.refuses f) ∙ j.refuses g in
      (refused_number e, omega (arith, refused_place e))

  module _ {B : Type 0} (plain : A → B) {grammar : Grammar B} (meaningless : (p : List ℕ) → Bytes p → ((n k : ℕ) × (map_judged plain (judgement p) ≡ refused n k)) ↔ ((m : B) → grammar p m → ⊥)) where
    pub faulty_exactly : (p : List ℕ) → Bytes p → ((n place : ℕ) × F p n place) ↔ ((m : B) → grammar p m → ⊥)
    faulty_exactly p h = (
      λ f. (meaningless p h).0 (f.0, at + f.1, (refused_exactly plain (judgement p)).1 (j.refuses f.2)),
      λ none. let (n, k, e) = (meaningless p h).1 none in let f = j.found p h ((refused_exactly plain (judgement p)).0 e) in (n, f.place, f.fault),
    )

-- a reader of bytes that may go on
module _ {A B : Type 0} {read : Reader A} {plain : A → B} {grammar : Grammar B} {F : Faults} (r : Reads read plain grammar F) where
  pub halts_exactly : (at : ℕ) (bs : List ℕ) → Bytes bs → (n k : ℕ) → (read at bs ≡ stop n k) ↔ ((place : ℕ) × (k ≡ at + place) × F bs n place)
  halts_exactly at bs h n k = (
    λ e. let f = r.faults.found at bs h e in (f.place, f.is, f.fault),
    λ f. r.faults.stops f.2 at ∙ ap (stop n) (sym f.1),
  )

  pub one_halt : (bs : List ℕ) (n m i j : ℕ) → F bs n i → F bs m j → (n ≡ m) × (i ≡ j)
  one_halt bs n m i j f g =
      let e = sym (r.faults.stops f 0) ∙ r.faults.stops g 0 in
      (stop_number e, omega (arith, stop_place e))

  pub halting_exactly : (bs : List ℕ) → Bytes bs → ((n place : ℕ) × F bs n place) ↔ ((front rest : List ℕ) (m : B) → bs ≡ front ++ rest → grammar front m → ⊥)
  halting_exactly bs h = (
    λ f front rest m is g. not_got (sym (r.faults.stops f.2 0) ∙ ap (read 0) is ∙ (goes r g 0 rest).reads),
    λ none. by_outcome (read 0 bs)
        (λ v o rest e. let s = went r 0 bs h e in absurd (none s.front rest (plain v) s.is s.means))
        (λ n k e. let f = r.faults.found 0 bs h e in (n, f.place, f.fault)),
  )
