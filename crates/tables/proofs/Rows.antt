-- Rows, as a search passes them: it holds what was found so far, and each row leaves the rows after it. Nothing here is about code.
use Prim.Native.Nat.{ℕ, zero, suc, ◌-◌, ◌≤◌, ◌<◌}
use mathlib.Core.Bool.{cond}
use mathlib.Core.List.{List}
use mathlib.Core.Option.{Option, none, some}
use mathlib.Core.Path.{◌≡◌, refl}
use native.Mathlib.Omega.{arith}
use borrow.Author.Tests.{eqb-true, ne_eqb}
use lib.Dec.{leb, eqb}
use Rattle.format.specs.Reading.{Outcome, got, stop, Reader, and_then, return}
use Rattle.format.specs.Numbers.{number, limit32}
use Rattle.format.specs.Parts.{Part}
use Rattle.format.specs.Tables.{Table, row, lookup, rows}
use Rattle.format.specs.Options.{some_then, or_else}
use Rattle.format.specs.Laws.Outcomes.{got_value, by_test, by_outcome}
use Rattle.format.specs.Laws.Options.{or_none}
use Rattle.format.proofs.Laws.Codecs.{number_sound}
use Rattle.format.specs.Laws.Turns.{in_row}
use Rattle.tables.specs.Steps.{index_from, Passed, passing}

pub then_some : {A : Type 0} (x : Option A) → some_then x some ≡ x
then_some none = refl
then_some (some v) = refl

-- no row has a number below the least
pub rows_above : {A : Type 0} (value : Reader A) (n least o : ℕ) (bs : List ℕ) {t : Table A} {o' : ℕ} {rest : List ℕ} (key : ℕ) → rows value n least o bs ≡ got t o' rest → key < least → lookup key t ≡ none
unfolding rows lookup
rows_above value zero least o bs key e h = rw (← got_value e)
rows_above value (suc n) least o bs key e h =
    in_row value n least o bs e λ k o₁ r₁ v o₂ r₂ more e₁ above e₂ e₃ is.
    rw (← is, ne_eqb key k (λ q. omega arith)) (rows_above value n (suc k) o₂ r₂ key e₃ (omega arith))

-- no row has a number that 32 bits do not hold: where that is wanted, nothing is found
pub nothing_found : {A : Type 0} (value : Reader A) (n least o : ℕ) (bs : List ℕ) {t : Table A} {o' : ℕ} {rest : List ℕ} → rows value n least o bs ≡ got t o' rest → lookup limit32 t ≡ none
unfolding rows lookup
nothing_found value zero least o bs e = rw (← got_value e)
nothing_found value (suc n) least o bs e =
    in_row value n least o bs e λ k o₁ r₁ v o₂ r₂ more e₁ above e₂ e₃ is.
    rw (← is, ne_eqb limit32 k (λ q. omega (arith, (number_sound o bs e₁).fine))) (nothing_found value n (suc k) o₂ r₂ e₃)

module _ {A : Type 0} (answer : A → Option Part) (key : ℕ) where
  -- what is held, or else what the value at `key` answers
  abbrev pub seek : Option Part → Outcome (Table A) → Outcome (Option Part)
  seek held r = and_then r (λ t. return (or_else held (some_then (lookup key t) answer)))

  seek_row : (held : Option Part) (k : ℕ) (v : A) (r : Outcome (Table A)) → ((t : Table A) (o : ℕ) (bs : List ℕ) → r ≡ got t o bs → key ≡ k → lookup key t ≡ none) → seek held (and_then r (λ t. return (row k v t))) ≡ seek (or_else held (cond (eqb key k) (answer v) none)) r
  unfolding lookup
  seek_row held k v (stop n at) h = refl
  seek_row (some p) k v (got t o bs) h = refl
  seek_row none k v (got t o bs) h =
      by_test (eqb key k)
      (λ e. rw (e, h t o bs refl (eqb-true key k e), or_none))
      (λ e. rw e)

  module _ (value : Reader A) where
    -- what is held once a row was passed, and the rows behind it
    abbrev pub seek_behind : Option Part → ℕ → Passed → Reader (Option Part)
    seek_behind held n p = λ o bs. seek (or_else held (cond (eqb key p.number) p.answer none)) (rows value n (suc p.number) o bs)

    one_turn : (held : Option Part) (n least o : ℕ) (bs : List ℕ) → seek held (rows value (suc n) least o bs) ≡ and_then (passing value answer least o bs) (seek_behind held n)
    unfolding rows passing index_from
    one_turn held n least o bs =
        by_outcome (number o bs)
        (λ k o₁ r₁ e. rw e (by_test (leb least k)
        (λ t. rw t (by_outcome (value o₁ r₁)
        (λ v o₂ r₂ e₁. rw e₁ (seek_row held k v (rows value n (suc k) o₂ r₂) (λ t o₃ r₃ e₂ q. rows_above value n (suc k) o₂ r₂ key e₂ (omega arith))))
        (λ m at e₁. rw e₁)))
        (λ t. rw t)))
        (λ m at e. rw e)

    -- one turn of a search, and its end
    pub turn : (held : Option Part) (more least o : ℕ) (bs : List ℕ) → 0 < more → seek held (rows value more least o bs) ≡ and_then (passing value answer least o bs) (seek_behind held (more - 1))
    turn held zero least o bs h = absurd (omega arith)
    turn held (suc n) least o bs h = let d : suc n - 1 ≡ n = omega arith in rw d (one_turn held n least o bs)

    pub turned : (held : Option Part) (more least o : ℕ) (bs : List ℕ) → more ≤ 0 → seek held (rows value more least o bs) ≡ got held o bs
    unfolding rows lookup
    turned held zero least o bs h = rw or_none
    turned held (suc n) least o bs h = absurd (omega arith)
