-- A list in any order, as a search passes it: it holds what was found first, and each thing read leaves those after it. Nothing here is about code.
use Prim.Native.Nat.{ℕ, zero, suc, ◌-◌, ◌≤◌, ◌<◌}
use mathlib.Core.List.{List, [], ◌∷◌}
use mathlib.Core.Option.{Option, none}
use mathlib.Core.Path.{◌≡◌, refl}
use native.Mathlib.Omega.{arith}
use lib.Dec.{eqb}
use Rattle.format.specs.Reading.{Outcome, got, stop, Reader, and_then, return}
use Rattle.format.specs.Options.{or_else}
use Rattle.format.specs.Older.{times, first_at, first_in}
use Rattle.format.specs.Laws.Options.{or_none, or_else_lem}
use Rattle.format.specs.Laws.Outcomes.{by_test, by_outcome}
use Rattle.format.specs.declared.Hint.{Hint}
use Rattle.older.specs.Seeking.{nothing, at_offset, in_function, asked}

-- a list answers with the first answer of what it has
pub record Firsts {A : Type 0} (each : A → Option Hint) (all : List A → Option Hint) : Type 0 where
  pub of_none : all [] ≡ none
  pub of_more : (x : A) (xs : List A) → all (x ∷ xs) ≡ or_else (each x) (all xs)

pub nothing_firsts : {A : Type 0} → Firsts {A = A} nothing nothing
nothing_firsts = record { of_none = refl; of_more = λ x xs. refl }

pub offset_firsts : (offset : ℕ) → Firsts (at_offset offset) (first_at offset)
unfolding first_at
offset_firsts offset = record {
  of_none = refl;
  of_more = λ h hs. by_test (eqb offset h.offset) (λ e. rw e) (λ e. rw e);
}

pub function_firsts : (function offset : ℕ) → Firsts (in_function function offset) (first_in function offset)
unfolding first_in
function_firsts function offset = record {
  of_none = refl;
  of_more = λ h hs. by_test (eqb function h.function) (λ e. rw e) (λ e. rw e);
}

module _ {A : Type 0} {each : A → Option Hint} {all : List A → Option Hint} (firsts : Firsts each all) where
  -- what is held, or else what the list answers
  abbrev pub seek : Option Hint → Outcome (List A) → Outcome (Option Hint)
  seek held r = and_then r (λ xs. return (or_else held (all xs)))

  seek_more : (held : Option Hint) (x : A) (r : Outcome (List A)) → seek held (and_then r (λ xs. return (x ∷ xs))) ≡ seek (or_else held (each x)) r
  seek_more held x (stop n at) = refl
  seek_more held x (got xs o bs) = rw (firsts.of_more x xs, or_else_lem held (each x) (all xs))

  module _ (read : Reader A) where
    abbrev pub seek_behind : Option Hint → ℕ → Option Hint → Reader (Option Hint)
    seek_behind held n answer = λ o bs. seek (or_else held answer) (times read n o bs)

    one_turn : (held : Option Hint) (n o : ℕ) (bs : List ℕ) → seek held (times read (suc n) o bs) ≡ and_then (asked each read o bs) (seek_behind held n)
    unfolding times asked
    one_turn held n o bs =
        by_outcome (read o bs)
        (λ x o₁ r₁ e. rw e (seek_more held x (times read n o₁ r₁)))
        (λ m at e. rw e)

    -- one turn of a search, and its end
    pub turn : (held : Option Hint) (more o : ℕ) (bs : List ℕ) → 0 < more → seek held (times read more o bs) ≡ and_then (asked each read o bs) (seek_behind held (more - 1))
    turn held zero o bs h = absurd (omega arith)
    turn held (suc n) o bs h = let d : suc n - 1 ≡ n = omega arith in rw d (one_turn held n o bs)

    pub turned : (held : Option Hint) (more o : ℕ) (bs : List ℕ) → more ≤ 0 → seek held (times read more o bs) ≡ got held o bs
    unfolding times
    turned held zero o bs h = rw (firsts.of_none, or_none)
    turned held (suc n) o bs h = absurd (omega arith)
