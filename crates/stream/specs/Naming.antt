-- Rule R14.1 of docs/RULES.md, for names of sections (R2.7).
-- The names of the tracked sections, all compared at once as a name's bytes arrive. Of each: how many of its bytes have been met, all of them in their places; one more than it has once it can be no longer that name. Assumes nothing.
use Rattle.std.specs.Prelude.{ℕ, suc, Bool, cond, ◌&&◌, List, [], ◌∷◌, ltb, eqb, length, get_or}
use Rattle.std.proofs.Math.Option.{Option, none, some}
use Rattle.format.specs.Walk.{name_section, hint_section, older_hint_section}

module _ (x : List ℕ) where
  unfoldable pub match_byte : (met b : ℕ) → ℕ
  match_byte met b = cond (ltb met (length x) && eqb (get_or x met 0) b) (suc met) (suc (length x))

  unfoldable pub match_ends : ℕ → Bool
  match_ends met = eqb met (length x)

-- one for each row of the walk's table
pub record Names : Type 0 where
  pub name : ℕ
  pub hints : ℕ
  pub older : ℕ

abbrev pub none_met : Names
none_met = record { name = 0; hints = 0; older = 0 }

abbrev pub meet : Names → ℕ → Names
meet m b = record { name = match_byte name_section m.name b; hints = match_byte hint_section m.hints b; older = match_byte older_hint_section m.older b }

unfoldable pub meet_all : Names → List ℕ → Names
meet_all m [] = m
meet_all m (b ∷ bs) = meet_all (meet m b) bs

-- the first row that is so
abbrev pub first_of : (name hints older : Bool) → Option ℕ
first_of name hints older = cond name (some 0) (cond hints (some 1) (cond older (some 2) none))

abbrev pub met : Names → Option ℕ
met m = first_of (match_ends name_section m.name) (match_ends hint_section m.hints) (match_ends older_hint_section m.older)
