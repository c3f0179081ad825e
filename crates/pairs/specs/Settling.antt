-- Which of two payloads answers, and what is handed back. Assumes nothing.
use Rattle.std.specs.Prelude.{ℕ, List, [], ◌≡◌, Ok, Err, Some, None}
use Rattle.format.specs.Pairs.{lent_by}
use Rattle.format.specs.Returned.{Answer}
use Rattle.format.specs.Returned.{PairAnswer}
use Rattle.format.specs.declared.Place.{Place}
use Rattle.format.specs.Returned.{Verdict}
use Rattle.format.specs.declared.Whose.TheVariants.{Separate, Own}
use Rattle.reading.specs.Taken.{Takes}

abbrev pub own_answer : Answer → PairAnswer
own_answer (Ok None) = (Ok None)
own_answer (Ok (Some p)) = Ok (Some (Own, p))
own_answer (Err r) = Err (Own, r)

abbrev pub beside_own : Place → Verdict → PairAnswer
beside_own p (Ok _) = Ok (Some (Separate, p))
beside_own p (Err r) = Err (Own, r)

-- the part at its place, of the one that supplied it
abbrev pub HandedBack : (s o : List ℕ) (at_s at_o : ℕ × ℕ) → PairAnswer → List ℕ → ℕ × ℕ → Type 0
HandedBack s o at_s at_o (Ok None) bytes begins = (bytes ≡ []) × (begins ≡ at_s)
HandedBack s o at_s at_o (Ok (Some (w, p))) bytes begins = Takes (lent_by w s o) (lent_by w at_s at_o) (Ok (Some p)) bytes begins
HandedBack s o at_s at_o (Err (w, r)) bytes begins = (bytes ≡ []) × (begins ≡ at_s)

pub record HandsBack (s o : List ℕ) (at_s at_o : ℕ × ℕ) (a : PairAnswer) (bytes : List ℕ) (begins : ℕ × ℕ) : Type 0 where
  pub part : HandedBack s o at_s at_o a bytes begins
