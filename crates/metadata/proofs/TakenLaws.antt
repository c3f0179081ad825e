-- The data of an item is the very bytes of what was lent.
use Prim.Native.Nat.{ℕ, ◌+◌}
use mathlib.Core.List.{List}
use mathlib.Core.Option.{some}
use mathlib.Core.Path.{◌≡◌}
use borrow.Author.Rules.{rules}
use Rattle.format.specs.Reading.{accepted}
use Rattle.format.specs.Parts.{Part}
use Rattle.format.specs.Questions.{as_place, as_bytes, start_of, answered}
use Rattle.format.specs.Metadata.{any_item, ask_metadata}
use Rattle.format.proofs.Laws.Places.{PartIn, lies_all, any_located}
use Rattle.format.proofs.Laws.Found.{item_lies}
use Rattle.format.specs.Returned.{Answer}
use Rattle.format.specs.declared.CodeOffset.{CodeOffset}
use Rattle.format.specs.declared.FunctionIndex.{FunctionIndex}
use Rattle.reading.specs.Taken.{Takes}
use Rattle.reading.proofs.TakenLaws.{answer_bytes, answer_start}

module _ (f : FunctionIndex) (k : CodeOffset) (s : List ℕ) (a : Answer) (e : answered a ≡ as_place (ask_metadata any_item f k 0 s)) {at begins : ℕ × ℕ} {bytes : List ℕ} (t : Takes s at a bytes begins) where
  data_lies : (p : Part) → ask_metadata any_item f k 0 s ≡ accepted (some p) → PartIn s p
  data_lies p h = item_lies any_located f k s 0 s (lies_all s) h

  pub data_bytes : bytes ≡ as_bytes (ask_metadata any_item f k 0 s)
  data_bytes = answer_bytes t e data_lies

  pub data_start : begins ≡ (at.0, start_of (ask_metadata any_item f k 0 s) + at.1)
  data_start = answer_start t e data_lies

pub ruleset taken_answers = (data_bytes, data_start, rules)
