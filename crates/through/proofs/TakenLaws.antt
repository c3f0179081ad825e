-- The bytes of an answer are the very bytes of the module.
use Prim.Native.Nat.{ℕ, ◌+◌}
use mathlib.Core.List.{List}
use mathlib.Core.Path.{◌≡◌}
use borrow.Author.Rules.{rules}
use Rattle.format.specs.Names.{Kind}
use Rattle.format.specs.Questions.{as_place, as_bytes, start_of, answered}
use Rattle.format.specs.declared.Question.{Question}
use Rattle.format.specs.Through.{ask_through, ask_metadata_through}
use Rattle.format.proofs.Laws.Found.{name_lies_through, item_lies_through}
use Rattle.format.specs.Returned.{Answer}
use Rattle.format.specs.declared.CodeOffset.{CodeOffset}
use Rattle.format.specs.declared.FunctionIndex.{FunctionIndex}
use Rattle.reading.specs.Taken.{Takes}
use Rattle.reading.proofs.TakenLaws.{answer_bytes, answer_start}

module _ (kind_of : ℕ → Kind) (q : Question) (m : List ℕ) (a : Answer) (e : answered a ≡ as_place (ask_through kind_of q m)) {at begins : ℕ × ℕ} {bytes : List ℕ} (t : Takes m at a bytes begins) where
  pub name_bytes : bytes ≡ as_bytes (ask_through kind_of q m)
  name_bytes = answer_bytes t e (λ p h. name_lies_through kind_of q m h)

  pub name_start : begins ≡ (at.0, start_of (ask_through kind_of q m) + at.1)
  name_start = answer_start t e (λ p h. name_lies_through kind_of q m h)

module _ (format : List ℕ) (f : FunctionIndex) (k : CodeOffset) (m : List ℕ) (a : Answer) (e : answered a ≡ as_place (ask_metadata_through format f k m)) {at begins : ℕ × ℕ} {bytes : List ℕ} (t : Takes m at a bytes begins) where
  pub data_bytes : bytes ≡ as_bytes (ask_metadata_through format f k m)
  data_bytes = answer_bytes t e (λ p h. item_lies_through format f k m h)

  pub data_start : begins ≡ (at.0, start_of (ask_metadata_through format f k m) + at.1)
  data_start = answer_start t e (λ p h. item_lies_through format f k m h)

pub ruleset taken_answers = (name_bytes, name_start, data_bytes, data_start, rules)
