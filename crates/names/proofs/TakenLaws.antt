-- The bytes of an answer are the very bytes of what was lent.
use Prim.Native.Nat.{ℕ, ◌+◌}
use mathlib.Core.List.{List}
use mathlib.Core.Option.{some}
use mathlib.Core.Path.{◌≡◌}
use borrow.Author.Rules.{rules}
use Rattle.format.specs.Reading.{accepted}
use Rattle.format.specs.Parts.{Part}
use Rattle.format.specs.Names.{Kind}
use Rattle.format.specs.Questions.{id_of, query_of, ask_at, ask, as_place, as_bytes, start_of, answered}
use Rattle.format.specs.declared.Question.{Question}
use Rattle.format.proofs.Laws.Places.{PartIn, lies_all}
use Rattle.format.proofs.Laws.Found.{name_lies}
use Rattle.format.specs.Returned.{Answer}
use Rattle.reading.specs.Taken.{Takes}
use Rattle.reading.proofs.TakenLaws.{answer_bytes, answer_start}

module _ (kind_of : ℕ → Kind) (q : Question) (s : List ℕ) (a : Answer) (e : answered a ≡ as_place (ask kind_of q s)) {at begins : ℕ × ℕ} {bytes : List ℕ} (t : Takes s at a bytes begins) where
  question_lies : (p : Part) → ask kind_of q s ≡ accepted (some p) → PartIn s p
  unfolding ask ask_at
  question_lies p h = name_lies kind_of (id_of q) (query_of q) s 0 s (lies_all s) h

  pub question_bytes : bytes ≡ as_bytes (ask kind_of q s)
  question_bytes = answer_bytes t e question_lies

  pub question_start : begins ≡ (at.0, start_of (ask kind_of q s) + at.1)
  question_start = answer_start t e question_lies

pub ruleset taken_answers = (question_bytes, question_start, rules)
