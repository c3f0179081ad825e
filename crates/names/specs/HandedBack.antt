-- What users demand of the calls, said of what they hand back.
use Rattle.std.specs.Prelude.{ℕ, List, ◌≡◌, Ok, Some}
use Rattle.format.proofs.Results.{CallAnswers, calls_answer}
use Rattle.format.specs.Canonical.{bare}
use Rattle.format.proofs.Theorems.{questions_answered}
use Rattle.format.specs.Examples.{hex, digit}
use Rattle.format.specs.Holding.{Holds}
use Rattle.format.proofs.Laws.Answers.{same_answer}
use Rattle.format.specs.Names.{Kind, known, known_kind, contents, subsections, payload, judge_names}
use Rattle.format.specs.Numbers.{number, groups}
use Rattle.format.specs.Parts.{sized, name}
use Rattle.format.specs.Questions.{id_of, query_of, answer, asked, ask_at, ask, as_place, as_bytes, answered}
use Rattle.format.specs.declared.Question.{Question}
use Rattle.format.specs.declared.Question.TheVariants.{ModuleName}
use Rattle.format.specs.Tables.{lookup, map_table}
use Rattle.format.specs.Text.{utf8, characters, character, completes}
use Rattle.format.specs.Returned.{Answer}

-- Demand 2. "A lookup gives the mapped name as the very bytes of the section, or none exactly when the index has no name."
pub name_call : (kind_of : ℕ → Kind) (q : Question) (p : List ℕ) (r : Answer) (bytes : List ℕ) → answered r ≡ as_place (ask kind_of q p) → bytes ≡ as_bytes (ask kind_of q p) → CallAnswers (judge_names kind_of 0) (λ t q x. Holds (id_of q) (query_of q) (map_table bare t) x) q p r bytes
name_call kind_of = calls_answer (questions_answered kind_of)

-- An empty name is found with length 0, and so told from none.
pub empty_name_told : (r : Answer) → answered r ≡ as_place (ask known_kind ModuleName (hex "00 01 00")) → r ≡ Ok (Some (record { offset = record { 0 = 3 }; length = 0 }))
unfolding hex digit number groups utf8 characters character completes sized name lookup known known_kind contents subsections payload judge_names answer asked ask_at ask as_place
empty_name_told r e = same_answer r (Ok (Some (record { offset = record { 0 = 3 }; length = 0 }))) e
