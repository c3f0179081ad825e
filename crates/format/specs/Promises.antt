-- THE PROMISES of the crate `format`, each by the name of its function. They stand in the `ensures` of the public functions and nowhere else: what is shown of these names is shown of the functions. A promise relates what is lent to what comes back.
use Rattle.std.specs.Prelude.{ℕ, ◌≡◌}
use Rattle.format.specs.Refusals.{number_of}
use Rattle.format.specs.Questions.{id_of, query_of}
use Rattle.format.specs.declared.Query.{Query}
use Rattle.format.specs.declared.Question.{Question}
use Rattle.format.specs.Verdicts.{refusal_in}
use Rattle.format.specs.declared.Reason.{Reason}
use Rattle.format.specs.declared.Refusal.{Refusal}
use Rattle.format.specs.Returned.{Verdict}

-- format
abbrev pub FormatRefusalOf : (verdict : Verdict) → Refusal → Type 0
FormatRefusalOf verdict r = r ≡ refusal_in verdict

abbrev pub FormatReasonNumber : (self : Reason) → ℕ → Type 0
FormatReasonNumber self r = r ≡ number_of self

abbrev pub FormatQuestionId : (self : Question) → ℕ → Type 0
FormatQuestionId self r = r ≡ id_of self

abbrev pub FormatQuestionQuery : (self : Question) → Query → Type 0
FormatQuestionQuery self r = r ≡ query_of self
