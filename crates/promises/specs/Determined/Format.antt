-- Each promise of the crate `format` determines what comes back.
use Rattle.format.proofs.Determined.{Determines1, equal_determined}
use Rattle.format.specs.Promises.{FormatRefusalOf, FormatReasonNumber, FormatQuestionId, FormatQuestionQuery}

pub record Format : Type 0 where
  format_refusal_of : Determines1 FormatRefusalOf
  format_reason_number : Determines1 FormatReasonNumber
  format_question_id : Determines1 FormatQuestionId
  format_question_query : Determines1 FormatQuestionQuery

pub determined : Format
determined =
    record {
      format_refusal_of = λ verdict. equal_determined _;
      format_reason_number = λ self. equal_determined _;
      format_question_id = λ self. equal_determined _;
      format_question_query = λ self. equal_determined _;
    }
