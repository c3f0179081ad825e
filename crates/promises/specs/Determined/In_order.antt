-- Each promise of the crate `in_order` determines what comes back.
use Rattle.format.proofs.Determined.{Determines3, Determines4, DeterminesBoth5}
use Rattle.in_order.proofs.Same.{surveys_same, row_surveys_same, rows_same}
use Rattle.in_order.specs.Promises.{InOrderSurvey, InOrderPutEntries, InOrderSurveyRows, InOrderPutRows}
use Rattle.promises.specs.Determined.Copying.{put_determined}

pub record In_order : Type 0 where
  in_order_survey : Determines3 InOrderSurvey
  in_order_put_entries : DeterminesBoth5 InOrderPutEntries
  -- in_order::rows
  in_order_survey_rows : Determines3 InOrderSurveyRows
  in_order_put_rows : Determines4 InOrderPutRows

pub determined : In_order
determined =
    record {
      in_order_survey = λ c s n. surveys_same;
      in_order_put_entries = λ old at c s n. put_determined _ _ _ _ _ _;
      in_order_survey_rows = λ c s n. row_surveys_same;
      in_order_put_rows = λ lists c s n. rows_same;
    }
