-- Each promise of the crate `out_of_order` determines what comes back: the length and the output's bytes, how many rows there are, and the lists. What the window has after a call is left open: it is room that the caller lends, and nobody reads it.
use Rattle.format.proofs.Determined.{Determines5, equal_determined}
use Rattle.in_order.proofs.Same.{columns_same}
use Rattle.out_of_order.specs.Promises.{OutOfOrderMeasure, OutOfOrderPut, OutOfOrderCountRows, OutOfOrderPutRows}
use Rattle.writing.proofs.Laws.{wrote_same}

pub record Out_of_order : Type 0 where
  out_of_order_measure : Determines5 OutOfOrderMeasure
  out_of_order_put : Determines5 OutOfOrderPut
  -- out_of_order::rows
  out_of_order_count_rows : Determines5 OutOfOrderCountRows
  out_of_order_put_rows : Determines5 OutOfOrderPutRows

pub determined : Out_of_order
determined =
    record {
      out_of_order_measure = λ keys orders c s n. equal_determined _;
      out_of_order_put = λ old end c s n a b p q. (wrote_same p q).0;
      out_of_order_count_rows = λ keys orders c s n. equal_determined _;
      out_of_order_put_rows = λ lists end c s n a b p q. columns_same p q;
    }
