-- Each promise of the crate `stream` determines what comes back.
use Rattle.format.proofs.Determined.{Determines, Determines1, Determines2, equal_determined}
use Rattle.stream.specs.Promises.{StreamBegin, StreamTakePart, StreamFinish}

pub record Stream : Type 0 where
  -- stream
  stream_begin : Determines StreamBegin
  stream_take_part : Determines2 StreamTakePart
  stream_finish : Determines1 StreamFinish

pub determined : Stream
determined =
    record {
      stream_begin = equal_determined _;
      stream_take_part = λ s part. equal_determined _;
      stream_finish = λ s. equal_determined _;
    }
