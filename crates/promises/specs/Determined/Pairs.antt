-- Each promise of the crate `pairs` determines what comes back.
use Rattle.format.proofs.Determined.{Determines4, DeterminesBoth6, pair_answer_determined, part_determined}
use Rattle.pairs.specs.Promises.{PairsAsk, PairsAskBytes}

pub record Pairs : Type 0 where
  pairs_ask : Determines4 PairsAsk
  pairs_ask_bytes : DeterminesBoth6 PairsAskBytes

pub determined : Pairs
determined =
    record {
      pairs_ask = λ separate own edition q. pair_answer_determined _;
      pairs_ask_bytes = λ separate own separate_at own_at edition q. part_determined _ _;
    }
