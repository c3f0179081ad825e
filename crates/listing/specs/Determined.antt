-- The promise of the program's listing determines what comes back: where the listing ends, and the output's bytes. The promises of its lines are such writes too, each of the line's own bytes.
use Rattle.format.proofs.Determined.{DeterminesBoth2}
use Rattle.writing.proofs.Laws.{wrote_same}
use Rattle.listing.specs.Promises.{ListingList}

pub record Listing : Type 0 where
  listing_list : DeterminesBoth2 ListingList

pub determined : Listing
determined =
    record {
      listing_list = λ m old a b p q. let one = wrote_same p q in λ i. (one.1 i, one.0 i);
    }
