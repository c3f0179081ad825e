-- Each promise of the crate `markers` determines what comes back.
use Rattle.format.proofs.Determined.{Determines5, DeterminesThree3, answer_determined, makes_determined}
use Rattle.markers.specs.Promises.{MarkersMake, MarkersQuick}

pub record Markers : Type 0 where
  -- markers::making
  markers_make : DeterminesThree3 MarkersMake
  -- markers::asking
  markers_quick : Determines5 MarkersQuick

pub determined : Markers
determined =
    record {
      markers_make = λ p indices offsets. makes_determined _ _ _;
      markers_quick = λ p indices offsets end function. answer_determined _;
    }
