-- Each promise of the crate `reading` determines what comes back.
use Rattle.format.proofs.Determined.{Determines1, Determines2, Determines3, DeterminesBoth3, equal_determined, part_determined}
use Rattle.reading.proofs.Same.{number_same, part_same}
use Rattle.reading.proofs.Standing.{number_here_same, part_here_same}
use Rattle.reading.specs.Promises.{ReadingWide, ReadingOver, ReadingNumber, ReadingSized, ReadingName, ReadingNumberHere, ReadingPartHere, ReadingTaken, ReadingIsText}

pub record Reading : Type 0 where
  -- reading
  reading_wide : Determines1 ReadingWide
  reading_over : Determines1 ReadingOver
  reading_number : Determines2 ReadingNumber
  reading_sized : Determines2 ReadingSized
  reading_name : Determines2 ReadingName
  -- reading::again
  reading_number_here : Determines2 ReadingNumberHere
  reading_part_here : Determines2 ReadingPartHere
  -- reading::taking
  reading_taken : DeterminesBoth3 ReadingTaken
  -- reading::text
  reading_is_text : Determines3 ReadingIsText

pub determined : Reading
determined =
    record {
      reading_wide = λ x. equal_determined _;
      reading_over = λ s. equal_determined _;
      reading_number = λ self s. number_same;
      reading_sized = λ self s. part_same;
      reading_name = λ self s. part_same;
      reading_number_here = λ c s. number_here_same;
      reading_part_here = λ c s. part_here_same;
      reading_taken = λ p lent_at_lem answer a b h h'. part_determined _ _ a b (h.bytes_are, h.begins_there) (h'.bytes_are, h'.begins_there);
      reading_is_text = λ s from to. equal_determined _;
    }
