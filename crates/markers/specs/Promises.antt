-- THE PROMISES of the crate `markers`, each by the name of its function. They stand in the `ensures` of the public functions and nowhere else: what is shown of these names is shown of the functions. A promise relates what is lent to what comes back.
use Rattle.std.specs.Prelude.{ℕ, List, ◌≡◌}
use Rattle.format.specs.Markers.{made, Makes, quick}
use Rattle.format.specs.Questions.{answered, as_place}
use Rattle.format.specs.Returned.{Answer}
use Rattle.format.specs.declared.FunctionIndex.{FunctionIndex}

-- markers::making
abbrev pub MarkersMake : (p indices offsets indices' offsets' : List ℕ) → Answer → Type 0
MarkersMake p indices offsets indices' offsets' r = Makes (made p indices offsets) indices offsets indices' offsets' r

-- markers::asking
abbrev pub MarkersQuick : (p indices offsets : List ℕ) (end : ℕ) (function : FunctionIndex) → Answer → Type 0
MarkersQuick p indices offsets end function r = answered r ≡ as_place (quick p indices offsets end function)
