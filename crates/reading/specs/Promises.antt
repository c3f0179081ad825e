-- THE PROMISES of the crate `reading`, each by the name of its function. They stand in the `ensures` of the public functions and nowhere else: what is shown of these names is shown of the functions. A promise relates what is lent to what comes back.
use Rattle.std.specs.Prelude.{ℕ, Bool, List, ◌≡◌}
use Rattle.std.proofs.Math.Seq.{slice}
use Rattle.format.specs.Numbers.{number}
use Rattle.format.specs.Parts.{sized, name}
use Rattle.format.specs.Text.{utf8}
use Rattle.format.specs.Returned.{Answer}
use Rattle.reading.specs.Cursors.{over_all, NumberReads, PartReads}
use Rattle.reading.specs.Standing.{Stands, TakesPart}
use Rattle.reading.specs.Taken.{Takes}
use Rattle.reading.specs.declared.Cursor.{Cursor}
use Rattle.reading.specs.Returned.{NumberRead}
use Rattle.reading.specs.Returned.{PartRead}
use Rattle.reading.specs.declared.again.Number.{Number}
use Rattle.reading.specs.declared.again.Piece.{Piece}

-- reading
abbrev pub ReadingWide : (x : ℕ) → ℕ → Type 0
ReadingWide x r = r ≡ x

abbrev pub ReadingOver : (s : List ℕ) → Cursor → Type 0
ReadingOver s r = r ≡ over_all s

abbrev pub ReadingNumber : (self : Cursor) (s : List ℕ) → NumberRead → Type 0
ReadingNumber self s r = NumberReads s self r

abbrev pub ReadingSized : (self : Cursor) (s : List ℕ) → PartRead → Type 0
ReadingSized self s r = PartReads sized s self r

abbrev pub ReadingName : (self : Cursor) (s : List ℕ) → PartRead → Type 0
ReadingName self s r = PartReads name s self r

-- reading::again
abbrev pub ReadingNumberHere : (c : Cursor) (s : List ℕ) → Number → Type 0
ReadingNumberHere c s r = Stands number s c r.value r.next

abbrev pub ReadingPartHere : (c : Cursor) (s : List ℕ) → Piece → Type 0
ReadingPartHere c s r = TakesPart s c r

-- reading::taking
abbrev pub ReadingTaken : (p : List ℕ) (lent_at_lem : ℕ × ℕ) (answer : Answer) → (ℕ × ℕ) → List ℕ → Type 0
ReadingTaken p lent_at_lem answer begins bytes = Takes p lent_at_lem answer bytes begins

-- reading::text
abbrev pub ReadingIsText : (s : List ℕ) (from to : ℕ) → Bool → Type 0
ReadingIsText s from to r = r ≡ utf8 (slice from to s)
