-- What the types of the code mean. Assumes nothing.
use Rattle.std.specs.Prelude.{ℕ, suc, ◌+◌, ◌-◌, ◌≤◌, ◌<◌, Bool, true, cond, List, ◌≡◌, eqb, length}
use Rattle.std.proofs.Math.Seq.{slice}
use Rattle.format.specs.Refusals as Refusals
use Rattle.format.specs.Reading.{refused}
use Rattle.format.specs.declared.Reason.TheVariants.{NotText}
use Rattle.walk.specs.Sections.{row_called, InTable}
use Rattle.walk.specs.Returned.{Called}
use Rattle.walk.specs.declared.rules.Seen.{Seen}
use Rattle.stream.specs.Contents.{Contents, paying, failing, name}
use Rattle.stream.specs.Counting.{Number, fresh, Counted, whole, partly, over}
use Rattle.stream.specs.Texts.{Text, none_wanted, text_bytes}
use Rattle.stream.specs.Naming.{Names, none_met, meet_all}
use Rattle.stream.specs.Stream.{nothing_done, settled, custom, enter, step, steps}
use Rattle.stream.specs.Calls.{most}
use Rattle.stream.specs.Fields.{fields, first_row, done_from, text_from, names_from, contents_from, state_from}
use Rattle.stream.specs.Fits.{is_number_fitting, text_fits, contents_fit, fits}
use Rattle.stream.specs.declared.Stream.{Stream}
use Rattle.stream.specs.declared.heads.Moved.{Moved}
use Rattle.stream.specs.declared.Met.{Met}
use Rattle.stream.specs.declared.contents.Spelled.{Spelled}
use Rattle.stream.specs.declared.numbers.Counted.{Counted as CountedSo}
use Rattle.stream.specs.declared.numbers.Counted.TheVariants.{Whole, Partly, Over}
use Rattle.stream.specs.declared.texts.Text.{Text as TextSo}

abbrev pub number_of : (come low : ℕ) → Number
number_of come low = record { come = come; low = low }

-- the code can count with it
pub record Countable (come low : ℕ) : Type 0 where
  pub fits : is_number_fitting (number_of come low) ≡ true

abbrev pub counted_of : (come : ℕ) → CountedSo → Counted
counted_of come (Whole n) = whole n
counted_of come (Partly low) = partly (record { come = suc come; low = low })
counted_of come Over = over

abbrev pub text_of : TextSo → Text
text_of t = record { wanted = t.wanted; least = t.least; code = t.point }

pub record Spellable (t : TextSo) : Type 0 where
  pub fits : text_fits (text_of t) ≡ true

abbrev pub met_of : Met → Names
met_of m = record { name = m.name; hints = m.hints; older = m.older }

-- WHAT A STEP OF THE CODE SAYS, in terms of the state that a struct is

pub record Fit (f : Stream) : Type 0 where
  pub fits : fits (state_from f) ≡ true

-- a byte was read
pub record Steps (f : Stream) (b : ℕ) (r : Stream) : Type 0 where
  pub means : state_from r ≡ step (state_from f) b

-- all is refused from here on
pub record Refuses (f : Stream) (number offset : ℕ) (r : Stream) : Type 0 where
  pub means : state_from r ≡ record { total = f.total; phase = settled (refused number offset) }

-- a section's size is known
pub record Enters (f : Stream) (n : ℕ) (r : Stream) : Type 0 where
  pub means : state_from r ≡ record { total = f.total; phase = enter (done_from f) f.id f.at n f.total }

-- a custom section's contents are over, or go on; before that they are contents that the code can count with
pub record Closing (f : Stream) : Type 0 where
  pub inside : 4 < f.phase
  pub behind : f.count < f.total
  pub fits : contents_fit (contents_from f) f.total ≡ true

pub record Closes (f r : Stream) : Type 0 where
  pub means : state_from r ≡ record { total = f.total; phase = custom (done_from f) f.at f.left (contents_from f) f.total }

-- the contents of a custom section are these, and all else is as it was
pub record Contains (f : Stream) (c : Contents) (r : Stream) : Type 0 where
  pub inside : 4 < r.phase
  pub total : r.total ≡ f.total
  pub done : done_from r ≡ done_from f
  pub at : r.at ≡ f.at
  pub left : r.left ≡ f.left
  pub contents : contents_from r ≡ c

-- the number of a name's bytes is known; the name is whole
pub record NameBegins (f : Stream) (n : ℕ) (r : Stream) : Type 0 where
  pub contains : Contains f (name f.begins f.total n none_wanted none_met f.total) r

pub record NameSized (f : Stream) (n : ℕ) (r : Stream) : Type 0 where
  pub means : state_from r ≡ record { total = f.total; phase = custom (done_from f) f.at f.left (name f.begins f.total n none_wanted none_met f.total) f.total }

pub record NameEnds (f : Stream) (valid : Bool) (row : ℕ) (r : Stream) : Type 0 where
  pub contains : Contains f (cond valid (paying (first_row row) f.total) (failing (Refusals.number_of NotText) f.text)) r

-- so many bytes of a name were read, behind which its text and the tracked names stand so
pub record SpelledBy (f : Stream) (bs : List ℕ) (r : Spelled) : Type 0 where
  pub text : text_of r.text ≡ text_bytes (text_from f) bs
  pub met : met_of r.met ≡ meet_all (names_from f) bs

pub record Spelling (f : Stream) (n : ℕ) (x : Spelled) : Type 0 where
  pub phase : f.phase ≡ 6
  pub some : 0 < n
  pub room : f.total + n ≤ most
  pub left : n ≤ f.left
  pub rest : n ≤ f.rest
  pub count : f.count ≤ f.total
  pub fits : text_fits (text_of x.text) ≡ true

pub record Spells (f : Stream) (n : ℕ) (x : Spelled) (r : Stream) : Type 0 where
  pub means : state_from r ≡ record { total = f.total + n; phase = custom (done_from f) f.at (f.left - n) (name f.begins f.text (f.rest - n) (text_of x.text) (met_of x.met) (f.total + n)) (f.total + n) }

-- a row counted from 1
pub record CallsRow (row : ℕ) (called : Called) : Type 0 where
  pub row_is : row_called called ≡ first_row row
  pub known : InTable called

abbrev pub seen_so : Stream → Seen
seen_so f = record { rank = f.rank; code = eqb f.code 1; there = f.there }

-- so many bytes of a payload, or behind a fault, are here
pub record Passing (f : Stream) (n : ℕ) : Type 0 where
  pub fit : Fit f
  pub phase : 6 < f.phase
  pub some : 0 < n
  pub inside : n ≤ f.left
  pub room : f.total + n ≤ most

-- so many bytes were read, whatever they were
pub record Passes (f : Stream) (n : ℕ) (r : Stream) : Type 0 where
  pub means : (bs : List ℕ) → length bs ≡ n → state_from r ≡ steps (state_from f) bs

-- the lesser of what is here and what is left
pub record Reaches (here left r : ℕ) : Type 0 where
  pub inside : r ≤ left
  pub lent : r ≤ here
  pub least : r < left → r ≡ here
  pub moves : 0 < here → 0 < left → 0 < r

-- a part is read up to an offset
pub record Ready (f : Stream) (part : List ℕ) (i : ℕ) : Type 0 where
  pub fit : Fit f
  pub here : i < length part
  pub room : f.total + (length part - i) ≤ most

pub record Moves (f : Stream) (part : List ℕ) (i : ℕ) (r : Moved) : Type 0 where
  pub moves : i < r.at
  pub within : r.at ≤ length part
  pub means : state_from r.stream ≡ steps (state_from f) (slice i r.at part)

-- all of it is to be read
pub record Feeding (f : Stream) (part : List ℕ) : Type 0 where
  pub fit : Fit f
  pub room : f.total + length part ≤ most

-- what is left of it is to be read; its first byte stands at `base`
pub record FeedingFrom (f : Stream) (part : List ℕ) (from base : ℕ) : Type 0 where
  pub fit : Fit f
  pub within : from ≤ length part
  pub total : f.total ≡ base + from
  pub room : base + length part ≤ most

-- in the preamble, or said to be
pub record InPreamble (f : Stream) : Type 0 where
  pub phase : f.phase ≡ 0
  pub countable : f.total < most

-- in the preamble
pub record Starting (f : Stream) : Type 0 where
  pub phase : f.phase ≡ 0
  pub below : f.total < 8

-- THE STATE AS A CALLER HOLDS IT
abbrev pub blank_at : (total phase : ℕ) → Stream
blank_at total phase = fields total phase nothing_done 0 0 0 fresh 0 0 0 none_wanted none_met 0 0

abbrev pub behind_of : Stream → Stream
behind_of f = fields f.total 1 (done_from f) 0 0 0 fresh 0 0 0 none_wanted none_met 0 0
