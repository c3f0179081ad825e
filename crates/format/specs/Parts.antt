-- Rules R1.8, R1.9, R1.12 and R1.14 of docs/RULES.md.
-- Sized parts and names. A name is a number (its length in bytes) and that many bytes of valid UTF-8. Assumes nothing.
use Rattle.std.specs.Prelude.{ℕ, ◌+◌, List, [], leb, length, take, drop}
use Rattle.format.specs.Reading.{◌>>=◌, ◌>>◌, Outcome, got, stop, Reader, return, here, checked}
use Rattle.format.specs.Numbers.{number}
use Rattle.format.specs.Text.{utf8}
use Rattle.format.specs.declared.Place.{Place}
use Rattle.format.specs.declared.Reason.TheVariants.{PastItsPart, NotText}

-- a part of what was lent: where it begins, and its bytes
pub record Part : Type 0 where
  pub at : ℕ
  pub bytes : List ℕ

-- where it lies, as an answer gives it
abbrev pub place_of : Part → Place
place_of p = record { offset = record { 0 = p.at }; length = length p.bytes }

abbrev pub fits : ℕ → ℕ → Reader (Unit {0})
fits n first o bs = checked (leb n (length bs)) PastItsPart first o bs

abbrev pub cut : ℕ → Reader Part
cut n o bs = got (record { at = o; bytes = take n bs }) (o + n) (drop n bs)

-- a number and that many bytes; refusal 2 gives the number's first byte
unfoldable pub sized : Reader Part
sized = do
  first ← here
  n ← number
  fits n first
  cut n

-- refusal 4 gives the first byte of the text
unfoldable pub name : Reader Part
name = do
  text ← sized
  checked (utf8 text.bytes) NotText text.at
  return text

-- all that is left, as a part
unfoldable pub remaining : Reader Part
remaining o bs = got (record { at = o; bytes = bs }) (o + length bs) []

-- a reader from a part's beginning to its end; the reading then goes on after the part
abbrev pub go_on : {A : Type 0} → Outcome A → Reader A
go_on (got v o' bs') o bs = got v o bs
go_on (stop n at) o bs = stop n at

abbrev pub inside : {A : Type 0} → Reader A → Part → Reader A
inside read p = go_on (read p.at p.bytes)
