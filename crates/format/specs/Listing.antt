-- Rules R17.2 to R17.5 of docs/RULES.md.
-- The listing that a program prints of the module on its standard input. Every line ends in one line feed. Assumes nothing.
use Rattle.std.specs.Prelude.{ℕ, zero, suc, ◌+◌, ◌%◌, ◌/◌, true, false, cond, List, [], ◌∷◌, ◌++◌, ltb, leb, length}
use Prim.Native.String.{String}
use Rattle.std.proofs.Math.Option.{Option, none, some}
use Rattle.format.specs.Refusals.{number_of}
use Rattle.format.specs.Bytes.{ascii}
use Rattle.format.specs.Reading.{Judged, accepted, refused}
use Rattle.format.specs.Parts.{Part}
use Rattle.format.specs.Walk.{Section, name_section, hint_section, walk, payload_in}
use Rattle.format.specs.declared.Reason.TheVariants.{InputTooLarge}

-- a number in decimal, in front of what follows; `most` bounds its digits and is never met
unfoldable pub digits : (most n : ℕ) → List ℕ → List ℕ
digits zero n after = after
digits (suc most) n after = elim (ltb n 10) [ true ↦ (48 + n) ∷ after | false ↦ digits most (n / 10) ((48 + n % 10) ∷ after) ]

unfoldable pub decimal : ℕ → List ℕ
decimal n = digits (suc n) n []

-- the pieces of a line, words and numbers, one space between them
pub data Piece : Type 0 where
  text : String → Piece
  num : ℕ → Piece

unfoldable pub piece : Piece → List ℕ
piece (text s) = ascii s
piece (num n) = decimal n

unfoldable pub line : List Piece → List ℕ
line [] = ascii "\n"
line (p ∷ []) = piece p ++ ascii "\n"
line (p ∷ q ∷ ps) = piece p ++ (ascii " " ++ line (q ∷ ps))

-- sections in file order: id, offset of the id byte, contents length
unfoldable pub section_lines : List Section → List ℕ
section_lines [] = []
section_lines (s ∷ ss) = line (num s.id ∷ num s.at ∷ num (length s.contents.bytes) ∷ []) ++ section_lines ss

-- a payload's offset and length, or none
unfoldable pub payload_line : String → Option Part → List ℕ
payload_line label none = line (text label ∷ text "none" ∷ [])
payload_line label (some p) = line (text label ∷ num p.at ∷ num (length p.bytes) ∷ [])

unfoldable pub printed : Judged (List Section) → List ℕ
printed (accepted ss) =
    line (text "sections" ∷ num (length ss) ∷ [])
    ++ (section_lines ss
    ++ (payload_line "name" (payload_in name_section ss)
    ++ payload_line "hints" (payload_in hint_section ss)))
printed (refused n at) = line (text "refused" ∷ num n ∷ num at ∷ [])

-- refusal 16 comes before all others
unfoldable pub greatest_input : ℕ
greatest_input = 65_536

unfoldable pub listing : List ℕ → List ℕ
listing m = printed (cond (leb (length m) greatest_input) (walk m) (refused (number_of InputTooLarge) greatest_input))
