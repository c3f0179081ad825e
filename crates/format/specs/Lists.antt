-- Rules R9.5 to R9.10 of docs/RULES.md.
-- Function names written from three lent lists: indices, name lengths in bytes, and the text of all names joined. Refusals in this order: 14, all of 11, all of 4, 15; 13 comes after them, with the output. Assumes nothing.
use Rattle.std.specs.Prelude.{ℕ, suc, ◌+◌, ◌<◌, Bool, true, false, cond, ◌&&◌, List, [], ◌∷◌, ltb, leb, eqb, length, take, drop, get_or}
use Rattle.std.proofs.Math.Option.{Option, none, some}
use Rattle.format.specs.Refusals.{number_of}
use Rattle.format.specs.Reading.{Judged, accepted, refused}
use Rattle.format.specs.Numbers.{limit32}
use Rattle.format.specs.Text.{utf8}
use Rattle.format.specs.Tables.{Table, nil, row}
use Rattle.format.specs.Names.{Content, names}
use Rattle.format.specs.Canonical.{keep_rows, trim, write_content, write_subsections}
use Rattle.format.specs.declared.Reason.{Reason}
use Rattle.format.specs.declared.Reason.TheVariants.{ListsDisagree, NotAbove, NotText, SubsectionTooLarge}

-- every element of the list of indices has 32 bits
abbrev pub Indices : List ℕ → Type 0
Indices is = (i : ℕ) → get_or is i 0 < limit32

-- lengths are added exactly
unfoldable pub sum : List ℕ → ℕ
sum [] = 0
sum (n ∷ ns) = n + sum ns

-- the name map that the lists give
unfoldable pub listed : (indices lengths text : List ℕ) → Table (List ℕ)
listed [] ns text = nil
listed (i ∷ is) [] text = nil
listed (i ∷ is) (n ∷ ns) text = row i (take n text) (listed is ns (drop n text))

-- the position of the first index that is not above the one before; the first is at least `least`
unfoldable pub unsorted_at : (position least : ℕ) → List ℕ → Option ℕ
unsorted_at position least [] = none
unsorted_at position least (i ∷ is) = cond (leb least i) (unsorted_at (suc position) (suc i) is) (some position)

-- where the first name that is not UTF-8 starts in the joined text
unfoldable pub bad_text_at : (start : ℕ) (lengths text : List ℕ) → Option ℕ
bad_text_at start [] text = none
bad_text_at start (n ∷ ns) text = cond (utf8 (take n text)) (bad_text_at (start + n) ns (drop n text)) (some start)

abbrev pub unless : {A : Type 0} → Option ℕ → Reason → Judged A → Judged A
unless none why next = next
unless (some at) why next = refused (number_of why) at

abbrev pub provided : {A : Type 0} → Bool → Reason → Judged A → Judged A
provided true why next = next
provided false why next = refused (number_of why) 0

-- one subsection of function names, in canonical form: empty lists give an empty payload
unfoldable pub subsection : Table (List ℕ) → Table (Content (List ℕ))
subsection t = keep_rows trim (row 1 (names t) nil)

unfoldable pub function_names : (indices lengths text : List ℕ) → Judged (List ℕ)
function_names is ns text =
    provided (eqb (length is) (length ns) && eqb (sum ns) (length text)) ListsDisagree
    (unless (unsorted_at 0 0 is) NotAbove
    (unless (bad_text_at 0 ns text) NotText
    (provided (ltb (length (write_content (names (listed is ns text)))) limit32) SubsectionTooLarge
    (accepted (write_subsections (subsection (listed is ns text)))))))
