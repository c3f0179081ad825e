-- What the steps of the write promise one another: the checks, the length of the contents, and the bytes. Assumes nothing.
use Rattle.std.specs.Prelude.{ℕ, ◌+◌, ◌<◌, Bool, ◌&&◌, List, [], ◌∷◌, ◌++◌, ◌≡◌, ltb, eqb, length, Ok, Err}
use Rattle.format.specs.Refusals.{number_of}
use Rattle.format.specs.Reading.{Judged, accepted, refused}
use Rattle.format.specs.Numbers.{shortest, limit32}
use Rattle.format.specs.Canonical.{write_part, write_rows, write_subsections}
use Rattle.format.specs.Lists.{sum, listed, unsorted_at, bad_text_at, unless, provided, subsection}
use Rattle.format.specs.declared.Reason.TheVariants.{ListsDisagree, NotAbove, NotText, SubsectionTooLarge}
use Rattle.lists.specs.Returned.{Checked, Contents}

-- a length for each index, and the lengths add up to the text
unfoldable pub agree : (indices lengths text : List ℕ) → Bool
agree is ns text = eqb (length is) (length ns) && eqb (sum ns) (length text)

abbrev pub checked_as : Checked → Judged (Unit {0})
checked_as (Ok _) = accepted tt
checked_as (Err r) = refused (number_of r.reason) r.offset.0

unfoldable pub index_check : List ℕ → Judged (Unit {0})
index_check is = unless (unsorted_at 0 0 is) NotAbove (accepted tt)

unfoldable pub text_check : (lengths text : List ℕ) → Judged (Unit {0})
text_check ns text = unless (bad_text_at 0 ns text) NotText (accepted tt)

-- how long the contents are, by the numbers of the lists alone
abbrev pub row_length : (index size : ℕ) → ℕ
row_length i n = length (shortest i) + length (shortest n) + n

unfoldable pub rows_length : (indices lengths : List ℕ) → ℕ
rows_length [] ns = 0
rows_length (i ∷ is) [] = 0
rows_length (i ∷ is) (n ∷ ns) = row_length i n + rows_length is ns

abbrev pub contents_length : (indices lengths : List ℕ) → ℕ
contents_length is ns = length (shortest (length is)) + rows_length is ns

abbrev pub contents_as : Contents → Judged ℕ
contents_as (Ok n) = accepted n
contents_as (Err r) = refused (number_of r.reason) r.offset.0

unfoldable pub size_check : (indices lengths : List ℕ) → Judged ℕ
size_check is ns = provided (ltb (contents_length is ns) limit32) SubsectionTooLarge (accepted (contents_length is ns))

-- every check in its order, then the length
unfoldable pub lists_judged : (indices lengths text : List ℕ) → Judged ℕ
lists_judged is ns text =
    provided (agree is ns text) ListsDisagree
    (unless (unsorted_at 0 0 is) NotAbove
    (unless (bad_text_at 0 ns text) NotText
    (size_check is ns)))

-- lists that agree
pub record Joined (is ns text : List ℕ) : Type 0 where
  pub same_count : length is ≡ length ns
  pub add_up : sum ns ≡ length text

-- and how long their contents are
pub record Measured (is ns text : List ℕ) (n : ℕ) : Type 0 where
  pub joined : Joined is ns text
  pub measured : n ≡ contents_length is ns
  pub small : n < limit32

unfoldable pub rows_of : (indices lengths text : List ℕ) → List ℕ
rows_of is ns text = write_rows write_part (listed is ns text)

-- the subsection whose contents have `size` bytes
unfoldable pub filled : (indices lengths text : List ℕ) (size : ℕ) → List ℕ
filled is ns text size = 1 ∷ (shortest size ++ (shortest (length is) ++ rows_of is ns text))

abbrev pub needed_for : (size : ℕ) → ℕ
needed_for size = 1 + length (shortest size) + size

unfoldable pub payload : (indices lengths text : List ℕ) → List ℕ
payload is ns text = write_subsections (subsection (listed is ns text))
