-- Rules R1.15 and R8.10 of docs/RULES.md.
-- K10. Whether a number took its fewest bytes, and whether a payload is its own canonical rewriting. Assumes nothing.
use Rattle.std.specs.Prelude.{ℕ, ◌+◌, Bool, false, List, eqb, length}
use Rattle.format.specs.Bytes.{same}
use Rattle.format.specs.Reading.{Reader, Judged, accepted, refused}
use Rattle.format.specs.Parts.{Part}
use Rattle.format.specs.Names.{Kind}
use Rattle.format.specs.Canonical.{canonical_names, canonical_of}
use Rattle.format.specs.Older.{canonical_older}

-- "The number reader should also say whether the number took its fewest bytes." What was read, of which `rest` is left, took as many bytes as a form of it has; the form of a number is `shortest`
abbrev pub as_few : (form rest bs : List ℕ) → Bool
as_few form rest bs = eqb (length form + length rest) (length bs)

-- "On top comes a yes or no for a payload: yes exactly when it is accepted and equals its canonical rewriting."
unfoldable pub is_its_rewriting : Judged (List ℕ) → List ℕ → Bool
is_its_rewriting (accepted written) bs = same written bs
is_its_rewriting (refused n at) bs = false

unfoldable pub names_are_canonical : (ℕ → Kind) → List ℕ → Bool
names_are_canonical kind_of bs = is_its_rewriting (canonical_names kind_of bs) bs

unfoldable pub items_are_canonical : Reader Part → List ℕ → Bool
items_are_canonical item bs = is_its_rewriting (canonical_of item bs) bs

-- K2: and of the older edition of hints
unfoldable pub older_is_canonical : List ℕ → Bool
older_is_canonical bs = is_its_rewriting (canonical_older bs) bs
