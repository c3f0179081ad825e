-- Rules R5.2 to R5.4 of docs/RULES.md.
-- What a payload holds, said without any search: the answers are compared with it. Assumes nothing.
use Rattle.std.specs.Prelude.{ℕ, suc, ◌+◌, ◌≤◌, List, [], ◌∷◌, ◌≡◌, length, take, drop}
use Rattle.format.specs.Reading.{got}
use Rattle.format.specs.Numbers.{number}
use Rattle.format.specs.Tables.{Table, row}
use Rattle.format.specs.Walk.{Section}
use Rattle.format.specs.Names.{Content, single, names, names_by, whole}
use Rattle.format.specs.declared.Query.{Query}
use Rattle.format.specs.declared.Query.TheVariants.{ItsName, ItsContents, NameOf, NameWithin}

-- a table has a value under a number
pub data Has {A : Type 0} (k : ℕ) (v : A) : Table A → Type 0 where
  first : {t : Table A} → Has k v (row k v t)
  later : {i : ℕ} {w : A} {t : Table A} → Has k v t → Has k v (row i w t)

-- a table of tables has a value under two numbers
pub record HasWithin {A : Type 0} (k j : ℕ) (v : A) (t : Table (Table A)) : Type 0 where
  pub group : Table A
  pub outer : Has k group t
  pub inner : Has j v group

-- the subsection with an id holds what is asked
pub data Holds {X : Type 0} : ℕ → Query → Table (Content X) → X → Type 0 where
  the_name : {id : ℕ} {t : Table (Content X)} {x : X} → Has id (single x) t → Holds id ItsName t x
  the_entry : {id k : ℕ} {t : Table (Content X)} {m : Table X} {x : X} → Has id (names m) t → Has k x m → Holds id (NameOf k) t x
  the_inner : {id k j : ℕ} {t : Table (Content X)} {m : Table (Table X)} {x : X} → Has id (names_by m) t → HasWithin k j x m → Holds id (NameWithin k j) t x
  the_contents : {id : ℕ} {t : Table (Content X)} {x : X} → Has id (whole x) t → Holds id ItsContents t x

-- three lists give an index a text: its own stretch of the joined text
pub data Lists (k : ℕ) (x : List ℕ) : (indices lengths text : List ℕ) → Type 0 where
  first_listed : {is ns text : List ℕ} {n : ℕ} → take n text ≡ x → Lists k x (k ∷ is) (n ∷ ns) text
  later_listed : {is ns text : List ℕ} {i n : ℕ} → Lists k x is ns (drop n text) → Lists k x (i ∷ is) (n ∷ ns) text

-- Sections cover a module from an offset to its end: there stands the id byte, then the size number, which is the length of the contents, then the contents; and the next section begins where they end
pub record Framed (m : List ℕ) (s : Section) : Type 0 where
  pub id_byte : take 1 (drop s.at m) ≡ s.id ∷ []
  pub size_number : number (suc s.at) (drop (suc s.at) m) ≡ got (length s.contents.bytes) s.contents.at (drop s.contents.at m)
  pub contents : take (length s.contents.bytes) (drop s.contents.at m) ≡ s.contents.bytes
  pub inside : s.contents.at + length s.contents.bytes ≤ length m

pub data Covers (m : List ℕ) : ℕ → List Section → Type 0 where
  at_the_end_lem : Covers m (length m) []
  a_section : {s : Section} {ss : List Section} → Framed m s → Covers m (s.contents.at + length s.contents.bytes) ss → Covers m s.at (s ∷ ss)
