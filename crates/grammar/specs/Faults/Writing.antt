-- Rules R9.6 to R9.10 of docs/RULES.md.
-- Faults of the lists that function names are written from. "From lists: 14, all of 11, all of 4, 15, 13": each is given only where none before it is. 13 is the output's and comes behind all of these. Assumes nothing.
use Rattle.std.specs.Prelude.{ℕ, suc, ◌+◌, ◌<◌, cond, List, [], ◌∷◌, ◌≡◌, ltb, length, take}
use Rattle.std.proofs.Math.Option.{some}
use Rattle.std.proofs.Math.ListN.{get_elem?}
use Rattle.format.specs.Holding.{Lists}
use Rattle.format.specs.Lists.{sum}
use Rattle.grammar.specs.Texts.{Text}

-- Lists that agree: as many lengths as indices, and lengths that add up to the text
abbrev pub Agree : (indices lengths text : List ℕ) → Type 0
Agree indices lengths text = (length indices ≡ length lengths) × (sum lengths ≡ length text)

-- indices each above the one before
abbrev pub Rise : List ℕ → Type 0
Rise indices = (i j a b : ℕ) → i < j → get_elem? indices i ≡ some a → get_elem? indices j ≡ some b → a < b

-- and names that are text, each its own stretch of the joined text
abbrev pub AreText : (indices lengths text : List ℕ) → Type 0
AreText indices lengths text = (k : ℕ) (x : List ℕ) → Lists k x indices lengths text → (characters : List ℕ) × Text x characters

-- Lists are fine where all three hold
pub record FineLists (indices lengths text : List ℕ) : Type 0 where
  pub agree : Agree indices lengths text
  pub rise : Rise indices
  pub are_text : AreText indices lengths text

-- How long the subsection of the lists is. A number takes one byte for each seven bits, and five at most
abbrev pub bytes_for : ℕ → ℕ
bytes_for n = cond (ltb n 128) 1 (cond (ltb n 16_384) 2 (cond (ltb n 2_097_152) 3 (cond (ltb n 268_435_456) 4 5)))

-- each name its index, its length and its text
abbrev pub entries_length : (indices lengths : List ℕ) → ℕ
entries_length [] ns = 0
entries_length (i ∷ is) [] = 0
entries_length (i ∷ is) (n ∷ ns) = bytes_for i + bytes_for n + n + entries_length is ns

-- the contents of the subsection: the count of names, and the names
abbrev pub contents_length : (indices lengths : List ℕ) → ℕ
contents_length is ns = bytes_for (length is) + entries_length is ns

-- The first fault is at k: without what stands there all is well, and with it no more
abbrev pub FirstFault : (Fine : ℕ → Type 0) → ℕ → Type 0
FirstFault Fine k = Fine k × (Fine (suc k) → ⊥)

pub data ListsFault (indices lengths text : List ℕ) : (number place : ℕ) → Type 0 where
  -- R18.14: "14 | lists disagree: unequal counts, or lengths that don't add up to the text | 0"
  lists_disagree : (Agree indices lengths text → ⊥) → ListsFault indices lengths text 14 0
  -- R18.11: "11 | index .. not above the one before | .. (in lists: its position)": the first such
  not_above_lem : (k : ℕ) → Agree indices lengths text → FirstFault (λ n. Rise (take n indices)) k → ListsFault indices lengths text 11 k
  -- R18.4: "4 | text not UTF-8 | ..", and "refusal 4 gives where the first bad name starts in the joined text"
  not_text : (k : ℕ) → Agree indices lengths text → Rise indices → FirstFault (λ n. AreText (take n indices) (take n lengths) text) k → ListsFault indices lengths text 4 (sum (take k lengths))
  -- R18.15: "15 | subsection would exceed 4,294,967,295 bytes | 0"
  subsection_too_large : FineLists indices lengths text → 4_294_967_295 < contents_length indices lengths → ListsFault indices lengths text 15 0
