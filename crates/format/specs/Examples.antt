-- Rules R20.1 to R20.16 of docs/RULES.md.
-- The sixteen examples, one table under one statement that the checker computes. Assumes nothing.
use Rattle.std.specs.Prelude.{ℕ, ◌+◌, ◌*◌, ◌-◌, cond, List, [], ◌∷◌, map, ◌≡◌, refl, leb, length}
use Prim.Native.Char.{code}
use Prim.Native.String.{String}
use Rattle.std.proofs.Math.Option.{Option, none, some}
use Rattle.format.specs.Reading.{Outcome, got, stop, Judged, accepted, refused}
use Rattle.format.specs.Numbers.{number, groups, shortest, fewest}
use Rattle.format.specs.Text.{utf8, characters, character, completes}
use Rattle.format.specs.Parts.{Part, sized, name, remaining}
use Rattle.format.specs.Tables.{lookup, size, map_table, rows, table}
use Rattle.format.specs.Names.{known, known_kind, contents, subsections, payload, judge_names}
use Rattle.format.specs.Questions.{answer, asked, ask_at, ask}
use Rattle.format.specs.declared.Question.{Question}
use Rattle.format.specs.declared.Question.TheVariants.{ModuleName, FunctionName, LocalName, KeptContents}
use Rattle.format.specs.Metadata.{hint_of, hint_item, metadata, judge_metadata, item_at, ask_metadata, hint_in, ask_hint}
use Rattle.format.specs.Canonical.{write_part, write_rows, write_table, unless_empty, keep_rows, bare, write_content, write_subsections, rewrite_names, canonical_names}
use Rattle.format.specs.Why.{Why}
use Rattle.format.specs.declared.Whose.{Whose}
use Rattle.format.specs.declared.Hint.{Hint}
use Rattle.format.specs.declared.Hint.TheVariants.{Unlikely, Likely}

-- bytes as the rules write them: two digits each, in base 16, and a space between them
unfoldable pub digit : ℕ → ℕ
digit c = cond (leb c 57) (c - 48) (c - 55)

unfoldable pub hex : String → List ℕ
hex String.[] = []
hex (String.◌∷◌ c String.[]) = []
hex (String.◌∷◌ c (String.◌∷◌ d String.[])) = (16 * digit (code c) + digit (code d)) ∷ []
hex (String.◌∷◌ c (String.◌∷◌ d (String.◌∷◌ space s))) = (16 * digit (code c) + digit (code d)) ∷ hex s

-- What can result
pub data Result : Type 0 where
  value : ℕ → ℕ → Result
  is_accepted is_none is_likely is_unlikely : Result
  found : ℕ → ℕ → Result
  bytes : List ℕ → Result
  because : Why → Result
  marks : (indices offsets : List ℕ) (end : ℕ) → Result
  refusal : ℕ → ℕ → Result
  from : Whose → Result → Result

unfoldable pub of_outcome : {A : Type 0} → (A → ℕ → Result) → Outcome A → Result
of_outcome f (got v o bs) = f v o
of_outcome f (stop n at) = refusal n at

unfoldable pub of : {A : Type 0} → (A → Result) → Judged A → Result
of f (accepted v) = f v
of f (refused n at) = refusal n at

unfoldable pub place : Option Part → Result
place none = is_none
place (some p) = found p.at (length p.bytes)

unfoldable pub likelihood : Option Hint → Result
likelihood none = is_none
likelihood (some Likely) = is_likely
likelihood (some Unlikely) = is_unlikely

-- What is computed
unfoldable pub number_is : String → Result
number_is s = of_outcome value (number 0 (hex s))

unfoldable pub names_are : String → Result
names_are s = of (λ _. is_accepted) (judge_names known_kind 0 (hex s))

unfoldable pub answer_is : Question → String → Result
answer_is q s = of place (ask known_kind q (hex s))

unfoldable pub canonical_is : String → Result
canonical_is s = of bytes (canonical_names known_kind (hex s))

unfoldable pub hint_is : ℕ → ℕ → String → Result
hint_is f at s = of likelihood (ask_hint (record { 0 = f }) (record { 0 = at }) 0 (hex s))

unfoldable pub function : ℕ → Question
function k = FunctionName (record { 0 = k })

unfoldable pub local_in : ℕ → ℕ → Question
local_in k j = LocalName (record { 0 = k }) (record { 0 = j })

unfoldable pub P : String
P = "00 02 01 6D 01 07 02 00 01 61 03 01 62 02 06 01 03 01 00 01 78"

pub data Example : Type 0 where
  ◌gives◌ : Result → Result → Example

infixl 90 ◌gives◌
unfoldable pub computed : Example → Result
computed (c gives r) = c

unfoldable pub stated : Example → Result
stated (c gives r) = r

pub sixteen : List Example
sixteen =
    -- E1 to E4
    number_is "80 80 80 80 00" gives value 0 5 ∷
    number_is "FF FF FF FF 0F" gives value 4_294_967_295 5 ∷
    number_is "FF FF FF FF 1F" gives refusal 3 0 ∷
    number_is "80" gives refusal 2 0 ∷
    -- E5
    answer_is (function 0) P gives found 9 1 ∷
    answer_is (function 1) P gives is_none ∷
    answer_is (function 3) P gives found 12 1 ∷
    -- E6
    answer_is (local_in 3 0) P gives found 20 1 ∷
    answer_is (local_in 0 0) P gives is_none ∷
    -- E7, E8
    canonical_is "01 85 00 01 00 81 00 61" gives bytes (hex "01 04 01 00 01 61") ∷
    canonical_is "01 01 00" gives bytes [] ∷
    -- E9
    names_are "" gives is_accepted ∷
    canonical_is "" gives bytes [] ∷
    -- E10
    answer_is ModuleName "00 01 00" gives found 3 0 ∷
    canonical_is "00 01 00" gives bytes (hex "00 01 00") ∷
    -- E11
    names_are "03 01 FF" gives is_accepted ∷
    answer_is (KeptContents 3) "03 01 FF" gives found 2 1 ∷
    canonical_is "03 01 FF" gives bytes (hex "03 01 FF") ∷
    -- E12 to E14
    names_are "01 07 02 03 01 62 03 01 61" gives refusal 11 6 ∷
    names_are "02 01 00 01 01 00" gives refusal 9 3 ∷
    names_are "01 02 00 00" gives refusal 10 3 ∷
    -- E15, E16
    hint_is 2 5 "01 02 01 05 01 01" gives is_likely ∷
    hint_is 2 4 "01 02 01 05 01 01" gives is_none ∷
    hint_is 2 5 "01 02 01 05 01 02" gives refusal 12 4 ∷
    []

pub sixteen_hold : map computed sixteen ≡ map stated sixteen
unfolding sixteen computed stated number_is names_are answer_is canonical_is hint_is function local_in P hex digit of_outcome of place likelihood number groups shortest fewest utf8 characters character completes sized name remaining lookup size map_table rows table known known_kind contents subsections payload judge_names answer asked ask_at ask hint_of hint_item metadata judge_metadata item_at ask_metadata hint_in ask_hint write_part write_rows write_table unless_empty keep_rows bare write_content write_subsections rewrite_names canonical_names
sixteen_hold = refl
