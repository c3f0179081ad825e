-- K3. Cases of questions to two payloads and of their join (docs/RULES.md). Computed by the checker, as the examples are. Assumes nothing.
use Rattle.std.specs.Prelude.{ℕ, List, [], ◌∷◌, map, ◌≡◌, refl}
use Prim.Native.String.{String}
use Rattle.std.proofs.Math.Option.{Option, none, some}
use Rattle.format.specs.Numbers.{number, groups, shortest, fewest}
use Rattle.format.specs.Text.{utf8, characters, character, completes}
use Rattle.format.specs.Parts.{Part, sized, name, remaining}
use Rattle.format.specs.Tables.{lookup, size, map_table, rows, table}
use Rattle.format.specs.Names.{known, known_kind, wider, wider_kind, kind_in, contents, subsections, payload, judge_names}
use Rattle.format.specs.declared.Edition.{Edition}
use Rattle.format.specs.declared.Edition.TheVariants.{First, Wider}
use Rattle.format.specs.Questions.{answer, asked, ask_at, ask}
use Rattle.format.specs.declared.Question.{Question}
use Rattle.format.specs.declared.Question.TheVariants.{ModuleName, GlobalName, KeptContents}
use Rattle.format.specs.Canonical.{write_part, write_rows, write_table, unless_empty, keep_rows, bare, write_content, write_subsections}
use Rattle.format.specs.Outputs.{fitting, output_after}
use Rattle.format.specs.Pairs.{Paired, agreed, refused_by, Supplied, ask_pair}
use Rattle.format.specs.Joined.{merged, joined, joined_contents, all_fit, write_joined, join_names, join_answer, joined_over}
use Rattle.format.specs.declared.Whose.TheVariants.{Separate, Own}
use Rattle.format.specs.Examples.{digit, hex, Result, value, is_none, found, bytes, refusal, from, of, place, function, local_in, P, Example, ◌gives◌, computed, stated}

global : ℕ → Question
global k = GlobalName (record { 0 = k })

-- what was found, or refused, and whose it is
supplied : Option (Supplied Part) → Result
supplied none = is_none
supplied (some x) = from x.whose (place (some x.value))

of_pair : {A : Type 0} → (A → Result) → Paired A → Result
of_pair f (agreed v) = f v
of_pair f (refused_by whose n at) = from whose (refusal n at)

-- asked of a separate payload and an own one
pair_is : Edition → Question → (separate own : String) → Result
pair_is edition q s o = of_pair supplied (ask_pair (kind_in edition) q (hex s) (hex o))

pub questions : List Example
questions =
    -- a name in both is the separate one's; in one alone it is that one's
    pair_is First ModuleName "00 02 01 61" "00 02 01 62" gives from Separate (found 3 1) ∷
    pair_is First (function 0) "01 04 01 00 01 61" "01 04 01 00 01 62" gives from Separate (found 5 1) ∷
    pair_is First (function 0) "01 04 01 00 01 61" "01 04 01 03 01 62" gives from Separate (found 5 1) ∷
    pair_is First (function 3) "01 04 01 00 01 61" "01 04 01 03 01 62" gives from Own (found 5 1) ∷
    pair_is First (function 1) "01 04 01 00 01 61" "01 04 01 03 01 62" gives is_none ∷
    pair_is First ModuleName "01 04 01 00 01 61" "00 02 01 6D" gives from Own (found 3 1) ∷
    -- with nothing on one side, and on both
    pair_is First (function 3) P "" gives from Separate (found 12 1) ∷
    pair_is First (function 3) "" P gives from Own (found 12 1) ∷
    pair_is First (function 3) "" "" gives is_none ∷
    -- an empty name is an answer, and so is an empty kept subsection; an empty map or group has none
    pair_is First (function 0) "01 03 01 00 00" "01 04 01 00 01 62" gives from Separate (found 5 0) ∷
    pair_is First ModuleName "00 01 00" "00 02 01 62" gives from Separate (found 3 0) ∷
    pair_is First (KeptContents 3) "03 00" "03 01 FF" gives from Separate (found 2 0) ∷
    pair_is First (KeptContents 3) "05 00" "03 01 FF" gives from Own (found 2 1) ∷
    pair_is First (function 0) "01 01 00" "01 04 01 00 01 62" gives from Own (found 5 1) ∷
    pair_is First (local_in 3 1) "02 03 01 03 00" "02 06 01 03 01 01 01 79" gives from Own (found 7 1) ∷
    -- a group of one function in both
    pair_is First (local_in 3 0) "02 06 01 03 01 00 01 78" "02 06 01 03 01 01 01 79" gives from Separate (found 7 1) ∷
    pair_is First (local_in 3 1) "02 06 01 03 01 00 01 78" "02 06 01 03 01 01 01 79" gives from Own (found 7 1) ∷
    -- both are judged whole, the separate one first, though it has the name
    pair_is First ModuleName "01 00" "02 01 00 01 01 00" gives from Separate (refusal 2 2) ∷
    pair_is First ModuleName "01 00" "00 02 01 61" gives from Separate (refusal 2 2) ∷
    pair_is First ModuleName "00 02 01 61" "01 00" gives from Own (refusal 2 2) ∷
    pair_is First ModuleName "00 02 01 61" "02 01 00 01 01 00" gives from Own (refusal 9 3) ∷
    -- an id that only the wider edition looks into
    pair_is Wider (global 0) "07 04 01 00 01 67" "07 04 01 01 01 68" gives from Separate (found 5 1) ∷
    pair_is Wider (global 1) "07 04 01 00 01 67" "07 04 01 01 01 68" gives from Own (found 5 1) ∷
    pair_is Wider (KeptContents 7) "07 04 01 00 01 67" "07 04 01 01 01 68" gives is_none ∷
    pair_is First (KeptContents 7) "07 04 01 00 01 67" "07 04 01 01 01 68" gives from Separate (found 2 4) ∷
    pair_is Wider ModuleName "00 02 01 61" "07 01 FF" gives from Own (refusal 2 2) ∷
    pair_is First ModuleName "00 02 01 61" "07 01 FF" gives from Separate (found 3 1) ∷
    []

pub questions_hold : map computed questions ≡ map stated questions
unfolding questions computed stated global supplied of_pair pair_is function local_in P hex digit place number groups utf8 characters character completes sized name remaining lookup rows table known known_kind wider wider_kind contents subsections payload judge_names answer asked ask_at ask ask_pair
questions_hold = refl

-- Joined to one payload; into an output of some bytes, and what it holds then
join_is : Edition → (separate own : String) → Result
join_is edition s o = of_pair (of bytes) (join_names (kind_in edition) (hex s) (hex o))

join_into : (room : ℕ) (separate own : String) → Result
join_into room s o = of_pair (of (λ n. value n 0)) (join_answer room (join_names known_kind (hex s) (hex o)))

join_over : (old separate own : String) → Result
join_over old s o = bytes (joined_over (join_names known_kind (hex s) (hex o)) (hex old))

pub joins : List Example
joins =
    -- maps one between the other; the separate one's name where both have an index, an empty one too
    join_is First "01 07 02 00 01 61 03 01 62" "01 07 02 01 01 63 05 01 64" gives bytes (hex "01 0D 04 00 01 61 01 01 63 03 01 62 05 01 64") ∷
    join_is First "01 07 02 01 01 63 05 01 64" "01 07 02 00 01 61 03 01 62" gives bytes (hex "01 0D 04 00 01 61 01 01 63 03 01 62 05 01 64") ∷
    join_is First "01 07 02 00 01 61 03 01 62" "01 07 02 00 01 63 03 01 64" gives bytes (hex "01 07 02 00 01 61 03 01 62") ∷
    join_is First "01 07 02 00 01 61 03 01 62" "01 0A 03 00 01 63 03 01 64 04 01 65" gives bytes (hex "01 0A 03 00 01 61 03 01 62 04 01 65") ∷
    join_is First "01 03 01 00 00" "01 04 01 00 01 62" gives bytes (hex "01 03 01 00 00") ∷
    join_is First "00 01 00" "00 02 01 62" gives bytes (hex "00 01 00") ∷
    -- groups one between the other, and those of one function index by index
    join_is First "02 06 01 03 01 00 01 78" "02 06 01 01 01 00 01 79" gives bytes (hex "02 0B 02 01 01 00 01 79 03 01 00 01 78") ∷
    join_is First "02 06 01 03 01 00 01 78" "02 06 01 03 01 01 01 79" gives bytes (hex "02 09 01 03 02 00 01 78 01 01 79") ∷
    join_is First "02 06 01 03 01 00 01 78" "02 06 01 03 01 00 01 79" gives bytes (hex "02 06 01 03 01 00 01 78") ∷
    -- empty maps and groups are dropped, and hide nothing
    join_is First "01 01 00" "02 03 01 03 00" gives bytes [] ∷
    join_is First "01 01 00" "01 04 01 00 01 62" gives bytes (hex "01 04 01 00 01 62") ∷
    join_is First "01 04 01 00 01 62" "01 01 00" gives bytes (hex "01 04 01 00 01 62") ∷
    join_is First "02 06 01 03 01 00 01 78" "02 08 02 03 01 01 01 79 05 00" gives bytes (hex "02 09 01 03 02 00 01 78 01 01 79") ∷
    join_is First "02 03 01 03 00" "02 03 01 03 00" gives bytes [] ∷
    join_is First "02 03 01 03 00" "02 06 01 03 01 01 01 79" gives bytes (hex "02 06 01 03 01 01 01 79") ∷
    -- kept ids of both, the separate one's where both have it
    join_is First "03 01 FF" "05 02 AA BB" gives bytes (hex "03 01 FF 05 02 AA BB") ∷
    join_is First "05 02 AA BB" "03 01 FF" gives bytes (hex "03 01 FF 05 02 AA BB") ∷
    join_is First "03 00" "03 01 FF" gives bytes (hex "03 00") ∷
    join_is First "03 01 FF" "03 02 AA BB" gives bytes (hex "03 01 FF") ∷
    -- subsections one between the other
    join_is First P "03 01 FF 04 04 01 00 01 74" gives bytes (hex "00 02 01 6D 01 07 02 00 01 61 03 01 62 02 06 01 03 01 00 01 78 03 01 FF 04 04 01 00 01 74") ∷
    join_is First "01 04 01 00 01 61" "00 02 01 6D 02 06 01 03 01 00 01 78" gives bytes (hex "00 02 01 6D 01 04 01 00 01 61 02 06 01 03 01 00 01 78") ∷
    -- padded numbers
    join_is First "01 85 00 01 00 81 00 61" "01 86 00 81 00 83 00 01 62" gives bytes (hex "01 07 02 00 01 61 03 01 62") ∷
    join_is First "03 81 80 00 FF" "" gives bytes (hex "03 01 FF") ∷
    -- with nothing it is the rewriting
    join_is First P "" gives bytes (hex P) ∷
    join_is First "" P gives bytes (hex P) ∷
    join_is First "" "01 85 00 01 00 81 00 61" gives bytes (hex "01 04 01 00 01 61") ∷
    join_is First "" "" gives bytes [] ∷
    join_is First P P gives bytes (hex P) ∷
    -- an id that only the wider edition looks into
    join_is Wider "07 04 01 00 01 67" "07 04 01 01 01 68" gives bytes (hex "07 07 02 00 01 67 01 01 68") ∷
    join_is First "07 04 01 00 01 67" "07 04 01 01 01 68" gives bytes (hex "07 04 01 00 01 67") ∷
    join_is Wider "07 01 00" "07 04 01 01 01 68" gives bytes (hex "07 04 01 01 01 68") ∷
    join_is First "07 01 00" "07 04 01 01 01 68" gives bytes (hex "07 01 00") ∷
    join_is Wider "03 06 01 00 01 01 01 6C" "03 06 01 00 01 00 01 6D" gives bytes (hex "03 09 01 00 02 00 01 6D 01 01 6C") ∷
    -- refused as the first that is
    join_is First "01 00" "02 01 00 01 01 00" gives from Separate (refusal 2 2) ∷
    join_is First "00 02 01 61" "01 00" gives from Own (refusal 2 2) ∷
    join_is Wider "00 02 01 61" "07 01 FF" gives from Own (refusal 2 2) ∷
    join_is First "00 02 01 61" "07 01 FF" gives bytes (hex "00 02 01 61 07 01 FF") ∷
    -- 13 comes last and gives the needed length; what is behind the payload stays, and all of it after a refusal
    join_into 6 "00 02 01 61" "03 00" gives value 6 0 ∷
    join_into 5 "00 02 01 61" "03 00" gives refusal 13 6 ∷
    join_into 0 "01 01 00" "" gives value 0 0 ∷
    join_into 0 "00 02 01 61" "01 00" gives from Own (refusal 2 2) ∷
    join_over "77 77 77 77 77 77 77" "00 02 01 61" "03 00" gives bytes (hex "00 02 01 61 03 00 77") ∷
    join_over "77 77 77 77 77" "00 02 01 61" "03 00" gives bytes (hex "77 77 77 77 77") ∷
    join_over "77 77 77 77 77 77 77" "00 02 01 61" "01 00" gives bytes (hex "77 77 77 77 77 77 77") ∷
    []

pub joins_hold : map computed joins ≡ map stated joins
unfolding joins computed stated of_pair join_is join_into join_over P hex digit of number groups shortest fewest utf8 characters character completes sized name remaining lookup size map_table rows table known known_kind wider wider_kind contents subsections payload judge_names write_part write_rows write_table unless_empty keep_rows bare write_content write_subsections fitting output_after merged joined joined_contents all_fit write_joined join_names join_answer
joins_hold = refl
