-- Rules R14.1 to R14.4 of docs/RULES.md.
-- K5: a module as it arrives. The state is how many bytes have come and what the reader is in the middle of: numbers and flags. No byte of a part is kept. Assumes nothing.
use Rattle.std.specs.Prelude.{ℕ, zero, suc, Bool, false, cond, ◌||◌, List, [], ◌∷◌, eqb, drop, get_or}
use Rattle.std.proofs.Math.Option.{Option, none, some}
use Rattle.format.specs.Refusals.{number_of}
use Rattle.format.specs.Reading.{Outcome, got, stop, Judged, accepted, refused, judged_then}
use Rattle.format.specs.Options.{or_else, is_some}
use Rattle.format.specs.Walk.{preamble, is_custom, is_code, rank, Seen, is_row, id_rules, name_rules}
use Rattle.format.specs.declared.Place.{Place}
use Rattle.format.specs.declared.Reason.TheVariants.{NoPreamble, PastItsPart, NumberTooLarge}
use Rattle.stream.specs.Counting.{Number, fresh, Counted, whole, partly, over, counted}
use Rattle.stream.specs.Contents.{Called, Contents, sizing, content, content_ends}

-- WHAT THE FINISH TELLS of an accepted module: "section count, places of the name payload and of both editions' hint payloads"
pub record Summary : Type 0 where
  pub count : ℕ
  pub name : Option Place
  pub hints : Option Place
  pub older : Option Place

-- the sections behind us: what is to be told of them, and what else the walk's rules need
pub record Done : Type 0 where
  pub rank : ℕ
  pub code : Bool
  pub told : Summary

abbrev pub nothing_done : Done
nothing_done = record { rank = 0; code = false; told = record { count = 0; name = none; hints = none; older = none } }

-- a row of the walk's table was there if its place is known
abbrev pub there_in : Summary → ℕ → Bool
there_in s row = get_or (is_some s.name ∷ is_some s.hints ∷ is_some s.older ∷ []) row false

abbrev pub seen_in : Done → Seen
seen_in d = record { rank = d.rank; code = d.code; there = there_in d.told }

-- a section is over: its id, its row, and where its payload lies
abbrev pub placed : Option Place → Option ℕ → ℕ → Place → Option Place
placed before row this p = or_else before (cond (is_row row this) (some p) none)

abbrev pub section_done : Done → (id : ℕ) → Option ℕ → Place → Done
section_done d id row p = record {
  rank = cond (is_custom id) d.rank (rank id);
  code = d.code || is_code id;
  told = record {
    count = suc d.told.count;
    name = placed d.told.name row 0 p;
    hints = placed d.told.hints row 1 p;
    older = placed d.told.older row 2 p;
  };
}

abbrev pub place : ℕ → ℕ → Place
place at n = record { offset = record { 0 = at }; length = n }

abbrev pub plain_done : Done → ℕ → Done
plain_done d id = section_done d id none (place 0 0)

abbrev pub called_done : Done → Called → Done
called_done d c = section_done d 0 c.row (place c.at c.length)

-- rules that were kept, or the refusal
abbrev pub kept : {A : Type 0} → Outcome (Unit {0}) → A → Judged A
kept (got v o bs) x = accepted x
kept (stop n at) x = refused n at

unfoldable pub custom_done : Done → (at : ℕ) → Judged Called → Judged Done
custom_done d at j = judged_then j (λ c. kept (name_rules (seen_in d) at c.row 0 []) (called_done d c))

-- WHAT THE READER IS IN THE MIDDLE OF. `at` is the offset of a section's id byte, behind which its size stands; `left` is how many bytes of its contents are still to come
pub data Phase : Type 0 where
  -- in the preamble
  starting : Phase
  -- between two sections; or refused, whatever comes
  settled : Judged Done → Phase
  -- in the size of a section
  measuring : Done → (id at : ℕ) → Number → Phase
  -- in the contents of a section that is not custom, behind which so much will be done
  skipping : Done → (at left : ℕ) → Phase
  -- in the contents of a custom section
  in_custom_lem : Done → (at left : ℕ) → Contents → Phase

-- the contents are over at `o`, or go on
unfoldable pub skip : Done → (at left : ℕ) → Phase
skip d at zero = settled (accepted d)
skip d at (suc left) = skipping d at (suc left)

unfoldable pub custom : Done → (at left : ℕ) → Contents → (o : ℕ) → Phase
custom d at zero c o = settled (custom_done d at (content_ends c o))
custom d at (suc left) c o = in_custom_lem d at (suc left) c

-- the size is known, and the contents begin at `o`
unfoldable pub enter : Done → (id at left o : ℕ) → Phase
enter d zero at left o = custom d at left (sizing o fresh) o
enter d (suc id) at left o = skip (plain_done d (suc id)) at left

unfoldable pub measured : Done → (id at : ℕ) → Counted → (o : ℕ) → Phase
measured d id at (whole n) o = enter d id at n o
measured d id at (partly n) o = measuring d id at n
measured d id at over o = settled (refused (number_of NumberTooLarge) (suc at))

-- an id byte at `o`, and what the walk's rules say of it
unfoldable pub admit : Outcome (Unit {0}) → Phase → Phase
admit (got v o bs) p = p
admit (stop n at) p = settled (refused n at)

unfoldable pub opening : Judged Done → (o b : ℕ) → Phase
opening (accepted d) o b = admit (id_rules (seen_in d) o b 0 []) (measuring d b o fresh)
opening (refused n at) o b = settled (refused n at)

-- `xs` is what the preamble still wants
unfoldable pub start : (xs : List ℕ) → Phase
start [] = settled (accepted nothing_done)
start (x ∷ xs) = starting

unfoldable pub start_byte : (xs : List ℕ) → (o b : ℕ) → Phase
start_byte [] o b = opening (accepted nothing_done) o b
start_byte (x ∷ xs) o b = cond (eqb x b) (start xs) (settled (refused (number_of NoPreamble) 0))

unfoldable pub start_end : (xs : List ℕ) → Judged Summary
start_end [] = accepted nothing_done.told
start_end (x ∷ xs) = refused (number_of NoPreamble) 0

-- ONE BYTE, which stands at `o`
unfoldable pub byte : Phase → (o b : ℕ) → Phase
byte starting o b = start_byte (drop o preamble) o b
byte (settled j) o b = opening j o b
byte (measuring d id at n) o b = measured d id at (counted n b) (suc o)
byte (skipping d at zero) o b = opening (accepted d) o b
byte (skipping d at (suc left)) o b = skip d at left
byte (in_custom_lem d at zero c) o b = opening (custom_done d at (content_ends c o)) o b
byte (in_custom_lem d at (suc left) c) o b = custom d at left (content c o b) (suc o)

abbrev pub tell : Judged Done → Judged Summary
tell j = judged_then j (λ d. accepted d.told)

-- NO BYTE MORE, at `o`
unfoldable pub end : Phase → (o : ℕ) → Judged Summary
end starting o = start_end (drop o preamble)
end (settled j) o = tell j
end (measuring d id at n) o = refused (number_of PastItsPart) (suc at)
end (skipping d at zero) o = accepted d.told
end (skipping d at (suc left)) o = refused (number_of PastItsPart) (suc at)
end (in_custom_lem d at zero c) o = tell (custom_done d at (content_ends c o))
end (in_custom_lem d at (suc left) c) o = refused (number_of PastItsPart) (suc at)

pub record State : Type 0 where
  pub total : ℕ
  pub phase : Phase

abbrev pub standing : ℕ → Phase → State
standing o p = record { total = o; phase = p }

unfoldable pub begin : State
begin = record { total = 0; phase = starting }

unfoldable pub step : State → ℕ → State
step s b = record { total = suc s.total; phase = byte s.phase s.total b }

unfoldable pub finish : State → Judged Summary
finish s = end s.phase s.total

-- a part
unfoldable pub steps : State → List ℕ → State
steps s [] = s
steps s (b ∷ bs) = steps (step s b) bs
