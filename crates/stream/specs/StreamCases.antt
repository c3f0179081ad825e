-- K5. Cases of modules as they arrive (docs/RULES.md): cut in awkward places, and what is refused. Computed by the checker. Assumes nothing.
use Rattle.std.specs.Prelude.{ℕ, List, [], ◌∷◌, ◌≡◌, refl, Ok, Err}
use Rattle.std.proofs.Math.Option.{none, some}
use Rattle.format.specs.Bytes.{ascii}
use Rattle.format.specs.Examples.{digit, hex}
use Rattle.format.specs.Reading.{accepted, refused}
use Rattle.format.specs.Walk.{preamble, name_section, hint_section, greatest_id, rank, is_custom, is_code, is_data, id_rules, name_rules}
use Rattle.format.specs.declared.Reason.{Reason}
use Rattle.format.specs.declared.Reason.TheVariants.{AfterFinish, TotalTooLarge}
use Rattle.format.specs.Returned.{Verdict}
use Rattle.stream.specs.Counting.{weight, counted}
use Rattle.stream.specs.Texts.{leading_byte, wanting, wanted_byte, text_byte, nothing_wanted, text_ends}
use Rattle.stream.specs.Naming.{match_byte, match_ends}
use Rattle.stream.specs.Contents.{named, name, sized, content, name_ends, content_ends}
use Rattle.stream.specs.Stream.{place, settled, custom_done, skip, custom, enter, measured, admit, opening, start, start_byte, start_end, byte, end, State, begin, step, finish, steps, starting}
use Rattle.stream.specs.Fields.{held, contents_from, phase_from, state_from, over_at}
use Rattle.stream.specs.Fits.{fits}
use Rattle.stream.specs.Calls.{taken, ended, ending_of}
use Rattle.stream.specs.declared.Ending.{Ending}
use Rattle.stream.specs.declared.Stream.{Stream}

-- parts one after the other
abbrev lend : State → List (List ℕ) → State
lend s [] = s
lend s (p ∷ ps) = lend (steps s p) ps

abbrev says : List (List ℕ) → Ending
says ps = ending_of (finish (lend begin ps))

abbrev behind : List (List ℕ) → Ending
behind ps = says (preamble ∷ ps)

abbrev sections : ℕ → Ending
sections n = ending_of (accepted (record { count = n; name = none; hints = none; older = none }))

abbrev stops : ℕ → ℕ → Ending
stops n at = ending_of (refused n at)

pub arriving : List Ending
arriving =
    -- the preamble in eight parts, one of them behind a part of no length; without its last byte; with another
    says (hex "00" ∷ hex "61" ∷ hex "73" ∷ [] ∷ hex "6D" ∷ hex "01" ∷ hex "00" ∷ hex "00" ∷ hex "00" ∷ []) ∷
    says (hex "00 61 73" ∷ hex "6D 01 00 00" ∷ []) ∷
    says (hex "00 61 73" ∷ hex "6D 01 00 00 01" ∷ []) ∷
    -- a size cut in the middle; a section that ends exactly at the finish; one that does not
    behind (hex "01 81" ∷ hex "00 FF" ∷ []) ∷
    behind (hex "01 02" ∷ hex "FF" ∷ hex "FF" ∷ []) ∷
    behind (hex "01 02" ∷ hex "FF" ∷ []) ∷
    -- a character cut in the middle; a name cut in the middle
    behind (hex "00 03 02 C3" ∷ hex "A9" ∷ []) ∷
    behind (hex "00 07 04 6E 61" ∷ hex "6D 65 09" ∷ hex "00" ∷ []) ∷
    -- a bad name in a section that never ends, and in one that does
    behind (hex "00 05 02 C3" ∷ hex "28" ∷ []) ∷
    behind (hex "00 03 02 C3" ∷ hex "28" ∷ []) ∷
    -- a name's number that is too large, and two bytes more
    behind (hex "00 07 84 80" ∷ hex "80 80 1F" ∷ []) ∷
    behind (hex "00 07 84 80" ∷ hex "80 80 1F" ∷ hex "00 00" ∷ []) ∷
    []

pub told : List Ending
told =
    sections 0 ∷ stops 1 0 ∷ stops 1 0
    ∷ sections 1 ∷ sections 1 ∷ stops 2 9
    ∷ sections 1 ∷ ending_of (accepted (record { count = 1; name = some (place 15 2); hints = none; older = none }))
    ∷ stops 2 9 ∷ stops 4 11
    ∷ stops 2 9 ∷ stops 3 10
    ∷ []

pub arriving_hold : arriving ≡ told
unfolding digit hex ascii preamble name_section hint_section greatest_id rank is_custom is_code is_data id_rules name_rules weight counted leading_byte wanting wanted_byte text_byte nothing_wanted text_ends match_byte match_ends named name sized content name_ends content_ends custom_done skip custom enter measured admit opening start start_byte start_end byte end begin step finish steps arriving told
arriving_hold = refl

-- a stream that was refused already, with so many bytes
abbrev refused_at : ℕ → Stream
refused_at total = held (record { total = total; phase = settled (refused 1 0) })

-- and one that was just begun, but for its total
abbrev begun_at : ℕ → Stream
begun_at total = held (record { total = total; phase = starting })

pub verdicts : List Verdict
verdicts =
    -- the total near its limit: three bytes below it, three are taken and four are not
    (taken (refused_at 18_446_744_073_709_551_612) (hex "00 00 00")).verdict ∷
    (taken (refused_at 18_446_744_073_709_551_612) (hex "00 00 00 00")).verdict ∷
    (taken (begun_at 18_446_744_073_709_551_612) (hex "00 00 00")).verdict ∷
    (taken (begun_at 18_446_744_073_709_551_612) (hex "00 00 00 00")).verdict ∷
    -- at it, a part of no length is taken
    (taken (refused_at 18_446_744_073_709_551_615) []).verdict ∷
    (taken (refused_at 18_446_744_073_709_551_615) (hex "00")).verdict ∷
    -- after the finish: a part, one of no length, and one that is too large
    (taken (ended (held begin)).stream (hex "00")).verdict ∷
    (taken (ended (held begin)).stream []).verdict ∷
    (taken (ended (refused_at 18_446_744_073_709_551_615)).stream (hex "00")).verdict ∷
    []

abbrev untaken : Reason → Verdict
untaken why = Err (record { reason = why; offset = record { 0 = 0 } })

pub judged : List Verdict
judged = (Ok tt) ∷ untaken TotalTooLarge ∷ (Ok tt) ∷ untaken TotalTooLarge ∷ (Ok tt) ∷ untaken TotalTooLarge ∷ untaken AfterFinish ∷ untaken AfterFinish ∷ untaken AfterFinish ∷ []

pub verdicts_hold : verdicts ≡ judged
unfolding digit hex preamble held begin phase_from contents_from state_from fits taken ended verdicts judged
verdicts_hold = refl

-- a second finish; and a refused part leaves the state as it was
pub late_hold : ((ended (ended (held begin)).stream).ending ≡ stops 18 0) × ((taken (refused_at 18_446_744_073_709_551_615) (hex "00")).stream ≡ refused_at 18_446_744_073_709_551_615) × ((ended (held begin)).stream ≡ over_at 0)
unfolding digit hex preamble held begin phase_from contents_from state_from fits taken ended
late_hold = (refl, refl, refl)
