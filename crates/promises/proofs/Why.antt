-- K7: wrong tools that say why: one that takes an empty map for a missing subsection, or an empty group for a missing one; that gives a neighbour of another group, the first index or the last one as the nearest, or both neighbours exchanged; that counts positions from 1, or over all groups; that gives a reason for a payload that is refused further on. Ruled out by tables of inputs, each with what every result must say that meets the promise.
use Rattle.std.specs.Prelude.{ℕ, List, map, ◌≡◌, refl}
use Rattle.std.proofs.Common.{ap, ◌∙◌}
use Rattle.format.specs.Examples.{digit, hex}
use Rattle.format.specs.Names.{known, known_kind, contents, subsections, payload, judge_names}
use Rattle.format.specs.Numbers.{number, groups}
use Rattle.format.specs.Parts.{sized, name, remaining}
use Rattle.format.specs.Reading.{Judged}
use Rattle.format.specs.Tables.{lookup, rows, table}
use Rattle.format.specs.Text.{utf8, characters, character, completes}
use Rattle.format.specs.Why.{Why, why_from, why_in, why_function, why_local}
use Rattle.neighbours.specs.Maps.{why_meant}
use Rattle.neighbours.specs.Promises.{NeighboursWhyFunction, NeighboursWhyLocal}
use Rattle.wakemiono.specs.Calls as call
use Rattle.promises.specs.Answers.{says_why, why_said}
use Rattle.promises.specs.RuledOut.{Row, Demanded, by_table}
use Rattle.promises.specs.Why.{function_rows, local_rows}

functions_computed : map (λ (row : Row (List ℕ × ℕ) (Judged Why)). why_function (record { 0 = row.input.1 }) row.input.0) function_rows ≡ map (λ row. row.verdict) function_rows
unfolding hex digit number groups utf8 characters character completes sized name remaining lookup rows table known known_kind contents subsections payload judge_names why_from why_in why_function
functions_computed = refl

locals_computed : map (λ (row : Row (List ℕ × ℕ × ℕ) (Judged Why)). why_local (record { 0 = row.input.1 }) (record { 0 = row.input.2 }) row.input.0) local_rows ≡ map (λ row. row.verdict) local_rows
unfolding hex digit number groups utf8 characters character completes sized name remaining lookup rows table known known_kind contents subsections payload judge_names why_from why_in why_local
locals_computed = refl

pub why_function_lem : Demanded (λ x r. NeighboursWhyFunction x.0 (record { 0 = x.1 }) r) why_meant function_rows
why_function_lem = by_table (λ x r meets. meets) function_rows functions_computed

pub wm_why_function : Demanded (λ x a. call.WmWhyFunction x.1 x.0 a) says_why function_rows
wm_why_function = by_table (λ x a meets. ap says_why meets ∙ why_said (why_function (record { 0 = x.1 }) x.0)) function_rows functions_computed

pub why_local_lem : Demanded (λ x r. NeighboursWhyLocal x.0 (record { 0 = x.1 }) (record { 0 = x.2 }) r) why_meant local_rows
why_local_lem = by_table (λ x r meets. meets) local_rows locals_computed

pub wm_why_local : Demanded (λ x a. call.WmWhyLocal x.1 x.2 x.0 a) says_why local_rows
wm_why_local = by_table (λ x a meets. ap says_why meets ∙ why_said (why_local (record { 0 = x.1 }) (record { 0 = x.2 }) x.0)) local_rows locals_computed
