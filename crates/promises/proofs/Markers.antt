-- K8: wrong tools that make markers: one that marks every fifteenth entry or every seventeenth, or not the first; that gives the offset of a name, or counts from where the subsection begins; that gives the length of the payload, or where the last marker stands, as the end, or none for an empty map; that makes markers of a payload that is refused further on; that writes into one list where the other is short, or behind the markers, or gives the length of a list with refusal 13. And wrong tools that ask with them: one that reads a seventeenth entry; that begins at the marker before the right one, or at the first where all are above; that ends at a greater index or at the next marker; that answers an entry past the end, or an index with no name behind it, or passes over a number that is too large; that looks at text; that gives the last of two entries with one index; that takes the length of the payload for an end outside it; that checks the order before the lengths or the end, one list before the other, or not the last position. Ruled out by tables of inputs, each with what every result must say that meets the promise.
use Rattle.std.specs.Prelude.{ℕ, List, map, ◌≡◌, refl}
use Rattle.std.proofs.Math.Option.{Option}
use Rattle.std.proofs.Common.{ap, ◌∙◌}
use Rattle.format.specs.Examples.{digit, hex}
use Rattle.format.specs.Markers.{entry, entries, all_entries, thinned, functions_part, markers_of, unless_long, fitting_both, made, made_as, first_fault, lists_fault, last_not_above, first_with, from_marker, quick as quickly}
use Rattle.format.specs.Names.{known, known_kind, contents, subsections, payload, judge_names}
use Rattle.format.specs.Numbers.{number, groups}
use Rattle.format.specs.Parts.{sized, name, remaining}
use Rattle.format.specs.Questions.{answered, answer, asked, as_place}
use Rattle.format.specs.Reading.{Judged, map_judged}
use Rattle.format.specs.Tables.{lookup, rows, table}
use Rattle.format.specs.Text.{utf8, characters, character, completes}
use Rattle.format.specs.Returned.{Answer}
use Rattle.format.specs.declared.Place.{Place}
use Rattle.markers.specs.Promises.{MarkersMake, MarkersQuick}
use Rattle.wakemiono.specs.Calls as call
use Rattle.wakemiono.specs.declared.WmAnswer.{WmAnswer}
use Rattle.promises.specs.Answers.{says_place, place_said}
use Rattle.promises.specs.RuledOut.{Row, Demanded, by_table}
use Rattle.promises.specs.Markers.{Lent, Said, making_rows, making, Asked, quick_rows, asking}

made_computed : map (λ (row : Row Lent Said). making row.input) making_rows ≡ map (λ row. row.verdict) making_rows
unfolding hex digit number groups utf8 characters character completes sized name remaining lookup rows table known known_kind contents subsections payload judge_names answer asked entry entries all_entries thinned functions_part markers_of unless_long fitting_both made
made_computed = refl

pub make : Demanded (λ (x : Lent) (r : Answer × List ℕ × List ℕ). MarkersMake x.0 x.1 x.2 r.1 r.2 r.0) (λ r. (answered r.0, r.1, r.2)) making_rows
make = by_table (λ x r meets. let one = meets.says in let two = meets.indices in let three = meets.offsets in λ i. (one i, two i, three i)) making_rows made_computed

pub wm_markers : Demanded (λ (x : Lent) (r : WmAnswer × List ℕ × List ℕ). call.WmMarkers x.0 x.1 x.2 r.1 r.2 r.0) (λ r. (says_place r.0, r.1, r.2)) making_rows
wm_markers = by_table (λ x r meets. let one = ap says_place meets.says ∙ place_said (map_judged made_as (made x.0 x.1 x.2)) in let two = meets.indices in let three = meets.offsets in λ i. (one i, two i, three i)) making_rows made_computed

quick_computed : map (λ (row : Row Asked (Judged (Option Place))). asking row.input) quick_rows ≡ map (λ row. row.verdict) quick_rows
unfolding hex digit number groups sized as_place entry unless_long first_fault lists_fault last_not_above first_with from_marker quickly
quick_computed = refl

pub quick : Demanded (λ (x : Asked) r. MarkersQuick x.0 x.1 x.2 x.3 (record { 0 = x.4 }) r) answered quick_rows
quick = by_table (λ x r meets. meets) quick_rows quick_computed

pub wm_quick_function_name : Demanded (λ (x : Asked) a. call.WmQuickFunctionName x.0 x.1 x.2 x.3 x.4 a) says_place quick_rows
wm_quick_function_name = by_table (λ x a meets. ap says_place meets ∙ place_said (asking x)) quick_rows quick_computed
