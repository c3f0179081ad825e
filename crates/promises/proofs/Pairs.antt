-- K3: wrong readers of two payloads: one that asks the own payload first, or alone; that passes over an empty name, an empty module name or empty kept contents; that says whose a name is the other way round; that leaves the own payload unjudged where the separate one has the name, or the separate one where it has not; and wrong joins: one that drops the own groups of a function that the separate payload has, takes the own name where both have one, keeps an empty map, or writes where a payload is refused. Ruled out by tables of inputs, each with what every result must say that meets the promise.
use Rattle.std.specs.Prelude.{ℕ, List, map, ◌≡◌, refl, length}
use Rattle.std.proofs.Math.Option.{Option}
use Rattle.std.proofs.Common.{ap, ◌∙◌}
use Rattle.format.specs.Canonical.{write_part, write_rows, write_table, unless_empty, keep_rows, bare, write_content, write_subsections}
use Rattle.format.specs.Examples.{digit, hex}
use Rattle.format.specs.Joined.{merged, joined, joined_contents, all_fit, write_joined, join_names, join_answer, joined_over, join_written_as}
use Rattle.format.specs.Names.{known, known_kind, wider, wider_kind, contents, subsections, payload, judge_names}
use Rattle.format.specs.Numbers.{number, groups, shortest, fewest}
use Rattle.format.specs.Outputs.{fitting, output_after}
use Rattle.format.specs.Pairs.{Paired, Supplied, ask_pair, as_places, pair_answered}
use Rattle.format.specs.Parts.{sized, name, remaining}
use Rattle.format.specs.Questions.{answer, asked, ask_at, ask}
use Rattle.format.specs.Tables.{lookup, size, map_table, rows, table}
use Rattle.format.specs.Text.{utf8, characters, character, completes}
use Rattle.format.specs.declared.Edition.TheVariants.{First}
use Rattle.format.specs.Returned.{JoinWritten}
use Rattle.format.specs.Returned.{PairAnswer}
use Rattle.format.specs.declared.Place.{Place}
use Rattle.joining.specs.Promises.{JoiningJoin}
use Rattle.pairs.specs.Promises.{PairsAsk}
use Rattle.wakemiono.specs.Calls as call
use Rattle.wakemiono.specs.declared.beside.WmPairAnswer.{WmPairAnswer}
use Rattle.promises.specs.Answers.{says_pair, pair_answer_said, says_join, join_answer_said}
use Rattle.promises.specs.RuledOut.{Row, Demanded, by_table}
use Rattle.promises.specs.Pairs.{Asked, pair_rows, wide_pair_rows, Lent, Outcome, join_rows, wide_join_rows}

pairs_computed : map (λ (row : Row Asked (Paired (Option (Supplied Place)))). as_places (ask_pair known_kind row.input.0 row.input.1 row.input.2)) pair_rows ≡ map (λ row. row.verdict) pair_rows
unfolding hex digit number groups utf8 characters character completes sized name remaining lookup rows table known known_kind contents subsections payload judge_names answer asked ask_at ask ask_pair as_places
pairs_computed = refl

wide_pairs_computed : map (λ (row : Row Asked (Paired (Option (Supplied Place)))). as_places (ask_pair wider_kind row.input.0 row.input.1 row.input.2)) wide_pair_rows ≡ map (λ row. row.verdict) wide_pair_rows
unfolding hex digit number groups utf8 characters character completes sized name remaining lookup rows table known wider wider_kind contents subsections payload judge_names answer asked ask_at ask ask_pair as_places
wide_pairs_computed = refl

pub ask_pair_lem : Demanded (λ (x : Asked) (r : PairAnswer). PairsAsk x.1 x.2 First x.0 r) pair_answered pair_rows
ask_pair_lem = by_table (λ x r meets. meets) pair_rows pairs_computed

pub wm_pair : Demanded (λ (x : Asked) (a : WmPairAnswer). call.WmPair x.0 x.1 x.2 a) says_pair pair_rows
wm_pair = by_table (λ x a meets. ap says_pair meets ∙ pair_answer_said (as_places (ask_pair known_kind x.0 x.1 x.2))) pair_rows pairs_computed

pub wm_wide_pair : Demanded (λ (x : Asked) (a : WmPairAnswer). call.WmWidePair x.0 x.1 x.2 a) says_pair wide_pair_rows
wm_wide_pair = by_table (λ x a meets. ap says_pair meets ∙ pair_answer_said (as_places (ask_pair wider_kind x.0 x.1 x.2))) wide_pair_rows wide_pairs_computed

joins_computed : map (λ (row : Row Lent Outcome). (join_answer (length row.input.2) (join_names known_kind row.input.0 row.input.1), joined_over (join_names known_kind row.input.0 row.input.1) row.input.2)) join_rows ≡ map (λ row. row.verdict) join_rows
unfolding hex digit number groups shortest fewest utf8 characters character completes sized name remaining lookup size map_table rows table known known_kind contents subsections payload judge_names write_part write_rows write_table unless_empty keep_rows bare write_content write_subsections fitting output_after merged joined joined_contents all_fit write_joined join_names join_answer
joins_computed = refl

wide_joins_computed : map (λ (row : Row Lent Outcome). (join_answer (length row.input.2) (join_names wider_kind row.input.0 row.input.1), joined_over (join_names wider_kind row.input.0 row.input.1) row.input.2)) wide_join_rows ≡ map (λ row. row.verdict) wide_join_rows
unfolding hex digit number groups shortest fewest utf8 characters character completes sized name remaining lookup size map_table rows table known wider wider_kind contents subsections payload judge_names write_part write_rows write_table unless_empty keep_rows bare write_content write_subsections fitting output_after merged joined joined_contents all_fit write_joined join_names join_answer
wide_joins_computed = refl

-- what is said and what is left, together
both : {A B : Type 0} {x x' : A} {y y' : B} → x ≡ x' → y ≡ y' → ◌≡◌ {A = A × B} (x, y) (x', y')
both p q = λ i. (p i, q i)

pub join : Demanded (λ (x : Lent) (r : JoinWritten × List ℕ). JoiningJoin x.0 x.1 First x.2 r.1 r.0) (λ r. (join_written_as r.0, r.1)) join_rows
join = by_table (λ x r meets. both meets.says meets.leaves) join_rows joins_computed

pub wm_pair_join : Demanded (λ (x : Lent) (r : WmPairAnswer × List ℕ). call.WmPairJoin x.0 x.1 x.2 r.1 r.0) (λ r. (says_join r.0, r.1)) join_rows
wm_pair_join = by_table (λ x r meets. both (ap says_join meets.says ∙ join_answer_said (join_answer (length x.2) (join_names known_kind x.0 x.1))) meets.leaves) join_rows joins_computed

pub wm_wide_pair_join : Demanded (λ (x : Lent) (r : WmPairAnswer × List ℕ). call.WmWidePairJoin x.0 x.1 x.2 r.1 r.0) (λ r. (says_join r.0, r.1)) wide_join_rows
wm_wide_pair_join = by_table (λ x r meets. both (ap says_join meets.says ∙ join_answer_said (join_answer (length x.2) (join_names wider_kind x.0 x.1))) meets.leaves) wide_join_rows wide_joins_computed
