-- Each promise of the crate `wakemiono` determines what comes back.
use Rattle.std.specs.Prelude.{ℕ, List, [], ◌≡◌}
use Rattle.std.proofs.Math.Option.{Option}
use Rattle.std.proofs.Common.{sym, ap, ◌∙◌}
use Rattle.format.proofs.Determined.{Determines, Determines1, Determines2, Determines3, Determines4, Determines5, DeterminesBoth2, DeterminesBoth3, DeterminesBoth4, DeterminesThree2, DeterminesThree3, equal_determined, DeterminesBoth1, DeterminesBoth6}
use Rattle.format.specs.Entries.{Listed}
use Rattle.format.specs.Markers.{Markers}
use Rattle.format.specs.Pairs.{Paired}
use Rattle.format.specs.Reading.{Judged}
use Rattle.sharing.specs.Laws.Same.{same_table}
use Rattle.sharing.specs.Model.{Call, closing, tidying}
use Rattle.sharing.specs.declared.Table.{Table as SharedTable}
use Rattle.wakemiono.proofs.Same.{wm_writes_same}
use Rattle.wakemiono.specs.Boundary.{WmWrites, WmMakes, WmLists}
use Rattle.wakemiono.specs.Calls.{WmWalk, WmSection, WmCustom, WmNamesJudge, WmName, WmMetadataJudge, WmMetadata, WmHintsJudge, WmHint, WmNameIn, WmMetadataIn, WmHintIn, WmNamesCanonical, WmMetadataCanonical, WmHintsCanonical, WmNamesIsCanonical, WmMetadataIsCanonical, WmHintsIsCanonical, WmFunctionNamesWrite, WmWideNamesJudge, WmWideName, WmWideNameIn, WmWideNamesCanonical, WmWideNamesIsCanonical, WmOldHintsJudge, WmOldHint, WmOldHintIn, WmOldHintsCanonical, WmOldHintsIsCanonical, WmOldHintsList, WmWhyFunction, WmWhyLocal, WmMarkers, WmQuickFunctionName, WmPair, WmWidePair, WmPairJoin, WmWidePairJoin, WmStreamBegin, WmStreamPart, WmStreamFinish, WmHintsOnBranches, WmTableStart, WmTableOpen, WmTableFunctionName, WmTableClose, WmTableCompact, WmNamesList, WmWideNamesList, WmMetadataList, WmHintsList}
use Rattle.wakemiono.specs.Pairs.{WmJoins}
use Rattle.wakemiono.specs.Shared.{WmShares}
use Rattle.wakemiono.specs.declared.WmAnswer.{WmAnswer}
use Rattle.wakemiono.specs.declared.beside.WmPairAnswer.{WmPairAnswer}
use Rattle.promises.specs.Determined.Forms.{DeterminesFour, DeterminesFour5}

-- One answer and one end state alone meet the promise of a write
pub wm_writes_determined : (wanted : Judged (List ℕ)) (old : List ℕ) → Determines (λ (r : WmAnswer × List ℕ). WmWrites wanted old r.1 r.0)
wm_writes_determined wanted old a b p q = let one = wm_writes_same p q in λ i. (one.0 i, one.1 i)

-- and of making markers, with both lists
wm_makes_determined : (wanted : Judged Markers) (is os : List ℕ) → Determines (λ (r : WmAnswer × List ℕ × List ℕ). WmMakes wanted is os r.1 r.2 r.0)
wm_makes_determined wanted is os a b p q =
    let one = p.says ∙ sym q.says in
    let two = p.indices ∙ sym q.indices in
    let three = p.offsets ∙ sym q.offsets in
    λ i. (one i, two i, three i)

-- and of listing every entry, with all lists
wm_lists_determined : {X : Type 0} (columns : List (Listed X → ℕ)) (found : Judged (Option (List (Listed X)))) (lists : List (List ℕ)) → Determines (λ (r : WmAnswer × List (List ℕ)). WmLists columns found lists r.1 r.0)
wm_lists_determined columns found lists a b p q =
    let one = p.says ∙ sym q.says in
    let two = p.leaves ∙ sym q.leaves in
    λ i. (one i, two i)

-- and of a join
wm_joins_determined : (wanted : Paired (Judged (List ℕ))) (old : List ℕ) → Determines (λ (r : WmPairAnswer × List ℕ). WmJoins wanted old r.1 r.0)
wm_joins_determined wanted old a b p q =
    let one = p.says ∙ sym q.says in
    let two = p.leaves ∙ sym q.leaves in
    λ i. (one i, two i)

-- and of a call that is lent a state, with the state after it
left_determined : {State Result : Type 0} (state : State) (result : Result) → Determines (λ (r : Result × State). (r.1 ≡ state) × (r.0 ≡ result))
left_determined state result a b p q = let one = p.1 ∙ sym q.1 in let two = p.0 ∙ sym q.0 in λ i. (one i, two i)

-- and of a call on the shared table, with the table, the store and the lent buffer after it
wm_shares_determined : (t : SharedTable) (store : List ℕ) (call : Call) → DeterminesFour (WmShares t store call)
wm_shares_determined t store call a b p q =
    let one = p.shares.says ∙ sym q.shares.says in
    let two = same_table a.1 b.1 p.full q.full (p.shares.table ∙ sym q.shares.table) in
    let three = p.shares.stored ∙ sym q.shares.stored in
    let four = p.shares.lent ∙ sym q.shares.lent in
    λ i. (one i, two i, three i, four i)

pub record Wakemiono : Type 0 where
  wm_walk : Determines1 WmWalk
  wm_section : Determines2 WmSection
  wm_custom : Determines2 WmCustom
  wm_names_judge : Determines1 WmNamesJudge
  wm_name : Determines2 WmName
  wm_metadata_judge : Determines1 WmMetadataJudge
  wm_metadata : Determines3 WmMetadata
  wm_hints_judge : Determines1 WmHintsJudge
  wm_hint : Determines3 WmHint
  wm_name_in : Determines2 WmNameIn
  wm_metadata_in : Determines4 WmMetadataIn
  wm_hint_in : Determines3 WmHintIn
  wm_names_canonical : DeterminesBoth2 WmNamesCanonical
  wm_metadata_canonical : DeterminesBoth2 WmMetadataCanonical
  wm_hints_canonical : DeterminesBoth2 WmHintsCanonical
  wm_names_is_canonical : Determines1 WmNamesIsCanonical
  wm_metadata_is_canonical : Determines1 WmMetadataIsCanonical
  wm_hints_is_canonical : Determines1 WmHintsIsCanonical
  wm_function_names_write : DeterminesBoth4 WmFunctionNamesWrite
  wm_wide_names_judge : Determines1 WmWideNamesJudge
  wm_wide_name : Determines2 WmWideName
  wm_wide_name_in : Determines2 WmWideNameIn
  wm_wide_names_canonical : DeterminesBoth2 WmWideNamesCanonical
  wm_wide_names_is_canonical : Determines1 WmWideNamesIsCanonical
  wm_old_hints_judge : Determines1 WmOldHintsJudge
  wm_old_hint : Determines3 WmOldHint
  wm_old_hint_in : Determines3 WmOldHintIn
  wm_old_hints_canonical : DeterminesBoth2 WmOldHintsCanonical
  wm_old_hints_is_canonical : Determines1 WmOldHintsIsCanonical
  wm_old_hints_list : DeterminesBoth2 WmOldHintsList
  wm_why_function : Determines2 WmWhyFunction
  wm_why_local : Determines3 WmWhyLocal
  wm_markers : DeterminesThree3 WmMarkers
  wm_quick_function_name : Determines5 WmQuickFunctionName
  wm_pair : Determines3 WmPair
  wm_wide_pair : Determines3 WmWidePair
  wm_pair_join : DeterminesBoth3 WmPairJoin
  wm_wide_pair_join : DeterminesBoth3 WmWidePairJoin
  wm_stream_begin : Determines WmStreamBegin
  wm_stream_part : DeterminesBoth2 WmStreamPart
  wm_stream_finish : DeterminesBoth1 WmStreamFinish
  wm_hints_on_branches : Determines1 WmHintsOnBranches
  wm_table_start : Determines1 WmTableStart
  wm_table_open : DeterminesFour5 WmTableOpen
  wm_table_function_name : DeterminesBoth6 WmTableFunctionName
  wm_table_close : DeterminesBoth4 WmTableClose
  wm_table_compact : DeterminesThree2 WmTableCompact
  wm_names_list : DeterminesBoth3 WmNamesList
  wm_wide_names_list : DeterminesBoth3 WmWideNamesList
  wm_metadata_list : DeterminesBoth2 WmMetadataList
  wm_hints_list : DeterminesBoth2 WmHintsList

pub determined : Wakemiono
determined =
    record {
      wm_walk = λ bytes. equal_determined _;
      wm_section = λ position bytes. equal_determined _;
      wm_custom = λ name bytes. equal_determined _;
      wm_names_judge = λ payload. equal_determined _;
      wm_name = λ q payload. equal_determined _;
      wm_metadata_judge = λ payload. equal_determined _;
      wm_metadata = λ function offset payload. equal_determined _;
      wm_hints_judge = λ payload. equal_determined _;
      wm_hint = λ function offset payload. equal_determined _;
      wm_name_in = λ q bytes. equal_determined _;
      wm_metadata_in = λ format function offset bytes. equal_determined _;
      wm_hint_in = λ function offset bytes. equal_determined _;
      wm_names_canonical = λ payload old. wm_writes_determined _ _;
      wm_metadata_canonical = λ payload old. wm_writes_determined _ _;
      wm_hints_canonical = λ payload old. wm_writes_determined _ _;
      wm_names_is_canonical = λ payload. equal_determined _;
      wm_metadata_is_canonical = λ payload. equal_determined _;
      wm_hints_is_canonical = λ payload. equal_determined _;
      wm_function_names_write = λ indices lengths text old. wm_writes_determined _ _;
      wm_wide_names_judge = λ payload. equal_determined _;
      wm_wide_name = λ q payload. equal_determined _;
      wm_wide_name_in = λ q bytes. equal_determined _;
      wm_wide_names_canonical = λ payload old. wm_writes_determined _ _;
      wm_wide_names_is_canonical = λ payload. equal_determined _;
      wm_old_hints_judge = λ payload. equal_determined _;
      wm_old_hint = λ function offset payload. equal_determined _;
      wm_old_hint_in = λ function offset bytes. equal_determined _;
      wm_old_hints_canonical = λ payload old. wm_writes_determined _ _;
      wm_old_hints_is_canonical = λ payload. equal_determined _;
      wm_old_hints_list = λ payload lists. wm_lists_determined _ _ _;
      wm_why_function = λ function payload. equal_determined _;
      wm_why_local = λ function local payload. equal_determined _;
      wm_markers = λ payload indices offsets. wm_makes_determined _ _ _;
      wm_quick_function_name = λ payload indices offsets end function. equal_determined _;
      wm_pair = λ q separate own. equal_determined _;
      wm_wide_pair = λ q separate own. equal_determined _;
      wm_pair_join = λ separate own old. wm_joins_determined _ _;
      wm_wide_pair_join = λ separate own old. wm_joins_determined _ _;
      wm_stream_begin = equal_determined _;
      wm_stream_part = λ before part. left_determined _ _;
      wm_stream_finish = λ before. left_determined _ _;
      wm_hints_on_branches = λ bytes. equal_determined _;
      wm_table_start = λ bytes a b p q. same_table a b p.1 q.1 (p.0 ∙ sym q.0);
      wm_table_open = λ t store customer payload work. wm_shares_determined _ _ _;
      wm_table_function_name = λ t store customer hold function out a b p q.
          let one = p.says ∙ sym q.says in
          let two = p.lent ∙ sym q.lent in
          λ i. (one i, two i);
      wm_table_close = λ t store customer hold a b p q.
          let all = wm_shares_determined t store (closing customer hold) (a.0, a.1, store, []) (b.0, b.1, store, []) p q in
          ap (λ (r : WmAnswer × SharedTable × List ℕ × List ℕ). (r.0, r.1)) all;
      wm_table_compact = λ t store a b p q.
          let all = wm_shares_determined t store tidying (a.0, a.1, a.2, []) (b.0, b.1, b.2, []) p q in
          ap (λ (r : WmAnswer × SharedTable × List ℕ × List ℕ). (r.0, r.1, r.2)) all;
      wm_names_list = λ payload id lists. wm_lists_determined _ _ _;
      wm_wide_names_list = λ payload id lists. wm_lists_determined _ _ _;
      wm_metadata_list = λ payload lists. wm_lists_determined _ _ _;
      wm_hints_list = λ payload lists. wm_lists_determined _ _ _;
    }
