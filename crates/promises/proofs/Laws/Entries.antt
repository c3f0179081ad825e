-- Every entry in one pass: what a call that lists rows comes to, and what its lists hold after it.
use Rattle.std.specs.Prelude.{ℕ, zero, suc, ◌≤◌, true, List, [], ◌∷◌, ◌++◌, map, ◌≢◌, ◌≡◌, refl, leb, take, drop}
use Rattle.std.proofs.Math.Logic.Iff
use Rattle.std.proofs.Math.Option.{Option, some}
use Rattle.std.proofs.Common.{sym, ap₂, ◌∙◌, arith, leb-true, take_at}
use Rattle.std.proofs.Math.Path.{ap}
use Rattle.std.proofs.Math.ListN.{length, get_elem?, get_or, length-map}
use Rattle.format.specs.Canonical.{rewrite_names, canonical_names, write_subsections, bare}
use Rattle.format.specs.Entries.{Listed, plain_rows, group_rows, content_rows, name_rows, item_rows, place_columns, hint_columns, fit_each, over_each}
use Rattle.format.specs.Holding.{Has}
use Rattle.format.proofs.Laws.CanonicalNames.{read_whole}
use Rattle.format.proofs.Laws.Found.{Each, no_more, one_more}
use Rattle.format.proofs.Laws.Holding.{has_lookup, names_sorted}
use Rattle.format.specs.Laws.Options.{not_some, some_is}
use Rattle.format.specs.Laws.Outcomes.{accepted_is, by_test, false_true}
use Rattle.format.proofs.Laws.Places.{any_located, hint_located, lies_inside, lies_there}
use Rattle.format.proofs.Laws.Tables.{lookup_fine}
use Rattle.format.specs.Lists.{function_names, subsection}
use Rattle.format.specs.Metadata.{hint_of, any_item, hint_item, judge_metadata}
use Rattle.format.specs.Names.{Kind, Content, names, judge_names}
use Rattle.format.specs.Options.{some_then, is_some}
use Rattle.format.specs.Parts.{Part}
use Rattle.format.specs.Reading.{Reader, Judged, accepted, map_judged}
use Rattle.format.specs.Tables.{Table, nil, row, lookup, map_table}
use Rattle.grammar.specs.Faults.Metadata.{AnyItemFault, HintFault, MetadataFault}
use Rattle.grammar.specs.Faults.Names.{NamePayloadFault}
use Rattle.grammar.proofs.Laws.Metadata.{any_exact, hint_exact}
use Rattle.grammar.proofs.Laws.Names.{SameIds, names_complete}
use Rattle.grammar.specs.Metadata.{Unknown, BranchHint}
use Rattle.grammar.specs.Names.{NamePayload}
use Rattle.grammar.proofs.Refusing.{ids_refused, metadata_refused, hints_refused}
use Rattle.wakemiono.specs.Boundary.{wm_found, WmLists, WmWrites}
use Rattle.wakemiono.specs.declared.WmAnswer.{WmAnswer}
use Rattle.promises.specs.Demands.{Leaves, PlaceAt, HintAt, text_at, NamesListed, MetadataListed, HintsListed}
use Rattle.promises.specs.Laws.EntryRows.{bare_row, RowIn, IsHint, Meant, names_meant, none_meant, items_meant, hints_are}
use Rattle.promises.proofs.Laws.Faults.{faults}
use Rattle.promises.proofs.Laws.Markers.{put_first, first_of}
use Rattle.promises.proofs.Laws.OldLists.{at_inside, map_at}
use Rattle.promises.specs.Laws.Rows.{Came, came_refused, came_none_lem, came_short, came_listed, came, came_unchanged, rows_answered, came_reply, came_rows, came_none}
use Rattle.promises.specs.Laws.Refusing.{names_fair, any_fair, hint_fair, items_fair}
use Rattle.promises.specs.Laws.WrittenBack.{text_of, indices_of, lengths_of, names_of, written_back}

-- the rows of a payload are those of what its judgement accepts
module _ {lists lists' : List (List ℕ)} {a : WmAnswer} where
  pub names_found : (kind_of : ℕ → Kind) (id : ℕ) (p : List ℕ) → WmLists place_columns (name_rows kind_of id p) lists lists' a → WmLists place_columns (map_judged (λ t. some_then (lookup id t) content_rows) (judge_names kind_of 0 p)) lists lists' a
  unfolding name_rows
  names_found kind_of id p w = w

  pub items_found : {columns : List (Listed Part → ℕ)} (item : Reader Part) (p : List ℕ) → WmLists columns (item_rows item p) lists lists' a → WmLists columns (map_judged (λ t. some (group_rows t)) (judge_metadata item 0 p)) lists lists' a
  unfolding item_rows
  items_found item p w = w

-- WHAT THE LISTS HOLD AFTERWARDS: nothing else than before, or rows at the front
pub data Left {X : Type 0} (columns : List (Listed X → ℕ)) (lists lists' : List (List ℕ)) (a : WmAnswer) : Type 0 where
  left_all : a.kind ≢ 1 → a.length ≡ 0 → lists' ≡ lists → Left columns lists lists' a
  left_rows : (es : List (Listed X)) → fit_each (length es) lists ≡ true → a ≡ wm_found 0 0 (length es) → lists' ≡ over_each columns es lists → Left columns lists lists' a

pub left_by : {X : Type 0} {columns : List (Listed X → ℕ)} {found : Judged (Option (List (Listed X)))} {lists lists' : List (List ℕ)} {a : WmAnswer} → Came columns found lists lists' a → Left columns lists lists' a
left_by (came_refused n at e q is) = left_all (λ k. omega (arith, k, ap (λ (a : WmAnswer). a.kind) q)) (ap (λ (a : WmAnswer). a.length) q) is
left_by (came_none_lem e q is) = left_all (λ k. omega (arith, k, ap (λ (a : WmAnswer). a.kind) q)) (ap (λ (a : WmAnswer). a.length) q) is
left_by (came_short es e t q is) = left_all (λ k. omega (arith, k, ap (λ (a : WmAnswer). a.kind) q)) (ap (λ (a : WmAnswer). a.length) q) is
left_by (came_listed es e t q is) = left_rows es t q is

first_list : {l k : List ℕ} {ls ks : List (List ℕ)} → ◌≡◌ {A = List (List ℕ)} (l ∷ ls) (k ∷ ks) → l ≡ k
first_list e = cc

other_lists : {l k : List ℕ} {ls ks : List (List ℕ)} → ◌≡◌ {A = List (List ℕ)} (l ∷ ls) (k ∷ ks) → ls ≡ ks
other_lists e = cc

fits_first : (n : ℕ) (l : List ℕ) (ls : List (List ℕ)) → fit_each n (l ∷ ls) ≡ true → (n ≤ length l) × (fit_each n ls ≡ true)
unfolding fit_each
fits_first n l ls e = by_test (leb n (length l)) (λ t. (leb-true n (length l) t, rw t at e)) (λ t. absurd (false_true (rw t at e)))

module _ {X : Type 0} {shows : Listed X → ℕ} {columns : List (Listed X → ℕ)} {l l' : List ℕ} {ls ls' : List (List ℕ)} {a : WmAnswer} where
  pub left_first : Left (shows ∷ columns) (l ∷ ls) (l' ∷ ls') a → Leaves l l' a
  unfolding over_each
  left_first (left_all k z is) =
      let same = first_list is in
      record { refused_unchanged = λ _. same; others_unchanged = λ q. absurd (k q); inside = omega (arith, z); as_long = ap length same }
  left_first (left_rows es t q is) =
      let many = length-map es shows in
      put_first (map shows es) l 0 (omega (arith, many, (fits_first (length es) l ls t).0)) (first_list is) (q ∙ ap (wm_found 0 0) (sym many))

  pub left_others : Left (shows ∷ columns) (l ∷ ls) (l' ∷ ls') a → Left columns ls ls' a
  unfolding over_each
  left_others (left_all k z is) = left_all k z (other_lists is)
  left_others (left_rows es t q is) = left_rows es (fits_first (length es) l ls t).1 q (other_lists is)

-- THE ROWS
at_listed : (xs : List (Listed Part)) (i : ℕ) {e : Listed (List ℕ)} → get_elem? (map bare_row xs) i ≡ some e → (r : Listed Part) × (get_elem? xs i ≡ some r) × (bare_row r ≡ e)
at_listed [] i q = absurd (not_some q)
at_listed (x ∷ xs) zero q = (x, refl, some_is q)
at_listed (x ∷ xs) (suc i) q = at_listed xs i q

each_at : {In : Listed Part → Type 0} {xs : List (Listed Part)} (i : ℕ) {x : Listed Part} → Each In xs → get_elem? xs i ≡ some x → In x
each_at i no_more e = absurd (not_some e)
each_at zero (one_more h r) e = rw (← some_is e) h
each_at (suc i) (one_more h r) e = each_at i r e

-- a column's number at a position
column_at : (shows : Listed Part → ℕ) (xs : List (Listed Part)) (l : List ℕ) {l' : List ℕ} (i : ℕ) {r : Listed Part} → l' ≡ map shows xs ++ drop (length (map shows xs)) l → get_elem? xs i ≡ some r → get_elem? l' i ≡ some (shows r)
column_at shows xs l i is e = first_of (map shows xs) (drop (length (map shows xs)) l) i is (omega (arith, at_inside xs i e, length-map xs shows)) ∙ map_at shows xs i e

one_byte : (bytes : List ℕ) → is_some (hint_of bytes) ≡ true → bytes ≡ get_or bytes 0 0 ∷ []
unfolding hint_of
one_byte [] e = absurd (false_true e)
one_byte (b ∷ []) e = refl
one_byte (b ∷ c ∷ bytes) e = absurd (false_true e)

module _ {p : List ℕ} {es : List (Listed (List ℕ))} {listed : List (Listed Part)} (m : Meant p es listed) where
  pub as_many : length listed ≡ length es
  as_many = sym (length-map listed bare_row) ∙ ap length m.same

  pub places_there : (fs ss os ns fs' ss' os' ns' : List ℕ) → (fs' ∷ ss' ∷ os' ∷ ns' ∷ []) ≡ over_each place_columns listed (fs ∷ ss ∷ os ∷ ns ∷ []) → (i : ℕ) (e : Listed (List ℕ)) → get_elem? es i ≡ some e → PlaceAt p fs' ss' os' ns' i e
  unfolding over_each
  places_there fs ss os ns fs' ss' os' ns' is i e h =
      let here : get_elem? (map bare_row listed) i ≡ some e = rw m.same h in
      let (r, there, same) = at_listed listed i here in
      let lies = each_at i m.lie there in
      let second = other_lists is in
      let third = other_lists second in
      let fourth = other_lists third in
      rw (← same) (record {
        offset = r.held.at;
        long = length r.held.bytes;
        first_is = column_at (λ e. e.first) listed fs i (first_list is) there;
        second_is = column_at (λ e. e.second) listed ss i (first_list second) there;
        offset_is = column_at (λ e. e.held.at) listed os i (first_list third) there;
        length_is = column_at (λ e. length e.held.bytes) listed ns i (first_list fourth) there;
        inside = lies_inside lies;
        there = lies_there lies;
      })

  pub hints_there : Each IsHint listed → (fs os ls fs' os' ls' : List ℕ) → (fs' ∷ os' ∷ ls' ∷ []) ≡ over_each hint_columns listed (fs ∷ os ∷ ls ∷ []) → (i : ℕ) (e : Listed (List ℕ)) → get_elem? es i ≡ some e → HintAt fs' os' ls' i e
  unfolding over_each
  hints_there hints fs os ls fs' os' ls' is i e h =
      let here : get_elem? (map bare_row listed) i ≡ some e = rw m.same h in
      let (r, there, same) = at_listed listed i here in
      let second = other_lists is in
      let third = other_lists second in
      rw (← same) (record {
        byte = get_or r.held.bytes 0 0;
        function_is = column_at (λ e. e.first) listed fs i (first_list is) there;
        offset_is = column_at (λ e. e.second) listed os i (first_list second) there;
        byte_is = column_at (λ e. get_or e.held.bytes 0 0) listed ls i (first_list third) there;
        data_is = one_byte r.held.bytes (each_at i hints there);
      })

-- what was found is what was listed, with as many rows as the meaning has
module _ {X : Type 0} {columns : List (Listed X → ℕ)} {found : Judged (Option (List (Listed X)))} {lists lists' : List (List ℕ)} {a : WmAnswer} {listed : List (Listed X)} (is : found ≡ accepted (some listed)) (k : a.kind ≡ 1) where
  pub all_listed : Came columns found lists lists' a → (a ≡ wm_found 0 0 (length listed)) × (lists' ≡ over_each columns listed lists)
  all_listed (came_refused n at e q s) = absurd (omega (arith, k, ap (λ (a : WmAnswer). a.kind) q))
  all_listed (came_none_lem e q s) = absurd (omega (arith, k, ap (λ (a : WmAnswer). a.kind) q))
  all_listed (came_short es e t q s) = absurd (omega (arith, k, ap (λ (a : WmAnswer). a.kind) q))
  all_listed (came_listed es e t q s) = let same : es ≡ listed = some_is (accepted_is (sym e ∙ is)) in (q ∙ ap (λ l. wm_found 0 0 (length l)) same, s ∙ ap (λ l. over_each columns l lists) same)

-- WRITTEN FROM THE LISTS: the columns that are read back, and the text at the places
taken : (shows : Listed Part → ℕ) (xs : List (Listed Part)) (l : List ℕ) {l' : List ℕ} (n : ℕ) → l' ≡ map shows xs ++ drop (length (map shows xs)) l → n ≡ length xs → take n l' ≡ map shows xs
taken shows xs l n is many = ap (take n) is ∙ take_at (map shows xs) (drop (length (map shows xs)) l) n (length-map xs shows ∙ sym many)

text_there : {p : List ℕ} {xs : List (Listed Part)} → Each (RowIn p) xs → text_at p (map (λ e. e.held.at) xs) (map (λ e. length e.held.bytes) xs) ≡ text_of (map bare_row xs)
unfolding text_of
text_there no_more = refl
text_there (one_more h r) = ap₂ ◌++◌ (lies_there h) (text_there r)

map_bare : (shows : Listed (List ℕ) → ℕ) (xs : List (Listed Part)) → map (λ e. shows (bare_row e)) xs ≡ map shows (map bare_row xs)
map_bare shows [] = refl
map_bare shows (x ∷ xs) = ap (λ l. shows (bare_row x) ∷ l) (map_bare shows xs)

-- what the lists give back of the function names of a payload
record ReadBack (p : List ℕ) (t : Table (List ℕ)) (n : ℕ) (fs os ns : List ℕ) : Type 0 where
  indices : take n fs ≡ indices_of t
  lengths : take n ns ≡ lengths_of t
  text : text_at p (take n os) (take n ns) ≡ names_of t

read_back : {p : List ℕ} {t : Table (List ℕ)} {listed : List (Listed Part)} (n : ℕ) (fs ss os ns fs' ss' os' ns' : List ℕ) → Meant p (plain_rows t) listed → n ≡ length listed → (fs' ∷ ss' ∷ os' ∷ ns' ∷ []) ≡ over_each place_columns listed (fs ∷ ss ∷ os ∷ ns ∷ []) → ReadBack p t n fs' os' ns'
unfolding over_each
read_back {p} {listed = listed} n fs ss os ns fs' ss' os' ns' meant many put =
    let third = other_lists (other_lists put) in
    let sizes = taken (λ e. length e.held.bytes) listed ns n (first_list (other_lists third)) many in
    record {
      indices = taken (λ e. e.first) listed fs n (first_list put) many ∙ map_bare (λ e. e.first) listed ∙ ap (map (λ e. e.first)) meant.same;
      lengths = sizes ∙ map_bare (λ e. length e.held) listed ∙ ap (map (λ e. length e.held)) meant.same;
      text = ap₂ (text_at p) (taken (λ e. e.held.at) listed os n (first_list third) many) sizes ∙ text_there meant.lie ∙ ap text_of meant.same;
    }

module _ {Ids : ℕ → Kind → Type 0} {kind_of : ℕ → Kind} (ids : SameIds Ids kind_of) where
  -- the names of a payload are fine, and their subsection is not too large
  names_fine : (p : List ℕ) (m : Table (Content (List ℕ))) (t : Table (List ℕ)) → NamePayload Ids p m → Has 1 (names t) m → function_names (indices_of t) (lengths_of t) (names_of t) ≡ accepted (write_subsections (subsection t))
  names_fine p m t g h =
      let (v, e, q) = names_complete ids 0 p m g in
      let sorted = (read_whole kind_of (record { value = v; judged = e })).sorted in
      let here : Has 1 (names t) (map_table bare v) = rw q h in
      let fine = lookup_fine 1 sorted (has_lookup sorted here) in
      written_back t (names_sorted fine.0) fine.1

  -- a payload that holds these names and nothing else
  alone : (q : List ℕ) (t : Table (List ℕ)) → NamePayload Ids q (row 1 (names t) nil) → canonical_names kind_of q ≡ accepted (write_subsections (subsection t))
  unfolding canonical_names rewrite_names subsection
  alone q t g = let (v, e, is) = names_complete ids 0 q (row 1 (names t) nil) g in rw (e, is)

  pub listed_back : (p q fs ss os ns fs' ss' os' ns' old new new' : List ℕ) (m : Table (Content (List ℕ))) (t : Table (List ℕ)) (a b c : WmAnswer) → NamePayload Ids p m → Has 1 (names t) m → NamePayload Ids q (row 1 (names t) nil) → WmLists place_columns (name_rows kind_of 1 p) (fs ∷ ss ∷ os ∷ ns ∷ []) (fs' ∷ ss' ∷ os' ∷ ns' ∷ []) a → a.kind ≡ 1 → WmWrites (function_names (take a.length fs') (take a.length ns') (text_at p (take a.length os') (take a.length ns'))) old new b → WmWrites (canonical_names kind_of q) old new' c → (b ≡ c) × (new ≡ new')
  listed_back p q fs ss os ns fs' ss' os' ns' old new new' m t a b c g h alone_there w k write canonical =
      let (listed, found, meant) = names_meant ids p m 1 g h refl in
      let (says, put) = all_listed found k (came place_columns (name_rows kind_of 1 p) (fs ∷ ss ∷ os ∷ ns ∷ []) (fs' ∷ ss' ∷ os' ∷ ns' ∷ []) a w) in
      let r = read_back a.length fs ss os ns fs' ss' os' ns' meant (ap (λ (a : WmAnswer). a.length) says) put in
      let wanted : function_names (take a.length fs') (take a.length ns') (text_at p (take a.length os') (take a.length ns')) ≡ canonical_names kind_of q = rw (r.text, r.indices, r.lengths) (names_fine p m t g h) ∙ sym (alone q t alone_there) in
      let written : WmWrites (canonical_names kind_of q) old new b = rw wanted at write in
      (written.says ∙ sym canonical.says, written.leaves ∙ sym canonical.leaves)

-- THE DEMANDS
-- one subsection of names, over a table of ids
pub lists_names : {Ids : ℕ → Kind → Type 0} {kind_of : ℕ → Kind} → SameIds Ids kind_of → NamesListed Ids kind_of (λ p id lists lists' a. WmLists place_columns (name_rows kind_of id p) lists lists' a) (λ p old new a. WmWrites (canonical_names kind_of p) old new a)
lists_names {Ids} {kind_of} ids = record {
  answers = λ p id lists lists' a b w.
      let c = came place_columns _ lists lists' a (names_found kind_of id p w) in
      rows_answered place_columns (λ t. some_then (lookup id t) content_rows) (judge_names kind_of 0 p) lists lists' a c (NamePayloadFault Ids p) (faults (ids_refused ids 0) p b) (names_fair kind_of 0 p).numbered (came_reply c);
  unchanged = λ p id lists lists' a w. came_unchanged (came place_columns (name_rows kind_of id p) lists lists' a w);
  left = λ p id fs ss os ns fs' ss' os' ns' a w.
      let l = left_by (came place_columns (name_rows kind_of id p) (fs ∷ ss ∷ os ∷ ns ∷ []) (fs' ∷ ss' ∷ os' ∷ ns' ∷ []) a w) in
      (left_first l, left_first (left_others l), left_first (left_others (left_others l)), left_first (left_others (left_others (left_others l))));
  none = λ p id lists lists' m a g w. Iff.trans (came_none (came place_columns (name_rows kind_of id p) lists lists' a w)) (none_meant ids p m id g);
  rows = λ p id fs ss os ns fs' ss' os' ns' m c es a g h e w k.
      let (listed, found, meant) = names_meant ids p m id g h e in
      let (says, put) = all_listed found k (came place_columns (name_rows kind_of id p) (fs ∷ ss ∷ os ∷ ns ∷ []) (fs' ∷ ss' ∷ os' ∷ ns' ∷ []) a w) in
      (says ∙ ap (wm_found 0 0) (as_many meant), places_there meant fs ss os ns fs' ss' os' ns' put);
  back = listed_back ids;
}

pub lists_metadata : MetadataListed
lists_metadata = record {
  answers = λ p lists lists' a b w.
      let c = came place_columns _ lists lists' a (items_found any_item p w) in
      rows_answered place_columns (λ t. some (group_rows t)) (judge_metadata any_item 0 p) lists lists' a c (MetadataFault Unknown AnyItemFault p) (faults (metadata_refused 0) p b) (items_fair any_fair 0 p).numbered (came_rows group_rows (judge_metadata any_item 0 p) c);
  unchanged = λ p lists lists' a w. came_unchanged (came place_columns (item_rows any_item p) lists lists' a w);
  left = λ p fs ss os ns fs' ss' os' ns' a w.
      let l = left_by (came place_columns (item_rows any_item p) (fs ∷ ss ∷ os ∷ ns ∷ []) (fs' ∷ ss' ∷ os' ∷ ns' ∷ []) a w) in
      (left_first l, left_first (left_others l), left_first (left_others (left_others l)), left_first (left_others (left_others (left_others l))));
  rows = λ p fs ss os ns fs' ss' os' ns' m a g w k.
      let (listed, found, meant) = items_meant any_exact any_located p m g in
      let (says, put) = all_listed found k (came place_columns (item_rows any_item p) (fs ∷ ss ∷ os ∷ ns ∷ []) (fs' ∷ ss' ∷ os' ∷ ns' ∷ []) a w) in
      (says ∙ ap (wm_found 0 0) (as_many meant), places_there meant fs ss os ns fs' ss' os' ns' put);
}

pub lists_hints : HintsListed
lists_hints = record {
  answers = λ p lists lists' a b w.
      let c = came hint_columns _ lists lists' a (items_found hint_item p w) in
      rows_answered hint_columns (λ t. some (group_rows t)) (judge_metadata hint_item 0 p) lists lists' a c (MetadataFault BranchHint HintFault p) (faults (hints_refused 0) p b) (items_fair hint_fair 0 p).numbered (came_rows group_rows (judge_metadata hint_item 0 p) c);
  unchanged = λ p lists lists' a w. came_unchanged (came hint_columns (item_rows hint_item p) lists lists' a w);
  left = λ p fs os ls fs' os' ls' a w.
      let l = left_by (came hint_columns (item_rows hint_item p) (fs ∷ os ∷ ls ∷ []) (fs' ∷ os' ∷ ls' ∷ []) a w) in
      (left_first l, left_first (left_others l), left_first (left_others (left_others l)));
  rows = λ p fs os ls fs' os' ls' m a g w k.
      let (listed, found, meant) = items_meant hint_exact hint_located p m g in
      let (says, put) = all_listed found k (came hint_columns (item_rows hint_item p) (fs ∷ os ∷ ls ∷ []) (fs' ∷ os' ∷ ls' ∷ []) a w) in
      (says ∙ ap (wm_found 0 0) (as_many meant), hints_there meant (hints_are p found) fs os ls fs' os' ls' put);
}
