-- The rows that are listed of a payload are those of its meaning, and each lies in the payload where its row says.
use Rattle.std.specs.Prelude.{ℕ, true, List, ◌∷◌, ◌++◌, map, ◌↔◌, ◌≡◌, refl}
use Rattle.std.proofs.lemmas.List.{map-append}
use Rattle.std.proofs.Math.Option.{none, some}
use Rattle.std.proofs.Math.Path.{sym, ap}
use Rattle.std.proofs.Common.{ap₂, ◌∙◌}
use Rattle.format.specs.Canonical.{bare, bare_items}
use Rattle.format.specs.Entries.{Listed, plain_rows, rows_under, group_rows, content_rows, name_rows, item_rows}
use Rattle.format.specs.Holding.{Has}
use Rattle.format.proofs.Laws.CanonicalNames.{read_whole}
use Rattle.format.proofs.Laws.Found.{ContentIn, single_in, names_in, names_by_in, whole_in, Each, no_more, one_more, content_lies, items_lie}
use Rattle.format.proofs.Laws.Holding.{has_lookup, lookup_has}
use Rattle.format.proofs.Laws.Names.{SubFine}
use Rattle.format.proofs.Laws.Codecs.{Sorted}
use Rattle.format.specs.Laws.Options.{not_some, some_is, by_option}
use Rattle.format.specs.Laws.Outcomes.{accepted_is, judged, mapped}
use Rattle.format.proofs.Laws.Places.{PartIn, Located, Rows, no_rows, one_row, lies_all, hint_located, table_located, filling_in}
use Rattle.format.specs.Laws.Turns.{in_tested}
use Rattle.format.proofs.Laws.Tables.{lookup_map}
use Rattle.format.specs.Metadata.{hint_of, hint_item, metadata, judge_metadata}
use Rattle.format.specs.Names.{Kind, Content, single, names, names_by, whole, judge_names}
use Rattle.format.specs.Options.{some_then, map_some, is_some}
use Rattle.format.specs.Parts.{Part}
use Rattle.format.specs.Reading.{Reader, accepted}
use Rattle.format.specs.Tables.{Table, nil, row, lookup, map_table}
use Rattle.format.specs.declared.Reason.TheVariants.{NotHint}
use Rattle.grammar.specs.Laws.Exact.{Exact}
use Rattle.grammar.proofs.Laws.Metadata.{metadata_complete}
use Rattle.grammar.proofs.Laws.Names.{SameIds, names_complete}
use Rattle.grammar.specs.Metadata.{Format, Item, CodeMetadata}
use Rattle.grammar.specs.Names.{NamePayload}

-- a row by its bytes alone
abbrev pub bare_row : Listed Part → Listed (List ℕ)
bare_row e = record { first = e.first; second = e.second; held = e.held.bytes }

plain_bare : (t : Table Part) → plain_rows (map_table (λ x. x.bytes) t) ≡ map bare_row (plain_rows t)
unfolding plain_rows map_table
plain_bare nil = refl
plain_bare (row k x t) = ap (λ l. record { first = k; second = 0; held = x.bytes } ∷ l) (plain_bare t)

under_bare : (k : ℕ) (t : Table Part) → rows_under k (map_table (λ x. x.bytes) t) ≡ map bare_row (rows_under k t)
unfolding rows_under map_table
under_bare k nil = refl
under_bare k (row j x t) = ap (λ l. record { first = k; second = j; held = x.bytes } ∷ l) (under_bare k t)

groups_bare : (t : Table (Table Part)) → group_rows (bare_items t) ≡ map bare_row (group_rows t)
unfolding group_rows map_table
groups_bare nil = refl
groups_bare (row k u t) = ap₂ ◌++◌ (under_bare k u) (groups_bare t) ∙ sym (map-append bare_row (rows_under k u) (group_rows t))

content_bare : (c : Content Part) → content_rows (bare c) ≡ map_some (map bare_row) (content_rows c)
unfolding bare
content_bare (single x) = refl
content_bare (names t) = ap some (plain_bare t)
content_bare (names_by t) = ap some (groups_bare t)
content_bare (whole x) = refl

-- each lies where it says
abbrev pub RowIn : List ℕ → Listed Part → Type 0
RowIn p e = PartIn p e.held

both_in : {In : Listed Part → Type 0} {es fs : List (Listed Part)} → Each In es → Each In fs → Each In (es ++ fs)
both_in no_more r = r
both_in (one_more h l) r = one_more h (both_in l r)

module _ {In : Part → Type 0} where
  plain_in : {t : Table Part} → Rows In t → Each (λ e. In e.held) (plain_rows t)
  unfolding plain_rows
  plain_in no_rows = no_more
  plain_in (one_row h r) = one_more h (plain_in r)

  under_in : (k : ℕ) {t : Table Part} → Rows In t → Each (λ e. In e.held) (rows_under k t)
  unfolding rows_under
  under_in k no_rows = no_more
  under_in k (one_row h r) = one_more h (under_in k r)

  groups_in : {t : Table (Table Part)} → Rows (Rows In) t → Each (λ e. In e.held) (group_rows t)
  unfolding group_rows
  groups_in no_rows = no_more
  groups_in (one_row {k = k} h r) = both_in (under_in k h) (groups_in r)

content_in : {p : List ℕ} {c : Content Part} {es : List (Listed Part)} → ContentIn p c → content_rows c ≡ some es → Each (RowIn p) es
content_in (single_in h) e = rw (← some_is e) (one_more h no_more)
content_in (names_in h) e = rw (← some_is e) (plain_in h)
content_in (names_by_in h) e = rw (← some_is e) (groups_in h)
content_in (whole_in h) e = absurd (not_some e)

-- rows of a meaning, and how they are listed
pub record Meant (p : List ℕ) (es : List (Listed (List ℕ))) (listed : List (Listed Part)) : Type 0 where
  pub same : map bare_row listed ≡ es
  pub lie : Each (RowIn p) listed

-- a number that has something in a table of bare values has it where it was read
has_bare : {A B : Type 0} (f : A → B) {P : ℕ → B → Type 0} {least : ℕ} (k : ℕ) (t : Table A) {c : B} → Sorted P least (map_table f t) → Has k c (map_table f t) → (v : A) × (lookup k t ≡ some v) × (f v ≡ c)
has_bare f k t s h =
    let e = sym (lookup_map f k t) ∙ has_lookup s h in
    by_option (lookup k t) (λ n. absurd (not_some (rw n at e))) (λ v n. (v, n, some_is (rw n at e)))

bare_has : {A B : Type 0} (f : A → B) (k : ℕ) (t : Table A) {v : A} → lookup k t ≡ some v → Has k (f v) (map_table f t)
bare_has f k t e = lookup_has k (map_table f t) (lookup_map f k t ∙ ap (map_some f) e)

-- NAMES, over a table of ids
module _ {Ids : ℕ → Kind → Type 0} {kind_of : ℕ → Kind} (ids : SameIds Ids kind_of) (p : List ℕ) (m : Table (Content (List ℕ))) (id : ℕ) (g : NamePayload Ids p m) where
  -- what the payload was read as
  record Read : Type 0 where
    value : Table (Content Part)
    judged : judge_names kind_of 0 p ≡ accepted value
    means : map_table bare value ≡ m
    sorted : Sorted (SubFine kind_of) 0 (map_table bare value)
    listed : name_rows kind_of id p ≡ accepted (some_then (lookup id value) content_rows)

  read : Read
  unfolding name_rows
  read =
      let (t, e, q) = names_complete ids 0 p m g in
      record { value = t; judged = e; means = q; sorted = (read_whole kind_of (record { value = t; judged = e })).sorted; listed = rw e }

  pub names_meant : {c : Content (List ℕ)} {es : List (Listed (List ℕ))} → Has id c m → content_rows c ≡ some es → (listed : List (Listed Part)) × (name_rows kind_of id p ≡ accepted (some listed)) × Meant p es listed
  names_meant {c} {es} h e =
      let r = read in
      let here : Has id c (map_table bare r.value) = rw r.means h in
      let (v, there, is) = has_bare bare id r.value r.sorted here in
      let rows : map_some (map bare_row) (content_rows v) ≡ some es = sym (content_bare v) ∙ ap content_rows is ∙ e in
      by_option (content_rows v)
      (λ n. absurd (not_some (rw n at rows)))
      (λ listed n. (listed, r.listed ∙ rw (there, n), record { same = some_is (rw n at rows); lie = content_in (content_lies kind_of id p 0 p (lies_all p) r.judged there) n }))

  pub none_meant : (name_rows kind_of id p ≡ accepted none) ↔ ((c : Content (List ℕ)) → Has id c m → content_rows c ≡ none)
  none_meant = (
    λ e c h. by_option (content_rows c) (λ n. n) (λ es n. let (listed, l, _) = names_meant h n in absurd (not_some (accepted_is (sym e ∙ l)))),
    λ h. let r = read in
        by_option (lookup id r.value)
        (λ n. r.listed ∙ rw n)
        (λ v n.
        let nothing : map_some (map bare_row) (content_rows v) ≡ none = sym (content_bare v) ∙ h (bare v) (rw (← r.means) (bare_has bare id r.value n)) in
        by_option (content_rows v) (λ q. r.listed ∙ rw (n, q)) (λ es q. absurd (not_some (sym (rw q at nothing))))),
  )

-- METADATA, over a format
module _ {item : Reader Part} {T : Format} (exact : Exact item (λ p. p.bytes) (Item T)) (located : Located item PartIn) (p : List ℕ) (m : Table (Table (List ℕ))) where
  pub items_meant : CodeMetadata T p m → (listed : List (Listed Part)) × (item_rows item p ≡ accepted (some listed)) × Meant p (group_rows m) listed
  unfolding item_rows
  items_meant g =
      let (t, e, q) = metadata_complete exact 0 p m g in
      (group_rows t, rw e, record { same = sym (groups_bare t) ∙ ap group_rows q; lie = groups_in (items_lie located p 0 p (lies_all p) e) })

-- each hint is one byte
abbrev pub IsHint : Listed Part → Type 0
IsHint e = is_some (hint_of e.held.bytes) ≡ true

hinted : Located hint_item (λ all x. is_some (hint_of x.bytes) ≡ true)
unfolding hint_item
hinted = record { value = λ all o bs l e. in_tested (λ x. is_some (hint_of x)) NotHint (λ o p. o) o bs e λ e₁ t. t; after = hint_located.after }

pub hints_are : (p : List ℕ) {listed : List (Listed Part)} → item_rows hint_item p ≡ accepted (some listed) → Each IsHint listed
unfolding item_rows judge_metadata metadata
hints_are p e =
    mapped (λ t. some (group_rows t)) (judge_metadata hint_item 0 p) e λ t e₁ e₂. judged (metadata hint_item 0 p) e₁ λ o rest e₃.
    rw (← some_is e₂) (groups_in (filling_in (table_located (table_located hinted)) p 0 p (lies_all p) e₃))
