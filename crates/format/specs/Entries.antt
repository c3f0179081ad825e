-- Rules R12.1 to R12.8 of docs/RULES.md.
-- Entries. "All rows, in order, at the front of the lent lists: found with offset 0, length = number of rows; none without such a subsection. Refused as judging does, then 13 with the number of rows as its offset where one of the lists is shorter. A list keeps what stands behind its rows; a refusal changes none. A refused payload is refused whatever id is asked, and metadata or hints without rows are found with length 0." Assumes nothing.
use Rattle.std.specs.Prelude.{ℕ, Bool, true, cond, ◌&&◌, List, [], ◌∷◌, ◌++◌, map, ◌≡◌, leb, length, get_or}
use Rattle.std.proofs.Math.Option.{Option, none, some}
use Rattle.format.specs.Refusals.{number_of}
use Rattle.format.specs.Reading.{Reader, Judged, accepted, refused, judged_then, map_judged}
use Rattle.format.specs.Options.{some_then, map_some}
use Rattle.format.specs.Parts.{Part}
use Rattle.format.specs.Tables.{Table, nil, row, lookup}
use Rattle.format.specs.Names.{Kind, Content, single, names, names_by, whole, judge_names}
use Rattle.format.specs.Metadata.{judge_metadata}
use Rattle.format.specs.Older.{judge_older, sorted_from, kind_number}
use Rattle.format.specs.Questions.{answered}
use Rattle.format.specs.Outputs.{over}
use Rattle.format.specs.Returned.{Answer}
use Rattle.format.specs.declared.Hint.{Hint}
use Rattle.format.specs.declared.Place.{Place}
use Rattle.format.specs.declared.Reason.TheVariants.{OutputTooShort}

-- a row: two indices, and what it holds
pub record Listed (X : Type 0) : Type 0 where
  pub first : ℕ
  pub second : ℕ
  pub held : X

module _ {X : Type 0} where
  -- "first = index, second = index within it (0 for plain maps)"
  unfoldable pub plain_rows : Table X → List (Listed X)
  plain_rows nil = []
  plain_rows (row k x t) = record { first = k; second = 0; held = x } ∷ plain_rows t

  unfoldable pub rows_under : ℕ → Table X → List (Listed X)
  rows_under k nil = []
  rows_under k (row j x t) = record { first = k; second = j; held = x } ∷ rows_under k t

  unfoldable pub group_rows : Table (Table X) → List (Listed X)
  group_rows nil = []
  group_rows (row k group t) = rows_under k group ++ group_rows t

  -- "0 for id 0", which is one row; "none for ids that are kept"
  abbrev pub content_rows : Content X → Option (List (Listed X))
  content_rows (single x) = some (record { first = 0; second = 0; held = x } ∷ [])
  content_rows (names t) = some (plain_rows t)
  content_rows (names_by t) = some (group_rows t)
  content_rows (whole x) = none

-- "One subsection of a name payload, by its id", over a table of ids
unfoldable pub name_rows : (ℕ → Kind) → ℕ → List ℕ → Judged (Option (List (Listed Part)))
name_rows kind_of id bs = map_judged (λ t. some_then (lookup id t) content_rows) (judge_names kind_of 0 bs)

-- "Metadata of any format: function, code offset", and of hints
unfoldable pub item_rows : Reader Part → List ℕ → Judged (Option (List (Listed Part)))
item_rows item bs = map_judged (λ t. some (group_rows t)) (judge_metadata item 0 bs)

-- "Of the older edition: every pair once, by function and offset, with the hint that answers"
unfoldable pub older_rows : List ℕ → Judged (Option (List (Listed Hint)))
older_rows bs = map_judged (λ es. some (group_rows (sorted_from nil es))) (judge_older 0 bs)

-- THE LISTS: what each says of a row. "Where each name lies", or its data
abbrev pub place_columns : List (Listed Part → ℕ)
place_columns = (λ e. e.first) ∷ (λ e. e.second) ∷ (λ e. e.held.at) ∷ (λ e. length e.held.bytes) ∷ []

-- "0 unlikely or 1 likely", which is a hint's one byte of data
abbrev pub hint_columns : List (Listed Part → ℕ)
hint_columns = (λ e. e.first) ∷ (λ e. e.second) ∷ (λ e. get_or e.held.bytes 0 0) ∷ []

abbrev pub older_columns : List (Listed Hint → ℕ)
older_columns = (λ e. e.first) ∷ (λ e. e.second) ∷ (λ e. kind_number e.held) ∷ []

-- so many rows fit each of the lists
unfoldable pub fit_each : ℕ → List (List ℕ) → Bool
fit_each n [] = true
fit_each n (l ∷ ls) = leb n (length l) && fit_each n ls

module _ {X : Type 0} where
  -- 13 comes last, and gives the number of rows
  abbrev pub fitted : List (List ℕ) → Option (List (Listed X)) → Judged (Option (List (Listed X)))
  fitted lists none = accepted none
  fitted lists (some es) = cond (fit_each (length es) lists) (accepted (some es)) (refused (number_of OutputTooShort) (length es))

  unfoldable pub fitting_rows : List (List ℕ) → Judged (Option (List (Listed X))) → Judged (Option (List (Listed X)))
  fitting_rows lists found = judged_then found (fitted lists)

  -- each list with its column at the front, what is behind it unchanged
  unfoldable pub over_each : List (Listed X → ℕ) → List (Listed X) → List (List ℕ) → List (List ℕ)
  over_each [] es lists = lists
  over_each (column ∷ columns) es [] = []
  over_each (column ∷ columns) es (l ∷ ls) = over (accepted (map column es)) l ∷ over_each columns es ls

  abbrev pub lists_after : List (Listed X → ℕ) → Judged (Option (List (Listed X))) → List (List ℕ) → List (List ℕ)
  lists_after columns (accepted none) lists = lists
  lists_after columns (accepted (some es)) lists = over_each columns es lists
  lists_after columns (refused n at) lists = lists

  abbrev pub rows_found : List (Listed X) → Place
  rows_found es = record { offset = record { 0 = 0 }; length = length es }

  -- the answer, and the whole end state of all lists
  pub record Lists (columns : List (Listed X → ℕ)) (found : Judged (Option (List (Listed X)))) (lists lists' : List (List ℕ)) (r : Answer) : Type 0 where
    pub says : answered r ≡ map_judged (map_some rows_found) (fitting_rows lists found)
    pub leaves : lists' ≡ lists_after columns (fitting_rows lists found) lists
