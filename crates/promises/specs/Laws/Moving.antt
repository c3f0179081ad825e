-- A payload that begins further on is read alike: every part and every refusal lies that much further on.
use Prim.Native.Nat.{ℕ, zero, suc, ◌+◌}
use Rattle.std.specs.Prelude.{Bool, true, false, List, [], ◌∷◌, ◌≡◌, ltb, leb, eqb, length}
use Rattle.std.proofs.Math.Option.{Option, none, some}
use Rattle.std.proofs.Math.Path.{refl, ap}
use Rattle.std.proofs.Common.{sym, ◌∙◌, add-zero, add-suc, arith}
use Rattle.format.specs.Laws.Options.{by_option}
use Rattle.format.specs.Laws.Outcomes.{by_test}
use Rattle.format.proofs.Laws.Tables.{lookup_map}
use Rattle.format.specs.Metadata.{hint_of, any_item, hint_item, metadata, judge_metadata, item_at, ask_metadata, hint_in, ask_hint}
use Rattle.format.specs.Names.{Kind, one_name, name_map, indirect_map, kept, Content, single, names, names_by, whole, contents, subsections, payload, judge_names}
use Rattle.format.specs.Numbers.{groups, number}
use Rattle.format.specs.Older.{times, vector, zero_byte, older_kind, older_hint, older_entry, judge_older, first_in, ask_older}
use Rattle.format.specs.Options.{some_then, map_some, is_some}
use Rattle.format.specs.Parts.{Part, sized, name, remaining, go_on, cut}
use Rattle.format.specs.Questions.{answer_in, answer, asked, id_of, query_of, ask_at}
use Rattle.format.specs.declared.Question.{Question}
use Rattle.format.specs.declared.Query.{Query}
use Rattle.format.specs.declared.Query.TheVariants.{ItsName, ItsContents, NameOf, NameWithin}
use Rattle.format.specs.Reading.{Outcome, got, stop, Reader, and_then, ◌>>◌, checked, at_end, filling, Judged, accepted, refused, judge, map_judged}
use Rattle.format.specs.Tables.{Table, lookup, map_table, rows, table}
use Rattle.format.specs.Text.{utf8}
use Rattle.format.specs.declared.CodeOffset.{CodeOffset}
use Rattle.format.specs.declared.FunctionIndex.{FunctionIndex}
use Rattle.format.specs.declared.InstructionOffset.{InstructionOffset}
use Rattle.format.specs.declared.Reason.{Reason}

abbrev pub move_part : ℕ → Part → Part
move_part k p = record { at = k + p.at; bytes = p.bytes }

module _ {A : Type 0} (move : A → A) (k : ℕ) where
  abbrev moved : Outcome A → Outcome A
  moved (got v o bs) = got (move v) (k + o) bs
  moved (stop n at) = stop n (k + at)

  abbrev pub moved_judged : Judged A → Judged A
  moved_judged (accepted v) = accepted (move v)
  moved_judged (refused n at) = refused n (k + at)

  judge_moved : (r : Outcome A) → judge (moved r) ≡ moved_judged (judge r)
  judge_moved (got v o bs) = refl
  judge_moved (stop n at) = refl

-- a reader that reads alike further on
abbrev Moves : {A : Type 0} → (ℕ → A → A) → Reader A → Type 0
Moves move read = (k o : ℕ) (bs : List ℕ) → read (k + o) bs ≡ moved (move k) k (read o bs)

abbrev stays : ℕ → ℕ → ℕ
stays k v = v

module _ {A B : Type 0} (move : A → A) (move_next : B → B) (k : ℕ) where
  then_moves : (r r' : Outcome A) (next next' : A → Reader B) → r' ≡ moved move k r → ((v : A) (o : ℕ) (bs : List ℕ) → next' (move v) (k + o) bs ≡ moved move_next k (next v o bs)) → and_then r' next' ≡ moved move_next k (and_then r next)
  then_moves (got v o bs) r' next next' e h = ap (λ r. and_then r next') e ∙ h v o bs
  then_moves (stop n at) r' next next' e h = ap (λ r. and_then r next') e

module _ {B : Type 0} (move : B → B) (k : ℕ) where
  check_moves : (b : Bool) (why : Reason) (at o : ℕ) (bs : List ℕ) (next next' : Reader B) → next' (k + o) bs ≡ moved move k (next o bs) → (checked b why (k + at) >> next') (k + o) bs ≡ moved move k ((checked b why at >> next) o bs)
  check_moves true why at o bs next next' h = h
  check_moves false why at o bs next next' h = refl

  part_moves : (r r' : Outcome B) (o : ℕ) (bs : List ℕ) → r' ≡ moved move k r → go_on r' (k + o) bs ≡ moved move k (go_on r o bs)
  part_moves (got v o₁ r₁) r' o bs e = ap (λ r. go_on r (k + o) bs) e
  part_moves (stop n at) r' o bs e = ap (λ r. go_on r (k + o) bs) e

  end_moves : (v : B) (o : ℕ) (bs : List ℕ) → at_end (move v) (k + o) bs ≡ moved move k (at_end v o bs)
  end_moves v o [] = refl
  end_moves v o (b ∷ bs) = refl

groups_move : (more first k o : ℕ) (bs : List ℕ) → groups more (k + first) (k + o) bs ≡ moved (stays k) k (groups more first o bs)
unfolding groups
groups_move zero first k o [] = refl
groups_move (suc more) first k o [] = refl
groups_move zero first k o (b ∷ bs) = by_test (leb b 0x0F) (λ t. rw (t, add-suc k o)) (λ t. rw t)
groups_move (suc more) first k o (b ∷ bs) =
    by_test (ltb b 128)
    (λ t. rw (t, add-suc k o))
    (λ t. rw (t, ← add-suc k o) (then_moves (stays k) (stays k) k (groups more first (suc o) bs) (groups more (k + first) (k + suc o) bs) _ _ (groups_move more first k (suc o) bs) λ v o₁ r₁. refl))

number_moves : Moves stays number
unfolding number
number_moves k o bs = groups_move 4 o k o bs

sized_moves : Moves move_part sized
unfolding sized
sized_moves k o bs =
    then_moves (stays k) (move_part k) k (number o bs) (number (k + o) bs) _ _ (number_moves k o bs) λ n o₁ r₁.
    check_moves (move_part k) k (leb n (length r₁)) _ o o₁ r₁ (cut n) (cut n) (let q : k + o₁ + n ≡ k + (o₁ + n) = omega arith in rw q)

name_moves : Moves move_part name
unfolding name
name_moves k o bs =
    then_moves (move_part k) (move_part k) k (sized o bs) (sized (k + o) bs) _ _ (sized_moves k o bs) λ p o₁ r₁.
    check_moves (move_part k) k (utf8 p.bytes) _ p.at o₁ r₁ _ _ refl

any_moves : Moves move_part any_item
unfolding any_item
any_moves = sized_moves

hint_moves : Moves move_part hint_item
unfolding hint_item
hint_moves k o bs =
    then_moves (move_part k) (move_part k) k (sized o bs) (sized (k + o) bs) _ _ (sized_moves k o bs) λ p o₁ r₁.
    check_moves (move_part k) k (is_some (hint_of p.bytes)) _ o o₁ r₁ _ _ refl

-- Tables
module _ {A : Type 0} (move : ℕ → A → A) (read : Reader A) (moves : Moves move read) where
  rows_move : (n least k o : ℕ) (bs : List ℕ) → rows read n least (k + o) bs ≡ moved (map_table (move k)) k (rows read n least o bs)
  unfolding rows map_table
  rows_move zero least k o bs = refl
  rows_move (suc n) least k o bs =
      then_moves (stays k) (map_table (move k)) k (number o bs) (number (k + o) bs) _ _ (number_moves k o bs) λ i o₁ r₁.
      check_moves (map_table (move k)) k (leb least i) _ o o₁ r₁ _ _
      (then_moves (move k) (map_table (move k)) k (read o₁ r₁) (read (k + o₁) r₁) _ _ (moves k o₁ r₁) λ v o₂ r₂.
      then_moves (map_table (move k)) (map_table (move k)) k (rows read n (suc i) o₂ r₂) (rows read n (suc i) (k + o₂) r₂) _ _ (rows_move n (suc i) k o₂ r₂) λ t o₃ r₃. refl)

  table_moves : Moves (λ k. map_table (move k)) (table read)
  unfolding table
  table_moves k o bs = then_moves (stays k) (map_table (move k)) k (number o bs) (number (k + o) bs) _ _ (number_moves k o bs) λ n o₁ r₁. rows_move n 0 k o₁ r₁

  filling_moves : Moves move (filling read)
  filling_moves k o bs = then_moves (move k) (move k) k (read o bs) (read (k + o) bs) _ _ (moves k o bs) (end_moves (move k) k)

-- Name payloads
unfoldable pub move_content : ℕ → Content Part → Content Part
move_content k (single p) = single (move_part k p)
move_content k (names t) = names (map_table (move_part k) t)
move_content k (names_by t) = names_by (map_table (map_table (move_part k)) t)
move_content k (whole p) = whole (move_part k p)

contents_move : (kind : Kind) → Moves move_content (contents kind)
unfolding contents move_content remaining
contents_move one_name k o bs = then_moves (move_part k) (move_content k) k (filling name o bs) (filling name (k + o) bs) _ _ (filling_moves move_part name name_moves k o bs) λ v o₁ r₁. refl
contents_move name_map k o bs = then_moves (map_table (move_part k)) (move_content k) k (filling (table name) o bs) (filling (table name) (k + o) bs) _ _ (filling_moves _ (table name) (table_moves move_part name name_moves) k o bs) λ v o₁ r₁. refl
contents_move indirect_map k o bs = then_moves (map_table (map_table (move_part k))) (move_content k) k (filling (table (table name)) o bs) (filling (table (table name)) (k + o) bs) _ _ (filling_moves _ (table (table name)) (table_moves _ (table name) (table_moves move_part name name_moves)) k o bs) λ v o₁ r₁. refl
contents_move kept k o bs = let q : k + o + length bs ≡ k + (o + length bs) = omega arith in rw q

subsections_move : (kind_of : ℕ → Kind) (most least k o : ℕ) (bs : List ℕ) → subsections kind_of most least (k + o) bs ≡ moved (map_table (move_content k)) k (subsections kind_of most least o bs)
unfolding subsections map_table
subsections_move kind_of zero least k o bs = refl
subsections_move kind_of (suc most) least k o [] = refl
subsections_move kind_of (suc most) least k o (id ∷ bs) =
    rw (← add-suc k o) (check_moves (map_table (move_content k)) k (leb least id) _ o (suc o) bs _ _
    (then_moves (move_part k) (map_table (move_content k)) k (sized (suc o) bs) (sized (k + suc o) bs) _ _ (sized_moves k (suc o) bs) λ p o₁ r₁.
    then_moves (move_content k) (map_table (move_content k)) k (go_on (contents (kind_of id) p.at p.bytes) o₁ r₁) (go_on (contents (kind_of id) (k + p.at) p.bytes) (k + o₁) r₁) _ _ (part_moves (move_content k) k (contents (kind_of id) p.at p.bytes) (contents (kind_of id) (k + p.at) p.bytes) o₁ r₁ (contents_move (kind_of id) k p.at p.bytes)) λ c o₂ r₂.
    then_moves (map_table (move_content k)) (map_table (move_content k)) k (subsections kind_of most (suc id) o₂ r₂) (subsections kind_of most (suc id) (k + o₂) r₂) _ _ (subsections_move kind_of most (suc id) k o₂ r₂) λ t o₃ r₃. refl))

names_move : (kind_of : ℕ → Kind) (k : ℕ) (p : List ℕ) → judge_names kind_of k p ≡ moved_judged (map_table (move_content k)) k (judge_names kind_of 0 p)
unfolding judge_names payload
names_move kind_of k p = ap (λ n. judge (payload kind_of n p)) (sym (add-zero k)) ∙ ap judge (subsections_move kind_of (length p) 0 k 0 p) ∙ judge_moved _ k (payload kind_of 0 p)

-- Answers
map_moved : {A B : Type 0} (f : A → B) (move : A → A) (move_other : B → B) (k : ℕ) (j : Judged A) → ((v : A) → f (move v) ≡ move_other (f v)) → map_judged f (moved_judged move k j) ≡ moved_judged move_other k (map_judged f j)
map_moved f move move_other k (accepted v) h = ap accepted (h v)
map_moved f move move_other k (refused n at) h = refl

within_moves : (k i j : ℕ) (t : Table (Table Part)) → some_then (lookup i (map_table (map_table (move_part k)) t)) (lookup j) ≡ map_some (move_part k) (some_then (lookup i t) (lookup j))
within_moves k i j t = rw (lookup_map (map_table (move_part k)) i t) (by_option (lookup i t) (λ e. rw e) (λ u e. rw e (lookup_map (move_part k) j u)))

answer_in_moves : (k : ℕ) (q : Query) (c : Content Part) → answer_in q (move_content k c) ≡ map_some (move_part k) (answer_in q c)
unfolding move_content
answer_in_moves k ItsName (single x) = refl
answer_in_moves k ItsName (names t) = refl
answer_in_moves k ItsName (names_by t) = refl
answer_in_moves k ItsName (whole x) = refl
answer_in_moves k ItsContents (single x) = refl
answer_in_moves k ItsContents (names t) = refl
answer_in_moves k ItsContents (names_by t) = refl
answer_in_moves k ItsContents (whole x) = refl
answer_in_moves k (NameOf i) (single x) = refl
answer_in_moves k (NameOf i) (names t) = lookup_map (move_part k) i t
answer_in_moves k (NameOf i) (names_by t) = refl
answer_in_moves k (NameOf i) (whole x) = refl
answer_in_moves k (NameWithin i j) (single x) = refl
answer_in_moves k (NameWithin i j) (names t) = refl
answer_in_moves k (NameWithin i j) (names_by t) = within_moves k i j t
answer_in_moves k (NameWithin i j) (whole x) = refl

answer_moves : (k id : ℕ) (q : Query) (t : Table (Content Part)) → answer id q (map_table (move_content k) t) ≡ map_some (move_part k) (answer id q t)
unfolding answer
answer_moves k id q t = rw (lookup_map (move_content k) id t) (by_option (lookup id t) (λ e. rw e) (λ c e. rw e (answer_in_moves k q c)))

pub name_asked_moves : (kind_of : ℕ → Kind) (q : Question) (k : ℕ) (p : List ℕ) → ask_at kind_of q k p ≡ moved_judged (map_some (move_part k)) k (ask_at kind_of q 0 p)
unfolding ask_at asked
name_asked_moves kind_of q k p = ap (map_judged (answer (id_of q) (query_of q))) (names_move kind_of k p) ∙ map_moved (answer (id_of q) (query_of q)) (map_table (move_content k)) (map_some (move_part k)) k (judge_names kind_of 0 p) (answer_moves k (id_of q) (query_of q))

-- Metadata and hints
module _ (item : Reader Part) (moves : Moves move_part item) where
  items_move : (k : ℕ) (p : List ℕ) → judge_metadata item k p ≡ moved_judged (map_table (map_table (move_part k))) k (judge_metadata item 0 p)
  unfolding judge_metadata metadata
  items_move k p =
      ap (λ n. judge (filling (table (table item)) n p)) (sym (add-zero k))
      ∙ ap judge (filling_moves _ (table (table item)) (table_moves _ (table item) (table_moves move_part item moves)) k 0 p)
      ∙ judge_moved _ k (filling (table (table item)) 0 p)

  item_asked_moves : (f : FunctionIndex) (o : CodeOffset) (k : ℕ) (p : List ℕ) → ask_metadata item f o k p ≡ moved_judged (map_some (move_part k)) k (ask_metadata item f o 0 p)
  unfolding ask_metadata item_at
  item_asked_moves f o k p = ap (map_judged (item_at f o)) (items_move k p) ∙ map_moved (item_at f o) (map_table (map_table (move_part k))) (map_some (move_part k)) k (judge_metadata item 0 p) (within_moves k f.0 o.0)

pub any_asked_moves : (f : FunctionIndex) (o : CodeOffset) (k : ℕ) (p : List ℕ) → ask_metadata any_item f o k p ≡ moved_judged (map_some (move_part k)) k (ask_metadata any_item f o 0 p)
any_asked_moves = item_asked_moves any_item any_moves

pub hint_data_moves : (f : FunctionIndex) (o : CodeOffset) (k : ℕ) (p : List ℕ) → ask_metadata hint_item f o k p ≡ moved_judged (map_some (move_part k)) k (ask_metadata hint_item f o 0 p)
hint_data_moves = item_asked_moves hint_item hint_moves

pub hint_asked_moves : (f : FunctionIndex) (o : CodeOffset) (k : ℕ) (p : List ℕ) → ask_hint f o k p ≡ moved_judged (λ h. h) k (ask_hint f o 0 p)
unfolding ask_hint hint_in
hint_asked_moves f o k p = ap (map_judged hint_in) (hint_data_moves f o k p) ∙ map_moved hint_in (map_some (move_part k)) (λ h. h) k (ask_metadata hint_item f o 0 p) hinted
  where
    hinted : (x : Option Part) → hint_in (map_some (move_part k) x) ≡ hint_in x
    hinted none = refl
    hinted (some p) = refl

-- Hints of the older edition, which have no places
module _ {A : Type 0} where
  abbrev same : ℕ → A → A
  same k v = v

zero_byte_moves : Moves same zero_byte
unfolding zero_byte
zero_byte_moves k o [] = refl
zero_byte_moves k o (b ∷ bs) = by_test (eqb b 0) (λ t. rw (t, add-suc k o)) (λ t. rw t)

old_kind_moves : Moves same older_kind
unfolding older_kind
old_kind_moves k o bs =
    then_moves (stays k) (same k) k (number o bs) (number (k + o) bs) _ _ (number_moves k o bs) λ v o₁ r₁.
    check_moves (same k) k (leb v 1) _ o o₁ r₁ _ _ refl

old_hint_moves : Moves same older_hint
unfolding older_hint
old_hint_moves k o bs =
    then_moves (same k) (same k) k (older_kind o bs) (older_kind (k + o) bs) _ _ (old_kind_moves k o bs) λ v o₁ r₁.
    then_moves (stays k) (same k) k (number o₁ r₁) (number (k + o₁) r₁) _ _ (number_moves k o₁ r₁) λ n o₂ r₂. refl

module _ {A : Type 0} (read : Reader A) (moves : Moves same read) where
  times_move : (n : ℕ) → Moves same (times read n)
  unfolding times
  times_move zero k o bs = refl
  times_move (suc n) k o bs =
      then_moves (same k) (same k) k (read o bs) (read (k + o) bs) _ _ (moves k o bs) λ v o₁ r₁.
      then_moves (same k) (same k) k (times read n o₁ r₁) (times read n (k + o₁) r₁) _ _ (times_move n k o₁ r₁) λ vs o₂ r₂. refl

  vector_moves : Moves same (vector read)
  unfolding vector
  vector_moves k o bs = then_moves (stays k) (same k) k (number o bs) (number (k + o) bs) _ _ (number_moves k o bs) λ n o₁ r₁. times_move n k o₁ r₁

old_entry_moves : Moves same older_entry
unfolding older_entry
old_entry_moves k o bs =
    then_moves (stays k) (same k) k (number o bs) (number (k + o) bs) _ _ (number_moves k o bs) λ f o₁ r₁.
    then_moves (same k) (same k) k (zero_byte o₁ r₁) (zero_byte (k + o₁) r₁) _ _ (zero_byte_moves k o₁ r₁) λ _ o₂ r₂.
    then_moves (same k) (same k) k (vector older_hint o₂ r₂) (vector older_hint (k + o₂) r₂) _ _ (vector_moves older_hint old_hint_moves k o₂ r₂) λ hs o₃ r₃. refl

older_moves : (k : ℕ) (p : List ℕ) → judge_older k p ≡ moved_judged (λ es. es) k (judge_older 0 p)
unfolding judge_older
older_moves k p =
    ap (λ n. judge (filling (vector older_entry) n p)) (sym (add-zero k))
    ∙ ap judge (filling_moves same (vector older_entry) (vector_moves older_entry old_entry_moves) k 0 p)
    ∙ judge_moved _ k (filling (vector older_entry) 0 p)

pub older_asked_moves : (f : FunctionIndex) (o : InstructionOffset) (k : ℕ) (p : List ℕ) → ask_older f o k p ≡ moved_judged (λ h. h) k (ask_older f o 0 p)
unfolding ask_older
older_asked_moves f o k p = ap (map_judged (first_in f.0 o.0)) (older_moves k p) ∙ map_moved (first_in f.0 o.0) (λ es. es) (λ h. h) k (judge_older 0 p) (λ es. refl)
