-- When an opening that comes as far as the store is refused 26: on any table that stands for a model, and after the step of K13.
use Rattle.std.specs.Prelude.{ℕ, zero, suc, ◌+◌, ◌-◌, ◌≤◌, ◌<◌, ◌≡◌, Bool, true, false, length, replicate}
use Rattle.std.proofs.Math.Path.{refl, ap}
use Rattle.std.proofs.Common.{ap₂, ◌∙◌, arith}
use mathlib.Core.List.{List, [], ◌∷◌, ◌++◌, map}
use Rattle.std.proofs.Math.Option.{Option, none, some}
use Rattle.sharing.specs.Blocks.{need, extra, join}
use Rattle.sharing.specs.Model.{Payloads, refusal, granted, over, go, Model, after}
use Rattle.sharing.specs.Table.{Table, blocks, rows_right, find, taken, starts_free, first_run}
use Rattle.sharing.specs.Step.{newly, placed, opened_in}
use Rattle.sharing.specs.Tidy.{tidied_table, packed_blocks, rank}
use Rattle.sharing.specs.Laws.Shelf.{gap, row, Shelf, size, spread, blocks_of, marks_of, taken_of, spread_append, At}
use Rattle.sharing.specs.Laws.Runs.{run_ends}
use Rattle.sharing.specs.Laws.Walks.{later, all_right, find_some, find_none, taken_is, run_past}
use Rattle.sharing.specs.Laws.Standing.{Stands, blocks_are}
use Rattle.sharing.specs.Laws.Tidying.{only_rows, left_over, tidy_shelf, left_length}
use Rattle.sharing.specs.Laws.Moving.{tidy_stands, came, goes_there}

-- On any table that stands for a model

module _ (P : Payloads) (t : Table) (s : List ℕ) (m : Model) (st : Stands P t s m) (c : ℕ) (q work : List ℕ) (h : ℕ) where
  pub opened_is : opened_in t s c work (go q h) ≡ placed t s c q work h (find q (spread marks_of st.shelf ++ st.laid.tail) (spread blocks_of st.shelf))
  unfolding opened_in
  opened_is = rw (ap₂ rows_right st.laid.marks (blocks_are st.laid) ∙ all_right st.shelf st.laid.tail) (ap (placed t s c q work h) (ap₂ (find q) st.laid.marks (blocks_are st.laid)))

  pub placed_is : placed t s c q work h none ≡ newly t s c q work h (first_run (need (length q)) (spread taken_of st.shelf))
  unfolding placed
  placed_is = ap (λ (l : List Bool). newly t s c q work h (first_run (need (length q)) l)) (ap₂ (taken 0) st.laid.marks (blocks_are st.laid) ∙ taken_is st.shelf st.laid.tail)

  stored_by : (o : Option ℕ) → (o ≡ none → ⊥) → (placed t s c q work h o).answer ≡ granted h (over q work)
  unfolding placed
  stored_by none f = absurd (f refl)
  stored_by (some b) f = refl

  -- a payload that is stored is never refused
  pub stored : (b u : ℕ) → At b q u st.shelf → (opened_in t s c work (go q h)).answer ≡ granted h (over q work)
  stored b u a = rw opened_is (stored_by (find q (spread marks_of st.shelf ++ st.laid.tail) (spread blocks_of st.shelf)) (λ e. find_none q st.shelf st.laid.tail e a))

  find_not : (o : Option ℕ) → find q (spread marks_of st.shelf ++ st.laid.tail) (spread blocks_of st.shelf) ≡ o → ((b u : ℕ) → At b q u st.shelf → ⊥) → o ≡ none
  find_not none e new = refl
  find_not (some b) e new = let r = find_some q st.shelf st.laid.tail e in absurd (new b r.0 r.1)

  newly_opened : ((b u : ℕ) → At b q u st.shelf → ⊥) → opened_in t s c work (go q h) ≡ newly t s c q work h (first_run (need (length q)) (spread taken_of st.shelf))
  newly_opened new = opened_is ∙ ap (placed t s c q work h) (find_not (find q (spread marks_of st.shelf ++ st.laid.tail) (spread blocks_of st.shelf)) refl new) ∙ placed_is

  pub new_granted : ((b u : ℕ) → At b q u st.shelf → ⊥) → (b : ℕ) → first_run (need (length q)) (spread taken_of st.shelf) ≡ some b → (opened_in t s c work (go q h)).answer ≡ granted h (over q work)
  unfolding newly
  new_granted new b e = rw (newly_opened new, e)

  pub new_refused : ((b u : ℕ) → At b q u st.shelf → ⊥) → first_run (need (length q)) (spread taken_of st.shelf) ≡ none → (opened_in t s c work (go q h)).answer ≡ refusal 26 0 (over q work)
  unfolding newly
  new_refused new e = rw (newly_opened new, e)

-- A shelf whose rows stand in front: a run is as long as all the free blocks together

pub starts_enough : (k b : ℕ) → k ≤ b → starts_free k (replicate b false) ≡ true
unfolding starts_free
starts_enough zero b h = refl
starts_enough (suc k) zero h = absurd (omega arith)
starts_enough (suc k) (suc b) h = starts_enough k b (omega arith)

pub run_enough : (k b : ℕ) → suc k ≤ b → first_run (suc k) (replicate b false) ≡ some 0
unfolding first_run
run_enough k zero h = absurd (omega arith)
run_enough k (suc b) h = rw (starts_enough (suc k) (suc b) h)

pub later_is : (n b : ℕ) → (d : ℕ) × (later n (some b) ≡ some d)
unfolding after
later_is zero b = (b, refl)
later_is (suc n) b = let r = later_is n b in (suc r.0, rw r.1)

pub later_not : (n : ℕ) → later n none ≡ none
unfolding after
later_not zero = refl
later_not (suc n) = rw (later_not n)

taken_rows : (sh : Shelf) → spread taken_of (only_rows sh) ≡ replicate (size (only_rows sh)) true
unfolding only_rows
taken_rows [] = refl
taken_rows (gap b ∷ sh) = taken_rows sh
taken_rows (row p u ∷ sh) = ap (λ (l : List Bool). replicate (need (length p)) true ++ l) (taken_rows sh) ∙ together (need (length p)) (size (only_rows sh))
  where
    together : (n k : ℕ) → replicate n true ++ replicate k true ≡ replicate (n + k) true
    together zero k = let z : 0 + k ≡ k = omega arith in rw z refl
    together (suc n) k = let z : suc n + k ≡ suc (n + k) = omega arith in rw z (ap (λ (l : List Bool). true ∷ l) (together n k))

taken_gaps : (free : List (List ℕ)) → spread taken_of (map gap free) ≡ replicate (length free) false
taken_gaps [] = refl
taken_gaps (x ∷ free) = ap (λ (l : List Bool). false ∷ l) (taken_gaps free)

-- the free blocks of a shelf, all together
abbrev pub free_blocks : Shelf → ℕ
free_blocks sh = size sh - size (only_rows sh)

pub taken_tidy : (sh : Shelf) → spread taken_of (tidy_shelf sh) ≡ replicate (size (only_rows sh)) true ++ replicate (free_blocks sh) false
unfolding tidy_shelf
taken_tidy sh = spread_append taken_of (only_rows sh) (map gap (left_over sh)) ∙ ap₂ ◌++◌ (taken_rows sh) (taken_gaps (left_over sh) ∙ ap (λ (n : ℕ). replicate n false) (left_length sh))

pub tidy_enough : (sh : Shelf) (n : ℕ) → need n ≤ free_blocks sh → (b : ℕ) × (first_run (need n) (spread taken_of (tidy_shelf sh)) ≡ some b)
unfolding need
tidy_enough sh n h =
    let r = later_is (size (only_rows sh)) 0 in
    (r.0, ap (first_run (suc (extra n))) (taken_tidy sh) ∙ run_past (extra n) (size (only_rows sh)) (replicate (free_blocks sh) false) ∙ ap (later (size (only_rows sh))) (run_enough (extra n) (free_blocks sh) h) ∙ r.1)

pub tidy_short : (sh : Shelf) (n : ℕ) → free_blocks sh < need n → first_run (need n) (spread taken_of (tidy_shelf sh)) ≡ none
unfolding need
tidy_short sh n h = ap (first_run (suc (extra n))) (taken_tidy sh) ∙ run_past (extra n) (size (only_rows sh)) (replicate (free_blocks sh) false) ∙ ap (later (size (only_rows sh))) (run_ends (free_blocks sh) (suc (extra n)) h) ∙ later_not (size (only_rows sh))

-- The first opening after the step that comes as far as the store: 26 exactly where the payload is not stored and the free blocks are too few in all

module _ (P : Payloads) (t : Table) (s : List ℕ) (m : Model) (st : Stands P t s m) (c : ℕ) (q work : List ℕ) (h : ℕ) where
  abbrev pub after_table : Table
  after_table = tidied_table t (taken 0 t.marks (blocks s))

  abbrev pub after_store : List ℕ
  after_store = join (packed_blocks (taken 0 t.marks (blocks s)) (blocks s))

  abbrev Absent : Shelf → Type 0
  Absent sh = (b u : ℕ) → At b q u sh → ⊥

  still_absent : Absent st.shelf → Absent (tidy_shelf st.shelf)
  still_absent new b u a = let r = came st.shelf a in new r.from u r.was

  pub stored_after : (b u : ℕ) → At b q u st.shelf → (opened_in after_table after_store c work (go q h)).answer ≡ granted h (over q work)
  unfolding tidy_stands
  stored_after b u a = stored P after_table after_store m (tidy_stands P t s m st) c q work h (rank (spread taken_of st.shelf) b) u (goes_there a)

  pub granted_after : Absent st.shelf → need (length q) ≤ free_blocks st.shelf → (opened_in after_table after_store c work (go q h)).answer ≡ granted h (over q work)
  unfolding tidy_stands
  granted_after new e = let r = tidy_enough st.shelf (length q) e in new_granted P after_table after_store m (tidy_stands P t s m st) c q work h (still_absent new) r.0 r.1

  pub refused_after : Absent st.shelf → free_blocks st.shelf < need (length q) → (opened_in after_table after_store c work (go q h)).answer ≡ refusal 26 0 (over q work)
  unfolding tidy_stands
  refused_after new e = new_refused P after_table after_store m (tidy_stands P t s m st) c q work h (still_absent new) (tidy_short st.shelf (length q) e)
