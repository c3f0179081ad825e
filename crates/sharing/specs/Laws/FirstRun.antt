-- A payload that is not stored yet is put into the first run of free blocks that is long enough.
use Rattle.std.specs.Prelude.{ℕ, zero, suc, ◌+◌, ◌-◌, ◌≤◌, ◌<◌, Bool, true, false, List, [], ◌∷◌, ◌++◌, ◌≡◌, refl, ltb, length, get_or, drop, replicate}
use Rattle.std.proofs.Math.Option.{Option, none, some}
use Rattle.std.proofs.Common.{sym, ap, ◌∙◌, arith, length-drop, get_or-drop, get_or-append-add, ltb-true, ltb-false}
use Rattle.format.specs.Laws.Outcomes.{by_test}
use Rattle.sharing.specs.Blocks.{need}
use Rattle.sharing.specs.Events.{FreeRun}
use Rattle.sharing.specs.Laws.Blocks.{no_true, no_false}
use Rattle.sharing.specs.Laws.Isolation.{not_some}
use Rattle.sharing.specs.Laws.Shelf.{Piece, gap, row, Shelf, width, size, spread, taken_of, spread_length, taken_width, At, here, past}
use Rattle.sharing.specs.Laws.Standing.{Stands}
use Rattle.sharing.specs.Laws.Stored.{blocks_size, stored_at, at_stored}
use Rattle.sharing.specs.Model.{Payloads, Model, after}
use Rattle.sharing.specs.Table.{Table, starts_free, first_run}

-- Runs in a list of which each says whether a block is taken

starts_is : (k : ℕ) (ts : List Bool) → starts_free k ts ≡ true → (k ≤ length ts) × ((i : ℕ) → i < k → get_or ts i true ≡ false)
unfolding starts_free
starts_is zero ts e = (omega arith, λ i h. absurd (omega arith))
starts_is (suc k) [] e = absurd (no_true e)
starts_is (suc k) (true ∷ ts) e = absurd (no_true e)
starts_is (suc k) (false ∷ ts) e = let r = starts_is k ts e in (omega (arith, r.0), at_each r.1)
  where
    at_each : ((i : ℕ) → i < k → get_or ts i true ≡ false) → (i : ℕ) → i < suc k → get_or (false ∷ ts) i true ≡ false
    at_each f zero h = refl
    at_each f (suc i) h = f i (omega arith)

is_starts : (k : ℕ) (ts : List Bool) → k ≤ length ts → ((i : ℕ) → i < k → get_or ts i true ≡ false) → starts_free k ts ≡ true
unfolding starts_free
is_starts zero ts h f = refl
is_starts (suc k) [] h f = absurd (omega arith)
is_starts (suc k) (true ∷ ts) h f = absurd (no_false (f 0 (omega arith)))
is_starts (suc k) (false ∷ ts) h f = is_starts k ts (omega arith) (λ i b. f (suc i) (omega arith))

-- the first run, and that none starts before it
record First (k : ℕ) (ts : List Bool) (b : ℕ) : Type 0 where
  starts : starts_free k (drop b ts) ≡ true
  none_before : (d : ℕ) → d < b → starts_free k (drop d ts) ≡ false

first_later : (k : ℕ) (t : Bool) (ts : List Bool) (b : ℕ) → starts_free k (t ∷ ts) ≡ false → (o : Option ℕ) → ((c : ℕ) → o ≡ some c → First k ts c) → after o ≡ some b → First k (t ∷ ts) b
unfolding after
first_later k t ts b n none f e = absurd (not_some e)
first_later k t ts b n (some c) f e = let z : b ≡ suc c = cc in let r = f c refl in rw z (record { starts = r.starts; none_before = before r.none_before })
  where
    before : ((d : ℕ) → d < c → starts_free k (drop d ts) ≡ false) → (d : ℕ) → d < suc c → starts_free k (drop d (t ∷ ts)) ≡ false
    before g zero h = n
    before g (suc d) h = g d (omega arith)

run_is : (k : ℕ) (ts : List Bool) (b : ℕ) → first_run k ts ≡ some b → First k ts b
unfolding first_run
run_is k [] b e = absurd (not_some e)
run_is k (t ∷ ts) b e = by_test (starts_free k (t ∷ ts))
    (λ y. let w : some 0 ≡ some b = rw y at e in let z : b ≡ 0 = cc in rw z (record { starts = y; none_before = λ d h. absurd (omega arith) }))
    (λ y. first_later k t ts b y (first_run k ts) (λ c. run_is k ts c) (rw y at e))

pub after_none : (o : Option ℕ) → after o ≡ none → o ≡ none
unfolding after
after_none none e = refl
after_none (some n) e = absurd (not_some (sym e))

no_run : (k : ℕ) (ts : List Bool) → first_run k ts ≡ none → (d : ℕ) → d < length ts → starts_free k (drop d ts) ≡ false
unfolding first_run
no_run k [] e d h = absurd (omega arith)
no_run k (t ∷ ts) e zero h = by_test (starts_free k (t ∷ ts)) (λ y. absurd (not_some (sym (rw y at e)))) (λ y. y)
no_run k (t ∷ ts) e (suc d) h = by_test (starts_free k (t ∷ ts)) (λ y. absurd (not_some (sym (rw y at e)))) (λ y. no_run k ts (after_none (first_run k ts) (rw y at e)) d (omega arith))

-- Which blocks of a shelf are taken

all_true : (n : ℕ) (l : List Bool) (i : ℕ) → i < n → get_or (replicate n true ++ l) i true ≡ true
all_true zero l i h = absurd (omega arith)
all_true (suc n) l zero h = refl
all_true (suc n) l (suc i) h = all_true n l i (omega arith)

pub record Over (i : ℕ) (sh : Shelf) : Type 0 where
  pub first : ℕ
  pub payload : List ℕ
  pub more : ℕ
  pub there : At first payload more sh
  pub from : first ≤ i
  pub to : i < first + need (length payload)

behind : (x : Piece) {sh : Shelf} (i d : ℕ) → i ≡ width x + d → Over d sh → Over i (x ∷ sh)
behind x i d e o = record { first = width x + o.first; payload = o.payload; more = o.more; there = past refl o.there; from = omega (arith, o.from); to = omega (arith, o.to) }

past_piece : (x : Piece) (sh : Shelf) (d : ℕ) → get_or (spread taken_of (x ∷ sh)) (width x + d) true ≡ get_or (spread taken_of sh) d true
past_piece x sh d = ap (λ (n : ℕ). get_or (taken_of x ++ spread taken_of sh) (n + d) true) (sym (taken_width x)) ∙ get_or-append-add (taken_of x) (spread taken_of sh) d true

pub over_taken : (sh : Shelf) (i : ℕ) → i < size sh → get_or (spread taken_of sh) i true ≡ true → Over i sh
over_taken [] i h e = absurd (omega arith)
over_taken (gap g ∷ sh) zero h e = absurd (no_true e)
over_taken (gap g ∷ sh) (suc i) h e = behind (gap g) (suc i) i (omega arith) (over_taken sh i (omega arith) e)
over_taken (row p u ∷ sh) i h e = by_test (ltb i (need (length p)))
    (λ t. record { first = 0; payload = p; more = u; there = here refl; from = omega arith; to = omega (arith, ltb-true i (need (length p)) t) })
    (λ t. let l = ltb-false i (need (length p)) t in
    let d : ℕ = i - need (length p) in
    let z : i ≡ width (row p u) + d = omega arith in
    behind (row p u) i d z (over_taken sh d (omega arith) (sym (past_piece (row p u) sh d) ∙ ap (λ (n : ℕ). get_or (spread taken_of (row p u ∷ sh)) n true) (sym z) ∙ e)))

pub taken_over : {b u : ℕ} {p : List ℕ} {sh : Shelf} (i : ℕ) → At b p u sh → b ≤ i → i < b + need (length p) → get_or (spread taken_of sh) i true ≡ true
taken_over i (here {p = p} {sh = sh} e) h k = all_true (need (length p)) (spread taken_of sh) i (omega arith)
taken_over {p = p} i (past {d = d} {x = x} {sh = sh} e a) h k =
    let z : i ≡ width x + (i - width x) = omega arith in
    ap (λ (n : ℕ). get_or (spread taken_of (x ∷ sh)) n true) z ∙ past_piece x sh (i - width x) ∙ taken_over (i - width x) a (omega arith) (omega arith)

module _ (P : Payloads) {t : Table} {s : List ℕ} {m : Model} (st : Stands P t s m) where
  pub taken_size : length (spread taken_of st.shelf) ≡ size st.shelf
  taken_size = spread_length taken_of taken_width st.shelf

  pub run_free : (b k : ℕ) → starts_free (suc k) (drop b (spread taken_of st.shelf)) ≡ true → FreeRun t s b (suc k)
  run_free b k e =
      let r = starts_is (suc k) (drop b (spread taken_of st.shelf)) e in
      record {
        inside = omega (arith, r.0, length-drop b (spread taken_of st.shelf), taken_size, blocks_size P st);
        free = λ i f l d p x g h.
            let a = at_stored P st x in
            let z : i ≡ b + (i - b) = omega arith in
            no_true (sym (r.1 (i - b) (omega arith)) ∙ get_or-drop b (spread taken_of st.shelf) (i - b) true ∙ ap (λ (n : ℕ). get_or (spread taken_of st.shelf) n true) (sym z) ∙ taken_over i a.1 g h);
      }

  pub free_run : (b k : ℕ) → FreeRun t s b (suc k) → starts_free (suc k) (drop b (spread taken_of st.shelf)) ≡ true
  free_run b k f = is_starts (suc k) (drop b (spread taken_of st.shelf)) (omega (arith, f.inside, length-drop b (spread taken_of st.shelf), taken_size, blocks_size P st))
      (λ i h. get_or-drop b (spread taken_of st.shelf) i true ∙ by_test (get_or (spread taken_of st.shelf) (b + i) true)
      (λ y. absurd (let o = over_taken st.shelf (b + i) (omega (arith, f.inside, blocks_size P st)) y in f.free (b + i) (omega arith) (omega arith) o.first o.payload (stored_at P st o.there) o.from o.to))
      (λ y. y))

  -- the first run is the first of free blocks, and without one there is none
  pub first_free : (b k : ℕ) → first_run (suc k) (spread taken_of st.shelf) ≡ some b → FreeRun t s b (suc k) × ((d : ℕ) → d < b → FreeRun t s d (suc k) → ⊥)
  first_free b k e =
      let r = run_is (suc k) (spread taken_of st.shelf) b e in
      (run_free b k r.starts, λ d h f. no_false (sym (free_run d k f) ∙ r.none_before d h))

  pub none_free : (k : ℕ) → first_run (suc k) (spread taken_of st.shelf) ≡ none → (d : ℕ) → FreeRun t s d (suc k) → ⊥
  none_free k e d f = no_false (sym (free_run d k f) ∙ no_run (suc k) (spread taken_of st.shelf) e d (omega (arith, f.inside, taken_size, blocks_size P st)))
