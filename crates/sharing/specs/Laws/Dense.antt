-- K13: from the step to the next close there is no gap, so that the free blocks are one run.
use Prim.Native.Nat.{ℕ, zero, suc, pred, max, ◌+◌, ◌-◌, ◌≤◌, ◌<◌}
use Rattle.std.specs.Prelude.{Bool, true, false, not, ◌&&◌, List, [], ◌∷◌, ◌++◌, map, ◌≡◌, eqb, ltb, leb, length, get_or, set, drop, replicate}
use Rattle.std.proofs.Math.Option.{Option, none, some}
use Rattle.std.proofs.Math.Path.{refl, ap, subst}
use Rattle.std.proofs.Common.{sym, ap₂, ◌∙◌, arith, length-append, drop_at, ne_eqb, ltb-true, ltb-false, lt-ltb, leb-true, leb-false}
use Rattle.std.proofs.lemmas.List.{length-replicate}
use Rattle.std.proofs.lemmas.Bool.{eqb-false}
use Rattle.format.specs.Bytes.{same}
use Rattle.format.specs.Laws.Outcomes.{by_test, on_both}
use Rattle.sharing.specs.Blocks.{need, extra, gather}
use Rattle.sharing.specs.Events.{Event, event, Past, begun, called, FreeRun, UsedBefore, SinceStep, just_now, and_asked, and_opened}
use Rattle.sharing.specs.Laws.Blocks.{no_true, no_false}
use Rattle.sharing.specs.Laws.Compacted.{shelf_taken, used_rank, next_table, next_store, step_is}
use Rattle.sharing.specs.Laws.FirstRun.{run_free, free_run, taken_size}
use Rattle.sharing.specs.Laws.Histories.{refines, starts, nobody}
use Rattle.sharing.specs.Laws.Isolation.{not_some}
use Rattle.sharing.specs.Laws.Moving.{had_is, tidy_stands}
use Rattle.sharing.specs.Laws.Room.{starts_enough, run_enough, later_not, taken_tidy, free_blocks}
use Rattle.sharing.specs.Laws.Runs.{run_ends}
use Rattle.sharing.specs.Laws.Shelf.{size}
use Rattle.sharing.specs.Laws.Standing.{Stands, fits_is}
use Rattle.sharing.specs.Laws.Stored.{blocks_size}
use Rattle.sharing.specs.Laws.Tidying.{only_rows}
use Rattle.sharing.specs.Laws.Walks.{later, later_some, run_past}
use Rattle.sharing.specs.Model.{Payloads, Call, opening, asking, closing, tidying, Answer, Model, desk, first_true, Front, stop, go, front, customer, changed, acting}
use Rattle.sharing.specs.Step.{After, leaves, unused, joined, leading, newly, placed, opened_in, fitting, step}
use Rattle.sharing.specs.Table.{Mark, mark, blank, Table, blocks, rows_right, find, reach, taken, starts_free, first_run}
use Rattle.sharing.specs.Tidy.{rank}

-- the used blocks, and behind them the free ones
abbrev front_of : (used free : ℕ) → List Bool
front_of i j = replicate i true ++ replicate j false

pub record Dense (t : Table) (s : List ℕ) : Type 0 where
  pub used : ℕ
  pub free : ℕ
  pub is : taken 0 t.marks (blocks s) ≡ front_of used free

-- Walks

taken_long : (cover : ℕ) (ms : List Mark) (bs ks : List (List ℕ)) → length bs ≡ length ks → taken cover ms bs ≡ taken cover ms ks
unfolding taken
taken_long cover [] bs ks e = refl
taken_long cover (m ∷ ms) [] [] e = refl
taken_long cover (m ∷ ms) [] (k ∷ ks) e = absurd (omega arith)
taken_long cover (m ∷ ms) (b ∷ bs) [] e = absurd (omega arith)
taken_long cover (m ∷ ms) (b ∷ bs) (k ∷ ks) e = ap (λ (l : List Bool). ltb 0 (max cover (reach m)) ∷ l) (taken_long (pred (max cover (reach m))) ms bs ks (omega arith))

-- a mark that takes as many blocks as the one before
taken_same : (cover : ℕ) (ms : List Mark) (b : ℕ) (m : Mark) (bs : List (List ℕ)) → reach m ≡ reach (get_or ms b blank) → taken cover (set ms b m) bs ≡ taken cover ms bs
unfolding taken
taken_same cover [] b m bs e = refl
taken_same cover (x ∷ ms) zero m [] e = refl
taken_same cover (x ∷ ms) (suc b) m [] e = refl
taken_same cover (x ∷ ms) zero m (k ∷ bs) e = rw e refl
taken_same cover (x ∷ ms) (suc b) m (k ∷ bs) e = ap (λ (l : List Bool). ltb 0 (max cover (reach x)) ∷ l) (taken_same (pred (max cover (reach x))) ms b m bs e)

joined_reach : (m : Mark) → 0 < m.users → reach (joined m) ≡ reach m
unfolding reach joined
joined_reach m h = by_test (ltb m.users 255)
    (λ t. rw (t, ne_eqb (suc m.users) 0 (λ e. omega arith), ne_eqb m.users 0 (λ e. omega arith)) refl)
    (λ t. rw t refl)

find_used : (q : List ℕ) (ms : List Mark) (bs : List (List ℕ)) (b : ℕ) → find q ms bs ≡ some b → 0 < (get_or ms b blank).users
unfolding find
find_used q [] bs b e = absurd (not_some e)
find_used q (m ∷ ms) [] b e = absurd (not_some e)
find_used q (m ∷ ms) (k ∷ bs) b e = by_test (not (eqb m.users 0) && same (gather m.size (k ∷ bs)) q)
    (λ t. let w : some 0 ≡ some b = rw t at e in let z : b ≡ 0 = cc in
    on_both (not (eqb m.users 0)) (same (gather m.size (k ∷ bs)) q) t λ x y. rw z (some_users m.users (eqb-false m.users 0 (not_not (eqb m.users 0) x))))
    (λ t. let r = later_some 1 (find q ms bs) (rw t at e) in let z : b ≡ suc r.0 = omega (arith, r.2) in rw z (find_used q ms bs r.0 r.1))
  where
    some_users : (n : ℕ) → (n ≡ 0 → ⊥) → 0 < n
    some_users n f = omega arith

    not_not : (x : Bool) → not x ≡ true → x ≡ false
    not_not true e = absurd (no_true e)
    not_not false e = refl

-- where all is free, a row takes the blocks from its first on
all_free : (k j : ℕ) (ms : List Mark) (bs : List (List ℕ)) → taken 0 ms bs ≡ replicate j false → k ≤ j → taken k ms bs ≡ front_of k (j - k)
unfolding taken
all_free zero j ms bs e h = let z : j - 0 ≡ j = omega arith in rw z e
all_free (suc k) zero ms bs e h = absurd (omega arith)
all_free (suc k) (suc j) [] bs e h = absurd (omega (arith, ap length e))
all_free (suc k) (suc j) (m ∷ ms) [] e h = absurd (omega (arith, ap length e))
all_free (suc k) (suc j) (m ∷ ms) (b ∷ bs) e h =
    let x : ltb 0 (max 0 (reach m)) ≡ false = cc in
    let y : taken (pred (max 0 (reach m))) ms bs ≡ replicate j false = cc in
    let l = ltb-false 0 (max 0 (reach m)) x in
    let z : max 0 (reach m) ≡ 0 = omega arith in
    let w : max (suc k) (reach m) ≡ suc k = omega arith in
    let n : suc j - suc k ≡ j - k = omega arith in
    rw (w, lt-ltb 0 (suc k) (omega arith), n) (ap (λ (l : List Bool). true ∷ l) (all_free k j ms bs (rw z at y) (omega arith)))

-- a row in the first run of free blocks
fills : (i j cover n : ℕ) (ms : List Mark) (bs : List (List ℕ)) → taken cover ms bs ≡ front_of i j → need n ≤ j → taken cover (set ms i (mark 1 n)) bs ≡ front_of (i + need n) (j - need n)
unfolding taken reach need
fills zero zero cover n ms bs e h = absurd (omega arith)
fills zero (suc j) cover n [] bs e h = absurd (omega (arith, ap length e))
fills zero (suc j) cover n (m ∷ ms) [] e h = absurd (omega (arith, ap length e))
fills zero (suc j) cover n (m ∷ ms) (b ∷ bs) e h =
    let x : ltb 0 (max cover (reach m)) ≡ false = cc in
    let y : taken (pred (max cover (reach m))) ms bs ≡ replicate j false = cc in
    let l = ltb-false 0 (max cover (reach m)) x in
    let z : max cover (reach m) ≡ 0 = omega arith in
    let w : max cover (suc (extra n)) ≡ suc (extra n) = omega arith in
    let v : suc j - suc (extra n) ≡ j - extra n = omega arith in
    let o : 0 + suc (extra n) ≡ suc (extra n) = omega arith in
    rw (w, lt-ltb 0 (suc (extra n)) (omega arith), v, o) (ap (λ (l : List Bool). true ∷ l) (all_free (extra n) j ms bs (rw z at y) (omega arith)))
fills (suc i) j cover n [] bs e h = absurd (omega (arith, ap length e))
fills (suc i) j cover n (m ∷ ms) [] e h = absurd (omega (arith, ap length e))
fills (suc i) j cover n (m ∷ ms) (b ∷ bs) e h =
    let x : ltb 0 (max cover (reach m)) ≡ true = cc in
    let y : taken (pred (max cover (reach m))) ms bs ≡ front_of i j = cc in
    let o : suc i + suc (extra n) ≡ suc (i + suc (extra n)) = omega arith in
    rw (x, o) (ap (λ (l : List Bool). true ∷ l) (fills i j (pred (max cover (reach m))) n ms bs y h))

run_at : (k i j b : ℕ) → first_run (suc k) (front_of i j) ≡ some b → (b ≡ i) × (suc k ≤ j)
run_at k i j b e =
    let w = sym (run_past k i (replicate j false)) ∙ e in
    by_test (leb (suc k) j)
    (λ t. let l = leb-true (suc k) j t in let r = later_some i (some 0) (sym (ap (later i) (run_enough k j l)) ∙ w) in let z : 0 ≡ r.0 = some_is r.1 in (omega (arith, r.2), l))
    (λ t. absurd (not_some (sym (ap (later i) (run_ends j (suc k) (leb-false (suc k) j t)) ∙ later_not i) ∙ w)))
  where
    some_is : {x y : ℕ} → some x ≡ some y → x ≡ y
    some_is e = cc

-- An open

module _ (P : Payloads) {t : Table} {s : List ℕ} {m : Model} (st : Stands P t s m) (c : ℕ) (payload work : List ℕ) (d : Dense t s) where
  -- the store is as long as before
  as_many : {u : Table} {r : List ℕ} {a : Answer} → step P t s (opening c payload work) ≡ leaves u r a → u.bytes ≡ t.bytes → length (blocks r) ≡ length (blocks s)
  as_many {u} {r} e b =
      let x = refines P t s m st (opening c payload work) in
      let n : Model = changed (customer (opening c payload work)) (acting P x.room m (opening c payload work)).change m in
      let next = subst (λ (y : After). Stands P y.table y.store n) e x.stands in
      omega (arith, blocks_size P next, blocks_size P st, next.laid.bytes, st.laid.bytes)

  abbrev Left : After → Type 0
  Left x = Dense x.table x.store

  by_run : (q : List ℕ) (h : ℕ) (o : Option ℕ) → first_run (need (length q)) (taken 0 t.marks (blocks s)) ≡ o → step P t s (opening c payload work) ≡ newly t s c q work h o → Left (newly t s c q work h o)
  unfolding newly leading need
  by_run q h none e is = d
  by_run q h (some b) e is =
      let r = run_at (extra (length q)) d.used d.free b (sym (ap (first_run (suc (extra (length q)))) d.is) ∙ e) in
      record {
        used = d.used + suc (extra (length q));
        free = d.free - suc (extra (length q));
        is = taken_long 0 (set t.marks b (mark 1 (length q))) _ (blocks s) (as_many is refl) ∙ ap (λ (i : ℕ). taken 0 (set t.marks i (mark 1 (length q))) (blocks s)) r.0
            ∙ fills d.used d.free 0 (length q) t.marks (blocks s) d.is r.1;
      }

  by_find : (q : List ℕ) (h : ℕ) (o : Option ℕ) → find q t.marks (blocks s) ≡ o → step P t s (opening c payload work) ≡ placed t s c q work h o → Left (placed t s c q work h o)
  unfolding placed leading
  by_find q h none e is = by_run q h (first_run (need (length q)) (taken 0 t.marks (blocks s))) refl is
  by_find q h (some b) e is = record { used = d.used; free = d.free; is = taken_same 0 t.marks b (joined (get_or t.marks b blank)) (blocks s) (joined_reach (get_or t.marks b blank) (find_used q t.marks (blocks s) b e)) ∙ d.is }

  by_front : (f : Front) → step P t s (opening c payload work) ≡ opened_in t s c work f → Left (opened_in t s c work f)
  unfolding opened_in
  by_front (stop n at) is = d
  by_front (go q h) is = by_test (rows_right t.marks (blocks s))
      (λ y. rw y (by_find q h (find q t.marks (blocks s)) refl (rw y at is)))
      (λ y. rw y d)

  dense_opened : Left (step P t s (opening c payload work))
  dense_opened =
      let f = front P c (first_true (map unused (desk c t.holds))) payload work in
      let e : step P t s (opening c payload work) ≡ opened_in t s c work f = unfold step fitting in rw (fits_is st.laid) refl in
      subst (λ (x : After). Left x) (sym e) (by_front f e)

-- A history

module _ (P : Payloads) {A : Type 0} (seen : Answer → A) where
  past_stands : {es : List (Event A)} {t : Table} {s : List ℕ} → Past P seen es t s → (m : Model) × Stands P t s m
  past_stands (begun {s = s} n e more few) = (nobody, starts P s n e more few)
  past_stands (called {t = t} {s = s} call past) = let w = past_stands past in (_, (refines P t s w.0 w.1 call).stands)

  dense_stepped : {t : Table} {s : List ℕ} {m : Model} → Stands P t s m → Dense (step P t s tidying).table (step P t s tidying).store
  unfolding tidy_stands
  dense_stepped {t} {s} {m} st =
      let next = tidy_stands P t s m st in
      subst (λ (x : After). Dense x.table x.store) (sym (step_is P st))
      (record { used = size (only_rows st.shelf); free = free_blocks st.shelf; is = had_is P (next_table P st) (next_store P st) m next ∙ taken_tidy st.shelf })

  dense_next : {es : List (Event A)} {t : Table} {s : List ℕ} {m : Model} {a : A} (call : Call) → Stands P t s m → (SinceStep es → Dense t s) → SinceStep (event call a ∷ es) → Dense (step P t s call).table (step P t s call).store
  unfolding step fitting
  dense_next tidying st f just_now = dense_stepped st
  dense_next (closing c hold) st f n = elim n [ ]
  dense_next (asking c hold index out) st f (and_asked n) = rw (fits_is st.laid) (f n)
  dense_next (opening c payload work) st f (and_opened n) = dense_opened P st c payload work (f n)

  pub dense_since : {es : List (Event A)} {t : Table} {s : List ℕ} → Past P seen es t s → SinceStep es → Dense t s
  dense_since (begun k e more few) n = elim n [ ]
  dense_since (called call past) n = dense_next call (past_stands past).1 (λ k. dense_since past k) n

-- The free blocks, all together

rank_front : (i j : ℕ) → rank (front_of i j) (i + j) ≡ i
unfolding rank
rank_front zero zero = refl
rank_front zero (suc j) = let z : 0 + suc j ≡ suc (0 + j) = omega arith in rw z (rank_front zero j)
rank_front (suc i) j = let z : suc i + j ≡ suc (i + j) = omega arith in rw z (ap suc (rank_front i j))

starts_used : (k i b : ℕ) (l : List Bool) → b < i → starts_free (suc k) (drop b (replicate i true ++ l)) ≡ false
unfolding starts_free
starts_used k zero b l h = absurd (omega arith)
starts_used k (suc i) zero l h = refl
starts_used k (suc i) (suc b) l h = starts_used k i b l (omega arith)

module _ (P : Payloads) {t : Table} {s : List ℕ} {m : Model} (st : Stands P t s m) (d : Dense t s) {n : ℕ} (u : UsedBefore t s (length (blocks s)) n) where
  shelf_is : shelf_taken P st ≡ front_of d.used d.free
  shelf_is = sym (had_is P t s m st) ∙ d.is

  in_all : length (blocks s) ≡ d.used + d.free
  in_all = blocks_size P st ∙ sym (taken_size P st) ∙ ap length shelf_is ∙ length-append (replicate d.used true) (replicate d.free false) ∙ ap₂ ◌+◌ (length-replicate d.used true) (length-replicate d.free false)

  used_is : n ≡ d.used
  used_is = used_rank P st u ∙ ap₂ rank shelf_is in_all ∙ rank_front d.used d.free

  pub free_behind : (k : ℕ) → n + suc k ≤ length (blocks s) → FreeRun t s n (suc k)
  free_behind k h =
      let z : drop n (shelf_taken P st) ≡ replicate d.free false = ap (drop n) shelf_is ∙ drop_at (replicate d.used true) (replicate d.free false) n (length-replicate d.used true ∙ sym used_is) in
      run_free P st n k (ap (starts_free (suc k)) z ∙ starts_enough (suc k) d.free (omega (arith, in_all, used_is)))

  pub free_inside : (b k : ℕ) → FreeRun t s b (suc k) → n + suc k ≤ length (blocks s)
  free_inside b k f = by_test (ltb b d.used)
      (λ y. absurd (no_false (sym (free_run P st b k f) ∙ ap (λ (l : List Bool). starts_free (suc k) (drop b l)) shelf_is ∙ starts_used k d.used b (replicate d.free false) (ltb-true b d.used y))))
      (λ y. omega (arith, f.inside, used_is, ltb-false b d.used y))
