-- K13: what the step does to what stands in the store, and that every customer is answered as before.
use Rattle.std.specs.Prelude.{ℕ, zero, suc, ◌+◌, ◌-◌, ◌*◌, ◌≤◌, ◌<◌, Bool, true, false, ◌≡◌, eqb, leb, get_or, drop}
use mathlib.Core.List.{List, [], ◌∷◌, ◌++◌, map}
use Rattle.std.proofs.Math.Option.{Option, none, some}
use Rattle.std.proofs.Math.Path.{refl, sym, ap, ap₂, subst}
use Rattle.std.proofs.Common.{◌∙◌, arith, take_all, ne_eqb, leb-true, leb-false}
use Rattle.std.proofs.Math.ListN.{length}
use Rattle.std.proofs.lemmas.Bool.{eqb-false}
use Rattle.format.specs.Bytes.{same}
use Rattle.format.specs.Laws.Outcomes.{by_test}
use Rattle.sharing.specs.Blocks.{need, extra, words, little_endian, check, right, are_all_right, join}
use Rattle.sharing.specs.Events.{Stored, FreeRun, Damage, UsedBefore, none_before, one_used, one_free}
use Rattle.sharing.specs.Laws.Blocks.{no_true, no_false}
use Rattle.sharing.specs.Laws.Bytes.{blocks_bytes}
use Rattle.sharing.specs.Laws.Calls.{mark_at}
use Rattle.sharing.specs.Laws.FirstRun.{over_taken, taken_over, run_free, free_run, taken_size}
use Rattle.sharing.specs.Laws.Frames.{packed_behind}
use Rattle.sharing.specs.Laws.Histories.{refines}
use Rattle.sharing.specs.Laws.Holds.{leads_desk, leads_vacant}
use Rattle.sharing.specs.Laws.Moving.{had_is, tidy_stands, goes_there, came}
use Rattle.sharing.specs.Laws.Packing.{rank_none, rank_more, rank_same, pack_ranked}
use Rattle.sharing.specs.Laws.Room.{stored, new_granted, new_refused, stored_after, granted_after, refused_after, free_blocks}
use Rattle.sharing.specs.Laws.Shelf.{gap, row, Shelf, size, spread, taken_of, blocks_of, marks_of, size_append, At, here, past, at_below}
use Rattle.sharing.specs.Laws.Standing.{Stands, blocks_are, fits_is, store_length}
use Rattle.sharing.specs.Laws.Stored.{blocks_size, stored_at, at_stored}
use Rattle.sharing.specs.Laws.Swaps.{gaps_size}
use Rattle.sharing.specs.Laws.Tidying.{only_rows, tidy_shelf, rows_fewer, tidy_blocks}
use Rattle.sharing.specs.Laws.Walks.{all_right, find_some, find_none, run_some}
use Rattle.sharing.specs.Model.{Payloads, opening, asking, closing, tidying, Answer, refusal, granted, tidied, desk, first_true, Front, stop, go, front, Model, vacant, acts, acting}
use Rattle.sharing.specs.Step.{leaves, opened_in, tidy, fitting, step}
use Rattle.sharing.specs.Table.{Mark, blank, Table, blocks, length_fits, rows_right, find, taken, starts_free, first_run}
use Rattle.sharing.specs.Tidy.{rank, pack, packed_blocks, tidied_table}

-- Damage

none_there : right [] ≡ false
unfolding right same check words little_endian
none_there = refl

wrong_one : (k : ℕ) (bs : List (List ℕ)) → are_all_right k bs ≡ false → (i : ℕ) × (i < k) × (right (get_or bs i []) ≡ false)
unfolding are_all_right
wrong_one zero bs e = absurd (no_false e)
wrong_one (suc k) [] e = (0, omega arith, none_there)
wrong_one (suc k) (b ∷ bs) e = by_test (right b)
    (λ t. let r = wrong_one k bs (rw t at e) in (suc r.0, omega (arith, r.1), r.2))
    (λ t. (0, omega arith, t))

one_wrong : (k i : ℕ) (bs : List (List ℕ)) → i < k → right (get_or bs i []) ≡ false → are_all_right k bs ≡ false
unfolding are_all_right
one_wrong zero i bs h e = absurd (omega arith)
one_wrong (suc k) i [] h e = refl
one_wrong (suc k) zero (b ∷ bs) h e = rw e refl
one_wrong (suc k) (suc i) (b ∷ bs) h e = by_test (right b) (λ t. rw t (one_wrong k i bs (omega arith) e)) (λ t. rw t refl)

record DamageIn (ms : List Mark) (bs : List (List ℕ)) : Type 0 where
  first : ℕ
  further : ℕ
  stands : first < length bs
  used : 0 < (get_or ms first blank).users
  has : further < need (get_or ms first blank).size
  wrong : right (get_or bs (first + further) []) ≡ false

later : {m : Mark} {ms : List Mark} {b : List ℕ} {bs : List (List ℕ)} → DamageIn ms bs → DamageIn (m ∷ ms) (b ∷ bs)
later d =
    let z : suc d.first + d.further ≡ suc (d.first + d.further) = omega arith in
    record { first = suc d.first; further = d.further; stands = omega (arith, d.stands); used = d.used; has = d.has; wrong = rw z d.wrong }

damaged_rows : (ms : List Mark) (bs : List (List ℕ)) → rows_right ms bs ≡ false → DamageIn ms bs
unfolding rows_right
damaged_rows [] bs e = absurd (no_false e)
damaged_rows (m ∷ ms) [] e = absurd (no_false e)
damaged_rows (m ∷ ms) (b ∷ bs) e = by_test (eqb m.users 0)
    (λ t. later (damaged_rows ms bs (rw t at e)))
    (λ t. by_test (are_all_right (need m.size) (b ∷ bs))
    (λ a. later (damaged_rows ms bs (rw (t, a) at e)))
    (λ a. let r = wrong_one (need m.size) (b ∷ bs) a in let z : 0 + r.0 ≡ r.0 = omega arith in let f = eqb-false m.users 0 t in
    record { first = 0; further = r.0; stands = omega arith; used = some_users m.users f; has = r.1; wrong = rw z r.2 }))
  where
    some_users : (n : ℕ) → (n ≡ 0 → ⊥) → 0 < n
    some_users n f = omega arith

rows_damaged : (ms : List Mark) (bs : List (List ℕ)) (first further : ℕ) → first < length bs → 0 < (get_or ms first blank).users → further < need (get_or ms first blank).size → right (get_or bs (first + further) []) ≡ false → rows_right ms bs ≡ false
unfolding rows_right
rows_damaged [] bs first further h u k e = absurd (omega arith)
rows_damaged (m ∷ ms) [] first further h u k e = absurd (omega arith)
rows_damaged (m ∷ ms) (b ∷ bs) zero further h u k e =
    let z : 0 + further ≡ further = omega arith in
    rw (ne_eqb m.users 0 (λ n. omega arith), one_wrong (need m.size) further (b ∷ bs) k (rw z at e)) refl
rows_damaged (m ∷ ms) (b ∷ bs) (suc first) further h u k e =
    let z : suc first + further ≡ suc (first + further) = omega arith in
    let r = rows_damaged ms bs first further (omega arith) u k (rw z at e) in
    by_test (eqb m.users 0) (λ t. rw t r) (λ t. by_test (are_all_right (need m.size) (b ∷ bs)) (λ a. rw (t, a) r) (λ a. rw (t, a) refl))

module _ (P : Payloads) (t : Table) (s : List ℕ) (fit : length_fits t.bytes (length s) ≡ true) where
  pub step_damaged : Damage t s → step P t s tidying ≡ leaves t s (refusal 27 0 [])
  unfolding step fitting tidy
  step_damaged d = rw (fit, rows_damaged t.marks (blocks s) d.first d.further d.stands d.used d.has d.wrong) refl

  pub step_done : (Damage t s → ⊥) → (step P t s tidying).answer ≡ tidied
  unfolding step fitting tidy
  step_done f = by_test (rows_right t.marks (blocks s))
      (λ r. rw (fit, r) refl)
      (λ r. absurd (let d = damaged_rows t.marks (blocks s) r in f (record { first = d.first; further = d.further; stands = d.stands; used = d.used; has = d.has; wrong = d.wrong })))

-- What stands in the store

at_inside : {b u : ℕ} {p : List ℕ} {sh : Shelf} → At b p u sh → b + need (length p) ≤ size sh
at_inside (here e) = omega arith
at_inside (past e a) = omega (arith, at_inside a)

other_default : (l : List Bool) (i : ℕ) (x y : Bool) → i < length l → get_or l i x ≡ get_or l i y
other_default [] i x y h = absurd (omega arith)
other_default (b ∷ l) zero x y h = refl
other_default (b ∷ l) (suc i) x y h = other_default l i x y (omega arith)

starts_not : (ts : List Bool) (b : ℕ) → starts_free 1 (drop b ts) ≡ true → get_or ts b true ≡ false
unfolding starts_free
starts_not [] zero e = absurd (no_true e)
starts_not [] (suc b) e = absurd (no_true e)
starts_not (true ∷ ts) zero e = absurd (no_true e)
starts_not (false ∷ ts) zero e = refl
starts_not (t ∷ ts) (suc b) e = starts_not ts b e

not_starts : (ts : List Bool) (b : ℕ) → b < length ts → get_or ts b true ≡ false → starts_free 1 (drop b ts) ≡ true
unfolding starts_free
not_starts [] b h e = absurd (omega arith)
not_starts (true ∷ ts) zero h e = absurd (no_false e)
not_starts (false ∷ ts) zero h e = refl
not_starts (x ∷ ts) (suc b) h e = not_starts ts b (omega arith) e

module _ (P : Payloads) {t : Table} {s : List ℕ} {m : Model} (st : Stands P t s m) where
  -- whether each block is had by a row
  abbrev pub shelf_taken : List Bool
  shelf_taken = spread taken_of st.shelf

  used_more : {b : ℕ} (first : ℕ) (p : List ℕ) → Stored t s first p → first ≤ b → b < first + need (length p) → get_or shelf_taken b false ≡ true
  used_more {b} first p x lo hi =
      let a = at_stored P st x in
      other_default shelf_taken b false true (omega (arith, taken_size P st, at_inside a.1)) ∙ taken_over b a.1 lo hi

  used_not : {b : ℕ} → FreeRun t s b 1 → get_or shelf_taken b false ≡ false
  used_not {b} f =
      other_default shelf_taken b false true (omega (arith, taken_size P st, blocks_size P st, f.inside)) ∙ starts_not shelf_taken b (free_run P st b 0 f)

  -- the count of used blocks is the rank
  pub used_rank : {b n : ℕ} → UsedBefore t s b n → n ≡ rank shelf_taken b
  used_rank none_before = sym (rank_none shelf_taken)
  used_rank (one_used {block = b} first p x lo hi u) = ap suc (used_rank u) ∙ sym (rank_more shelf_taken b (used_more first p x lo hi))
  used_rank (one_free {block = b} f u) = used_rank u ∙ sym (rank_same shelf_taken b (used_not f))

  pub rank_used : (b : ℕ) → b ≤ length (blocks s) → UsedBefore t s b (rank shelf_taken b)
  rank_used zero h = rw (rank_none shelf_taken) none_before
  rank_used (suc b) h =
      let before = rank_used b (omega arith) in
      let d = other_default shelf_taken b false true (omega (arith, taken_size P st, blocks_size P st)) in
      by_test (get_or shelf_taken b true)
      (λ y. let o = over_taken st.shelf b (omega (arith, blocks_size P st)) y in
      rw (rank_more shelf_taken b (d ∙ y)) (one_used o.first o.payload (stored_at P st o.there) o.from o.to before))
      (λ y. rw (rank_same shelf_taken b (d ∙ y)) (one_free (run_free P st b 0 (not_starts shelf_taken b (omega (arith, taken_size P st, blocks_size P st)) y)) before))

  -- The step

  abbrev pub next_table : Table
  next_table = tidied_table t (taken 0 t.marks (blocks s))

  abbrev pub next_store : List ℕ
  next_store = join (packed_blocks (taken 0 t.marks (blocks s)) (blocks s))

  pub step_is : step P t s tidying ≡ leaves next_table next_store tidied
  unfolding step fitting tidy
  step_is = rw (fits_is st.laid, ap₂ rows_right st.laid.marks (blocks_are st.laid) ∙ all_right st.shelf st.laid.tail) refl

  -- each payload goes to where as many blocks stand before it as payloads had, with its users
  pub step_goes : (b n : ℕ) (p : List ℕ) → Stored t s b p → UsedBefore t s b n → Stored next_table next_store n p × ((get_or next_table.marks n blank).users ≡ (get_or t.marks b blank).users)
  unfolding tidy_stands
  step_goes b n p x u =
      let a = at_stored P st x in
      let next = tidy_stands P t s m st in
      let w : At n p a.0 (tidy_shelf st.shelf) = rw (used_rank u) (goes_there a.1) in
      (stored_at P next w, ap (λ (k : Mark). k.users) (mark_at P next_table next_store m 0 next w ∙ sym (mark_at P t s m 0 st a.1)))

  -- and no other is there
  pub step_came : (d : ℕ) (p : List ℕ) → Stored next_table next_store d p → (b : ℕ) × Stored t s b p × UsedBefore t s b d
  unfolding tidy_stands
  step_came d p x =
      let a = at_stored P (tidy_stands P t s m st) x in
      let r = came st.shelf a.1 in
      (r.from, stored_at P st r.was, subst (λ (k : ℕ). UsedBefore t s r.from k) (sym r.ranked) (rank_used r.from (omega (arith, at_below r.was, blocks_size P st))))

  -- blocks behind them keep their bytes
  pub step_behind : (n : ℕ) → UsedBefore t s (length (blocks s)) n → (length next_store ≡ length s) × (drop (n * 512) next_store ≡ drop (n * 512) s)
  unfolding tidy_stands tidied_table
  step_behind n u =
      let next = tidy_stands P t s m st in
      let h = taken 0 t.marks (blocks s) in
      let e : h ≡ shelf_taken = had_is P t s m st in
      let long : length next_store ≡ length s = store_length next.laid ∙ sym next.laid.bytes ∙ st.laid.bytes ∙ sym (store_length st.laid) in
      let many : length h ≡ length (blocks s) = ap length e ∙ taken_size P st ∙ sym (blocks_size P st) in
      let k : n ≡ length (pack h (blocks s)) = used_rank u ∙ ap (λ (l : List Bool). rank l (length (blocks s))) (sym e) ∙ sym (pack_ranked h (length (blocks s)) (blocks s) (omega arith)) ∙ ap (λ (l : List Bool). length (pack l (blocks s))) (take_all (length (blocks s)) h (omega arith)) in
      let bs : blocks next_store ≡ packed_blocks h (blocks s) = blocks_are next.laid ∙ sym (tidy_blocks st.shelf) ∙ ap₂ packed_blocks (sym e) (sym (blocks_are st.laid)) in (
        long,
        sym (blocks_bytes next_store (size st.shelf) (long ∙ store_length st.laid) n)
            ∙ ap (λ (l : List (List ℕ)). join (drop n l)) bs ∙ ap (λ (i : ℕ). join (drop i (packed_blocks h (blocks s)))) k ∙ ap join (packed_behind h (blocks s)) ∙ ap (λ (i : ℕ). join (drop i (blocks s))) (sym k)
            ∙ blocks_bytes s (size st.shelf) (store_length st.laid) n,
      )

  -- Every customer's next answer

  pub asked_alike : (c hold index : ℕ) (out : List ℕ) → (step P next_table next_store (asking c hold index out)).answer ≡ (step P t s (asking c hold index out)).answer
  unfolding acting acts
  asked_alike c hold index out = (refines P next_table next_store m (tidy_stands P t s m st) (asking c hold index out)).answers ∙ sym (refines P t s m st (asking c hold index out)).answers

  pub closed_alike : (c hold : ℕ) → (step P next_table next_store (closing c hold)).answer ≡ (step P t s (closing c hold)).answer
  unfolding acting acts
  closed_alike c hold = (refines P next_table next_store m (tidy_stands P t s m st) (closing c hold)).answers ∙ sym (refines P t s m st (closing c hold)).answers

-- an open refused 26 may be granted
pub data Eased : (before after : Answer) → Type 0 where
  alike : {a : Answer} → Eased a a
  eased : (hold : ℕ) (left : List ℕ) → Eased (refusal 26 0 left) (granted hold left)

rows_append : (xs ys : Shelf) → size (only_rows (xs ++ ys)) ≡ size (only_rows xs) + size (only_rows ys)
unfolding only_rows
rows_append [] ys = omega arith
rows_append (gap b ∷ xs) ys = rows_append xs ys
rows_append (row p u ∷ xs) ys = omega (arith, rows_append xs ys)

rows_gaps : (free : List (List ℕ)) → size (only_rows (map gap free)) ≡ 0
unfolding only_rows
rows_gaps [] = refl
rows_gaps (x ∷ free) = rows_gaps free

-- a run is no longer than all free blocks together
run_fits : (sh : Shelf) (k b : ℕ) → first_run (suc k) (spread taken_of sh) ≡ some b → suc k ≤ free_blocks sh
run_fits sh k b e =
    let r = run_some k sh e in
    let x = r.before in
    let y = map gap r.free in
    let z = r.after in
    let w = r.whole in
    omega (arith, r.count, gaps_size r.free, rows_gaps r.free, rows_append x (y ++ z), rows_append y z, size_append x (y ++ z), size_append y z, rows_fewer x, rows_fewer z, ap size w, ap (λ (l : Shelf). size (only_rows l)) w)

module _ (P : Payloads) {t : Table} {s : List ℕ} {m : Model} (st : Stands P t s m) (c : ℕ) where
  abbrev after_table : Table
  after_table = next_table P st

  abbrev after_store : List ℕ
  after_store = next_store P st

  module _ (q work : List ℕ) (h : ℕ) where
    abbrev Loosened : Type 0
    Loosened = Eased (opened_in t s c work (go q h)).answer (opened_in after_table after_store c work (go q h)).answer

    by_run : ((b u : ℕ) → At b q u st.shelf → ⊥) → (o : Option ℕ) → first_run (need (length q)) (spread taken_of st.shelf) ≡ o → Loosened
    by_run new none e = by_test (leb (need (length q)) (free_blocks st.shelf))
        (λ l. rw (new_refused P t s m st c q work h new e, granted_after P t s m st c q work h new (leb-true (need (length q)) (free_blocks st.shelf) l)) (eased h _))
        (λ l. rw (new_refused P t s m st c q work h new e, refused_after P t s m st c q work h new (leb-false (need (length q)) (free_blocks st.shelf) l)) alike)
    by_run new (some b) e =
        let l : need (length q) ≤ free_blocks st.shelf = unfold need in run_fits st.shelf (extra (length q)) b (unfold need in e) in
        rw (new_granted P t s m st c q work h new b e, granted_after P t s m st c q work h new l) alike

    by_find : (o : Option ℕ) → find q (spread marks_of st.shelf ++ st.laid.tail) (spread blocks_of st.shelf) ≡ o → Loosened
    by_find none e = by_run (λ b u a. find_none q st.shelf st.laid.tail e a) (first_run (need (length q)) (spread taken_of st.shelf)) refl
    by_find (some b) e = let r = find_some q st.shelf st.laid.tail e in rw (stored P t s m st c q work h b r.0 r.1, stored_after P t s m st c q work h b r.0 r.1) alike

  by_front : (work : List ℕ) (f : Front) → Eased (opened_in t s c work f).answer (opened_in after_table after_store c work f).answer
  by_front work (stop n at) = unfold opened_in in alike
  by_front work (go q h) = by_find q work h (find q (spread marks_of st.shelf ++ st.laid.tail) (spread blocks_of st.shelf)) refl

  pub opened_eased : (payload work : List ℕ) → Eased (step P t s (opening c payload work)).answer (step P after_table after_store (opening c payload work)).answer
  unfolding step fitting
  opened_eased payload work =
      let next = tidy_stands P t s m st in
      rw (fits_is st.laid, fits_is next.laid, leads_vacant (leads_desk c st.holding.leads), leads_vacant (leads_desk c next.holding.leads)) (by_front work (front P c (first_true (map vacant (desk c m))) payload work))
