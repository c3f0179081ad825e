-- The step of K13 keeps the model: where each row goes, and the holds with it.
use Prim.Native.Nat.{ℕ, zero, suc, ◌+◌, ◌-◌, ◌*◌}
use Rattle.std.specs.Prelude.{◌≡◌, Bool, true, List, [], ◌∷◌, ◌++◌, map, ◌⊎◌, eqb, length, replicate}
use Rattle.std.proofs.Math.Path.{refl, sym, ap, ap₂}
use Rattle.std.proofs.Common.{◌∙◌, inl, inr, arith}
use Rattle.std.proofs.Math.Option.{some}
use borrow.Author.Tests.{eqb-true, eqb-false}
use Rattle.sharing.specs.Blocks.{need, join}
use Rattle.format.specs.Laws.Outcomes.{by_test}
use Rattle.sharing.specs.Model.{Payloads, Entry, Model}
use Rattle.sharing.specs.Table.{Table, blocks, taken}
use Rattle.sharing.specs.Tidy.{rank, moved, packed_blocks, packed_marks, tidied_table}
use Rattle.sharing.specs.Laws.Shelf.{gap, row, Shelf, spread, taken_of, At, here, past, at_below, at_left, at_append, Behind, at_payload, Split, first, behind, at_row}
use Rattle.sharing.specs.Laws.Walks.{taken_is}
use Rattle.sharing.specs.Laws.Holds.{hit, count, hit_same, hit_other, Led, empty, led, Leads, done, more}
use Rattle.sharing.specs.Laws.Swaps.{at_gaps}
use Rattle.sharing.specs.Laws.Standing.{Holding, Laid, Stands, blocks_are}
use Rattle.sharing.specs.Laws.Tidying.{only_rows, left_over, tidy_shelf, tidy_size, tidy_blocks, tidy_marks, tidy_whole}

rank_zero : (ts : List Bool) → rank ts 0 ≡ 0
unfolding rank
rank_zero [] = refl
rank_zero (t ∷ ts) = refl

rank_past : (n d : ℕ) (ts : List Bool) → rank (replicate n true ++ ts) (n + d) ≡ n + rank ts d
unfolding rank
rank_past zero d ts = let z : 0 + d ≡ d = omega arith in rw z (omega arith)
rank_past (suc n) d ts = let z : suc n + d ≡ suc (n + d) = omega arith in rw z (omega (arith, rank_past n d ts))

-- a row goes to its rank
pub goes_to : {b u : ℕ} {p : List ℕ} {sh : Shelf} → At b p u sh → At (rank (spread taken_of sh) b) p u (only_rows sh)
unfolding only_rows rank
goes_to {b} (here {u = u} {p = p} {sh = sh} e) = here (ap (rank (replicate (need (length p)) true ++ spread taken_of sh)) e ∙ rank_zero (replicate (need (length p)) true ++ spread taken_of sh))
goes_to {b} (past {d = d} {x = gap k} {sh = sh} e a) = let z : b ≡ suc d = omega arith in rw z (goes_to a)
goes_to {b} (past {d = d} {x = row q v} {sh = sh} e a) = past (ap (rank (replicate (need (length q)) true ++ spread taken_of sh)) e ∙ rank_past (need (length q)) d (spread taken_of sh)) (goes_to a)

pub record Came (d u : ℕ) (p : List ℕ) (sh : Shelf) : Type 0 where
  pub from : ℕ
  pub was : At from p u sh
  pub ranked : d ≡ rank (spread taken_of sh) from

came_row : {d u : ℕ} {p : List ℕ} (q : List ℕ) (v : ℕ) (sh : Shelf) → Split d p u q v (only_rows sh) → ((k : ℕ) → At k p u (only_rows sh) → Came k u p sh) → Came d u p (row q v ∷ sh)
came_row {d} {u} {p} q v sh (first e i j) f = record {
  from = 0;
  was = rw (← i, ← j) (here refl);
  ranked = e ∙ sym (rank_zero (spread taken_of (row q v ∷ sh)));
}
came_row q v sh (behind k e a) f = let r = f k a in record {
  from = need (length q) + r.from;
  was = past {x = row q v} refl r.was;
  ranked = e ∙ ap (λ (n : ℕ). need (length q) + n) r.ranked ∙ sym (rank_past (need (length q)) r.from (spread taken_of sh));
}

-- and each came from somewhere
rows_came : {d u : ℕ} {p : List ℕ} (sh : Shelf) → At d p u (only_rows sh) → Came d u p sh
unfolding only_rows rank
rows_came [] a = absurd (omega (arith, at_below a))
rows_came (gap k ∷ sh) a = let r = rows_came sh a in record { from = suc r.from; was = past {b = suc r.from} {d = r.from} {x = gap k} (omega arith) r.was; ranked = r.ranked }
rows_came {d} {u} {p} (row q v ∷ sh) a = came_row q v sh (at_row a) (λ k b. rows_came {d = k} sh b)

pub came : {d u : ℕ} {p : List ℕ} (sh : Shelf) → At d p u (tidy_shelf sh) → Came d u p sh
unfolding tidy_shelf
came {d} {u} {p} sh a = one (at_append (only_rows sh) a)
  where
    one : At d p u (only_rows sh) ⊎ Behind d p u (only_rows sh) (map gap (left_over sh)) → Came d u p sh
    one (inl b) = rows_came sh b
    one (inr r) = absurd (at_gaps (left_over sh) r.there)

pub goes_there : {b u : ℕ} {p : List ℕ} {sh : Shelf} → At b p u sh → At (rank (spread taken_of sh) b) p u (tidy_shelf sh)
unfolding tidy_shelf
goes_there {sh = sh} a = at_left (map gap (left_over sh)) (goes_to a)

-- The holds

module _ (P : Payloads) (sh : Shelf) (hs : List ℕ) (m : Model) (was : Holding P sh hs m) where
  abbrev to : ℕ → ℕ
  to = moved (spread taken_of sh)

  tidy_led : {x : ℕ} {e : Entry} → Led sh x e → Led (tidy_shelf sh) (to x) e
  unfolding moved
  tidy_led empty = empty
  tidy_led (led a) = led (goes_there a)

  tidy_leads : {ks : List ℕ} {n : Model} → Leads sh ks n → Leads (tidy_shelf sh) (map to ks) n
  tidy_leads done = done
  tidy_leads (more k ls) = more (tidy_led k) (tidy_leads ls)

  -- two rows don't come to one place
  ranks_apart : (b d u v : ℕ) (p q : List ℕ) → At b p u sh → At d q v sh → rank (spread taken_of sh) b ≡ rank (spread taken_of sh) d → b ≡ d
  ranks_apart b d u v p q a c e =
      let r : p ≡ q = (at_payload (goes_there a) (rw (← e) at (goes_there c))).0 in
      was.alone b d u v p a (rw (← r) at c)

  tidy_hit : {x : ℕ} {e : Entry} (b u : ℕ) (p : List ℕ) → At b p u sh → Led sh x e → hit (suc (rank (spread taken_of sh) b)) (to x) ≡ hit (suc b) x
  unfolding moved
  tidy_hit b u p a empty = hit_other (suc (rank (spread taken_of sh) b)) 0 (λ e. omega arith) ∙ sym (hit_other (suc b) 0 (λ e. omega arith))
  tidy_hit b u p a (led {b = d} {u = v} {p = q} c) = by_test (eqb d b)
      (λ t. let z : d ≡ b = eqb-true d b t in rw z (hit_same (suc (rank (spread taken_of sh) b)) ∙ sym (hit_same (suc b))))
      (λ t. let z = eqb-false d b t in
      hit_other (suc (rank (spread taken_of sh) b)) (suc (rank (spread taken_of sh) d)) (λ e. z (ranks_apart d b v u q p c a (omega arith)))
      ∙ sym (hit_other (suc b) (suc d) (λ e. z (omega arith))))

  tidy_count : {ks : List ℕ} {n : Model} (b u : ℕ) (p : List ℕ) → At b p u sh → Leads sh ks n → count (suc (rank (spread taken_of sh) b)) (map to ks) ≡ count (suc b) ks
  unfolding count
  tidy_count b u p a done = refl
  tidy_count b u p a (more k ls) = ap₂ ◌+◌ (tidy_hit b u p a k) (tidy_count b u p a ls)

  pub tidy_holding : Holding P (tidy_shelf sh) (map to hs) m
  tidy_holding = record {
    leads = tidy_leads was.leads;
    users = λ d u p a. let r = came sh a in was.users r.from u p r.was ∙ sym (tidy_count r.from u p r.was was.leads) ∙ ap (λ (n : ℕ). count (suc n) (map to hs)) (sym r.ranked);
    alone = λ b d u v p a c. let r = came sh a in let q = came sh c in r.ranked ∙ ap (rank (spread taken_of sh)) (was.alone r.from q.from u v p r.was q.was) ∙ sym q.ranked;
    fine = λ d u p a. let r = came sh a in was.fine r.from u p r.was;
  }

map_keeps : (f : ℕ → ℕ) (l : List ℕ) → length (map f l) ≡ length l
map_keeps f [] = refl
map_keeps f (x ∷ l) = ap suc (map_keeps f l)

module _ (P : Payloads) (t : Table) (s : List ℕ) (m : Model) (st : Stands P t s m) where
  -- the blocks that rows have
  abbrev pub had : List Bool
  had = taken 0 t.marks (blocks s)

  pub had_is : had ≡ spread taken_of st.shelf
  had_is = ap₂ (taken 0) st.laid.marks (blocks_are st.laid) ∙ taken_is st.shelf st.laid.tail

  pub tidy_laid : Laid (tidied_table t had) (join (packed_blocks had (blocks s))) (tidy_shelf st.shelf)
  unfolding tidied_table
  tidy_laid =
      let sh = st.shelf in
      let l = st.laid in
      rw had_is (record {
        tail = l.tail;
        marks = ap (packed_marks (spread taken_of sh)) l.marks ∙ tidy_marks sh l.tail;
        store = ap join (ap (packed_blocks (spread taken_of sh)) (blocks_are l) ∙ tidy_blocks sh);
        whole = tidy_whole sh l.whole;
        bytes = l.bytes ∙ ap (λ (n : ℕ). n * 512) (sym (tidy_size sh));
        some = omega (arith, l.some, tidy_size sh);
        few = omega (arith, l.few, tidy_size sh);
      })

  pub tidy_held : Holding P (tidy_shelf st.shelf) (tidied_table t had).holds m
  unfolding tidied_table
  tidy_held = rw had_is (tidy_holding P st.shelf t.holds m st.holding)

  pub tidy_all : length (tidied_table t had).holds ≡ 128
  unfolding tidied_table
  tidy_all = map_keeps (moved had) t.holds ∙ st.all

  -- The table and the store after the step stand for the same model
  unfoldable pub tidy_stands : Stands P (tidied_table t had) (join (packed_blocks had (blocks s))) m
  tidy_stands = record { shelf = tidy_shelf st.shelf; laid = tidy_laid; holding = tidy_held; all = tidy_all }
