-- What stands in the store after every history: each payload once, with as many users as its granted opens less its granted closes, and none without a user.
use Rattle.std.specs.Prelude.{ℕ, zero, suc, ◌+◌, ◌-◌, ◌<◌, ◌≡◌, refl, ltb, get_or, drop, replicate}
use Rattle.std.proofs.Math.Path.{sym, ap, ap₂}
use Rattle.std.proofs.Common.{subst, ◌∙◌, arith, get_or-append-add, take_at, ltb-true, ltb-false}
use mathlib.Core.List.{List, [], ◌∷◌, ◌++◌, append_assoc}
use Rattle.std.proofs.Math.Option.{Option, some}
use Rattle.std.proofs.Math.ListN.{length, take, length-take, length-drop}
use Rattle.format.specs.Bytes.{same}
use Rattle.format.specs.Laws.Bytes.{same_true}
use Rattle.format.specs.Laws.Outcomes.{by_test}
use Rattle.sharing.specs.Blocks.{need, extra, scatter, gather}
use Rattle.sharing.specs.Events.{Event, Past, yes, Stored, opens, closes}
use Rattle.sharing.specs.Laws.Blocks.{scatter_length, gather_scatter}
use Rattle.sharing.specs.Laws.Calls.{mark_at, blocks_at}
use Rattle.sharing.specs.Laws.Events.{present}
use Rattle.sharing.specs.Laws.Holds.{empty, led, Leads, done, more}
use Rattle.sharing.specs.Laws.Shelf.{Piece, gap, row, Shelf, width, size, spread, blocks_of, marks_of, spread_length, blocks_width, marks_width, At, here, past, at_stood}
use Rattle.sharing.specs.Laws.Standing.{Stands, blocks_are}
use Rattle.sharing.specs.Laws.Users.{has, users_of, row_users}
use Rattle.sharing.specs.Model.{Payloads, Answer, Model}
use Rattle.sharing.specs.Table.{Mark, blank, Table, blocks}

-- a mark with users is that of a row
blank_at : (n : ℕ) (l : List Mark) (i : ℕ) → i < n → get_or (replicate n blank ++ l) i blank ≡ blank
blank_at zero l i h = absurd (omega arith)
blank_at (suc n) l zero h = refl
blank_at (suc n) l (suc i) h = blank_at n l i (omega arith)

abbrev pub RowAt : ℕ → Shelf → Type 0
RowAt b sh = (p : List ℕ) × (u : ℕ) × At b p u sh

row_first : (p : List ℕ) (u : ℕ) (l : List Mark) (sh : Shelf) (b : ℕ) → b < need (length p) → 0 < (get_or (marks_of (row p u) ++ l) b blank).users → RowAt b (row p u ∷ sh)
unfolding need
row_first p u l sh zero h k = (p, u, here refl)
row_first p u l sh (suc b) h k = absurd (let z : (get_or (replicate (extra (length p)) blank ++ l) b blank).users ≡ 0 = ap (λ (m : Mark). m.users) (blank_at (extra (length p)) l b (omega arith)) in omega arith)

row_past : {sh : Shelf} (x : Piece) (b d : ℕ) → b ≡ width x + d → RowAt d sh → RowAt b (x ∷ sh)
row_past x b d e r = (r.0, r.1, past e r.2)

marks_row : (sh : Shelf) (tail : List Mark) (b : ℕ) → b < size sh → 0 < (get_or (spread marks_of sh ++ tail) b blank).users → RowAt b sh
marks_row [] tail b h k = absurd (omega arith)
marks_row (gap g ∷ sh) tail zero h k = absurd (omega arith)
marks_row (gap g ∷ sh) tail (suc b) h k = row_past (gap g) (suc b) b (omega arith) (marks_row sh tail b (omega arith) k)
marks_row (row p u ∷ sh) tail b h k =
    let l : 0 < (get_or (marks_of (row p u) ++ (spread marks_of sh ++ tail)) b blank).users = subst (λ (l : List Mark). 0 < (get_or l b blank).users) (append_assoc (marks_of (row p u)) (spread marks_of sh) tail) k in
    by_test (ltb b (need (length p)))
    (λ t. row_first p u (spread marks_of sh ++ tail) sh b (ltb-true b (need (length p)) t) l)
    (λ t. let n = ltb-false b (need (length p)) t in
    let d : ℕ = b - need (length p) in
    let e : b ≡ length (marks_of (row p u)) + d = omega (arith, marks_width (row p u)) in
    row_past (row p u) b d (omega arith) (marks_row sh tail d (omega arith) (rw (ap (λ (i : ℕ). get_or (marks_of (row p u) ++ (spread marks_of sh ++ tail)) i blank) e ∙ get_or-append-add (marks_of (row p u)) (spread marks_of sh ++ tail) d blank) at l)))

-- a payload that a hold has stands in a row
some_row : {sh : Shelf} {hs : List ℕ} {m : Model} (p : List ℕ) → Leads sh hs m → 0 < users_of p m → (b : ℕ) × (u : ℕ) × At b p u sh
unfolding users_of has
some_row p done h = absurd (omega arith)
some_row p (more empty ls) h = some_row p ls (omega arith)
some_row {m = e ∷ m} p (more (led {b = b} {u = u} {p = q} a) ls) h = by_test (same q p)
    (λ t. (b, u, rw (same_true q p t) at a))
    (λ t. some_row p ls (let z : has p (some q) ≡ 0 = rw t refl in omega arith))

module _ (P : Payloads) {t : Table} {s : List ℕ} {m : Model} (st : Stands P t s m) where
  pub blocks_size : length (blocks s) ≡ size st.shelf
  blocks_size = ap length (blocks_are st.laid) ∙ spread_length blocks_of blocks_width st.shelf

  -- a block with users is the first of a payload that stands there
  pub used_row : (b : ℕ) → b < length (blocks s) → 0 < (get_or t.marks b blank).users → RowAt b st.shelf
  used_row b h k = marks_row st.shelf st.laid.tail b (omega (arith, blocks_size)) (rw st.laid.marks at k)

  pub stored_at : {b u : ℕ} {p : List ℕ} → At b p u st.shelf → Stored t s b p
  stored_at {b} {u} {p} a = record {
    used = rw (mark_at P t s m 0 st a) (omega arith);
    size = rw (mark_at P t s m 0 st a) refl;
    holds = rw (blocks_at P t s m 0 st a) (take_at (scatter p) (spread blocks_of (at_stood a).after) (need (length p)) (scatter_length p));
  }

  pub at_stored : {b : ℕ} {p : List ℕ} → Stored t s b p → (u : ℕ) × At b p u st.shelf
  unfolding need
  at_stored {b} {p} x =
      let l : length (take (need (length p)) (drop b (blocks s))) ≡ need (length p) = ap length x.holds ∙ scatter_length p in
      let r = used_row b (omega (arith, l, length-take (need (length p)) (drop b (blocks s)), length-drop b (blocks s))) x.used in
      let y = stored_at r.2 in
      let n : length r.0 ≡ length p = sym y.size ∙ x.size in
      let z : scatter r.0 ≡ scatter p = sym y.holds ∙ ap (λ (i : ℕ). take (need i) (drop b (blocks s))) n ∙ x.holds in
      let same : r.0 ≡ p = sym (gather_scatter r.0 []) ∙ ap₂ (λ (i : ℕ) (l : List (List ℕ)). gather i (l ++ [])) n z ∙ gather_scatter p [] in
      (r.1, rw same at r.2)

module _ (P : Payloads) {A : Type 0} (seen : Answer → A) (says : A → Option ℕ) (sees : (a : Answer) → says (seen a) ≡ yes a) {es : List (Event A)} {t : Table} {s : List ℕ} (before : Past P seen es t s) where
  pub used_stored : (b : ℕ) → b < length (blocks s) → 0 < (get_or t.marks b blank).users → (p : List ℕ) × Stored t s b p
  used_stored b h k =
      let w = present P seen says sees before in
      let r = used_row P w.stands b h k in
      (r.0, stored_at P w.stands r.2)

  pub users_counted : (b : ℕ) (p : List ℕ) → Stored t s b p → (get_or t.marks b blank).users + closes says P p es ≡ opens says P p es
  users_counted b p x =
      let w = present P seen says sees before in
      let a = at_stored P w.stands x in
      let k = row_users P w.stands.shelf t.holds w.model w.stands.holding b a.0 p a.1 in
      let l : (get_or t.marks b blank).users ≡ suc a.0 = ap (λ (k : Mark). k.users) (mark_at P t s w.model 0 w.stands a.1) in
      omega (arith, w.counted p)

  pub stored_while_used : (p : List ℕ) → closes says P p es < opens says P p es → (b : ℕ) × Stored t s b p
  stored_while_used p h =
      let w = present P seen says sees before in
      let r = some_row p w.stands.holding.leads (omega (arith, w.counted p)) in
      (r.0, stored_at P w.stands r.2)

  pub stored_once : (b d : ℕ) (p : List ℕ) → Stored t s b p → Stored t s d p → b ≡ d
  stored_once b d p x y =
      let w = present P seen says sees before in
      let a = at_stored P w.stands x in
      let c = at_stored P w.stands y in
      w.stands.holding.alone b d a.0 c.0 p a.1 c.1
