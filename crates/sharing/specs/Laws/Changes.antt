-- The four changes of a table that stands for a model: a row gains or loses a user, a row comes, a row goes.
use Rattle.std.specs.Prelude.{ℕ, suc, ◌+◌, ◌-◌, ◌*◌, ◌<◌, ◌≡◌, refl, List, [], ◌∷◌, ◌++◌, map, ◌≢◌, length, get_or, set, replicate}
use Rattle.std.proofs.Common.{sym, ap, ap₂, ◌∙◌, append-nil, arith, length-set, lt-ltb}
use Rattle.std.proofs.Math.Option.{none, some}
use Rattle.std.proofs.lemmas.Bool.{lt-leb}
use Rattle.sharing.specs.Blocks.{need, extra, scatter, join}
use Rattle.sharing.specs.Laws.Blocks.{scatter_length, scatter_whole, Whole}
use Rattle.sharing.specs.Model.{Payloads, Model}
use Rattle.sharing.specs.Table.{Table, table, Mark, mark, blank, blocks, paste}
use Rattle.sharing.specs.Step.{joined, released}
use Rattle.sharing.specs.Laws.Shelf.{gap, row, Shelf, size, spread, blocks_of, marks_of, width_pos, At, here, at_right, at_left}
use Rattle.sharing.specs.Laws.Holds.{hit, count, hit_same, hit_other, count_small, count_set, empty, led, uncounted}
use Rattle.sharing.specs.Laws.Swaps.{between, at_where, at_gaps, at_one, gaps_size, gaps_blocks, spread_between, size_between, whole_between, marks_there, marks_free, marks_set, marks_get, paste_between}
use Rattle.sharing.specs.Laws.Standing.{Fine, Holding, Laid, Stands, blocks_are, by_where, exchange}

-- The table and the store of another shelf of the same size
relaid : {t : Table} {s : List ℕ} {sh : Shelf} (l : Laid t s sh) (to : Shelf) (hs : List ℕ) (ms : List Mark) (s' : List ℕ) → size to ≡ size sh → ms ≡ spread marks_of to ++ l.tail → s' ≡ join (spread blocks_of to) → Whole (spread blocks_of to) → Laid (table t.bytes hs ms) s' to
relaid l to hs ms s' e m b w = record { tail = l.tail; marks = m; store = b; whole = w; bytes = l.bytes ∙ ap (λ (n : ℕ). n * 512) (sym e); some = omega (arith, l.some); few = omega (arith, l.few) }

marks_change : (f : Mark → Mark) (ms : List Mark) (pre : Shelf) (x : Mark) (l : List Mark) → ms ≡ spread marks_of pre ++ (x ∷ l) → set ms (size pre) (f (get_or ms (size pre) blank)) ≡ spread marks_of pre ++ (f x ∷ l)
marks_change f ms pre x l e = rw (e, marks_get pre x blank l) (marks_set pre x (f x) l)

size_other : (pre mid new post : Shelf) → size new ≡ size mid → size (between pre new post) ≡ size (between pre mid post)
size_other pre mid new post e = omega (arith, size_between pre new post, size_between pre mid post)

blocks_other : (pre mid new post : Shelf) → spread blocks_of new ≡ spread blocks_of mid → spread blocks_of (between pre new post) ≡ spread blocks_of (between pre mid post)
blocks_other pre mid new post e = spread_between blocks_of pre new post ∙ ap (λ (l : List (List ℕ)). spread blocks_of pre ++ (l ++ spread blocks_of post)) e ∙ sym (spread_between blocks_of pre mid post)

-- the same bytes, other marks
relabelled : {t : Table} {s : List ℕ} (pre mid new post : Shelf) (l : Laid t s (between pre mid post)) (hs : List ℕ) (ms : List Mark) → size new ≡ size mid → spread blocks_of new ≡ spread blocks_of mid → ms ≡ spread marks_of (between pre new post) ++ l.tail → Laid (table t.bytes hs ms) s (between pre new post)
relabelled {s = s} pre mid new post l hs ms e b m =
    let z = blocks_other pre mid new post b in
    relaid l (between pre new post) hs ms s (size_other pre mid new post e) m (l.store ∙ ap join (sym z)) (rw z l.whole)

one_wide : (p : List ℕ) (u : ℕ) → 0 < size (row p u ∷ [])
one_wide p u = omega (arith, width_pos (row p u))

there : (pre post : Shelf) (p : List ℕ) (u : ℕ) → At (size pre) p u (between pre (row p u ∷ []) post)
there pre post p u = at_right {d = 0} pre (omega arith) (at_left {xs = row p u ∷ []} post (here refl))

apart : (x b : ℕ) → b ≢ x → hit (suc b) (suc x) ≡ 0
apart x b n = hit_other (suc b) (suc x) (λ e. n (omega arith))

from_none : (b x : ℕ) → x ≡ 0 → hit (suc b) x ≡ 0
from_none b x e = hit_other (suc b) x (λ z. omega arith)

joined_is : (u n : ℕ) → suc u < 255 → joined (mark (suc u) n) ≡ mark (suc (suc u)) n
unfolding joined
joined_is u n h = rw (lt-ltb (suc u) 255 h)

released_more : (u n : ℕ) → released (mark (suc (suc u)) n) ≡ mark (suc u) n
unfolding released
released_more u n = let k : suc (suc u) - 1 ≡ suc u = omega arith in rw (lt-leb (suc (suc u)) 1 (omega arith), k)

released_last : (n : ℕ) → released (mark 1 n) ≡ blank
unfolding released
released_last n = refl

module _ (P : Payloads) (t : Table) (s : List ℕ) (m : Model) (i : ℕ) (slot : i < length t.holds) (all : length t.holds ≡ 128) where
  still_all : (x : ℕ) → length (set t.holds i x) ≡ 128
  still_all x = length-set t.holds i x ∙ all

  -- the hold comes to a row that stands already
  pub gains : (pre post : Shelf) (p : List ℕ) (u : ℕ) → Laid t s (between pre (row p u ∷ []) post) → Holding P (between pre (row p u ∷ []) post) t.holds m → get_or t.holds i 0 ≡ 0
      → Stands P (table t.bytes (set t.holds i (suc (size pre))) (set t.marks (size pre) (joined (get_or t.marks (size pre) blank)))) s (set m i (some p))
  gains pre post p u l w z =
      let b = size pre in
      let hs = t.holds in
      let c = count_set (suc b) hs i (suc b) slot in
      let h0 = from_none b (get_or hs i 0) z in
      let h1 = hit_same (suc b) in
      let n = w.users b u p (there pre post p u) in
      let small : suc u < 255 = omega (arith, count_small (suc b) hs) in
      let j = joined_is u (length p) small in
      record {
        shelf = between pre (row p (suc u) ∷ []) post;
        laid = relabelled pre (row p u ∷ []) (row p (suc u) ∷ []) post l _ _ refl refl
            (marks_change joined t.marks pre (mark (suc u) (length p)) (replicate (extra (length p)) blank ++ (spread marks_of post ++ l.tail)) (l.marks ∙ marks_there pre post p u l.tail)
            ∙ ap (λ (x : Mark). spread marks_of pre ++ (x ∷ (replicate (extra (length p)) blank ++ (spread marks_of post ++ l.tail)))) j ∙ sym (marks_there pre post p (suc u) l.tail));
        holding = exchange P pre (row p u ∷ []) (row p (suc u) ∷ []) post hs m i (suc b) (some p) w refl (one_wide p u) slot
            (λ d k. from_none d (get_or hs i 0) z) (λ d k. apart b d k) (led (there pre post p (suc u)))
            (λ d v q a. let r = at_one a in (r.0, λ _. (suc u, rw (← r.1) (here r.0))))
            (λ d v q a. let r = at_one a in (r.0, omega (arith, r.2), rw (← r.1) (w.fine b u p (there pre post p u)), λ e k g. w.alone e b k u p (rw (← r.1) at g) (there pre post p u)));
        all = still_all (suc b);
      }

  -- the hold leaves a row that others lead to
  pub loses : (pre post : Shelf) (p : List ℕ) (u : ℕ) → Laid t s (between pre (row p (suc u) ∷ []) post) → Holding P (between pre (row p (suc u) ∷ []) post) t.holds m → get_or t.holds i 0 ≡ suc (size pre)
      → Stands P (table t.bytes (set t.holds i 0) (set t.marks (size pre) (released (get_or t.marks (size pre) blank)))) s (set m i none)
  loses pre post p u l w z =
      let b = size pre in
      let hs = t.holds in
      let c = count_set (suc b) hs i 0 slot in
      let h0 = from_none b 0 refl in
      let h1 : hit (suc b) (get_or hs i 0) ≡ 1 = rw z (hit_same (suc b)) in
      let n = w.users b (suc u) p (there pre post p (suc u)) in
      let j = released_more u (length p) in
      record {
        shelf = between pre (row p u ∷ []) post;
        laid = relabelled pre (row p (suc u) ∷ []) (row p u ∷ []) post l _ _ refl refl
            (marks_change released t.marks pre (mark (suc (suc u)) (length p)) (replicate (extra (length p)) blank ++ (spread marks_of post ++ l.tail)) (l.marks ∙ marks_there pre post p (suc u) l.tail)
            ∙ ap (λ (x : Mark). spread marks_of pre ++ (x ∷ (replicate (extra (length p)) blank ++ (spread marks_of post ++ l.tail)))) j ∙ sym (marks_there pre post p u l.tail));
        holding = exchange P pre (row p (suc u) ∷ []) (row p u ∷ []) post hs m i 0 none w refl (one_wide p (suc u)) slot
            (λ d k. rw z (apart b d k)) (λ d k. from_none d 0 refl) empty
            (λ d v q a. let r = at_one a in (r.0, λ _. (u, rw (← r.1) (here r.0))))
            (λ d v q a. let r = at_one a in (r.0, omega (arith, r.2), rw (← r.1) (w.fine b (suc u) p (there pre post p (suc u))), λ e k g. w.alone e b k (suc u) p (rw (← r.1) at g) (there pre post p (suc u))));
        all = still_all 0;
      }

  -- the last hold leaves: the row's blocks are free, with what they hold
  pub goes : (pre post : Shelf) (p : List ℕ) → Laid t s (between pre (row p 0 ∷ []) post) → Holding P (between pre (row p 0 ∷ []) post) t.holds m → get_or t.holds i 0 ≡ suc (size pre)
      → Stands P (table t.bytes (set t.holds i 0) (set t.marks (size pre) (released (get_or t.marks (size pre) blank)))) s (set m i none)
  goes pre post p l w z =
      let b = size pre in
      let hs = t.holds in
      let c = count_set (suc b) hs i 0 slot in
      let h0 = from_none b 0 refl in
      let h1 : hit (suc b) (get_or hs i 0) ≡ 1 = rw z (hit_same (suc b)) in
      let n = w.users b 0 p (there pre post p 0) in
      let j = released_last (length p) in
      let e : size (map gap (scatter p)) ≡ size (row p 0 ∷ []) = omega (arith, gaps_size (scatter p), scatter_length p) in
      record {
        shelf = between pre (map gap (scatter p)) post;
        laid = relabelled pre (row p 0 ∷ []) (map gap (scatter p)) post l _ _ e (gaps_blocks (scatter p) ∙ sym (append-nil (scatter p)))
            (marks_change released t.marks pre (mark 1 (length p)) (replicate (extra (length p)) blank ++ (spread marks_of post ++ l.tail)) (l.marks ∙ marks_there pre post p 0 l.tail)
            ∙ ap (λ (x : Mark). spread marks_of pre ++ (x ∷ (replicate (extra (length p)) blank ++ (spread marks_of post ++ l.tail)))) j ∙ sym (marks_free pre post (scatter p) (length p) l.tail (scatter_length p)));
        holding = exchange P pre (row p 0 ∷ []) (map gap (scatter p)) post hs m i 0 none w e (one_wide p 0) slot
            (λ d k. rw z (apart b d k)) (λ d k. from_none d 0 refl) empty
            (λ d v q a. ((at_one a).0, λ h. absurd (omega arith)))
            (λ d v q a. absurd (at_gaps (scatter p) a));
        all = still_all 0;
      }

  -- a row comes into free blocks
  pub comes : (pre post : Shelf) (free : List (List ℕ)) (p : List ℕ) → length free ≡ need (length p) → Laid t s (between pre (map gap free) post) → Holding P (between pre (map gap free) post) t.holds m → get_or t.holds i 0 ≡ 0
      → Fine P p → ((b u : ℕ) → At b p u (between pre (map gap free) post) → ⊥)
      → Stands P (table t.bytes (set t.holds i (suc (size pre))) (set t.marks (size pre) (mark 1 (length p)))) (join (paste (size pre) (scatter p) (blocks s))) (set m i (some p))
  comes pre post free p f l w z fine new =
      let b = size pre in
      let hs = t.holds in
      let c = count_set (suc b) hs i (suc b) slot in
      let h0 = from_none b (get_or hs i 0) z in
      let h1 = hit_same (suc b) in
      let wide : 0 < size (map gap free) = omega (arith, gaps_size free, width_pos (row p 0)) in
      let e : size (row p 0 ∷ []) ≡ size (map gap free) = omega (arith, gaps_size free) in
      let n : count (suc b) hs ≡ 0 = uncounted b (λ u q a. by_where (at_where pre (map gap free) post wide a) (λ d e g. at_gaps free g) (λ k g. k refl)) w.leads in
      record {
        shelf = between pre (row p 0 ∷ []) post;
        laid = relaid l (between pre (row p 0 ∷ []) post) _ _ _ (size_other pre (map gap free) (row p 0 ∷ []) post e)
            (marks_change (λ (x : Mark). mark 1 (length p)) t.marks pre blank (replicate (extra (length p)) blank ++ (spread marks_of post ++ l.tail)) (l.marks ∙ marks_free pre post free (length p) l.tail f) ∙ sym (marks_there pre post p 0 l.tail))
            (ap join (ap₂ (paste b) (sym (append-nil (scatter p))) (blocks_are l) ∙ paste_between pre (map gap free) (row p 0 ∷ []) post e))
            (whole_between pre (map gap free) (row p 0 ∷ []) post (rw (append-nil (scatter p)) (scatter_whole p)) l.whole);
        holding = exchange P pre (map gap free) (row p 0 ∷ []) post hs m i (suc b) (some p) w e wide slot
            (λ d k. from_none d (get_or hs i 0) z) (λ d k. apart b d k) (led (there pre post p 0))
            (λ d u q a. absurd (at_gaps free a))
            (λ d v q a. let r = at_one a in (r.0, omega (arith, r.2), rw (← r.1) fine, λ e k g. absurd (new e k (rw (← r.1) at g))));
        all = still_all (suc b);
      }
