-- What the walks over marks and blocks find on a shelf.
use Rattle.std.specs.Prelude.{ℕ, zero, suc, ◌+◌, ◌-◌, max, ◌≡◌, refl, Bool, true, false, cond, List, [], ◌∷◌, ◌++◌, map, length, replicate}
use Rattle.std.proofs.Common.{sym, ap, ◌∙◌, append_assoc, arith, lt-ltb}
use Rattle.std.proofs.Math.Option.{Option, none, some}
use Rattle.std.proofs.Math.Dec.{eqb-suc-zero}
use Rattle.format.specs.Bytes.{same}
use Rattle.sharing.specs.Blocks.{need, extra, scatter, gather, are_all_right, seal}
use Rattle.format.specs.Laws.Bytes.{same_self, same_true}
use Rattle.format.specs.Laws.Outcomes.{by_test}
use Rattle.sharing.specs.Laws.Blocks.{scatter_cons, scatter_right, rest, rest_length, gather_scatter, no_true}
use Rattle.sharing.specs.Model.{after}
use Rattle.sharing.specs.Laws.Isolation.{not_some}
use Rattle.sharing.specs.Table.{Mark, mark, blank, rows_right, find, reach, taken, starts_free, first_run}
use Rattle.sharing.specs.Laws.Shelf.{gap, row, Shelf, size, spread, blocks_of, marks_of, taken_of, At, here, past, Split, first, behind, at_row}

-- n steps later
abbrev pub later : ℕ → Option ℕ → Option ℕ
later zero o = o
later (suc n) o = after (later n o)

pub later_some : (n : ℕ) (o : Option ℕ) {b : ℕ} → later n o ≡ some b → (d : ℕ) × (o ≡ some d) × (b ≡ n + d)
unfolding after
later_some zero o {b} e = (b, e, omega arith)
later_some (suc n) o e = on (later n o) (λ c. later_some n o {b = c}) e
  where
    on : (x : Option ℕ) {b : ℕ} → ((c : ℕ) → x ≡ some c → (d : ℕ) × (o ≡ some d) × (c ≡ n + d)) → after x ≡ some b → (d : ℕ) × (o ≡ some d) × (b ≡ suc n + d)
    on none r e = absurd (not_some e)
    on (some c) {b} r e = let z : suc c ≡ b = cc in let q = r c refl in (q.0, q.1, omega (arith, q.2))

pub later_none : (n : ℕ) (o : Option ℕ) → later n o ≡ none → o ≡ none
unfolding after
later_none zero o e = e
later_none (suc n) o e = on (later n o) (λ i. later_none n o i) e
  where
    on : (x : Option ℕ) → (x ≡ none → o ≡ none) → after x ≡ none → o ≡ none
    on none r e = r refl
    on (some c) r e = absurd (not_some (sym e))

-- Checks

rights_past : (k : ℕ) (ks : List (List ℕ)) (ms : List Mark) (bs : List (List ℕ)) → length ks ≡ k → rows_right (replicate k blank ++ ms) (ks ++ bs) ≡ rows_right ms bs
unfolding rows_right
rights_past zero [] ms bs e = refl
rights_past zero (x ∷ ks) ms bs e = absurd (omega arith)
rights_past (suc k) [] ms bs e = absurd (omega arith)
rights_past (suc k) (x ∷ ks) ms bs e = rights_past k ks ms bs (omega arith)

pub all_right : (sh : Shelf) (tail : List Mark) → rows_right (spread marks_of sh ++ tail) (spread blocks_of sh) ≡ true
unfolding rows_right
all_right [] [] = refl
all_right [] (m ∷ tail) = refl
all_right (gap b ∷ sh) tail = all_right sh tail
all_right (row p u ∷ sh) tail =
    let a : are_all_right (need (length p)) (seal p ∷ (rest p ++ spread blocks_of sh)) ≡ true = rw (scatter_cons p) at (scatter_right p (spread blocks_of sh)) in
    rw (scatter_cons p, append_assoc (replicate (extra (length p)) blank) (spread marks_of sh) tail) (rw (eqb-suc-zero u, a) (rights_past (extra (length p)) (rest p) (spread marks_of sh ++ tail) (spread blocks_of sh) (rest_length p) ∙ all_right sh tail))

-- Finding a payload

find_past : (q : List ℕ) (k : ℕ) (ks : List (List ℕ)) (ms : List Mark) (bs : List (List ℕ)) → length ks ≡ k → find q (replicate k blank ++ ms) (ks ++ bs) ≡ later k (find q ms bs)
unfolding find
find_past q zero [] ms bs e = refl
find_past q zero (x ∷ ks) ms bs e = absurd (omega arith)
find_past q (suc k) [] ms bs e = absurd (omega arith)
find_past q (suc k) (x ∷ ks) ms bs e = ap after (find_past q k ks ms bs (omega arith))

-- the walk at a row: the row's own payload is compared, and the walk goes on behind it
find_row : (q p : List ℕ) (u : ℕ) (ms : List Mark) (bs : List (List ℕ)) → find q (mark (suc u) (length p) ∷ (replicate (extra (length p)) blank ++ ms)) (scatter p ++ bs) ≡ cond (same p q) (some 0) (later (need (length p)) (find q ms bs))
unfolding find need
find_row q p u ms bs =
    let a : gather (length p) (seal p ∷ (rest p ++ bs)) ≡ p = rw (scatter_cons p) at (gather_scatter p bs) in
    rw (scatter_cons p) (rw (eqb-suc-zero u, a, find_past q (extra (length p)) (rest p) ms bs (rest_length p)))

marks_row : (p : List ℕ) (u : ℕ) (sh : Shelf) (tail : List Mark) → spread marks_of (row p u ∷ sh) ++ tail ≡ mark (suc u) (length p) ∷ (replicate (extra (length p)) blank ++ (spread marks_of sh ++ tail))
marks_row p u sh tail = ap (λ (l : List Mark). mark (suc u) (length p) ∷ l) (append_assoc (replicate (extra (length p)) blank) (spread marks_of sh) tail)

pub find_some : (q : List ℕ) (sh : Shelf) (tail : List Mark) {b : ℕ} → find q (spread marks_of sh ++ tail) (spread blocks_of sh) ≡ some b → (u : ℕ) × At b q u sh
unfolding find
find_some q [] [] e = absurd (not_some e)
find_some q [] (m ∷ tail) e = absurd (not_some e)
find_some q (gap k ∷ sh) tail e = let r = later_some 1 (find q (spread marks_of sh ++ tail) (spread blocks_of sh)) e in
    let i = find_some q sh tail r.1 in (i.0, past r.2 i.1)
find_some q (row p u ∷ sh) tail {b} e =
    let w : cond (same p q) (some 0) (later (need (length p)) (find q (spread marks_of sh ++ tail) (spread blocks_of sh))) ≡ some b = sym (find_row q p u (spread marks_of sh ++ tail) (spread blocks_of sh)) ∙ ap (λ (l : List Mark). find q l (scatter p ++ spread blocks_of sh)) (sym (marks_row p u sh tail)) ∙ e in
    by_test (same p q)
    (λ t. let z : some 0 ≡ some b = rw t at w in let y : b ≡ 0 = cc in (u, rw (← same_true p q t) (here y)))
    (λ t. let r = later_some (need (length p)) (find q (spread marks_of sh ++ tail) (spread blocks_of sh)) (rw t at w) in
    let i = find_some q sh tail r.1 in (i.0, past r.2 i.1))

pub find_none : (q : List ℕ) (sh : Shelf) (tail : List Mark) {b u : ℕ} → find q (spread marks_of sh ++ tail) (spread blocks_of sh) ≡ none → At b q u sh → ⊥
unfolding find
find_none q [] tail e a = elim a [ ]
find_none q (gap k ∷ sh) tail e (past i a) = find_none q sh tail (later_none 1 (find q (spread marks_of sh ++ tail) (spread blocks_of sh)) e) a
find_none q (row p u ∷ sh) tail e a = on (sym (find_row q p u (spread marks_of sh ++ tail) (spread blocks_of sh)) ∙ ap (λ (l : List Mark). find q l (scatter p ++ spread blocks_of sh)) (sym (marks_row p u sh tail)) ∙ e) (at_row a) (λ i d v c. find_none q sh tail {b = d} {u = v} i c)
  where
    on : {b v : ℕ} → cond (same p q) (some 0) (later (need (length p)) (find q (spread marks_of sh ++ tail) (spread blocks_of sh))) ≡ none → Split b q v p u sh → (find q (spread marks_of sh ++ tail) (spread blocks_of sh) ≡ none → (d w : ℕ) → At d q w sh → ⊥) → ⊥
    on w (first i j k) r = let z : same p q ≡ true = rw j (same_self q) in not_some (sym (rw z at w))
    on {v = v} w (behind d i c) r = by_test (same p q) (λ t. not_some (sym (rw t at w))) (λ t. r (later_none (need (length p)) (find q (spread marks_of sh ++ tail) (spread blocks_of sh)) (rw t at w)) d v c)

-- The free blocks

taken_past : (k : ℕ) (ks : List (List ℕ)) (ms : List Mark) (bs : List (List ℕ)) → length ks ≡ k → taken k (replicate k blank ++ ms) (ks ++ bs) ≡ replicate k true ++ taken 0 ms bs
unfolding taken reach
taken_past zero [] ms bs e = refl
taken_past zero (x ∷ ks) ms bs e = absurd (omega arith)
taken_past (suc k) [] ms bs e = absurd (omega arith)
taken_past (suc k) (x ∷ ks) ms bs e = let z : max (suc k) 0 ≡ suc k = omega arith in rw (z, lt-ltb 0 (suc k) (omega arith), taken_past k ks ms bs (omega arith))

taken_row : (p : List ℕ) (u : ℕ) (ms : List Mark) (bs : List (List ℕ)) → taken 0 (mark (suc u) (length p) ∷ (replicate (extra (length p)) blank ++ ms)) (scatter p ++ bs) ≡ replicate (need (length p)) true ++ taken 0 ms bs
unfolding taken reach need
taken_row p u ms bs =
    let z : max 0 (suc (extra (length p))) ≡ suc (extra (length p)) = omega arith in
    rw (scatter_cons p) (rw (eqb-suc-zero u, z, lt-ltb 0 (suc (extra (length p))) (omega arith), taken_past (extra (length p)) (rest p) ms bs (rest_length p)))

pub taken_is : (sh : Shelf) (tail : List Mark) → taken 0 (spread marks_of sh ++ tail) (spread blocks_of sh) ≡ spread taken_of sh
unfolding taken reach
taken_is [] [] = refl
taken_is [] (m ∷ tail) = refl
taken_is (gap b ∷ sh) tail = ap (λ (l : List Bool). false ∷ l) (taken_is sh tail)
taken_is (row p u ∷ sh) tail =
    ap (λ (l : List Mark). taken 0 l (scatter p ++ spread blocks_of sh)) (marks_row p u sh tail)
    ∙ taken_row p u (spread marks_of sh ++ tail) (spread blocks_of sh)
    ∙ ap (λ (l : List Bool). replicate (need (length p)) true ++ l) (taken_is sh tail)

-- k gaps in a row, between what stands before and behind them
pub record Run (k b : ℕ) (sh : Shelf) : Type 0 where
  pub before : Shelf
  pub free : List (List ℕ)
  pub after : Shelf
  pub whole : sh ≡ before ++ (map gap free ++ after)
  pub count : length free ≡ k
  pub place : b ≡ size before

free_start : (k : ℕ) (sh : Shelf) → starts_free k (spread taken_of sh) ≡ true → (free : List (List ℕ)) × ((after : Shelf) × (sh ≡ map gap free ++ after) × (length free ≡ k))
unfolding starts_free
free_start zero sh e = ([], (sh, refl, refl))
free_start (suc k) [] e = absurd (no_true e)
free_start (suc k) (gap b ∷ sh) e = let r = free_start k sh e in (b ∷ r.0, (r.1.0, ap (λ (l : Shelf). gap b ∷ l) r.1.1, ap suc r.1.2))
free_start (suc k) (row p u ∷ sh) e = absurd (no_true (unfold need in e))

pub run_past : (k n : ℕ) (ts : List Bool) → first_run (suc k) (replicate n true ++ ts) ≡ later n (first_run (suc k) ts)
unfolding first_run starts_free
run_past k zero ts = refl
run_past k (suc n) ts = ap after (run_past k n ts)

pub run_some : (k : ℕ) (sh : Shelf) {b : ℕ} → first_run (suc k) (spread taken_of sh) ≡ some b → Run (suc k) b sh
unfolding first_run
run_some k [] e = absurd (not_some e)
run_some k (gap x ∷ sh) {b} e = by_test (starts_free (suc k) (false ∷ spread taken_of sh))
    (λ t. let r = free_start (suc k) (gap x ∷ sh) t in let z : some 0 ≡ some b = rw t at e in let y : b ≡ 0 = cc in
    record { before = []; free = r.0; after = r.1.0; whole = r.1.1; count = r.1.2; place = y })
    (λ t. let q = later_some 1 (first_run (suc k) (spread taken_of sh)) (rw t at e) in let r = run_some k sh q.1 in
    record { before = gap x ∷ r.before; free = r.free; after = r.after; whole = ap (λ (l : Shelf). gap x ∷ l) r.whole; count = r.count; place = omega (arith, r.place, q.2) })
run_some k (row p u ∷ sh) {b} e =
    let q = later_some (need (length p)) (first_run (suc k) (spread taken_of sh)) (sym (run_past k (need (length p)) (spread taken_of sh)) ∙ e) in let r = run_some k sh q.1 in
    record { before = row p u ∷ r.before; free = r.free; after = r.after; whole = ap (λ (l : Shelf). row p u ∷ l) r.whole; count = r.count; place = omega (arith, r.place, q.2) }
