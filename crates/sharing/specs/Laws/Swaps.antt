-- A part of a shelf exchanged for another of the same size: what stands elsewhere stays, and what the table and the store become.
use Rattle.std.specs.Prelude.{ℕ, suc, ◌+◌, ◌<◌, ◌≡◌, refl, List, [], ◌∷◌, ◌++◌, map, ◌⊎◌, ◌≢◌, length, get_or, set, take, drop, replicate}
use Rattle.std.proofs.Common.{sym, ap, ap₂, ◌∙◌, append_assoc, append-nil, inl, inr, arith, take_at, drop_at, drop-drop}
use Rattle.std.proofs.lemmas.List.{set_at, get_or_at}
use Rattle.sharing.specs.Blocks.{need, extra}
use Rattle.sharing.specs.Laws.Blocks.{Whole, none, more, whole_append}
use Rattle.sharing.specs.Table.{Mark, mark, blank, paste}
use Rattle.sharing.specs.Laws.Shelf.{Piece, gap, row, Shelf, size, spread, blocks_of, marks_of, spread_append, spread_length, blocks_width, marks_width, size_append, At, past, at_below, at_left, at_right, at_append, Behind, Split, first, behind, at_row}

abbrev pub between : Shelf → Shelf → Shelf → Shelf
between pre mid post = pre ++ (mid ++ post)

-- a row is in the part, or it stands whatever takes the part's place
pub data Where (b : ℕ) (p : List ℕ) (u : ℕ) (pre mid post : Shelf) : Type 0 where
  inside : (d : ℕ) → b ≡ size pre + d → At d p u mid → Where b p u pre mid post
  outside : b ≢ size pre → ((new : Shelf) → size new ≡ size mid → At b p u (between pre new post)) → Where b p u pre mid post

pub at_where : {b u : ℕ} {p : List ℕ} (pre mid post : Shelf) → 0 < size mid → At b p u (between pre mid post) → Where b p u pre mid post
at_where {b} {u} {p} pre mid post h a = one (at_append pre a)
  where
    two : (d : ℕ) → b ≡ size pre + d → At d p u mid ⊎ Behind d p u mid post → Where b p u pre mid post
    two d e (inl i) = inside d e i
    two d e (inr r) = outside (λ z. omega (arith, r.place)) (λ new s. at_right pre e (at_right new {ys = post} (r.place ∙ ap (λ (n : ℕ). n + r.from) (sym s)) r.there))

    one : At b p u pre ⊎ Behind b p u pre (mid ++ post) → Where b p u pre mid post
    one (inl i) = outside (λ z. omega (arith, at_below i)) (λ new s. at_left (new ++ post) i)
    one (inr r) = two r.from r.place (at_append mid r.there)

-- no row stands in gaps
pub at_gaps : {b u : ℕ} {p : List ℕ} (free : List (List ℕ)) → At b p u (map gap free) → ⊥
at_gaps [] a = omega (arith, at_below a)
at_gaps (x ∷ free) (past e a) = at_gaps free a

-- one row alone
pub at_one : {b v u : ℕ} {q p : List ℕ} → At b q v (row p u ∷ []) → (b ≡ 0) × (p ≡ q) × (u ≡ v)
at_one {b} {v} {u} {q} {p} a = one (at_row a)
  where
    one : Split b q v p u [] → (b ≡ 0) × (p ≡ q) × (u ≡ v)
    one (first i j k) = (i, j, k)
    one (behind d i c) = absurd (omega (arith, at_below c))

pub gaps_size : (free : List (List ℕ)) → size (map gap free) ≡ length free
gaps_size [] = refl
gaps_size (x ∷ free) = omega (arith, gaps_size free)

pub gaps_blocks : (free : List (List ℕ)) → spread blocks_of (map gap free) ≡ free
gaps_blocks [] = refl
gaps_blocks (x ∷ free) = ap (λ (l : List (List ℕ)). x ∷ l) (gaps_blocks free)

pub gaps_marks : (free : List (List ℕ)) → spread marks_of (map gap free) ≡ replicate (length free) blank
gaps_marks [] = refl
gaps_marks (x ∷ free) = ap (λ (l : List Mark). blank ∷ l) (gaps_marks free)

module _ {A : Type 0} (f : Piece → List A) where
  pub spread_between : (pre mid post : Shelf) → spread f (between pre mid post) ≡ spread f pre ++ (spread f mid ++ spread f post)
  spread_between pre mid post = spread_append f pre (mid ++ post) ∙ ap (λ (l : List A). spread f pre ++ l) (spread_append f mid post)

pub size_between : (pre mid post : Shelf) → size (between pre mid post) ≡ size pre + (size mid + size post)
size_between pre mid post = omega (arith, size_append pre (mid ++ post), size_append mid post)

-- Whole blocks

whole_left : (ks bs : List (List ℕ)) → Whole (ks ++ bs) → Whole ks
whole_left [] bs w = none
whole_left (k ∷ ks) bs (more e w) = more e (whole_left ks bs w)

whole_right : (ks bs : List (List ℕ)) → Whole (ks ++ bs) → Whole bs
whole_right [] bs w = w
whole_right (k ∷ ks) bs (more e w) = whole_right ks bs w

pub whole_between : (pre mid new post : Shelf) → Whole (spread blocks_of new) → Whole (spread blocks_of (between pre mid post)) → Whole (spread blocks_of (between pre new post))
whole_between pre mid new post n w =
    let v : Whole (spread blocks_of pre ++ (spread blocks_of mid ++ spread blocks_of post)) = rw (spread_between blocks_of pre mid post) at w in
    rw (spread_between blocks_of pre new post)
    (whole_append (whole_left (spread blocks_of pre) (spread blocks_of mid ++ spread blocks_of post) v)
    (whole_append n (whole_right (spread blocks_of mid) (spread blocks_of post) (whole_right (spread blocks_of pre) (spread blocks_of mid ++ spread blocks_of post) v))))

-- What the walks' places are for the table and the store

pre_marks : (pre : Shelf) → length (spread marks_of pre) ≡ size pre
pre_marks pre = spread_length marks_of marks_width pre

pre_blocks : (pre : Shelf) → length (spread blocks_of pre) ≡ size pre
pre_blocks pre = spread_length blocks_of blocks_width pre

-- the marks of a row in its place
pub marks_there : (pre post : Shelf) (p : List ℕ) (u : ℕ) (tail : List Mark) → spread marks_of (between pre (row p u ∷ []) post) ++ tail ≡ spread marks_of pre ++ (mark (suc u) (length p) ∷ (replicate (extra (length p)) blank ++ (spread marks_of post ++ tail)))
marks_there pre post p u tail =
    ap (λ (l : List Mark). l ++ tail) (spread_between marks_of pre (row p u ∷ []) post)
    ∙ append_assoc (spread marks_of pre) (spread marks_of (row p u ∷ []) ++ spread marks_of post) tail
    ∙ ap (λ (l : List Mark). spread marks_of pre ++ l) (append_assoc (spread marks_of (row p u ∷ [])) (spread marks_of post) tail
    ∙ ap (λ (l : List Mark). mark (suc u) (length p) ∷ (l ++ (spread marks_of post ++ tail))) (append-nil (replicate (extra (length p)) blank)))

-- the marks of gaps as many as a row takes
pub marks_free : (pre post : Shelf) (free : List (List ℕ)) (n : ℕ) (tail : List Mark) → length free ≡ need n → spread marks_of (between pre (map gap free) post) ++ tail ≡ spread marks_of pre ++ (blank ∷ (replicate (extra n) blank ++ (spread marks_of post ++ tail)))
unfolding need
marks_free pre post free n tail e =
    ap (λ (l : List Mark). l ++ tail) (spread_between marks_of pre (map gap free) post)
    ∙ append_assoc (spread marks_of pre) (spread marks_of (map gap free) ++ spread marks_of post) tail
    ∙ ap (λ (l : List Mark). spread marks_of pre ++ l) (append_assoc (spread marks_of (map gap free)) (spread marks_of post) tail
    ∙ ap (λ (l : List Mark). l ++ (spread marks_of post ++ tail)) (gaps_marks free ∙ ap (λ (k : ℕ). replicate k blank) e))

pub marks_set : (pre : Shelf) (x y : Mark) (l : List Mark) → set (spread marks_of pre ++ (x ∷ l)) (size pre) y ≡ spread marks_of pre ++ (y ∷ l)
marks_set pre x y l = set_at (spread marks_of pre) x l y (size pre) (pre_marks pre)

pub marks_get : (pre : Shelf) (x d : Mark) (l : List Mark) → get_or (spread marks_of pre ++ (x ∷ l)) (size pre) d ≡ x
marks_get pre x d l = get_or_at (spread marks_of pre) x l d (size pre) (pre_marks pre)

-- the blocks from a place on
pub blocks_from : (pre mid post : Shelf) → drop (size pre) (spread blocks_of (between pre mid post)) ≡ spread blocks_of mid ++ spread blocks_of post
blocks_from pre mid post = ap (drop (size pre)) (spread_between blocks_of pre mid post) ∙ drop_at (spread blocks_of pre) (spread blocks_of mid ++ spread blocks_of post) (size pre) (pre_blocks pre)

-- blocks written over others
pub paste_between : (pre mid new post : Shelf) → size new ≡ size mid → paste (size pre) (spread blocks_of new) (spread blocks_of (between pre mid post)) ≡ spread blocks_of (between pre new post)
unfolding paste
paste_between pre mid new post e =
    ap₂ (λ (x y : List (List ℕ)). x ++ (spread blocks_of new ++ y))
    (ap (take (size pre)) (spread_between blocks_of pre mid post) ∙ take_at (spread blocks_of pre) (spread blocks_of mid ++ spread blocks_of post) (size pre) (pre_blocks pre))
    (sym (drop-drop (length (spread blocks_of new)) (size pre) (spread blocks_of (between pre mid post))) ∙ ap (drop (length (spread blocks_of new))) (blocks_from pre mid post)
    ∙ drop_at (spread blocks_of mid) (spread blocks_of post) (length (spread blocks_of new)) (omega (arith, pre_blocks new, pre_blocks mid)))
    ∙ sym (spread_between blocks_of pre new post)
