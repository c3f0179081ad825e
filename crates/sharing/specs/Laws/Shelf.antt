-- A store in order: free blocks and rows, one behind the other. Rows can't overlap here, and their checks are right.
use Rattle.std.specs.Prelude.{ℕ, suc, ◌+◌, ◌<◌, ◌≡◌, refl, Bool, true, false, List, [], ◌∷◌, ◌++◌, ◌⊎◌, length, replicate}
use Rattle.std.proofs.Common.{sym, ap, ap₂, ◌∙◌, append_assoc, inl, inr, arith, length-append}
use Rattle.std.proofs.lemmas.List.{length-replicate}
use Rattle.sharing.specs.Blocks.{need, extra, scatter}
use Rattle.sharing.specs.Laws.Blocks.{scatter_length}
use Rattle.sharing.specs.Table.{Mark, mark, blank}

-- a free block with what it holds, or a payload with one user and this many more
pub data Piece : Type 0 where
  gap : (block : List ℕ) → Piece
  row : (payload : List ℕ) (more : ℕ) → Piece

abbrev pub Shelf : Type 0
Shelf = List Piece

abbrev pub width : Piece → ℕ
width (gap b) = 1
width (row p u) = need (length p)

abbrev pub size : Shelf → ℕ
size [] = 0
size (x ∷ sh) = width x + size sh

abbrev pub spread : {A : Type 0} → (Piece → List A) → Shelf → List A
spread f [] = []
spread f (x ∷ sh) = f x ++ spread f sh

abbrev pub blocks_of : Piece → List (List ℕ)
blocks_of (gap b) = b ∷ []
blocks_of (row p u) = scatter p

abbrev pub marks_of : Piece → List Mark
marks_of (gap b) = blank ∷ []
marks_of (row p u) = mark (suc u) (length p) ∷ replicate (extra (length p)) blank

abbrev pub taken_of : Piece → List Bool
taken_of (gap b) = false ∷ []
taken_of (row p u) = replicate (need (length p)) true

module _ {A : Type 0} (f : Piece → List A) where
  pub spread_append : (xs ys : Shelf) → spread f (xs ++ ys) ≡ spread f xs ++ spread f ys
  spread_append [] ys = refl
  spread_append (x ∷ xs) ys = ap (λ (l : List A). f x ++ l) (spread_append xs ys) ∙ sym (append_assoc (f x) (spread f xs) (spread f ys))

  pub spread_length : ((x : Piece) → length (f x) ≡ width x) → (xs : Shelf) → length (spread f xs) ≡ size xs
  spread_length e [] = refl
  spread_length e (x ∷ xs) = length-append (f x) (spread f xs) ∙ ap₂ ◌+◌ (e x) (spread_length e xs)

pub blocks_width : (x : Piece) → length (blocks_of x) ≡ width x
blocks_width (gap b) = refl
blocks_width (row p u) = scatter_length p

pub marks_width : (x : Piece) → length (marks_of x) ≡ width x
unfolding need
marks_width (gap b) = refl
marks_width (row p u) = ap suc (length-replicate (extra (length p)) blank)

pub taken_width : (x : Piece) → length (taken_of x) ≡ width x
taken_width (gap b) = refl
taken_width (row p u) = length-replicate (need (length p)) true

pub size_append : (xs ys : Shelf) → size (xs ++ ys) ≡ size xs + size ys
size_append [] ys = omega arith
size_append (x ∷ xs) ys = omega (arith, size_append xs ys)

pub width_pos : (x : Piece) → 0 < width x
unfolding need
width_pos (gap b) = omega arith
width_pos (row p u) = omega arith

-- A row with this payload and these users stands at a block

pub data At : ℕ → List ℕ → ℕ → Shelf → Type 0 where
  here : {b u : ℕ} {p : List ℕ} {sh : Shelf} → b ≡ 0 → At b p u (row p u ∷ sh)
  past : {b d u : ℕ} {p : List ℕ} {x : Piece} {sh : Shelf} → b ≡ width x + d → At d p u sh → At b p u (x ∷ sh)

pub at_below : {b u : ℕ} {p : List ℕ} {sh : Shelf} → At b p u sh → b < size sh
at_below (here {u = u} {p = p} e) = omega (arith, width_pos (row p u))
at_below (past {x = x} e a) = omega (arith, at_below a)

pub at_left : {b u : ℕ} {p : List ℕ} {xs : Shelf} (ys : Shelf) → At b p u xs → At b p u (xs ++ ys)
at_left ys (here e) = here e
at_left ys (past e a) = past e (at_left ys a)

pub at_right : {b d u : ℕ} {p : List ℕ} (xs : Shelf) {ys : Shelf} → b ≡ size xs + d → At d p u ys → At b p u (xs ++ ys)
at_right {b} {d} {u} {p} [] {ys} e a = let z : d ≡ b = omega arith in rw z at a
at_right {b} {d} (x ∷ xs) e a = past {b = b} {d = size xs + d} {x = x} (omega arith) (at_right {b = size xs + d} xs refl a)

pub record Behind (b : ℕ) (p : List ℕ) (u : ℕ) (xs ys : Shelf) : Type 0 where
  pub from : ℕ
  pub place : b ≡ size xs + from
  pub there : At from p u ys

pub at_append : {b u : ℕ} {p : List ℕ} (xs : Shelf) {ys : Shelf} → At b p u (xs ++ ys) → At b p u xs ⊎ Behind b p u xs ys
at_append {b} [] a = inr (record { from = b; place = omega arith; there = a })
at_append (x ∷ xs) (here e) = inl (here e)
at_append {b} {u} {p} (x ∷ xs) {ys} (past e a) = on e (at_append xs a)
  where
    on : {d : ℕ} → b ≡ width x + d → At d p u xs ⊎ Behind d p u xs ys → At b p u (x ∷ xs) ⊎ Behind b p u (x ∷ xs) ys
    on e (inl a) = inl (past e a)
    on e (inr r) = inr (record { from = r.from; place = omega (arith, r.place); there = r.there })

-- the place says which
pub at_payload : {b u v : ℕ} {p q : List ℕ} {sh : Shelf} → At b p u sh → At b q v sh → (p ≡ q) × (u ≡ v)
at_payload {sh = []} a c = elim a [ ]
at_payload {sh = row p u ∷ sh} (here e) (here f) = (refl, refl)
at_payload {sh = row p u ∷ sh} (here e) (past f c) = absurd (omega (arith, width_pos (row p u)))
at_payload {sh = row q v ∷ sh} (past e a) (here f) = absurd (omega (arith, width_pos (row q v)))
at_payload {b} {u} {v} {p} {q} {sh = x ∷ sh} (past {d = d} e a) (past {d = d'} f c) = let z : d ≡ d' = omega arith in at_payload (rw z at a) c

pub data Split (b : ℕ) (q : List ℕ) (v : ℕ) (p : List ℕ) (u : ℕ) (sh : Shelf) : Type 0 where
  first : b ≡ 0 → p ≡ q → u ≡ v → Split b q v p u sh
  behind : (d : ℕ) → b ≡ need (length p) + d → At d q v sh → Split b q v p u sh

pub at_row : {b v u : ℕ} {q p : List ℕ} {sh : Shelf} → At b q v (row p u ∷ sh) → Split b q v p u sh
at_row (here e) = first e refl refl
at_row (past {d = d} e a) = behind d e a

-- a row of the shelf, between what stands before and behind it
pub record Stood (b : ℕ) (p : List ℕ) (u : ℕ) (sh : Shelf) : Type 0 where
  pub before : Shelf
  pub after : Shelf
  pub whole : sh ≡ before ++ (row p u ∷ after)
  pub place : b ≡ size before

pub at_stood : {b u : ℕ} {p : List ℕ} {sh : Shelf} → At b p u sh → Stood b p u sh
at_stood (here {sh = sh} e) = record { before = []; after = sh; whole = refl; place = e }
at_stood (past {x = x} e a) = let r = at_stood a in record { before = x ∷ r.before; after = r.after; whole = ap (λ (l : Shelf). x ∷ l) r.whole; place = omega (arith, r.place) }
