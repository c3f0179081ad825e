-- A reader that is exact for a grammar: what it reads is what the grammar has a meaning for, with that meaning, and it reads whatever the grammar has one for. So meanings are unique.
use Rattle.std.specs.Prelude.{ℕ, ◌≤◌, List, [], ◌++◌, ◌≡◌, length}
use Rattle.std.proofs.Common.{append-nil, sym, ap, ◌∙◌, arith, length-append}
use Rattle.format.specs.Bytes.{Bytes}
use Rattle.format.specs.Laws.Tight.{bytes_before, bytes_after}
use Rattle.format.specs.Reading.{got, Reader, filling}
use Rattle.format.specs.Laws.Outcomes.{got_value, in_turn, ended}
use Rattle.grammar.specs.Numbers.{Grammar}

-- the bytes that were read, and what the grammar says they mean
pub record Stretch {A : Type 0} (grammar : Grammar A) (v : A) (rest bs : List ℕ) : Type 0 where
  pub front : List ℕ
  pub is : bs ≡ front ++ rest
  pub means : grammar front v

module _ {A : Type 0} {grammar : Grammar A} {v : A} {rest bs : List ℕ} (s : Stretch grammar v rest bs) where
  pub read_bytes : Bytes bs → Bytes s.front
  read_bytes h = bytes_before s.front rest (rw s.is at h)

  pub left_bytes : Bytes bs → Bytes rest
  left_bytes h = bytes_after s.front rest (rw s.is at h)

  pub no_longer : length rest ≤ length bs
  no_longer = omega (arith, ap length s.is, length-append s.front rest)

module _ {A B : Type 0} (read : Reader A) (plain : A → B) where
  pub record Accepts (front : List ℕ) (w : B) (o : ℕ) (rest : List ℕ) : Type 0 where
    pub value : A
    pub next : ℕ
    pub reads : read o (front ++ rest) ≡ got value next rest
    pub same : plain value ≡ w

  pub record Exact (grammar : Grammar B) : Type 0 where
    pub sound : (o : ℕ) (bs : List ℕ) {v : A} {o' : ℕ} {rest : List ℕ} → Bytes bs → read o bs ≡ got v o' rest → Stretch grammar (plain v) rest bs
    pub complete : {front : List ℕ} {w : B} → grammar front w → (o : ℕ) (rest : List ℕ) → Accepts front w o rest

module _ {A B : Type 0} {read : Reader A} {plain : A → B} {grammar : Grammar B} (exact : Exact read plain grammar) where
  pub one_meaning : {bs : List ℕ} {w w' : B} → grammar bs w → grammar bs w' → w ≡ w'
  one_meaning g g' =
      let a = exact.complete g 0 [] in
      let a' = exact.complete g' 0 [] in
      sym a.same ∙ ap plain (got_value (sym a.reads ∙ a'.reads)) ∙ a'.same

  -- and for another way of saying the grammar
  pub exact_for : {other : Grammar B} → ((bs : List ℕ) (w : B) → grammar bs w → other bs w) → ((bs : List ℕ) (w : B) → other bs w → grammar bs w) → Exact read plain other
  exact_for to from = record {
    sound = λ o bs h e. let s = exact.sound o bs h e in record { front = s.front; is = s.is; means = to s.front _ s.means };
    complete = λ g o rest. exact.complete (from _ _ g) o rest;
  }

  -- what fills a part
  pub fills_sound : (o : ℕ) (bs : List ℕ) {v : A} {o' : ℕ} {rest : List ℕ} → Bytes bs → filling read o bs ≡ got v o' rest → grammar bs (plain v)
  fills_sound o bs h e =
      in_turn (read o bs) _ e λ a o₁ r₁ e₁ e₂. ended a o₁ r₁ e₂ λ n q.
      let s = exact.sound o bs h (rw (n, q) at e₁) in
      let whole : bs ≡ s.front = s.is ∙ append-nil s.front in
      rw whole s.means

  pub fills_complete : {bs : List ℕ} {w : B} → grammar bs w → (o : ℕ) → (v : A) × (o' : ℕ) × (filling read o bs ≡ got v o' []) × (plain v ≡ w)
  fills_complete {bs} g o =
      let a = exact.complete g o [] in
      let e : read o bs ≡ got a.value a.next [] = rw append-nil at a.reads in
      (a.value, a.next, rw e, a.same)
