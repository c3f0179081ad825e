-- Laws for callers: what is read from inside stands there, and one value alone does.
use Prim.Native.Nat.{ℕ, suc}
use mathlib.Core.List.{List, ◌∷◌}
use mathlib.Core.Path.{◌≡◌, refl, sym, ◌∙◌}
use Rattle.format.specs.Reading.{got, Reader}
use Rattle.format.specs.Numbers.{number}
use Rattle.format.specs.Laws.Outcomes.{got_value, got_next}
use Rattle.format.proofs.Laws.Passing.{Passes}
use Rattle.reading.specs.Cursors.{Inside, left}
use Rattle.reading.specs.Standing.{Stands, TakesPart}
use Rattle.reading.specs.declared.Cursor.{Cursor}
use Rattle.reading.specs.declared.again.Number.{Number}
use Rattle.reading.specs.declared.again.Piece.{Piece}
use Rattle.reading.proofs.Laws.{reached}
use Rattle.reading.proofs.Same.{same_cursor, same_part}

-- a reader that goes byte by byte
abbrev pub Passable : {A : Type 0} → Reader A → Type 1
Passable read = (Holds : ℕ → List ℕ → Type 0) → ((o b : ℕ) (bs : List ℕ) → Holds o (b ∷ bs) → Holds (suc o) bs) → Passes Holds read

module _ {A : Type 0} {read : Reader A} {s : List ℕ} {c : Cursor} where
  -- what is read from inside stands there
  pub stand : Passable read → Inside s c → {v : A} {o : ℕ} {rest : List ℕ} → read c.at (left s c) ≡ got v o rest → Stands read s c v (record { at = o; end = c.end })
  stand passes i e =
      let r = reached passes i e in
      record { inside = i; reads = rw r.left_there at e; behind = record { ahead = r.inside; within = i.within }; same_end = refl }

  -- and there only one value can stand
  module _ {v v' : A} {next next' : Cursor} where
    pub one_value : Stands read s c v next → Stands read s c v' next' → v ≡ v'
    one_value a b = got_value (sym a.reads ∙ b.reads)

    pub one_end : Stands read s c v next → Stands read s c v' next' → next ≡ next'
    one_end a b = same_cursor next next' (got_next (sym a.reads ∙ b.reads)) (a.same_end ∙ sym b.same_end)

-- Two results that meet one promise are equal
pub number_here_same : {s : List ℕ} {c : Cursor} (r r' : Number) → Stands number s c r.value r.next → Stands number s c r'.value r'.next → r ≡ r'
number_here_same r r' p q = let value = one_value p q in let next = one_end p q in λ i. record { value = value i; next = next i }

pub part_here_same : {s : List ℕ} {c : Cursor} (r r' : Piece) → TakesPart s c r → TakesPart s c r' → r ≡ r'
part_here_same r r' p q =
    let part = same_part r.part r'.part p.in_part q.in_part (one_value p.stands q.stands) in
    let next = one_end p.stands q.stands in
    λ i. record { part = part i; next = next i }
