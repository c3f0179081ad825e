-- Rows that were accepted, with their places: the next one, and those behind it.
use Prim.Native.Nat.{ℕ, ◌-◌, ◌<◌}
use mathlib.Core.List.{List, ◌∷◌}
use mathlib.Core.Path.{◌≡◌, sym, ap, ◌∙◌}
use Rattle.format.specs.Numbers.{number}
use Rattle.format.specs.Older.{times, vector}
use Rattle.format.specs.Parts.{sized}
use Rattle.format.specs.Reading.{got, Reader}
use Rattle.format.specs.Laws.Outcomes.{got_value, got_next, got_rest, in_turn}
use Rattle.format.proofs.Laws.Passing.{number_passes, sized_passes}
use Rattle.reading.specs.Cursors.{left}
use Rattle.reading.specs.Standing.{Stands}
use Rattle.reading.specs.declared.Cursor.{Cursor}
use Rattle.reading.proofs.Standing.{Passable, stand}
use Rattle.older.proofs.ReadAgain.{times_passable, times_first, times_after}
use Rattle.branches.specs.Hints.{Placed, placed_row, placed_rows}

pub in_placed {ℓ} : {A : Type 0} {C : Type ℓ} (read : Reader A) (o : ℕ) (bs : List ℕ) {p : Placed A} {o' : ℕ} {rest : List ℕ} → placed_row read o bs ≡ got p o' rest
    → ((k o₁ : ℕ) (r₁ : List ℕ) (v : A) → number o bs ≡ got k o₁ r₁ → read o₁ r₁ ≡ got v o' rest → record { at = o; number = k; value = v } ≡ p → C) → C
unfolding placed_row
in_placed read o bs e k =
    in_turn (number o bs) _ e λ n o₁ r₁ e₁ e₂. in_turn (read o₁ r₁) _ e₂ λ v o₂ r₂ e₃ e₄.
    k n o₁ r₁ v e₁ (rw (got_next e₄, got_rest e₄) at e₃) (got_value e₄)

-- each goes byte by byte
pub number_passable : Passable number
number_passable = number_passes

pub sized_passable : Passable sized
sized_passable = sized_passes

pub placed_passable : {A : Type 0} {read : Reader A} → Passable read → Passable (placed_row read)
placed_passable {read = read} passes H step o bs p o' rest holds e =
    in_placed read o bs e λ k o₁ r₁ v e₁ e₂ is.
    passes H step o₁ r₁ v o' rest (number_passes H step o bs k o₁ r₁ holds e₁) e₂

pub rows_passable : {A : Type 0} {read : Reader A} → Passable read → Passable (placed_rows read)
unfolding placed_rows vector
rows_passable {read = read} passes H step o bs ps o' rest holds e =
    in_turn (number o bs) _ e λ n o₁ r₁ e₁ e₂.
    times_passable (placed_passable passes) n H step o₁ r₁ ps o' rest (number_passes H step o bs n o₁ r₁ holds e₁) e₂

-- the next of the rows to come: its number, and its value behind that
pub record NextRow {A : Type 0} (read : Reader A) (s : List ℕ) (next : Cursor) (more : ℕ) (to_come_lem : List (Placed A)) (last : Cursor) : Type 0 where
  pub first : ℕ
  pub value : A
  pub others : List (Placed A)
  pub middle : Cursor
  pub behind : Cursor
  pub index : Stands number s next first middle
  pub content : Stands read s middle value behind
  pub rest : Stands (times (placed_row read) (more - 1)) s behind others last
  pub is : to_come_lem ≡ record { at = next.at; number = first; value = value } ∷ others

pub next_row : {A : Type 0} {read : Reader A} → Passable read → {s : List ℕ} {next : Cursor} (more : ℕ) {to_come_lem : List (Placed A)} {last : Cursor} → 0 < more → Stands (times (placed_row read) more) s next to_come_lem last → NextRow read s next more to_come_lem last
next_row {read = read} passes {s} {next} more h w =
    let known = times_first (placed_row read) (placed_passable passes) more h w in
    let after = times_after (placed_row read) more h w known.stands in
    in_placed read next.at (left s next) known.stands.reads λ k o₁ r₁ v e₁ e₂ is.
    let index = stand number_passable w.inside e₁ in
    let same = sym e₁ ∙ index.reads in
    let middle : Cursor = record { at = o₁; end = next.end } in
    let value : read o₁ (left s middle) ≡ got v known.next.at (left s known.next) = rw (got_rest same) at e₂ in
    record {
      first = k;
      value = v;
      others = after.more;
      middle = middle;
      behind = known.next;
      index = index;
      content = record { inside = index.behind; reads = value; behind = known.stands.behind; same_end = known.stands.same_end };
      rest = after.stands;
      is = sym after.is ∙ ap (λ p. p ∷ after.more) (sym is);
    }
