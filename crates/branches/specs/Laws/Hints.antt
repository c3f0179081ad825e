-- The hints of an accepted payload are read again with their places: the same functions and offsets, both rising.
use Prim.Native.Nat.{ℕ, zero, suc, ◌≤◌}
use mathlib.Core.List.{List, [], ◌∷◌}
use Rattle.std.specs.Prelude.{◌≡◌, refl}
use Rattle.std.proofs.Math.Path.{ap₂}
use Rattle.std.proofs.Common.{◌∙◌}
use Rattle.format.specs.Metadata.{hint_item, metadata, judge_metadata}
use Rattle.format.specs.Older.{times, vector}
use Rattle.format.specs.Parts.{Part, sized}
use Rattle.format.specs.Reading.{got, Reader, accepted}
use Rattle.format.specs.Tables.{Table, nil, row, rows, table}
use Rattle.format.specs.Laws.Laxer.{hint_laxer}
use Rattle.format.specs.Laws.Outcomes.{got_value, got_next, got_rest, in_turn, ended, judged}
use Rattle.format.specs.Laws.Turns.{in_row, in_table}
use Rattle.branches.specs.Hints.{Placed, placed_row, placed_rows, Hints, function_hints, all_hints}

-- the same rows without their places
unfoldable pub unplaced : {A B : Type 0} → (A → B) → List (Placed A) → Table B
unplaced f [] = nil
unplaced f (p ∷ ps) = row p.number (f p.value) (unplaced f ps)

-- numbers from `least` on, each above the one before, with values that are so
pub data Rising {A : Type 0} (P : A → Type 0) : ℕ → List (Placed A) → Type 0 where
  no_row : {least : ℕ} → Rising P least []
  a_row : {least : ℕ} {p : Placed A} {ps : List (Placed A)} → least ≤ p.number → P p.value → Rising P (suc p.number) ps → Rising P least (p ∷ ps)

-- what a judging reader accepts, another reads with places
record Places {A B : Type 0} (judging : Reader B) (placing : Reader A) (f : A → B) (P : A → Type 0) : Type 0 where
  places : (o : ℕ) (bs : List ℕ) {v : B} {o' : ℕ} {rest : List ℕ} → judging o bs ≡ got v o' rest → (w : A) × (placing o bs ≡ got w o' rest) × (f w ≡ v) × P w

module _ {A B : Type 0} {judging : Reader B} {placing : Reader A} {f : A → B} {P : A → Type 0} (l : Places judging placing f P) where
  rows_placed : (n least o : ℕ) (bs : List ℕ) {t : Table B} {o' : ℕ} {rest : List ℕ} → rows judging n least o bs ≡ got t o' rest → (ps : List (Placed A)) × (times (placed_row placing) n o bs ≡ got ps o' rest) × (unplaced f ps ≡ t) × Rising P least ps
  unfolding rows times placed_row unplaced
  rows_placed zero least o bs e = ([], ap₂ (λ x y. got [] x y) (got_next e) (got_rest e), got_value e, no_row)
  rows_placed (suc n) least o bs e =
      in_row judging n least o bs e λ k o₁ r₁ v o₂ r₂ more e₁ above e₂ e₃ is.
      let (w, reads, same, so) = l.places o₁ r₁ e₂ in
      let (ps, others, like, rise) = rows_placed n (suc k) o₂ r₂ e₃ in
      let p : Placed A = record { at = o; number = k; value = w } in
      (p ∷ ps, rw (e₁, reads, others), ap₂ (λ x y. row k x y) same like ∙ is, a_row {p = p} above so rise)

  table_placed : Places (table judging) (placed_rows placing) (unplaced f) (Rising P 0)
  unfolding placed_rows vector
  table_placed = record {
    places = λ o bs e. in_table judging o bs e λ n o₁ r₁ e₁ e₂.
        let (ps, reads, like, rise) = rows_placed n 0 o₁ r₁ e₂ in
        (ps, rw (e₁, reads), like, rise);
  }

hints_placed : Places hint_item sized (λ p. p) (λ _. Unit {0})
hints_placed = record { places = λ o bs e. (_, hint_laxer.reads o bs _ _ _ e, refl, tt) }

-- the functions of a payload rise, and so do the offsets of each function's hints
abbrev pub RisingHints : ℕ → Hints → Type 0
RisingHints = Rising (λ _. Unit {0})

abbrev pub RisingFunctions : ℕ → List (Placed Hints) → Type 0
RisingFunctions = Rising (RisingHints 0)

pub record ReadAgain (o : ℕ) (bs : List ℕ) (t : Table (Table Part)) : Type 0 where
  pub functions : List (Placed Hints)
  pub end : ℕ
  pub reads : all_hints o bs ≡ got functions end []
  pub same : unplaced (unplaced (λ p. p)) functions ≡ t
  pub rising : RisingFunctions 0 functions

pub read_again : (o : ℕ) (bs : List ℕ) {t : Table (Table Part)} → judge_metadata hint_item o bs ≡ accepted t → ReadAgain o bs t
unfolding judge_metadata metadata all_hints function_hints placed_rows
read_again o bs e =
    judged (metadata hint_item o bs) e λ o₀ rest e₀. in_turn (table (table hint_item) o bs) _ e₀ λ t o₁ r₁ e₁ e₂. ended t o₁ r₁ e₂ λ n q.
    let whole : table (table hint_item) o bs ≡ got t o₁ [] = rw n at e₁ in
    let (fs, reads, same, rise) = (table_placed (table_placed hints_placed)).places o bs whole in
    record { functions = fs; end = o₁; reads = reads; same = same ∙ q; rising = rise }
