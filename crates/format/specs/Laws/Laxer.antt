-- A reader that checks less reads the same where the one that checks more was content: what was accepted may be read again without its checks.
use Prim.Native.Nat.{ℕ, zero, suc}
use Rattle.std.specs.Prelude.{List, [], ◌≡◌}
use borrow.Author.Tests.{le-leb}
use Rattle.format.specs.Reading.{got, Reader, filling}
use Rattle.format.specs.Parts.{sized, name}
use Rattle.format.specs.Tables.{Table, rows, table}
use Rattle.format.specs.Text.{utf8}
use Rattle.format.specs.Options.{is_some}
use Rattle.format.specs.Metadata.{hint_of, any_item, hint_item}
use Rattle.format.specs.Laws.Outcomes.{in_turn, ended}
use Rattle.format.specs.Laws.Turns.{in_tested, in_row, in_table}
use Rattle.format.specs.declared.Reason.TheVariants.{NotText, NotHint}

pub record Laxer {A : Type 0} (strict lax : Reader A) : Type 0 where
  pub reads : (o : ℕ) (bs : List ℕ) (v : A) (o' : ℕ) (rest : List ℕ) → strict o bs ≡ got v o' rest → lax o bs ≡ got v o' rest

pub name_laxer : Laxer name sized
unfolding name
name_laxer = record { reads = λ o bs v o' rest e. in_tested utf8 NotText (λ o p. p.at) o bs e λ e₁ t. e₁ }

pub any_laxer : Laxer any_item sized
unfolding any_item
any_laxer = record { reads = λ o bs v o' rest e. e }

pub hint_laxer : Laxer hint_item sized
unfolding hint_item
hint_laxer = record { reads = λ o bs v o' rest e. in_tested (λ x. is_some (hint_of x)) NotHint (λ o p. o) o bs e λ e₁ t. e₁ }

module _ {A : Type 0} {strict lax : Reader A} (l : Laxer strict lax) where
  rows_laxer : (n least o : ℕ) (bs : List ℕ) (t : Table A) (o' : ℕ) (rest : List ℕ) → rows strict n least o bs ≡ got t o' rest → rows lax n least o bs ≡ got t o' rest
  unfolding rows
  rows_laxer zero least o bs t o' rest e = e
  rows_laxer (suc n) least o bs t o' rest e =
      in_row strict n least o bs e λ k o₁ r₁ v o₂ r₂ more e₁ above e₂ e₃ is.
      rw (e₁, le-leb least k above, l.reads o₁ r₁ v o₂ r₂ e₂, rows_laxer n (suc k) o₂ r₂ more o' rest e₃, is)

  pub table_laxer : Laxer (table strict) (table lax)
  unfolding table
  table_laxer = record { reads = λ o bs t o' rest e. in_table strict o bs e λ n o₁ r₁ e₁ e₂. rw (e₁, rows_laxer n 0 o₁ r₁ t o' rest e₂) }

  -- and what fills its part is read to the end
  pub filled_laxer : (o : ℕ) (bs : List ℕ) {v : A} {o' : ℕ} {rest : List ℕ} → filling strict o bs ≡ got v o' rest → (o₁ : ℕ) × (lax o bs ≡ got v o₁ [])
  filled_laxer o bs e = in_turn (strict o bs) _ e λ a o₁ r₁ e₁ e₂. ended a o₁ r₁ e₂ λ n q. (o₁, l.reads o bs _ o₁ [] (rw (n, q) at e₁))
