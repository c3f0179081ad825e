-- The readers of code metadata and of hints stop exactly at their faults.
use Rattle.std.specs.Prelude.{ℕ, zero, suc, ◌+◌, false, List, [], ◌∷◌, ◌++◌, ◌≡◌, refl, length}
use Rattle.std.proofs.Common.{sym, add-zero, arith}
use Rattle.format.specs.Bytes.{Bytes}
use Rattle.format.specs.Reading.{stop, Reader}
use Rattle.format.specs.Options.{is_some}
use Rattle.format.specs.Parts.{Part}
use Rattle.format.specs.Metadata.{hint_of, any_item, hint_item, metadata}
use Rattle.format.specs.Laws.Outcomes.{false_true}
use Rattle.format.proofs.Laws.Passing.{tested_passes, Reaches, reach_step}
use Rattle.format.specs.declared.Reason.TheVariants.{NotHint}
use Rattle.grammar.specs.Numbers.{U32}
use Rattle.grammar.specs.Metadata.{Format, Item, Unknown, BranchHint}
use Rattle.grammar.specs.Faults.Numbers.{Faults}
use Rattle.grammar.specs.Faults.Metadata.{AnyItemFault, HintFault, in_the_size, other_size_lem, data_above_lem, MetadataFault}
use Rattle.grammar.proofs.Laws.Metadata.{any_exact, hint_exact}
use Rattle.grammar.specs.Laws.Faults.Stops.{Found, Stops, Reads}
use Rattle.grammar.proofs.Laws.Faults.Parts.{sized_reads, tested_stopped, tested_stops, filling_faults}
use Rattle.grammar.proofs.Laws.Faults.Lists.{table_reads}

pub any_reads : Reads any_item (λ p. p.bytes) (Item Unknown) AnyItemFault
unfolding any_item
any_reads = record { exact = any_exact; passes = sized_reads.passes; faults = sized_reads.faults }

-- a hint
not_a_hint : (size data' rest : List ℕ) → U32 size (length data') → is_some (hint_of data') ≡ false → HintFault (size ++ (data' ++ rest)) 12 0
unfolding hint_of
not_a_hint size [] rest u t = other_size_lem [] rest u (λ e. omega (arith, e))
not_a_hint size (zero ∷ []) rest u t = false_true (sym t)
not_a_hint size (suc zero ∷ []) rest u t = false_true (sym t)
not_a_hint size (suc (suc b) ∷ []) rest u t = data_above_lem {b = suc (suc b)} rest u (omega arith)
not_a_hint size (b ∷ c ∷ bs) rest u t = other_size_lem (b ∷ c ∷ bs) rest u (λ e. omega (arith, e))

other_size : (data' : List ℕ) → (length data' ≡ 1 → ⊥) → is_some (hint_of data') ≡ false
unfolding hint_of
other_size [] n = refl
other_size (b ∷ []) n = absurd (n refl)
other_size (b ∷ c ∷ bs) n = refl

data_above : (b : ℕ) → is_some (hint_of (suc (suc b) ∷ [])) ≡ false
unfolding hint_of
data_above b = refl

hint_stopped : (o : ℕ) (bs : List ℕ) {n k : ℕ} → Bytes bs → hint_item o bs ≡ stop n k → Found HintFault bs o n k
unfolding hint_item
hint_stopped o bs h e =
    tested_stopped (λ x. is_some (hint_of x)) NotHint (λ o p. o) o bs h e
    (λ f. record { place = f.place; is = f.is; fault = in_the_size f.fault })
    (λ p o₁ r₁ c t is at. rw (← is, c.is) (record { place = 0; is = omega arith; fault = not_a_hint c.size p.bytes r₁ c.means t }))

hint_stops : {bs : List ℕ} {n at : ℕ} → HintFault bs n at → (o : ℕ) → hint_item o bs ≡ stop n (o + at)
unfolding hint_item
hint_stops (in_the_size f) o = rw (sized_reads.faults.stops f o)
hint_stops (other_size_lem x rest u n) o = rw (add-zero o) (tested_stops (λ x. is_some (hint_of x)) NotHint (λ o p. o) u (other_size x n) o rest)
hint_stops (data_above_lem {b = zero} rest u l) o = absurd (omega arith)
hint_stops (data_above_lem {b = suc zero} rest u l) o = absurd (omega arith)
hint_stops (data_above_lem {b = suc (suc b)} rest u l) o = rw (add-zero o) (tested_stops (λ x. is_some (hint_of x)) NotHint (λ o p. o) {text = suc (suc b) ∷ []} u (data_above b) o rest)

pub hint_reads : Reads hint_item (λ p. p.bytes) (Item BranchHint) HintFault
unfolding hint_item
hint_reads = record {
  exact = hint_exact;
  passes = λ end. tested_passes (Reaches end) (reach_step end) (λ x. is_some (hint_of x)) NotHint (λ o p. o);
  faults = record { found = hint_stopped; stops = hint_stops };
}

module _ {item : Reader Part} {T : Format} {F : Faults} (r : Reads item (λ p. p.bytes) (Item T) F) where
  pub metadata_faults : Stops (metadata item) (MetadataFault T F)
  unfolding metadata
  metadata_faults = filling_faults (table_reads (table_reads r))
