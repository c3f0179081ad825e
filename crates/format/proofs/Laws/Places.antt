-- Every part that a reading gives lies where it says in what was lent.
use Prim.Native.Nat.{ℕ, zero, suc, ◌+◌, ◌≤◌}
use Rattle.std.specs.Prelude.{Bool, List, [], ◌∷◌, ◌++◌, ◌≡◌, refl, eqb, length, take, drop}
use Rattle.std.proofs.Common.{append_assoc, append-nil, sym, arith, length-append, take-append-drop, take_at, drop_at}
use Rattle.std.proofs.Math.Option.{some}
use Rattle.std.proofs.Math.Seq.{slice, take-append-add, drop-append_seam}
use Rattle.format.specs.Reading.{got, Reader, filling}
use Rattle.format.specs.Text.{utf8}
use Rattle.format.specs.Options.{is_some}
use Rattle.format.specs.Parts.{Part, sized, name, remaining}
use Rattle.format.specs.Tables.{Table, nil, row, lookup, rows, table}
use Rattle.format.specs.Metadata.{hint_of, any_item, hint_item}
use Rattle.format.specs.Laws.Outcomes.{got_value, by_test, in_turn, ended}
use Rattle.format.specs.Laws.Options.{not_some, some_is}
use Rattle.format.specs.Laws.Turns.{in_sized, tested, in_tested, in_row, in_table}
use Rattle.format.proofs.Laws.Passing.{Passes, number_passes, sized_passes, tested_passes, table_passes}
use Rattle.format.specs.declared.Reason.{Reason}
use Rattle.format.specs.declared.Reason.TheVariants.{NotText, NotHint}

-- the bytes stand in the whole at an offset
pub record Lies (all : List ℕ) (o : ℕ) (bs : List ℕ) : Type 0 where
  pub before : List ℕ
  pub after : List ℕ
  pub joined : all ≡ before ++ (bs ++ after)
  pub far : length before ≡ o

-- so they are the whole's bytes from there on
pub lies_there : {all : List ℕ} {o : ℕ} {bs : List ℕ} → Lies all o bs → take (length bs) (drop o all) ≡ bs
lies_there {bs = bs} l = rw (l.joined, drop_at l.before (bs ++ l.after) _ l.far, take_at bs l.after _ refl)

pub lies_slice : {all : List ℕ} {o : ℕ} {bs : List ℕ} → Lies all o bs → slice o (o + length bs) all ≡ bs
lies_slice {o = o} {bs = bs} l = rw (l.joined, ← l.far, take-append-add l.before (bs ++ l.after) (length bs), take_at bs l.after _ refl, drop-append_seam l.before bs)

pub lies_inside : {all : List ℕ} {o : ℕ} {bs : List ℕ} → Lies all o bs → o + length bs ≤ length all
lies_inside l = rw l.joined (simp length-append (omega (arith, l.far)))

pub lies_all : (all : List ℕ) → Lies all 0 all
lies_all all = record { before = []; after = []; joined = sym (append-nil all); far = refl }

lies_take : {all : List ℕ} {o : ℕ} {bs : List ℕ} (n : ℕ) → Lies all o bs → Lies all o (take n bs)
lies_take {bs = bs} n l = record {
  before = l.before;
  after = drop n bs ++ l.after;
  far = l.far;
  joined = rw (← append_assoc (take n bs) (drop n bs) l.after, take-append-drop) l.joined;
}

pub lies_step : (all : List ℕ) (o b : ℕ) (bs : List ℕ) → Lies all o (b ∷ bs) → Lies all (suc o) bs
lies_step all o b bs l = record {
  before = l.before ++ (b ∷ []);
  after = l.after;
  far = rw length-append (omega (arith, l.far));
  joined = rw append_assoc l.joined;
}

abbrev pub PartIn : List ℕ → Part → Type 0
PartIn all p = Lies all p.at p.bytes

-- a reader whose values are located, as In says
pub record Located {A : Type 0} (read : Reader A) (In : List ℕ → A → Type 0) : Type 0 where
  pub value : (all : List ℕ) (o : ℕ) (bs : List ℕ) {v : A} {o' : ℕ} {rest : List ℕ} → Lies all o bs → read o bs ≡ got v o' rest → In all v
  pub after : (all : List ℕ) → Passes (Lies all) read

pub sized_located : Located sized PartIn
sized_located = record {
  value = λ all o bs l e.
      in_sized o bs e λ n o₁ r₁ e₁ fit part next left.
      rw (← part) (lies_take n (number_passes (Lies all) (lies_step all) o bs _ o₁ r₁ l e₁));
  after = λ all. sized_passes (Lies all) (lies_step all);
}

pub tested_located : (test : List ℕ → Bool) (why : Reason) (spot : ℕ → Part → ℕ) → Located (tested test why spot) PartIn
tested_located test why spot = record {
  value = λ all o bs l e. in_tested test why spot o bs e λ e₁ t. sized_located.value all o bs l e₁;
  after = λ all. tested_passes (Lies all) (lies_step all) test why spot;
}

pub name_located : Located name PartIn
unfolding name
name_located = tested_located utf8 NotText (λ o p. p.at)

pub any_located : Located any_item PartIn
unfolding any_item
any_located = sized_located

pub hint_located : Located hint_item PartIn
unfolding hint_item
hint_located = tested_located (λ x. is_some (hint_of x)) NotHint (λ o p. o)

pub remaining_in : (all : List ℕ) (o : ℕ) (bs : List ℕ) {p : Part} {o' : ℕ} {rest : List ℕ} → Lies all o bs → remaining o bs ≡ got p o' rest → PartIn all p
unfolding remaining
remaining_in all o bs l e = rw (← got_value e) l

-- each row of a table
pub data Rows {A : Type 0} (In : A → Type 0) : Table A → Type 0 where
  no_rows : Rows In nil
  one_row : {k : ℕ} {v : A} {t : Table A} → In v → Rows In t → Rows In (row k v t)

pub rows_found : {A : Type 0} {In : A → Type 0} {t : Table A} {v : A} (k : ℕ) → Rows In t → lookup k t ≡ some v → In v
unfolding lookup
rows_found k no_rows e = absurd (not_some e)
rows_found k (one_row {k = i} h r) e = by_test (eqb k i) (λ q. rw (← some_is (rw q at e)) h) (λ q. rows_found k r (rw q at e))

module _ {A : Type 0} {read : Reader A} {In : List ℕ → A → Type 0} (located : Located read In) where
  rows_in : (n least : ℕ) (all : List ℕ) (o : ℕ) (bs : List ℕ) {t : Table A} {o' : ℕ} {rest : List ℕ} → Lies all o bs → rows read n least o bs ≡ got t o' rest → Rows (In all) t
  unfolding rows
  rows_in zero least all o bs l e = rw (← got_value e) no_rows
  rows_in (suc n) least all o bs l e =
      in_row read n least o bs e λ k o₁ r₁ v o₂ r₂ more e₁ above e₂ e₃ is.
      let l₁ = number_passes (Lies all) (lies_step all) o bs _ o₁ r₁ l e₁ in
      rw (← is) (one_row (located.value all o₁ r₁ l₁ e₂) (rows_in n (suc k) all o₂ r₂ (located.after all o₁ r₁ v o₂ r₂ l₁ e₂) e₃))

  pub table_located : Located (table read) (λ all t. Rows (In all) t)
  table_located = record {
    value = λ all o bs l e. in_table read o bs e λ n o₁ r₁ e₁ e₂. rows_in n 0 all o₁ r₁ (number_passes (Lies all) (lies_step all) o bs _ o₁ r₁ l e₁) e₂;
    after = λ all. table_passes (Lies all) (lies_step all) read (located.after all);
  }

  pub filling_in : (all : List ℕ) (o : ℕ) (bs : List ℕ) {v : A} {o' : ℕ} {rest : List ℕ} → Lies all o bs → filling read o bs ≡ got v o' rest → In all v
  filling_in all o bs l e = in_turn (read o bs) _ e λ a o₁ r₁ e₁ e₂. ended a o₁ r₁ e₂ λ _ q. rw (← q) (located.value all o bs l e₁)
