-- Promises and the wrong programs that they rule out. A promise is a relation between what is lent and what comes back, an output's bytes before and after the call included. A wrong program is told by what it answers whatever is lent. Assumes nothing.
use Rattle.std.specs.Prelude.{ℕ, Bool, true, false, List, [], ◌∷◌, map, ◌≡◌}
use Rattle.std.proofs.Math.Option.{Option, none, some}
use Rattle.std.proofs.Common.{sym, ap, subst, ◌∙◌, arith}
use Rattle.format.specs.Reading.{Judged, accepted, refused}
use Rattle.format.specs.Laws.Options.{not_some, some_is}
use Rattle.format.specs.Laws.Outcomes.{by_test}

-- There is something to lend for which no result that meets the promise is what the wrong program answers. That some result meets it there is shown by the call, which is proved to
pub record RuledOut {Lent Result : Type 0} (promise wrong : Lent → Result → Type 0) : Type 0 where
  pub input : Lent
  pub otherwise : (r : Result) → promise input r → wrong input r → ⊥

-- so no program that meets the promise is the wrong one
pub no_such_program : {Lent Result : Type 0} {promise wrong : Lent → Result → Type 0} → RuledOut promise wrong → (program : Lent → Result) → ((x : Lent) → promise x (program x)) → ((x : Lent) → wrong x (program x)) → ⊥
no_such_program out program meets is_wrong = out.otherwise (program out.input) (meets out.input) (is_wrong out.input)

-- What a wrong program answers, whatever is lent
abbrev pub Refuses : {B : Type 0} → Judged B → Type 0
Refuses (accepted v) = ⊥
Refuses (refused n at) = Unit {0}

abbrev pub Accepts : {B : Type 0} → Judged B → Type 0
Accepts (accepted v) = Unit {0}
Accepts (refused n at) = ⊥

-- none, or a refusal
abbrev pub NeverFinds : {A : Type 0} → Judged (Option A) → Type 0
NeverFinds (accepted none) = Unit {0}
NeverFinds (accepted (some v)) = ⊥
NeverFinds (refused n at) = Unit {0}

-- one value, or never that value, wherever there is one
abbrev pub Never : {C : Type 0} → C → Option C → Type 0
Never c none = Unit {0}
Never c (some k) = k ≡ c → ⊥

abbrev pub Always : {C : Type 0} → C → Option C → Type 0
Always c none = Unit {0}
Always c (some k) = k ≡ c

-- the offset of a refusal, what is accepted, what is found
abbrev pub offset_in : {B : Type 0} → Judged B → Option ℕ
offset_in (accepted v) = none
offset_in (refused n at) = some at

abbrev pub accepted_in : {B : Type 0} → Judged B → Option B
accepted_in (accepted v) = some v
accepted_in (refused n at) = none

abbrev pub found_in : {A : Type 0} → Judged (Option A) → Option A
found_in (accepted found) = found
found_in (refused n at) = none

-- What a result says where it meets the promise
module _ {Lent Result B : Type 0} (promise : Lent → Result → Type 0) (says : Result → B) where
  abbrev pub Tells : (Lent → B) → Type 0
  Tells wanted = (x : Lent) (r : Result) → promise x r → says r ≡ wanted x

-- An input and what is found, or refused, there
pub record Finding (Lent A : Type 0) : Type 0 where
  pub input : Lent
  pub found : A

pub record Refusing (Lent : Type 0) : Type 0 where
  pub input : Lent
  pub number : ℕ
  pub offset : ℕ

abbrev pub finds : {Lent A : Type 0} → Lent → A → Finding Lent A
finds x v = record { input = x; found = v }

abbrev pub refuses : {Lent : Type 0} → Lent → ℕ → ℕ → Refusing Lent
refuses x n at = record { input = x; number = n; offset = at }

-- A table: for each input, what every result says that meets the promise there
infixl 90 ◌demands◌
pub record Row (Lent B : Type 0) : Type 0 where
  pub input : Lent
  pub verdict : B

abbrev pub ◌demands◌ : {Lent B : Type 0} → Lent → B → Row Lent B
◌demands◌ x v = record { input = x; verdict = v }

module _ {Lent Result B : Type 0} (promise : Lent → Result → Type 0) (says : Result → B) where
  pub data Demanded : List (Row Lent B) → Type 0 where
    no_more : Demanded []
    and_row : {row : Row Lent B} {rows : List (Row Lent B)} → ((r : Result) → promise row.input r → says r ≡ row.verdict) → Demanded rows → Demanded (row ∷ rows)

-- THE LAWS

pub not_both : true ≡ false → ⊥
not_both e = let z : ◌≡◌ {A = ℕ} 0 1 = cc in omega arith

module _ {Lent Result B : Type 0} {promise : Lent → Result → Type 0} {says : Result → B} {wanted : Lent → B} (tells : Tells promise says wanted) where
  -- at one input it is otherwise
  pub by_input : (Wrong : B → Type 0) (x : Lent) → (Wrong (wanted x) → ⊥) → RuledOut promise (λ _ r. Wrong (says r))
  by_input Wrong x not_so = record { input = x; otherwise = λ r meets is_wrong. not_so (subst Wrong (tells x r meets) is_wrong) }

  -- two inputs demand different things, so that no one thing meets the promise
  module _ {C : Type 0} (key : B → Option C) (test : C → Bool) where
    apart : (o : Option C) {k : C} (c : C) → o ≡ some k → (test k ≡ test c → ⊥) → Always c o → ⊥
    apart none c e no_way is = absurd (not_some e)
    apart (some l) c e no_way is = no_way (ap test (sym (some_is e) ∙ is))

    pub by_two_inputs : (x y : Lent) {k l : C} → key (wanted x) ≡ some k → key (wanted y) ≡ some l → test k ≡ true → test l ≡ false → (c : C) → RuledOut promise (λ _ r. Always c (key (says r)))
    by_two_inputs x y e e' here there c =
        by_test (test c)
        (λ t. by_input (λ b. Always c (key b)) y (apart (key (wanted y)) c e' (λ h. not_both (sym t ∙ sym h ∙ there))))
        (λ t. by_input (λ b. Always c (key b)) x (apart (key (wanted x)) c e (λ h. not_both (sym here ∙ h ∙ t))))

  pub by_table : (rows : List (Row Lent B)) → map (λ row. wanted row.input) rows ≡ map (λ row. row.verdict) rows → Demanded promise says rows
  by_table [] e = no_more
  by_table (row ∷ rows) e = and_row {row = row} (λ r meets. tells row.input r meets ∙ cc) (by_table rows cc)
