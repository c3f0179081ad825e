-- The rows of the sections that are tracked: a section is called by a row's name exactly if that is its row.
use Rattle.std.specs.Prelude.{ℕ, zero, suc, ◌+◌, Bool, true, false, List, [], ◌∷◌, map, ◌≡◌, refl, get_or}
use Rattle.std.proofs.Math.Option.{Option, none, some}
use Rattle.std.proofs.Common.{sym, ap, ◌∙◌, add-zero, arith, eqb-true, eq-eqb}
use Rattle.std.proofs.Math.ListN.{get_elem?}
use Rattle.format.specs.Bytes.{ascii, same}
use Rattle.format.specs.Walk.{name_section, hint_section, Tracked, tracked, before_code, first_row, is_row}
use Rattle.format.specs.Laws.Bytes.{same_true, same_self}
use Rattle.format.specs.Laws.Options.{not_some, some_is}
use Rattle.format.specs.Laws.Outcomes.{by_test, false_true}
use Rattle.grammar.specs.Modules.{Custom, Section, Among, here, further, Called}
use Rattle.grammar.specs.Laws.Ranks.{all_differ, first_differs}

-- Called by a name, as a test
abbrev pub called_in : List ℕ → Option Custom → Bool
called_in x none = false
called_in x (some c) = same x c.name

is_called : (x : List ℕ) (c : Option Custom) → called_in x c ≡ true → (p : List ℕ) × (c ≡ some (record { name = x; payload = p }))
is_called x none e = false_true e
is_called x (some c) e = (c.payload, ap (λ y. some (record { name = y; payload = c.payload })) (sym (same_true x c.name e)))

pub to_called : (x : List ℕ) (s : Section) → called_in x s.custom ≡ true → Called x s
to_called x s e = let (p, q) = is_called x s.custom e in record { payload = p; is = q }

pub from_called : (x : List ℕ) (s : Section) → Called x s → called_in x s.custom ≡ true
from_called x s c = rw c.is (same_self x)

-- the row of a section
abbrev pub row_in : Option Custom → Option ℕ
row_in c = first_row 0 tracked (λ x. called_in x c)

-- WHAT STANDS IN A ROW
pub elem_among : {A : Type 0} (xs : List A) (i : ℕ) {x : A} → get_elem? xs i ≡ some x → Among x xs
elem_among [] i e = absurd (not_some e)
elem_among (y ∷ xs) zero e = rw (some_is e) here
elem_among (y ∷ xs) (suc i) e = further (elem_among xs i e)

flag_is : (ts : List Tracked) (i : ℕ) {t : Tracked} → get_elem? ts i ≡ some t → get_or (map (λ (t : Tracked). t.before_code) ts) i false ≡ t.before_code
flag_is [] i e = absurd (not_some e)
flag_is (u ∷ ts) zero e = ap (λ (t : Tracked). t.before_code) (some_is e)
flag_is (u ∷ ts) (suc i) e = flag_is ts i e

pub before_code_is : (row : ℕ) {t : Tracked} → get_elem? tracked row ≡ some t → before_code row ≡ t.before_code
before_code_is row e = flag_is tracked row e

-- FROM THE ROW TO THE NAME
found_from {ℓ} : {C : Type ℓ} (k : ℕ) (ts : List Tracked) (is_so : List ℕ → Bool) {row : ℕ} → first_row k ts is_so ≡ some row → ((d : ℕ) (t : Tracked) → row ≡ k + d → get_elem? ts d ≡ some t → is_so t.name ≡ true → C) → C
found_from k [] is_so e next = absurd (not_some e)
found_from k (t ∷ ts) is_so e next =
    by_test (is_so t.name)
    (λ b. next 0 t (sym (some_is (rw b at e)) ∙ sym (add-zero k)) refl b)
    (λ b. found_from (suc k) ts is_so (rw b at e) λ d u is there so. next (suc d) u (omega arith) there so)

pub in_row {ℓ} : {C : Type ℓ} (c : Option Custom) {row : ℕ} → row_in c ≡ some row → ((t : Tracked) → get_elem? tracked row ≡ some t → called_in t.name c ≡ true → C) → C
in_row c {row} e next =
    found_from 0 tracked (λ x. called_in x c) e λ d t is there so.
    let row_is : row ≡ d = omega arith in
    next t (rw row_is there) so

pub row_called : (c : Option Custom) {row : ℕ} {t : Tracked} → row_in c ≡ some row → get_elem? tracked row ≡ some t → called_in t.name c ≡ true
row_called c e there = in_row c e λ u there_u so. rw (some_is (sym there ∙ there_u)) so

-- FROM THE NAME TO THE ROW: no two rows have one name
abbrev alike : Tracked → Tracked → Bool
alike t u = same t.name u.name

row_from {ℓ} : {C : Type ℓ} (k : ℕ) (ts : List Tracked) {t : Tracked} → all_differ alike ts ≡ true → Among t ts → ((d : ℕ) → first_row k ts (λ x. same x t.name) ≡ some (k + d) → get_elem? ts d ≡ some t → C) → C
row_from k [] d a next = elim a [ ]
row_from k (u ∷ ts) {t} d here next = next 0 (rw (same_self t.name, add-zero)) refl
row_from k (u ∷ ts) {t} d (further a) next =
    first_differs alike u ts d λ differ rest.
    row_from (suc k) ts rest a λ i is there.
    let far : k + suc i ≡ suc k + i = omega arith in
    next (suc i) (rw (differ t a, far) is) there

names_differ : all_differ alike tracked ≡ true
unfolding same ascii name_section hint_section
names_differ = refl

pub row_of_lem {ℓ} : {C : Type ℓ} {t : Tracked} (s : Section) → Among t tracked → Called t.name s → ((row : ℕ) → row_in s.custom ≡ some row → get_elem? tracked row ≡ some t → C) → C
row_of_lem {t = t} s a c next =
    row_from 0 tracked names_differ a λ d is there.
    let zero_more : 0 + d ≡ d = omega arith in
    next d (rw c.is (is ∙ ap some zero_more)) there

-- which row it is
pub is_this_row : {r : Option ℕ} {row : ℕ} → r ≡ some row → is_row r row ≡ true
is_this_row {row = row} e = rw e (eq-eqb row row refl)

pub this_row_is : (r : Option ℕ) {row : ℕ} → is_row r row ≡ true → r ≡ some row
this_row_is none e = false_true e
this_row_is (some k) {row} e = ap some (eqb-true k row e)
