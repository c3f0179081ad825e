-- The walk's table of tracked sections, row by row: a section has the row of a name exactly where it is called so.
use Rattle.std.specs.Prelude.{ℕ, suc, ◌<◌, Bool, true, false, cond, ◌||◌, List, ◌≡◌, refl, eqb}
use Rattle.std.proofs.Math.Option.{Option, none, some}
use Rattle.std.proofs.Common.{sym, ◌∙◌, arith, ne_eqb}
use Rattle.std.proofs.Math.Path.{ap}
use Rattle.format.specs.Bytes.{ascii, same}
use Rattle.format.specs.Options.{map_some, or_else, is_some}
use Rattle.format.specs.Parts.{Part, place_of}
use Rattle.format.specs.Walk.{name_section, hint_section, older_hint_section, Custom, is_called, row_of, is_row, payload_of}
use Rattle.format.specs.Laws.Bytes.{same_true}
use Rattle.format.specs.Laws.Outcomes.{by_test}
use Rattle.format.specs.declared.Place.{Place}
use Rattle.stream.specs.Stream.{placed}
use Rattle.stream.specs.Laws.Naming.{row_named}

another : (row k : ℕ) → row < 3 → eqb row (suc (suc (suc k))) ≡ false
another row k h = ne_eqb row (suc (suc (suc k))) (λ e. absurd (omega arith))

module _ (bs : List ℕ) where
  row_name : is_row (row_named bs) 0 ≡ same name_section bs
  row_name =
      by_test (same name_section bs) (λ t. rw t) λ t. rw t
      (by_test (same hint_section bs) (λ u. rw u) λ u. rw u
      (by_test (same older_hint_section bs) (λ v. rw v) (λ v. rw v)))

  -- no bytes are two of the names
  row_hints : is_row (row_named bs) 1 ≡ same hint_section bs
  unfolding name_section hint_section ascii same
  row_hints =
      by_test (same hint_section bs) (λ u. rw (← same_true hint_section bs u)) λ u. rw u
      (by_test (same name_section bs) (λ t. rw t) λ t. rw t
      (by_test (same older_hint_section bs) (λ v. rw v) (λ v. rw v)))

  row_older : is_row (row_named bs) 2 ≡ same older_hint_section bs
  unfolding name_section hint_section ascii same
  row_older =
      by_test (same older_hint_section bs) (λ v. rw (← same_true older_hint_section bs v)) λ v. rw v
      (by_test (same name_section bs) (λ t. rw t) λ t. rw t
      (by_test (same hint_section bs) (λ u. rw u) (λ u. rw u)))

  -- the table ends
  row_beyond : (k : ℕ) → is_row (row_named bs) (suc (suc (suc k))) ≡ false
  row_beyond k =
      by_test (same name_section bs) (λ t. rw (t, another 0 k (omega arith))) λ t. rw t
      (by_test (same hint_section bs) (λ u. rw (u, another 1 k (omega arith))) λ u. rw u
      (by_test (same older_hint_section bs) (λ v. rw (v, another 2 k (omega arith))) (λ v. rw v)))

-- a place that was there before, or that of a payload
placed_so : (here : Bool) (p : Part) → map_some place_of (cond here (some p) none) ≡ cond here (some (place_of p)) none
placed_so true p = refl
placed_so false p = refl

so_there : (before : Option Place) (here : Bool) (p : Part) → is_some (or_else before (map_some place_of (cond here (some p) none))) ≡ (is_some before || here)
so_there (some q) here p = refl
so_there none true p = refl
so_there none false p = refl

-- the place that a section leaves for a name
abbrev pub leaves : (x : List ℕ) → Option Place → Option Custom → Option Place
leaves x before c = or_else before (map_some place_of (payload_of x c))

or_no : (b : Bool) → b ≡ (b || false)
or_no true = refl
or_no false = refl

stays : (before : Option Place) → is_some (or_else before none) ≡ (is_some before || false)
stays none = refl
stays (some p) = refl

module _ (before : Option Place) where
  pub name_there : (c : Option Custom) → is_some (leaves name_section before c) ≡ (is_some before || is_row (row_of c) 0)
  unfolding is_called payload_of
  name_there none = stays before
  name_there (some c) = so_there before (same name_section c.name.bytes) c.payload ∙ ap (λ b. is_some before || b) (sym (row_name c.name.bytes))

  pub hints_there : (c : Option Custom) → is_some (leaves hint_section before c) ≡ (is_some before || is_row (row_of c) 1)
  unfolding is_called payload_of
  hints_there none = stays before
  hints_there (some c) = so_there before (same hint_section c.name.bytes) c.payload ∙ ap (λ b. is_some before || b) (sym (row_hints c.name.bytes))

  pub older_there : (c : Option Custom) → is_some (leaves older_hint_section before c) ≡ (is_some before || is_row (row_of c) 2)
  unfolding is_called payload_of
  older_there none = stays before
  older_there (some c) = so_there before (same older_hint_section c.name.bytes) c.payload ∙ ap (λ b. is_some before || b) (sym (row_older c.name.bytes))

  -- and it is the one that its row leaves
  module _ (c : Custom) where
    so_placed : (this : ℕ) (here : Bool) → is_row (row_named c.name.bytes) this ≡ here → or_else before (map_some place_of (cond here (some c.payload) none)) ≡ placed before (row_named c.name.bytes) this (place_of c.payload)
    so_placed this here e = ap (or_else before) (placed_so here c.payload ∙ ap (λ b. cond b (some (place_of c.payload)) none) (sym e))

    pub name_placed : leaves name_section before (some c) ≡ placed before (row_named c.name.bytes) 0 (place_of c.payload)
    unfolding payload_of
    name_placed = so_placed 0 (same name_section c.name.bytes) (row_name c.name.bytes)

    pub hints_placed : leaves hint_section before (some c) ≡ placed before (row_named c.name.bytes) 1 (place_of c.payload)
    unfolding payload_of
    hints_placed = so_placed 1 (same hint_section c.name.bytes) (row_hints c.name.bytes)

    pub older_placed : leaves older_hint_section before (some c) ≡ placed before (row_named c.name.bytes) 2 (place_of c.payload)
    unfolding payload_of
    older_placed = so_placed 2 (same older_hint_section c.name.bytes) (row_older c.name.bytes)

pub beyond_there : (c : Option Custom) (k : ℕ) → false ≡ (false || is_row (row_of c) (suc (suc (suc k))))
unfolding is_called
beyond_there none k = refl
beyond_there (some c) k = sym (row_beyond c.name.bytes k)
