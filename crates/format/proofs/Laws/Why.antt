-- Why a question has no name, and where its name stands. In a map whose numbers rise exactly one answer is true, and it is the one given; so it is of a function and of a local of an accepted payload.
use Rattle.std.specs.Prelude.{ℕ, suc, ◌+◌, ◌<◌, List, ◌↔◌, ◌≡◌, refl, leb, eqb}
use Rattle.std.proofs.Math.Logic.Iff
use Rattle.std.proofs.Math.Logic.{eq_comm}
use Rattle.std.proofs.Math.Option.{Option, none, some}
use Rattle.std.proofs.Common.{sym, ap₂, ◌∙◌, arith}
use Rattle.std.proofs.Math.Path.{ap}
use borrow.Author.Tests.{leb-true, leb-false, eqb-true, eqb-false}
use Rattle.format.specs.Reading.{Judged, accepted, refused}
use Rattle.format.specs.Options.{map_some}
use Rattle.format.specs.Parts.{Part}
use Rattle.format.specs.Tables.{Table, nil, row, lookup, map_table}
use Rattle.format.specs.Names.{Content, single, names, names_by, whole, known, known_kind, judge_names}
use Rattle.format.specs.Questions.{asked, ask_at, ask, as_told}
use Rattle.format.specs.declared.Query.{Query}
use Rattle.format.specs.declared.Query.TheVariants.{NameOf, NameWithin}
use Rattle.format.specs.declared.Question.TheVariants.{FunctionName, LocalName}
use Rattle.format.specs.declared.FunctionIndex.{FunctionIndex}
use Rattle.format.specs.declared.LocalIndex.{LocalIndex}
use Rattle.format.specs.Canonical.{bare}
use Rattle.format.specs.Holding.{Has, first, later, Holds, the_entry, the_inner}
use Rattle.format.specs.Why.{Why, named, no_entry, At, at_front, behind_one, NoRow, NearestBelow, none_below, greatest_below, NearestAbove, none_above, least_above, TrueInMap, an_entry, without_it, TrueOfFunction, without_functions, among_functions, TrueOfLocal, without_locals, without_group, among_locals, why_from, why_in, function_in, group_in, local_in, why_function, why_local}
use Rattle.format.specs.Laws.Outcomes.{by_test, accepted_is, accepted_exactly, refused_exactly}
use Rattle.format.specs.Laws.Options.{by_option}
use Rattle.format.proofs.Laws.Codecs.{Sorted, end, next}
use Rattle.format.proofs.Laws.Tables.{lookup_map, lookup_fine}
use Rattle.format.proofs.Laws.Names.{ContentFine, names_fine_lem, names_by_fine, SubFine}
use Rattle.format.proofs.Laws.CanonicalNames.{AcceptedNames, held, read_whole, told_is}
use Rattle.format.proofs.Laws.Calls.{told_part}
use Rattle.format.proofs.Laws.Holding.{has_least, has_lookup, lookup_has, none_exactly, names_sorted, groups_sorted, answer_exactly}

module _ {A : Type 0} where
  -- a row that a table has is one that stands somewhere in it
  at_has : {k : ℕ} {v : A} {n : ℕ} {t : Table A} → At k v n t → Has k v t
  at_has at_front = first
  at_has (behind_one a) = later (at_has a)

  has_at : {k : ℕ} {v : A} {t : Table A} → Has k v t → (n : ℕ) × At k v n t
  has_at first = (0, at_front)
  has_at (later h) = let (n, a) = has_at h in (suc n, behind_one a)

  has_none : {k : ℕ} {v : A} → Has k v nil → ⊥
  has_none h = elim h [ ]

  by_row {ℓ} : {C : Type ℓ} {i k : ℕ} {v w : A} {t : Table A} → Has k v (row i w t) → (k ≡ i → C) → (Has k v t → C) → C
  by_row first f g = f refl
  by_row (later h) f g = g h

  -- at most one answer is true
  same_position : {P : ℕ → A → Type 0} {k j : ℕ} {v w : A} {n m least : ℕ} {t : Table A} → Sorted P least t → k ≡ j → At k v n t → At j w m t → n ≡ m
  same_position s q at_front at_front = refl
  same_position (next l p s) q at_front (behind_one b) = let above = has_least s (at_has b) in absurd (omega arith)
  same_position (next l p s) q (behind_one a) at_front = let above = has_least s (at_has a) in absurd (omega arith)
  same_position (next l p s) q (behind_one a) (behind_one b) = ap suc (same_position s q a b)

  one_position : {P : ℕ → A → Type 0} {k least n m : ℕ} {v w : A} {t : Table A} → Sorted P least t → At k v n t → At k w m t → n ≡ m
  one_position s a b = same_position s refl a b

  one_below : {k : ℕ} {t : Table A} {x y : Option ℕ} → NearestBelow k t x → NearestBelow k t y → x ≡ y
  one_below (none_below e) (none_below e') = refl
  one_below (none_below e) (greatest_below {i = i} {v = v} h l g) = absurd (e i v h l)
  one_below (greatest_below {i = i} {v = v} h l g) (none_below e) = absurd (e i v h l)
  one_below (greatest_below {i = i} {v = v} h l g) (greatest_below {i = j} {v = w} h' l' g') = ap some (omega (arith, g j w h' l', g' i v h l))

  one_above : {k : ℕ} {t : Table A} {x y : Option ℕ} → NearestAbove k t x → NearestAbove k t y → x ≡ y
  one_above (none_above e) (none_above e') = refl
  one_above (none_above e) (least_above {i = i} {v = v} h l g) = absurd (e i v h l)
  one_above (least_above {i = i} {v = v} h l g) (none_above e) = absurd (e i v h l)
  one_above (least_above {i = i} {v = v} h l g) (least_above {i = j} {v = w} h' l' g') = ap some (omega (arith, g j w h' l', g' i v h l))

  one_in_map : {P : ℕ → A → Type 0} {id k least : ℕ} {m : Table A} {v w : Why} → Sorted P least m → TrueInMap id k m v → TrueInMap id k m w → v ≡ w
  one_in_map {id = id} s (an_entry a) (an_entry b) = ap (named id) (one_position s a b)
  one_in_map s (an_entry {x = x} a) (without_it empty b c) = absurd (empty x (at_has a))
  one_in_map s (without_it empty b c) (an_entry {x = x} a) = absurd (empty x (at_has a))
  one_in_map s (without_it empty b c) (without_it empty' b' c') = ap₂ no_entry (one_below b b') (one_above c c')

-- What is true of rows that stand behind others: of these there are `position`, and the last has the number `below`
data BelowFrom {A : Type 0} (below : Option ℕ) (k : ℕ) (t : Table A) : Option ℕ → Type 0 where
  before : NearestBelow k t none → BelowFrom below k t below
  among : {i : ℕ} → NearestBelow k t (some i) → BelowFrom below k t (some i)

data TrueFrom {A : Type 0} (id : ℕ) (below : Option ℕ) (position k : ℕ) (t : Table A) : Why → Type 0 where
  entry_from : {x : A} {n there : ℕ} → At k x n t → there ≡ position + n → TrueFrom id below position k t (named id there)
  without_from : {b c : Option ℕ} → NoRow k t → BelowFrom below k t b → NearestAbove k t c → TrueFrom id below position k t (no_entry b c)

module _ {A : Type 0} where
  -- behind nothing it is what is true of the map
  true_in_map : {id k : ℕ} {m : Table A} {w : Why} → TrueFrom id none 0 k m w → TrueInMap id k m w
  true_in_map (entry_from {n = n} {there = there} a e) = let same : there ≡ n = omega arith in rw same (an_entry a)
  true_in_map (without_from empty (before b) c) = without_it empty b c
  true_in_map (without_from empty (among b) c) = without_it empty b c

  -- one row more before them, with a lesser number
  above_behind : {c : Option ℕ} {i k : ℕ} {v : A} {t : Table A} → i < k → NearestAbove k t c → NearestAbove k (row i v t) c
  above_behind l (none_above e) = none_above (λ j w h more. by_row h (λ q. omega arith) (λ g. e j w g more))
  above_behind l (least_above h more least) = least_above (later h) more (λ j w h' more'. by_row h' (λ q. omega arith) (λ g. least j w g more'))

module _ {A : Type 0} {P : ℕ → A → Type 0} where
  below_behind : {below b : Option ℕ} {i k : ℕ} {v : A} {t : Table A} → Sorted P (suc i) t → i < k → BelowFrom (some i) k t b → BelowFrom below k (row i v t) b
  below_behind s l (before (none_below e)) = among (greatest_below first l (λ j w h less. by_row h (λ q. omega arith) (λ g. absurd (e j w g less))))
  below_behind s l (among (greatest_below h less greatest)) = let above = has_least s h in among (greatest_below (later h) less (λ j w h' less'. by_row h' (λ q. omega arith) (λ g. greatest j w g less')))

  true_behind : {below : Option ℕ} {id position i k : ℕ} {v : A} {t : Table A} {w : Why} → Sorted P (suc i) t → i < k → TrueFrom id (some i) (suc position) k t w → TrueFrom id below position k (row i v t) w
  true_behind s l (entry_from {there = there} a e) = entry_from {there = there} (behind_one a) (omega arith)
  true_behind s l (without_from empty b c) = without_from (λ v h. by_row h (λ q. omega arith) (λ g. empty v g)) (below_behind s l b) (above_behind l c)

  -- rows that all have greater numbers
  true_before : {below : Option ℕ} {id position i k : ℕ} {v : A} {t : Table A} → Sorted P i (row i v t) → k < i → TrueFrom id below position k (row i v t) (no_entry below (some i))
  true_before s l = without_from
      (λ w h. let above = has_least s h in omega arith)
      (before (none_below (λ j w h less. let above = has_least s h in omega arith)))
      (least_above first l (λ j w h more. has_least s h))

  -- what is given is true
  given_from : (id : ℕ) (below : Option ℕ) (position k : ℕ) {least : ℕ} {t : Table A} → Sorted P least t → TrueFrom id below position k t (why_from id below position k t)
  unfolding why_from
  given_from id below position k end = without_from (λ v h. has_none h) (before (none_below (λ i v h _. has_none h))) (none_above (λ i v h _. has_none h))
  given_from id below position k (next {k = i} l p s) =
      by_test (leb k i)
      (λ up. by_test (eqb k i)
      (λ q. rw (up, q, eqb-true k i q) (entry_from {there = position} at_front (omega arith)))
      (λ q. rw (up, q) (true_before (next (omega arith) p s) (omega (arith, leb-true k i up, eqb-false k i q)))))
      (λ up. rw up (true_behind s (leb-false k i up) (given_from id (some i) (suc position) k s)))

  pub map_exactly : (id k : ℕ) {least : ℕ} {m : Table A} {w : Why} → Sorted P least m → TrueInMap id k m w ↔ (w ≡ why_in id k m)
  unfolding why_in
  map_exactly id k s = let given = true_in_map (given_from id none 0 k s) in (λ t. one_in_map s t given, λ e. rw e given)

  no_row_exactly : (k : ℕ) {least : ℕ} {t : Table A} → Sorted P least t → (lookup k t ≡ none) ↔ NoRow k t
  no_row_exactly k {t = t} s = none_exactly (lookup k t) (λ v. (λ e. lookup_has k t e, λ h. has_lookup s h))

-- Of the subsections in order
module _ {t : Table (Content (List ℕ))} (s : Sorted (SubFine known_kind) 0 t) where
  in_functions : (k : ℕ) {c : Content (List ℕ)} → ContentFine (known_kind 1) c → Has 1 c t → TrueOfFunction k t (function_in k (some c))
  unfolding known_kind known lookup
  in_functions k (names_fine_lem h) has = among_functions has ((map_exactly 1 k h.sorted).1 refl)

  all_of_function : (k : ℕ) {w : Why} → TrueOfFunction k t w → w ≡ function_in k (lookup 1 t)
  all_of_function k (without_functions empty) = rw ((no_row_exactly 1 s).1 empty)
  all_of_function k (among_functions h holds) = let e = has_lookup s h in rw e ((map_exactly 1 k (names_sorted (lookup_fine 1 s e).0).sorted).0 holds)

  of_function : (k : ℕ) {w : Why} → TrueOfFunction k t w ↔ (w ≡ function_in k (lookup 1 t))
  of_function k = (
    all_of_function k,
    λ q. rw q (by_option (lookup 1 t)
        (λ e. rw e (without_functions ((no_row_exactly 1 s).0 e)))
        (λ c e. rw e (in_functions k (lookup_fine 1 s e).0 (lookup_has 1 t e)))),
  )

  in_locals : (k j : ℕ) {c : Content (List ℕ)} → ContentFine (known_kind 2) c → Has 2 c t → TrueOfLocal k j t (local_in k j (some c))
  unfolding known_kind known lookup
  in_locals k j (names_by_fine {t = g} h) has =
      by_option (lookup k g)
      (λ e. rw e (without_group has ((no_row_exactly k h.sorted).0 e)))
      (λ m e. rw e (among_locals has (lookup_has k g e) ((map_exactly 2 j (lookup_fine k h.sorted e).1.sorted).1 refl)))

  all_of_local : (k j : ℕ) {w : Why} → TrueOfLocal k j t w → w ≡ local_in k j (lookup 2 t)
  all_of_local k j (without_locals empty) = rw ((no_row_exactly 2 s).1 empty)
  all_of_local k j (without_group h empty) =
      let e = has_lookup s h in
      rw (e, (no_row_exactly k (groups_sorted (lookup_fine 2 s e).0).sorted).1 empty)
  all_of_local k j (among_locals h g holds) =
      let e = has_lookup s h in
      let groups = (groups_sorted (lookup_fine 2 s e).0).sorted in
      let e' = has_lookup groups g in
      rw (e, e') ((map_exactly 2 j (lookup_fine k groups e').1.sorted).0 holds)

  of_local : (k j : ℕ) {w : Why} → TrueOfLocal k j t w ↔ (w ≡ local_in k j (lookup 2 t))
  of_local k j = (
    all_of_local k j,
    λ q. rw q (by_option (lookup 2 t)
        (λ e. rw e (without_locals ((no_row_exactly 2 s).0 e)))
        (λ c e. rw e (in_locals k j (lookup_fine 2 s e).0 (lookup_has 2 t e)))),
  )

-- Positions and neighbours do not depend on what the rows hold: parts, or bare bytes
why_map : {X Y : Type 0} (f : X → Y) (id : ℕ) (below : Option ℕ) (position k : ℕ) (t : Table X) → why_from id below position k (map_table f t) ≡ why_from id below position k t
unfolding why_from map_table
why_map f id below position k nil = refl
why_map f id below position k (row i v t) = rw (why_map f id (some i) (suc position) k t)

function_bare : (k : ℕ) (c : Option (Content Part)) → function_in k (map_some bare c) ≡ function_in k c
unfolding bare why_in
function_bare k none = refl
function_bare k (some (single x)) = refl
function_bare k (some (names m)) = why_map (λ x. x.bytes) 1 none 0 k m
function_bare k (some (names_by g)) = refl
function_bare k (some (whole x)) = refl

group_bare : (j : ℕ) (m : Option (Table Part)) → group_in j (map_some (map_table (λ x. x.bytes)) m) ≡ group_in j m
unfolding why_in
group_bare j none = refl
group_bare j (some m) = why_map (λ x. x.bytes) 2 none 0 j m

local_bare : (k j : ℕ) (c : Option (Content Part)) → local_in k j (map_some bare c) ≡ local_in k j c
unfolding bare
local_bare k j none = refl
local_bare k j (some (single x)) = refl
local_bare k j (some (names m)) = refl
local_bare k j (some (names_by g)) = rw (lookup_map (map_table (λ x. x.bytes)) k g) (group_bare j (lookup k g))
local_bare k j (some (whole x)) = refl

-- A place is true exactly where something is held
function_held : {t : Table (Content (List ℕ))} {k : ℕ} → ((n : ℕ) × TrueOfFunction k t (named 1 n)) ↔ ((x : List ℕ) × Holds 1 (NameOf k) t x)
function_held = (λ h. to h.1, λ h. from h.1)
  where
    to : {t : Table (Content (List ℕ))} {k n : ℕ} → TrueOfFunction k t (named 1 n) → (x : List ℕ) × Holds 1 (NameOf k) t x
    to (among_functions h (an_entry {x = x} e)) = (x, the_entry h (at_has e))

    from : {t : Table (Content (List ℕ))} {k : ℕ} {x : List ℕ} → Holds 1 (NameOf k) t x → (n : ℕ) × TrueOfFunction k t (named 1 n)
    from (the_entry h g) = let (n, e) = has_at g in (n, among_functions h (an_entry e))

local_held : {t : Table (Content (List ℕ))} {k j : ℕ} → ((n : ℕ) × TrueOfLocal k j t (named 2 n)) ↔ ((x : List ℕ) × Holds 2 (NameWithin k j) t x)
local_held = (λ h. to h.1, λ h. from h.1)
  where
    to : {t : Table (Content (List ℕ))} {k j n : ℕ} → TrueOfLocal k j t (named 2 n) → (x : List ℕ) × Holds 2 (NameWithin k j) t x
    to (among_locals h g (an_entry {x = x} e)) = (x, the_inner h (record { group = _; outer = g; inner = at_has e }))

    from : {t : Table (Content (List ℕ))} {k j : ℕ} {x : List ℕ} → Holds 2 (NameWithin k j) t x → (n : ℕ) × TrueOfLocal k j t (named 2 n)
    from (the_inner h g) = let (n, e) = has_at g.inner in (n, among_locals h g.outer (an_entry e))

some_exactly : {A : Type 0} {P Q : A → Type 0} → ((x : A) → P x ↔ Q x) → ((x : A) × P x) ↔ ((x : A) × Q x)
some_exactly h = (λ p. (p.0, (h p.0).0 p.1), λ q. (q.0, (h q.0).1 q.1))

-- what is accepted is what alone is true
told_exactly : {T : Type 0} {j : Judged Why} {v w : Why} → j ≡ accepted v → T ↔ (w ≡ v) → (j ≡ accepted w) ↔ T
told_exactly is holds = Iff.trans (accepted_exactly is) (Iff.trans eq_comm (Iff.symm holds))

-- Of an accepted payload
module _ {p : List ℕ} (a : AcceptedNames known_kind p) where
  pub function_exactly : (k : ℕ) {w : Why} → TrueOfFunction k (held known_kind a) w ↔ (w ≡ function_in k (lookup 1 a.value))
  function_exactly k = rw (← function_bare k (lookup 1 a.value), ← lookup_map bare 1 a.value) (of_function (read_whole known_kind a).sorted k)

  pub local_exactly : (k j : ℕ) {w : Why} → TrueOfLocal k j (held known_kind a) w ↔ (w ≡ local_in k j (lookup 2 a.value))
  local_exactly k j = rw (← local_bare k j (lookup 2 a.value), ← lookup_map bare 2 a.value) (of_local (read_whole known_kind a).sorted k j)

  pub function_told : (f : FunctionIndex) (w : Why) → (why_function f p ≡ accepted w) ↔ TrueOfFunction f.0 (held known_kind a) w
  unfolding why_function
  function_told f w = told_exactly (rw a.judged) (function_exactly f.0)

  pub local_told : (f : FunctionIndex) (j : LocalIndex) (w : Why) → (why_local f j p ≡ accepted w) ↔ TrueOfLocal f.0 j.0 (held known_kind a) w
  unfolding why_local
  local_told f j w = told_exactly (rw a.judged) (local_exactly f.0 j.0)

  -- it holds some bytes exactly where a lookup finds a part
  held_found : (id : ℕ) (q : Query) → ((x : List ℕ) × Holds id q (held known_kind a) x) ↔ ((x : Part) × (asked known_kind id q 0 p ≡ accepted (some x)))
  unfolding as_told
  held_found id q = (
    λ h. let found = told_part (asked known_kind id q 0 p) (told_is known_kind a id q ∙ ap accepted ((answer_exactly known_kind a id q h.0).1 h.1)) in (found.0, found.1),
    λ f. (f.0.bytes, (answer_exactly known_kind a id q f.0.bytes).0 (accepted_is (sym (told_is known_kind a id q) ∙ rw f.1))),
  )

  -- a place is given exactly where the lookup finds a name
  pub function_named : (f : FunctionIndex) → ((n : ℕ) × (why_function f p ≡ accepted (named 1 n))) ↔ ((x : Part) × (ask known_kind (FunctionName f) p ≡ accepted (some x)))
  unfolding ask ask_at
  function_named f = Iff.trans (some_exactly (λ n. function_told f (named 1 n))) (Iff.trans function_held (held_found 1 (NameOf f.0)))

  pub local_named : (f : FunctionIndex) (j : LocalIndex) → ((n : ℕ) × (why_local f j p ≡ accepted (named 2 n))) ↔ ((x : Part) × (ask known_kind (LocalName f j) p ≡ accepted (some x)))
  unfolding ask ask_at
  local_named f j = Iff.trans (some_exactly (λ n. local_told f j (named 2 n))) (Iff.trans local_held (held_found 2 (NameWithin f.0 j.0)))

-- a refusal is the judgement's
module _ (p : List ℕ) {n at : ℕ} where
  pub function_refused : (f : FunctionIndex) → (why_function f p ≡ refused n at) ↔ (judge_names known_kind 0 p ≡ refused n at)
  unfolding why_function
  function_refused f = refused_exactly _ (judge_names known_kind 0 p)

  pub local_refused : (f : FunctionIndex) (j : LocalIndex) → (why_local f j p ≡ refused n at) ↔ (judge_names known_kind 0 p ≡ refused n at)
  unfolding why_local
  local_refused f j = refused_exactly _ (judge_names known_kind 0 p)
