-- Rules R11.1 to R11.6 of docs/RULES.md.
-- K7. Why a function or a local has no name, and where a name that is found stands. "For an accepted payload and a function or local question answered none, a tool names one reason: no such subsection; a subsection without a group for that function; or a map without that index, with the nearest mapped index below and above, if any. For a name found it gives the subsection and the entry's position in its map, from 0. Exactly one reason is true of each such question, and it is the one given." Assumes nothing.
use Rattle.std.specs.Prelude.{ℕ, suc, ◌≤◌, ◌<◌, cond, List, leb, eqb}
use Rattle.std.proofs.Math.Option.{Option, none, some}
use Rattle.format.specs.Reading.{Judged, map_judged}
use Rattle.format.specs.Tables.{Table, nil, row, lookup}
use Rattle.format.specs.Names.{Content, single, names, names_by, whole, known_kind, judge_names}
use Rattle.format.specs.Holding.{Has}
use Rattle.format.specs.declared.FunctionIndex.{FunctionIndex}
use Rattle.format.specs.declared.LocalIndex.{LocalIndex}

-- what is said of a question: where its name stands, or why it has none
pub data Why : Type 0 where
  named : (id position : ℕ) → Why
  no_subsection no_group : Why
  no_entry : (below above : Option ℕ) → Why

-- WHAT IS TRUE, said without any search. A row stands at a position, from 0
pub data At {A : Type 0} (k : ℕ) (v : A) : (position : ℕ) → Table A → Type 0 where
  at_front : {t : Table A} → At k v 0 (row k v t)
  behind_one : {i n : ℕ} {w : A} {t : Table A} → At k v n t → At k v (suc n) (row i w t)

-- no row has that number
abbrev pub NoRow : {A : Type 0} → ℕ → Table A → Type 0
NoRow {A} k t = (v : A) → Has k v t → ⊥

-- the greatest number below, and the least above, if any
pub data NearestBelow {A : Type 0} (k : ℕ) (t : Table A) : Option ℕ → Type 0 where
  none_below : ((i : ℕ) (v : A) → Has i v t → i < k → ⊥) → NearestBelow k t none
  greatest_below : {i : ℕ} {v : A} → Has i v t → i < k → ((j : ℕ) (w : A) → Has j w t → j < k → j ≤ i) → NearestBelow k t (some i)

pub data NearestAbove {A : Type 0} (k : ℕ) (t : Table A) : Option ℕ → Type 0 where
  none_above : ((i : ℕ) (v : A) → Has i v t → k < i → ⊥) → NearestAbove k t none
  least_above : {i : ℕ} {v : A} → Has i v t → k < i → ((j : ℕ) (w : A) → Has j w t → k < j → i ≤ j) → NearestAbove k t (some i)

-- in a map: the entry's position, or that it has none, with its neighbours
pub data TrueInMap {X : Type 0} (id k : ℕ) (m : Table X) : Why → Type 0 where
  an_entry : {x : X} {n : ℕ} → At k x n m → TrueInMap id k m (named id n)
  without_it : {below above : Option ℕ} → NoRow k m → NearestBelow k m below → NearestAbove k m above → TrueInMap id k m (no_entry below above)

-- of a function: subsection 1 is the map
pub data TrueOfFunction {X : Type 0} (k : ℕ) (t : Table (Content X)) : Why → Type 0 where
  without_functions : NoRow 1 t → TrueOfFunction k t no_subsection
  among_functions : {m : Table X} {w : Why} → Has 1 (names m) t → TrueInMap 1 k m w → TrueOfFunction k t w

-- of a local: subsection 2 has a map for each function, its group
pub data TrueOfLocal {X : Type 0} (k j : ℕ) (t : Table (Content X)) : Why → Type 0 where
  without_locals : NoRow 2 t → TrueOfLocal k j t no_subsection
  without_group : {g : Table (Table X)} → Has 2 (names_by g) t → NoRow k g → TrueOfLocal k j t no_group
  among_locals : {g : Table (Table X)} {m : Table X} {w : Why} → Has 2 (names_by g) t → Has k m g → TrueInMap 2 j m w → TrueOfLocal k j t w

-- WHAT IS GIVEN. In rows whose numbers rise, `position` of them before these, the last of those with the number `below`
unfoldable pub why_from : {X : Type 0} → (id : ℕ) (below : Option ℕ) (position k : ℕ) → Table X → Why
why_from id below position k nil = no_entry below none
why_from id below position k (row i v t) = cond (leb k i) (cond (eqb k i) (named id position) (no_entry below (some i))) (why_from id (some i) (suc position) k t)

unfoldable pub why_in : {X : Type 0} → (id k : ℕ) → Table X → Why
why_in id k m = why_from id none 0 k m

-- the contents of subsection 1, of subsection 2 and of a group, if any; no other contents stand there
abbrev pub function_in : {X : Type 0} → ℕ → Option (Content X) → Why
function_in k none = no_subsection
function_in k (some (single x)) = no_subsection
function_in k (some (names m)) = why_in 1 k m
function_in k (some (names_by g)) = no_subsection
function_in k (some (whole x)) = no_subsection

abbrev pub group_in : {X : Type 0} → ℕ → Option (Table X) → Why
group_in j none = no_group
group_in j (some m) = why_in 2 j m

abbrev pub local_in : {X : Type 0} → (k j : ℕ) → Option (Content X) → Why
local_in k j none = no_subsection
local_in k j (some (single x)) = no_subsection
local_in k j (some (names m)) = no_subsection
local_in k j (some (names_by g)) = group_in j (lookup k g)
local_in k j (some (whole x)) = no_subsection

-- asked of a payload, which is judged by the first edition
unfoldable pub why_function : FunctionIndex → List ℕ → Judged Why
why_function f bs = map_judged (λ t. function_in f.0 (lookup 1 t)) (judge_names known_kind 0 bs)

unfoldable pub why_local : FunctionIndex → LocalIndex → List ℕ → Judged Why
why_local f j bs = map_judged (λ t. local_in f.0 j.0 (lookup 2 t)) (judge_names known_kind 0 bs)
