-- Rows into lent lists, whatever they are rows of: what a call comes to, and which input it refuses.
use Rattle.std.specs.Prelude.{ℕ, ◌<◌, Bool, true, false, ◌&&◌, List, [], ◌∷◌, ◌↔◌, ◌≢◌, ◌≡◌, refl, leb, length}
use Rattle.std.proofs.Math.Option.{Option, none, some}
use Rattle.std.proofs.Common.{sym, ◌∙◌, arith, leb-false}
use Rattle.std.proofs.Math.Path.{ap}
use Rattle.std.proofs.lemmas.Bool.{lt-leb}
use Rattle.format.specs.Entries.{Listed, fit_each, fitting_rows, over_each}
use Rattle.format.specs.Laws.Options.{not_some, some_is, by_option}
use Rattle.format.specs.Laws.Outcomes.{not_accepted, accepted_is, by_test, false_true, refused_exactly, mapped}
use Rattle.format.specs.Reading.{Judged, accepted, refused, map_judged}
use Rattle.grammar.specs.Modules.{Among, here, further}
use Rattle.wakemiono.specs.Boundary.{wm_none, wm_found, wm_refused, WmLists}
use Rattle.wakemiono.specs.declared.WmAnswer.{WmAnswer}
use Rattle.promises.specs.Demands.{Answers, Reply, reply_none, reply_found, reply_refused, numbers, is_among, RowsReply, rows_listed, rows_refused_lem, RowsRefused, unlisted, few_places, row_count}
use Rattle.promises.specs.Laws.Telling.{by_judged}

-- WHAT A CALL COMES TO: a refusal, none, 13, or all rows in every list
module _ {X : Type 0} (columns : List (Listed X → ℕ)) (found : Judged (Option (List (Listed X)))) (lists lists' : List (List ℕ)) (a : WmAnswer) where
  pub data Came : Type 0 where
    came_refused : (n at : ℕ) → found ≡ refused n at → a ≡ wm_refused n at → lists' ≡ lists → Came
    came_none_lem : found ≡ accepted none → a ≡ wm_none → lists' ≡ lists → Came
    came_short : (es : List (Listed X)) → found ≡ accepted (some es) → fit_each (length es) lists ≡ false → a ≡ wm_refused 13 (length es) → lists' ≡ lists → Came
    came_listed : (es : List (Listed X)) → found ≡ accepted (some es) → fit_each (length es) lists ≡ true → a ≡ wm_found 0 0 (length es) → lists' ≡ over_each columns es lists → Came

  pub came : WmLists columns found lists lists' a → Came
  unfolding fitting_rows
  came w =
      by_judged found
      (λ x e. by_option x
      (λ n. let is = e ∙ ap accepted n in came_none_lem is (w.says ∙ rw is) (w.leaves ∙ rw is))
      (λ es n. let is = e ∙ ap accepted n in by_test (fit_each (length es) lists)
      (λ t. came_listed es is t (w.says ∙ rw (is, t)) (w.leaves ∙ rw (is, t)))
      (λ t. came_short es is t (w.says ∙ rw (is, t)) (w.leaves ∙ rw (is, t)))))
      (λ n at e. came_refused n at e (w.says ∙ rw e) (w.leaves ∙ rw e))

-- kinds of answers are apart
kinds : {a : WmAnswer} {x y : WmAnswer} → a ≡ x → a ≡ y → x.kind ≡ y.kind
kinds e f = ap (λ (a : WmAnswer). a.kind) (sym e ∙ f)

codes : {a : WmAnswer} {x y : WmAnswer} → a ≡ x → a ≡ y → x.code ≡ y.code
codes e f = ap (λ (a : WmAnswer). a.code) (sym e ∙ f)

places : {a : WmAnswer} {x y : WmAnswer} → a ≡ x → a ≡ y → x.offset ≡ y.offset
places e f = ap (λ (a : WmAnswer). a.offset) (sym e ∙ f)

pub came_unchanged : {X : Type 0} {columns : List (Listed X → ℕ)} {found : Judged (Option (List (Listed X)))} {lists lists' : List (List ℕ)} {a : WmAnswer} → Came columns found lists lists' a → a.kind ≢ 1 → lists' ≡ lists
came_unchanged (came_refused n at e q is) h = is
came_unchanged (came_none_lem e q is) h = is
came_unchanged (came_short es e t q is) h = is
came_unchanged (came_listed es e t q is) h = absurd (h (ap (λ (a : WmAnswer). a.kind) q))

-- the shortest list
short_list : (n : ℕ) (lists : List (List ℕ)) → fit_each n lists ≡ false → (list : List ℕ) × Among list lists × (length list < n)
unfolding fit_each
short_list n [] e = absurd (false_true (sym e))
short_list n (l ∷ ls) e =
    by_test (leb n (length l))
    (λ t. let (list, h, few) = short_list n ls (rw t at e) in (list, further h, few))
    (λ t. (l, here, leb-false n (length l) t))

no_room : {n : ℕ} {list : List ℕ} {lists : List (List ℕ)} → Among list lists → length list < n → fit_each n lists ≡ false
unfolding fit_each
no_room {n} {list} here few = rw (lt-leb n (length list) few)
no_room {n} {lists = l ∷ ls} (further h) few = rw (no_room h few) (and_no (leb n (length l)))
  where
    and_no : (b : Bool) → b && false ≡ false
    and_no true = refl
    and_no false = refl

-- WHICH PAYLOAD IS REFUSED, by what its judgement comes to: `f` are the rows of what is accepted
module _ {A X : Type 0} (columns : List (Listed X → ℕ)) (f : A → Option (List (Listed X))) (j : Judged A) (lists lists' : List (List ℕ)) (a : WmAnswer) (c : Came columns (map_judged f j) lists lists' a) where
  abbrev Unlisted : (number offset : ℕ) → Type 0
  Unlisted = RowsRefused (λ n at. j ≡ refused n at) j (λ v. row_count (f v)) lists

  found_as : {v : A} → j ≡ accepted v → map_judged f j ≡ accepted (f v)
  found_as e = ap (map_judged f) e

  -- where one of the lists is too short
  few_from : {v : A} {list : List ℕ} (x : Option (List (Listed X))) → f v ≡ x → j ≡ accepted v → Among list lists → length list < row_count x → a ≡ wm_refused 13 (row_count x)
  few_from none is e h few = absurd (omega (arith, few))
  few_from {v} (some es) is e h few = short c
    where
      found : map_judged f j ≡ accepted (some es)
      found = found_as e ∙ ap accepted is

      short : Came columns (map_judged f j) lists lists' a → a ≡ wm_refused 13 (length es)
      short (came_refused n at q s k) = absurd (not_accepted (sym q ∙ found))
      short (came_none_lem q s k) = absurd (not_some (accepted_is (sym q ∙ found)))
      short (came_short es' q t s k) = s ∙ ap (λ l. wm_refused 13 (length l)) (some_is (accepted_is (sym q ∙ found)))
      short (came_listed es' q t s k) = absurd (false_true (sym (no_room h few) ∙ ap (λ l. fit_each (length l) lists) (some_is (accepted_is (sym found ∙ q))) ∙ t))

  refused_from : {n at : ℕ} → Unlisted n at → a ≡ wm_refused n at
  refused_from (unlisted {number = n} {offset = at} e) = so c
    where
      found : map_judged f j ≡ refused n at
      found = ap (map_judged f) e

      so : Came columns (map_judged f j) lists lists' a → a ≡ wm_refused n at
      so (came_refused m o q s k) = s ∙ refused_alike (sym q ∙ found)
        where
          refused_alike : {m o n at : ℕ} → ◌≡◌ {A = Judged (Option (List (Listed X)))} (refused m o) (refused n at) → wm_refused m o ≡ wm_refused n at
          refused_alike e = cc
      so (came_none_lem q s k) = absurd (not_accepted (sym found ∙ q))
      so (came_short es q t s k) = absurd (not_accepted (sym found ∙ q))
      so (came_listed es q t s k) = absurd (not_accepted (sym found ∙ q))
  refused_from (few_places {v = v} e h few) = few_from (f v) refl e h few

  refused_to : {n at : ℕ} → a ≡ wm_refused n at → Unlisted n at
  refused_to {n} {at} q = so c
    where
      so : Came columns (map_judged f j) lists lists' a → Unlisted n at
      so (came_refused m o e s k) = rw (← codes s q, ← places s q) (unlisted ((refused_exactly f j).0 e))
      so (came_none_lem e s k) = absurd (omega (arith, kinds s q))
      so (came_listed es e t s k) = absurd (omega (arith, kinds s q))
      so (came_short es e t s k) =
          mapped f j e λ v e₁ e₂.
          let (list, h, few) = short_list (length es) lists t in
          let many : row_count (f v) ≡ length es = ap row_count e₂ in
          let there : RowsRefused (λ n at. j ≡ refused n at) j (λ v. row_count (f v)) lists 13 (row_count (f v)) = few_places e₁ h (rw many few) in
          rw (← codes s q, ← places s q, ← many) there

  rows_refused : (Fault : (number offset : ℕ) → Type 0) → ((n at : ℕ) → (j ≡ refused n at) ↔ Fault n at) → (n at : ℕ) → (a ≡ wm_refused n at) ↔ RowsRefused Fault j (λ v. row_count (f v)) lists n at
  rows_refused Fault same n at = (λ e. to (refused_to e), λ r. refused_from (from r))
    where
      to : {n at : ℕ} → Unlisted n at → RowsRefused Fault j (λ v. row_count (f v)) lists n at
      to (unlisted {number = n} {offset = at} e) = unlisted ((same n at).0 e)
      to (few_places e h few) = few_places e h few

      from : {n at : ℕ} → RowsRefused Fault j (λ v. row_count (f v)) lists n at → Unlisted n at
      from (unlisted {number = n} {offset = at} e) = unlisted ((same n at).1 e)
      from (few_places e h few) = few_places e h few

  -- and its number is one of the list
  rows_numbered : ((n at : ℕ) → j ≡ refused n at → is_among numbers n ≡ true) → (n at : ℕ) → a ≡ wm_refused n at → is_among numbers n ≡ true
  rows_numbered fair n at e = of (refused_to e)
    where
      of : {n at : ℕ} → Unlisted n at → is_among numbers n ≡ true
      of (unlisted {number = n} {offset = at} e) = fair n at e
      of (few_places e h few) = refl

  -- so demand 1 holds of the call, in whatever forms it answers
  pub rows_answered : {Forms : WmAnswer → Type 0} (Fault : (number offset : ℕ) → Type 0) → ((n at : ℕ) → (j ≡ refused n at) ↔ Fault n at) → ((n at : ℕ) → j ≡ refused n at → is_among numbers n ≡ true) → Forms a → Answers Forms (RowsRefused Fault j (λ v. row_count (f v)) lists) a
  rows_answered Fault same fair forms = record { answers = forms; refuses = rows_refused Fault same; numbered = rows_numbered fair }

pub came_reply : {X : Type 0} {columns : List (Listed X → ℕ)} {found : Judged (Option (List (Listed X)))} {lists lists' : List (List ℕ)} {a : WmAnswer} → Came columns found lists lists' a → Reply a
came_reply (came_refused n at e q is) = rw q (reply_refused n at)
came_reply (came_none_lem e q is) = rw q reply_none
came_reply (came_short es e t q is) = rw q (reply_refused 13 (length es))
came_reply (came_listed es e t q is) = rw q (reply_found 0 (length es))

-- where there are always rows to find
pub came_rows : {A X : Type 0} {columns : List (Listed X → ℕ)} (f : A → List (Listed X)) (j : Judged A) {lists lists' : List (List ℕ)} {a : WmAnswer} → Came columns (map_judged (λ v. some (f v)) j) lists lists' a → RowsReply a
came_rows f j (came_refused n at e q is) = rw q (rows_refused_lem n at)
came_rows f j (came_none_lem e q is) = mapped (λ v. some (f v)) j e λ v e₁ e₂. absurd (not_some (sym e₂))
came_rows f j (came_short es e t q is) = rw q (rows_refused_lem 13 (length es))
came_rows f j (came_listed es e t q is) = rw q (rows_listed (length es))

pub came_none : {X : Type 0} {columns : List (Listed X → ℕ)} {found : Judged (Option (List (Listed X)))} {lists lists' : List (List ℕ)} {a : WmAnswer} → Came columns found lists lists' a → (a ≡ wm_none) ↔ (found ≡ accepted none)
came_none (came_refused n at e q is) = (λ k. absurd (omega (arith, kinds q k)), λ k. absurd (not_accepted (sym e ∙ k)))
came_none (came_none_lem e q is) = (λ k. e, λ k. q)
came_none (came_short es e t q is) = (λ k. absurd (omega (arith, kinds q k)), λ k. absurd (not_some (accepted_is (sym k ∙ e))))
came_none (came_listed es e t q is) = (λ k. absurd (omega (arith, kinds q k)), λ k. absurd (not_some (accepted_is (sym k ∙ e))))
