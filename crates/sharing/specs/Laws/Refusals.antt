-- On ANY table and store: a refused call leaves both as they were, a question and a close leave the store, and a question the table.
use Prim.Native.Nat.{ℕ, zero, suc}
use Rattle.std.specs.Prelude.{◌≡◌, Bool, true, false, cond, List, map, ltb, length, get_or}
use Rattle.std.proofs.Math.Path.{refl}
use Rattle.std.proofs.Common.{sym, ap, ◌∙◌, arith}
use Rattle.std.proofs.Math.Option.{Option, none, some}
use Rattle.sharing.specs.Blocks.{need}
use Rattle.sharing.specs.Model.{Payloads, Call, opening, asking, closing, tidying, Answer, refusal, granted, closed, tidied, nothing, found, desk, first_true, Front, stop, go, front}
use Rattle.sharing.specs.Table.{Table, blocks, rows_right, find, taken, first_run, fits}
use Rattle.sharing.specs.Step.{After, leaves, unused, newly, placed, opened_in, closed_at, tidy, fitting, step}

-- a refusal leaves the table and the store
pub data Kept (t : Table) (s : List ℕ) : After → Type 0 where
  kept : (a : Answer) → Kept t s (leaves t s a)
  grant : {x : After} (hold : ℕ) (work : List ℕ) → x.answer ≡ granted hold work → Kept t s x
  close : {x : After} → x.answer ≡ closed → x.store ≡ s → Kept t s x
  moved : {x : After} → x.answer ≡ tidied → Kept t s x

module _ (t : Table) (s : List ℕ) where
  by_cond : (b : Bool) (x y : After) → Kept t s x → Kept t s y → Kept t s (cond b x y)
  by_cond true x y k l = k
  by_cond false x y k l = l

  newly_kept : (c : ℕ) (q work : List ℕ) (h : ℕ) (o : Option ℕ) → Kept t s (newly t s c q work h o)
  unfolding newly
  newly_kept c q work h none = kept _
  newly_kept c q work h (some b) = grant _ _ refl

  placed_kept : (c : ℕ) (q work : List ℕ) (h : ℕ) (o : Option ℕ) → Kept t s (placed t s c q work h o)
  unfolding placed
  placed_kept c q work h none = newly_kept c q work h (first_run (need (length q)) (taken 0 t.marks (blocks s)))
  placed_kept c q work h (some b) = grant _ _ refl

  opened_kept : (c : ℕ) (work : List ℕ) (f : Front) → Kept t s (opened_in t s c work f)
  unfolding opened_in
  opened_kept c work (stop n at) = kept _
  opened_kept c work (go q h) = by_cond (rows_right t.marks (blocks s)) _ _ (placed_kept c q work h (find q t.marks (blocks s))) (kept _)

  closed_kept : (c h x : ℕ) → Kept t s (closed_at t s c h x)
  unfolding closed_at
  closed_kept c h zero = kept _
  closed_kept c h (suc b) = close refl refl

  tidy_kept : Kept t s (tidy t s)
  unfolding tidy
  tidy_kept = by_cond (rows_right t.marks (blocks s)) _ _ (moved refl) (kept _)

  fitting_kept : (P : Payloads) (call : Call) → Kept t s (fitting P t s call)
  unfolding fitting
  fitting_kept P (opening c payload work) = opened_kept c work (front P c (first_true (map unused (desk c t.holds))) payload work)
  fitting_kept P (asking c hold index out) = kept _
  fitting_kept P (closing c hold) = by_cond (ltb c 16) _ _ (closed_kept c hold (get_or (desk c t.holds) hold 0)) (kept _)
  fitting_kept P tidying = tidy_kept

  pub step_kept : (P : Payloads) (call : Call) → Kept t s (step P t s call)
  unfolding step
  step_kept P call = by_cond (fits t s) _ _ (fitting_kept P call) (kept _)

-- what answers are not
unfoldable pub sort : Answer → ℕ
sort (refusal n at buffer) = 0
sort (granted hold work) = 1
sort (nothing out) = 2
sort (found size out) = 3
sort closed = 4
sort tidied = 5

by_sort : (a b : Answer) → a ≡ b → sort a ≡ sort b
by_sort a b e = ap sort e

pub refused_keeps : (t : Table) (s : List ℕ) (x : After) (n at : ℕ) (buffer : List ℕ) → Kept t s x → x.answer ≡ refusal n at buffer → (x.table ≡ t) × (x.store ≡ s)
unfolding sort
refused_keeps t s x n at buffer (kept a) e = (refl, refl)
refused_keeps t s x n at buffer (grant h w f) e = absurd (let z : 1 ≡ 0 = by_sort _ _ (sym f ∙ e) in omega arith)
refused_keeps t s x n at buffer (close f g) e = absurd (let z : 4 ≡ 0 = by_sort _ _ (sym f ∙ e) in omega arith)
refused_keeps t s x n at buffer (moved f) e = absurd (let z : 5 ≡ 0 = by_sort _ _ (sym f ∙ e) in omega arith)
