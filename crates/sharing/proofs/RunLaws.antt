-- The first run of free blocks in one pass.
use Rattle.std.specs.Prelude.{Some, None}
use Prim.Native.Nat.{ℕ, zero, suc, pred, max, ◌+◌, ◌-◌, ◌/◌, ◌≤◌, ◌<◌}
use mathlib.Core.Bool.{Bool, false}
use mathlib.Core.List.{List, [], ◌∷◌, ◌++◌, append-nil}
use mathlib.Core.Option.{Option, some}
use mathlib.Core.Path.{◌≡◌, refl, sym, ap, ap₂, ◌∙◌}
use native.Mathlib.Omega.{arith}
use borrow.Author.Rules.{rules}
use borrow.Author.Tests.{eq-eqb, ne_eqb, lt-ltb, le-ltb}
use lib.Dec.{ltb}
use lib.ListN.{length, drop, get_or, replicate}
use Rattle.sharing.specs.Arrays.{marks_from}
use Rattle.sharing.specs.Blocks.{need}
use Rattle.sharing.specs.Laws.Arrays.{marks_cons}
use Rattle.sharing.specs.Laws.Bytes.{blocks_cons, blocks_end}
use Rattle.sharing.specs.Laws.Runs.{run_stops, run_grows, run_full, run_ends}
use Rattle.sharing.specs.Laws.Walks.{later}
use Rattle.sharing.specs.Marks.{Walkable, FindsRun}
use Rattle.sharing.specs.Model.{after}
use Rattle.sharing.specs.Table.{Mark, mark, blocks, reach, taken, first_run}
use Rattle.sharing.proofs.FindLaws.{later_none_is, later_zero}

-- What rows have from here on

module _ (cover users size : ℕ) where
  pub covered_none : users ≡ 0 → cover ≡ max cover (reach (mark users size))
  unfolding reach
  covered_none e = rw (eq-eqb users 0 e) (omega arith)

  module _ {own n : ℕ} (f : users ≡ 0 → ⊥) (g : n ≡ size) (h : own ≡ need n) where
    pub covered_less : own < cover → cover ≡ max cover (reach (mark users size))
    unfolding reach
    covered_less l = rw (ne_eqb users 0 f, ← g, ← h) (omega arith)

    pub covered_more : cover ≤ own → own ≡ max cover (reach (mark users size))
    unfolding reach
    covered_more l = rw (ne_eqb users 0 f, ← g, ← h) (omega arith)

pub ruleset covers = (covered_none, covered_less, covered_more, rules)

-- The pass

pub record Running (us ns s : List ℕ) (wanted b cover free : ℕ) : Type 0 where
  pub short : free < wanted
  pub inside : free ≤ b
  pub is : first_run wanted (taken 0 (marks_from us ns) (blocks s)) ≡ later (b - free) (first_run wanted (replicate free false ++ taken cover (drop b (marks_from us ns)) (drop b (blocks s))))

pub running_none : (us ns s : List ℕ) (wanted : ℕ) → 0 < wanted → Running us ns s wanted 0 0 0
running_none us ns s wanted h = record { short = h; inside = omega arith; is = refl }

later_add : (n m : ℕ) (o : Option ℕ) → later n (later m o) ≡ later (n + m) o
later_add zero m o = let z : 0 + m ≡ m = omega arith in rw z refl
later_add (suc n) m o = let z : suc n + m ≡ suc (n + m) = omega arith in rw z (ap after (later_add n m o))

pub taken_test : (cover : ℕ) (m : Mark) (ms : List Mark) (k : List ℕ) (ks : List (List ℕ)) → taken cover (m ∷ ms) (k ∷ ks) ≡ ltb 0 (max cover (reach m)) ∷ taken (pred (max cover (reach m))) ms ks
unfolding taken
taken_test cover m ms k ks = refl

pub taken_end : (cover : ℕ) (ms : List Mark) → taken cover ms [] ≡ []
unfolding taken
taken_end cover [] = refl
taken_end cover (m ∷ ms) = refl

full : (wanted : ℕ) (ts : List Bool) → 0 < wanted → first_run wanted (replicate wanted false ++ ts) ≡ some 0
full zero ts h = absurd (omega arith)
full (suc k) ts h = run_full k ts

module _ {us ns s : List ℕ} {wanted b cover free : ℕ} (t : Running us ns s wanted b cover free) where
  module _ (w : Walkable us ns s) (h : b < length s / 512) {c : ℕ} (e : c ≡ max cover (reach (mark (get_or us b 0) (get_or ns b 0)))) where
    passed : first_run wanted (taken 0 (marks_from us ns) (blocks s)) ≡ later (b - free) (first_run wanted (replicate free false ++ (ltb 0 c ∷ taken (pred c) (drop (suc b) (marks_from us ns)) (drop (suc b) (blocks s)))))
    passed =
        let m = marks_cons us ns b (w.users_long ∙ sym w.sizes_long) (omega (arith, w.users_long, w.few)) in
        let k = blocks_cons s b h in
        t.is ∙ ap (λ (l : List Bool). later (b - free) (first_run wanted (replicate free false ++ l)))
        (ap₂ (taken cover) m k ∙ taken_test cover _ (drop (suc b) (marks_from us ns)) _ (drop (suc b) (blocks s)) ∙ rw (← e) refl)

    pub running_stops : 0 < c → Running us ns s wanted (b + 1) (c - 1) 0
    running_stops l =
        let p : pred c ≡ c - 1 = omega arith in
        let n : suc b ≡ b + 1 = omega arith in
        let z : b - free + suc free ≡ b + 1 - 0 = omega (arith, t.inside) in
        record {
          short = omega (arith, t.short);
          inside = omega arith;
          is = passed ∙ rw (lt-ltb 0 c l) (ap (later (b - free)) (run_stops free wanted (taken (pred c) (drop (suc b) (marks_from us ns)) (drop (suc b) (blocks s))) t.short) ∙ later_add (b - free) (suc free) _ ∙ rw (z, p, n) refl);
        }

    grown : c ≤ 0 → first_run wanted (taken 0 (marks_from us ns) (blocks s)) ≡ later (b - free) (first_run wanted (replicate (suc free) false ++ taken c (drop (suc b) (marks_from us ns)) (drop (suc b) (blocks s))))
    grown l =
        let p : pred c ≡ c = omega arith in
        passed ∙ rw (le-ltb 0 c l, p) (ap (λ (x : List Bool). later (b - free) (first_run wanted x)) (run_grows free (taken c (drop (suc b) (marks_from us ns)) (drop (suc b) (blocks s)))))

    pub running_grows : c ≤ 0 → (free + 1 ≡ wanted → ⊥) → Running us ns s wanted (b + 1) c (free + 1)
    running_grows l f =
        let n : suc b ≡ b + 1 = omega arith in
        let k : suc free ≡ free + 1 = omega arith in
        let z : b - free ≡ b + 1 - (free + 1) = omega arith in
        record { short = omega (arith, t.short); inside = omega (arith, t.inside); is = grown l ∙ rw (z, n) (ap (λ (i : ℕ). later (b + 1 - (free + 1)) (first_run wanted (replicate i false ++ taken c (drop (b + 1) (marks_from us ns)) (drop (b + 1) (blocks s))))) k) }

    pub running_found : c ≤ 0 → free + 1 ≡ wanted → FindsRun us ns s wanted (Some (b + 1 - wanted))
    running_found l f =
        let k : suc free ≡ wanted = omega arith in
        let z : b - free ≡ b + 1 - wanted = omega arith in
        let rest = taken c (drop (suc b) (marks_from us ns)) (drop (suc b) (blocks s)) in
        record { is = sym (grown l ∙ ap (λ (i : ℕ). later (b - free) (first_run wanted (replicate i false ++ rest))) k ∙ ap (later (b - free)) (full wanted rest (omega arith)) ∙ later_zero (b - free) ∙ ap some z) }

  pub running_room : free + 1 ≡ wanted → wanted ≤ b + 1
  running_room e = omega (arith, t.inside)

  pub running_all : length s / 512 ≤ b → FindsRun us ns s wanted None
  running_all h = record {
    is = sym (t.is ∙ ap (λ (l : List Bool). later (b - free) (first_run wanted (replicate free false ++ l))) (ap (taken cover (drop b (marks_from us ns))) (blocks_end s b h) ∙ taken_end cover (drop b (marks_from us ns)))
        ∙ ap (λ (l : List Bool). later (b - free) (first_run wanted l)) (append-nil (replicate free false)) ∙ ap (later (b - free)) (run_ends free wanted t.short) ∙ later_none_is (b - free));
  }

pub ruleset runs = (running_none, running_stops, running_grows, running_found, running_room, running_all, rules)
