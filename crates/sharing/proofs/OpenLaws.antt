-- What an open gives, one law for each way through it.
use Rattle.std.specs.Prelude.{Ok, Err, Some, None}
use Prim.Native.Nat.{ℕ, zero, suc, pred, max, ◌+◌, ◌-◌, ◌*◌, ◌/◌, ◌≤◌, ◌<◌}
use mathlib.Core.Bool.{Bool, true, false, cond, not, ◌&&◌}
use mathlib.Core.List.{List, [], ◌∷◌}
use mathlib.Core.Option.{Option, some}
use mathlib.Core.Path.{◌≡◌, refl, sym, ap, ◌∙◌}
use native.Mathlib.Omega.{arith}
use borrow.Author.Rules.{rules}
use borrow.Author.Tests.{not-true, not-false}
use lib.Dec.{eqb, leb}
use lib.Seq.{take_at}
use lib.ListN.{length, get_or, take, drop, length-append}
use Rattle.format.specs.Bytes.{same}
use Rattle.format.specs.Canonical.{canonical_names}
use Rattle.format.specs.Names.{known_kind}
use Rattle.format.specs.Outputs as outputs
use Rattle.format.specs.Outputs.{Writes, write_answer, output_after}
use Rattle.format.specs.Reading.{Judged, accepted, refused}
use Rattle.format.specs.Refusals.{number_of}
use Rattle.format.specs.Laws.Outcomes.{by_test, false_true, not_accepted, accepted_is}
use Rattle.format.specs.declared.Reason.{Reason}
use Rattle.format.specs.declared.Reason.TheVariants.{NoRoom, Damaged}
use Rattle.format.specs.declared.Refusal.{Refusal}
use Rattle.format.specs.Returned.{Written}
use Rattle.sharing.specs.Arrays.{marks_from, table_of}
use Rattle.sharing.specs.Blocks.{need, extra, scatter, gather, join}
use Rattle.sharing.specs.Calls.{Seat, Settling, Settles, Joins, OpensNew, OpensWith, OpensUnused, opened_as, unopened, opened, leads_to}
use Rattle.sharing.specs.Laws.Blocks.{scatter_length}
use Rattle.sharing.specs.Laws.Bytes.{paste_bytes, blocks_length}
use Rattle.sharing.specs.Laws.Isolation.{not_some}
use Rattle.sharing.specs.Laws.Walks.{later_some}
use Rattle.sharing.specs.Marks.{Walkable, RightRows, SizeFits, FindsRow, FindsRun, row_of}
use Rattle.sharing.specs.Model.{over, after, with_work, with_hold}
use Rattle.sharing.specs.Step.{leaves, newly, placed, opened_in, leading, joined}
use Rattle.sharing.specs.Table.{Mark, mark, blank, blocks, rows_right, find, reach, taken, starts_free, first_run, paste}
use Rattle.sharing.specs.declared.Opened.{Opened}
use Rattle.sharing.specs.declared.Table.{Table}
use Rattle.sharing.specs.Returned.{Row}
use Rattle.writing.specs.Wrote.{Wrote}
use Rattle.sharing.proofs.PieceLaws.{need_some}

pub not_opened : (t : Table) (why : Reason) {x : Refusal} → x ≡ record { reason = why; offset = record { 0 = 0 } } → record { table = t; answer = Err x } ≡ unopened t why
not_opened t why e = rw e refl

pub ruleset not_opening = (not_opened, rules)

-- Where a run or a row is

starts_long : (k : ℕ) (ts : List Bool) → starts_free k ts ≡ true → k ≤ length ts
unfolding starts_free
starts_long zero ts e = omega arith
starts_long (suc k) [] e = false_true e
starts_long (suc k) (true ∷ ts) e = false_true e
starts_long (suc k) (false ∷ ts) e = omega (arith, starts_long k ts e)

run_inside : (k : ℕ) (ts : List Bool) {b : ℕ} → first_run k ts ≡ some b → b + k ≤ length ts
unfolding first_run
run_inside k [] e = absurd (not_some e)
run_inside k (t ∷ ts) {b} e = by_test (starts_free k (t ∷ ts))
    (λ s. let z : some 0 ≡ some b = rw s at e in let y : b ≡ 0 = cc in omega (arith, starts_long k (t ∷ ts) s))
    (λ s. let q = later_some 1 (first_run k ts) (rw s at e) in omega (arith, run_inside k ts q.1, q.2))

taken_inside : (c : ℕ) (ms : List Mark) (bs : List (List ℕ)) → length (taken c ms bs) ≤ length bs
unfolding taken
taken_inside c [] bs = omega arith
taken_inside c (m ∷ ms) [] = omega arith
taken_inside c (m ∷ ms) (b ∷ bs) = omega (arith, taken_inside (pred (max c (reach m))) ms bs)

find_inside : (q : List ℕ) (ms : List Mark) (bs : List (List ℕ)) {b : ℕ} → find q ms bs ≡ some b → b < length bs
unfolding find
find_inside q [] bs e = absurd (not_some e)
find_inside q (m ∷ ms) [] e = absurd (not_some e)
find_inside q (m ∷ ms) (k ∷ bs) {b} e = found q (m ∷ ms) bs (not (eqb m.users 0) && same (gather m.size (k ∷ bs)) q) (find q ms bs) (λ d i. find_inside q ms bs i) e
  where
    found : (q : List ℕ) (ms : List Mark) (bs : List (List ℕ)) (t : Bool) (o : Option ℕ) → ((d : ℕ) → o ≡ some d → d < length bs) → {b : ℕ} → cond t (some 0) (after o) ≡ some b → b < suc (length bs)
    found q ms bs true o f {b} e = let y : 0 ≡ b = cc in omega arith
    found q ms bs false o f e = let r = later_some 1 o e in omega (arith, f r.0 r.1, r.2)

stored_small : (n : ℕ) → need n ≤ 128 → n < 4294967296
unfolding need extra
stored_small n h = omega arith

-- A payload that is not stored

module _ {us ns s : List ℕ} {k : ℕ} {r : Row} {b : ℕ} (w : Walkable us ns s) (e : FindsRun us ns s k r) (i : r ≡ Some b) where
  in_store : b + k ≤ length s / 512
  in_store = omega (arith, run_inside k (taken 0 (marks_from us ns) (blocks s)) (sym e.is ∙ ap row_of i), taken_inside 0 (marks_from us ns) (blocks s), blocks_length s)

  pub run_settles : (q : List ℕ) → k ≡ need (length q) → Settling s b q
  run_settles q g = record {
    fits = record { fits = omega (arith, in_store) };
    low = omega (arith, in_store, need_some (length q), w.few);
    small = stored_small (length q) (omega (arith, in_store, w.few));
  }

pub wanted_some : (n : ℕ) {k : ℕ} → k ≡ need n → 0 < k
wanted_some n e = omega (arith, need_some n)

pub seated : {c h : ℕ} → Seat c h → c * 8 + h < 128
seated s = omega (arith, s.there, s.low)

module _ (t u : Table) {c h b : ℕ} {x : Opened} (j : x ≡ opened u h) where
  pub settled : {s new q : List ℕ} → Wrote s new (b * 512) ((b + need (length q)) * 512) (join (scatter q)) → table_of u ≡ leads_to (table_of t) (c * 8 + h) b (mark 1 (length q)) → Settles t s c h b q new x
  settled p l = record { table = ap (λ (y : Opened). table_of y.table) j ∙ l; answer = ap (λ (y : Opened). y.answer) j; wrote = p }

  pub joined_so : table_of u ≡ leads_to (table_of t) (c * 8 + h) b (joined (get_or (table_of t).marks b blank)) → Joins t c h b x
  joined_so l = record { table = ap (λ (y : Opened). table_of y.table) j ∙ l; answer = ap (λ (y : Opened). y.answer) j }

pub settling_fits : {s : List ℕ} {b : ℕ} {q : List ℕ} → Settling s b q → SizeFits s b (length q)
settling_fits w = w.fits

pub ruleset settles = (settling_fits, seated, settled, joined_so, rules)

module _ (t : Table) (s q : List ℕ) {k : ℕ} (r : Row) (w : Walkable t.users t.sizes s) (g : k ≡ need (length q)) (e : FindsRun t.users t.sizes s k r) where
  asked_run : row_of r ≡ first_run (need (length q)) (taken 0 (marks_from t.users t.sizes) (blocks s))
  asked_run = e.is ∙ rw g refl

  pub new_none : {c h : ℕ} {x : Opened} → r ≡ None → x ≡ unopened t NoRoom → OpensNew t s c h q s x
  unfolding newly
  new_none n i = record { is = λ work. rw (i, ← asked_run, n) refl }

  pub new_some : {b c h : ℕ} {new : List ℕ} {x : Opened} → r ≡ Some b → Settles t s c h b q new x → OpensNew t s c h q new x
  unfolding newly leading
  new_some {b} {c} {h} {new} i p =
      let n : length s ≡ length s / 512 * 512 = omega (arith, w.whole) in
      let z : join (paste b (scatter q) (blocks s)) ≡ new = paste_bytes s (length s / 512) n b (scatter q) ∙ rw (scatter_length q) (sym p.wrote.written) in
      record { is = λ work. rw (← asked_run, i, z, p.table, p.answer) refl }

pub ruleset opens_new = (new_none, run_settles, wanted_some, new_some, rules)

-- A payload that may be stored

module _ {us ns s : List ℕ} {x : Bool} (e : x ≡ rows_right (marks_from us ns) (blocks s)) where
  pub right_rows : not x ≡ false → RightRows us ns s
  right_rows k = record { right = sym e ∙ not-false x k }

pub find_low : {us ns s q : List ℕ} {r : Row} {b : ℕ} → Walkable us ns s → FindsRow us ns s q r → r ≡ Some b → b < 128
find_low {us} {ns} {s} {q} w e i = omega (arith, find_inside q (marks_from us ns) (blocks s) (sym e.is ∙ ap row_of i), blocks_length s, w.few)

module _ (t : Table) (s q : List ℕ) {x : Bool} (e : x ≡ rows_right (marks_from t.users t.sizes) (blocks s)) where
  pub with_damaged : {c h : ℕ} {r : Opened} → not x ≡ true → r ≡ unopened t Damaged → OpensWith t s c h q s r
  unfolding opened_in
  with_damaged k i = record { is = λ work. rw (i, ← e, not-true x k) refl }

  module _ (k : not x ≡ false) (y : Row) (f : FindsRow t.users t.sizes s q y) where
    pub with_new : {c h : ℕ} {new : List ℕ} {r : Opened} → y ≡ None → OpensNew t s c h q new r → OpensWith t s c h q new r
    unfolding opened_in placed
    with_new n o = record { is = λ work. rw (← e, not-false x k, ← f.is, n) (o.is work) }

    pub with_stored : {b c h : ℕ} {r : Opened} → y ≡ Some b → Joins t c h b r → OpensWith t s c h q s r
    unfolding opened_in placed leading
    with_stored i p = record { is = λ work. rw (← e, not-false x k, ← f.is, i, p.table, p.answer) refl }

pub ruleset opens_with = (right_rows, find_low, with_damaged, with_new, with_stored, rules)

-- The work buffer

-- what a write that answered with a length, or was refused, says of what was wanted
pub data Outcome (old new : List ℕ) : Judged (List ℕ) → Written → Type 0 where
  whole : (q : List ℕ) → leb (length q) (length old) ≡ true → new ≡ over q old → Outcome old new (accepted q) (Ok (length q))
  short : (q : List ℕ) (r : Refusal) → leb (length q) (length old) ≡ false → new ≡ old → number_of r.reason ≡ 13 → r.offset.0 ≡ length q → Outcome old new (accepted q) (Err r)
  other : (r : Refusal) (n at : ℕ) → new ≡ old → number_of r.reason ≡ n → r.offset.0 ≡ at → Outcome old new (refused n at) (Err r)

pub outcome : {old new : List ℕ} (j : Judged (List ℕ)) (r : Written) → Writes j old new r → Outcome old new j r
unfolding outputs.fitting write_answer output_after over
outcome (refused n at) (Ok k) w = absurd (not_accepted (sym w.says))
outcome (refused n at) (Err r) w = let e = w.says in other r n at w.leaves (cc) (cc)
outcome {old} (accepted q) (Ok k) w = by_test (leb (length q) (length old))
    (λ t. let z : k ≡ length q = accepted_is (rw t at w.says) in rw z (whole q t (rw t at w.leaves)))
    (λ t. absurd (not_accepted (sym (rw t at w.says))))
outcome {old} (accepted q) (Err r) w = by_test (leb (length q) (length old))
    (λ t. absurd (not_accepted (rw t at w.says)))
    (λ t. let e : refused (number_of r.reason) r.offset.0 ≡ refused 13 (length q) = rw t at w.says in short q r t (rw t at w.leaves) (cc) (cc))

unused_by : (t : Table) (s : List ℕ) (c h : ℕ) (old new : List ℕ) (j : Judged (List ℕ)) (r : Refusal) → Outcome old new j (Err r) → leaves (table_of t) s (opened_as (Err r) new) ≡ opened_in (table_of t) s c old (with_work j (some h) old)
unfolding with_work opened_in
unused_by t s c h old new _ _ (short q r l e n a) = rw (l, e, n, a) refl
unused_by t s c h old new _ _ (other r n at e i a) = rw (e, i, a) refl

written_by : (t : Table) (s : List ℕ) (c h : ℕ) (old new after : List ℕ) (j : Judged (List ℕ)) (n : ℕ) (x : Opened) → Outcome old new j (Ok n) → OpensWith t s c h (take n new) after x → leaves (table_of x.table) after (opened_as x.answer new) ≡ opened_in (table_of t) s c old (with_work j (some h) old)
unfolding with_work with_hold over
written_by t s c h old new after _ n x (whole q l e) o =
    let f : take (length q) new ≡ q = ap (take (length q)) e ∙ take_at q (drop (length q) old) (length q) refl in
    rw (l, e) (rw f at (o.is old))

module _ {t : Table} {s : List ℕ} {c h : ℕ} (p old : List ℕ) {new : List ℕ} {r : Written} (w : Writes (canonical_names known_kind p) old new r) where
  pub unused_refused : {x : Refusal} → r ≡ Err x → OpensUnused t s c h p old s new (record { table = t; answer = Err x })
  unused_refused {x} e = record { is = unused_by t s c h old new (canonical_names known_kind p) x (outcome (canonical_names known_kind p) (Err x) (rw e at w)) }

  pub unused_written : {n : ℕ} {after : List ℕ} {x : Opened} → r ≡ Ok n → OpensWith t s c h (take (n - 0) new) after x → OpensUnused t s c h p old after new x
  unused_written {n} {after} {x} e o =
      let z : n - 0 ≡ n = omega arith in
      record { is = written_by t s c h old new after (canonical_names known_kind p) n x (outcome (canonical_names known_kind p) (Ok n) (rw e at w)) (rw z at o) }

written_in : {old new : List ℕ} {j : Judged (List ℕ)} (n : ℕ) → Outcome old new j (Ok n) → n ≤ length new
unfolding over
written_in {old} n (whole q l e) = omega (arith, ap length e, length-append q (drop (length q) old))

pub written_inside : {j : Judged (List ℕ)} {old new : List ℕ} {r : Written} {n : ℕ} → Writes j old new r → r ≡ Ok n → n ≤ length new
written_inside {j} {n = n} w e = written_in n (outcome j (Ok n) (rw e at w))

pub ruleset opens_unused = (unused_refused, unused_written, written_inside, rules)
