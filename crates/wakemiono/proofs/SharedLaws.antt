-- K12, K13: what the calls on the shared table leave and answer, from what is promised of `sharing`.
use Rattle.std.specs.Prelude.{Ok, Err, Some, None}
use Prim.Native.Nat.{ℕ}
use mathlib.Core.List.{List, []}
use mathlib.Core.Path.{◌≡◌, refl, ap, ◌∙◌}
use native.Mathlib.Omega.{arith}
use borrow.Author.Rules.{rules}
use Rattle.format.specs.Outputs.{written_as}
use Rattle.format.specs.Refusals.{number_of}
use Rattle.format.specs.Verdicts.{verdict_of}
use Rattle.format.specs.declared.Refusal.{Refusal}
use Rattle.format.specs.Returned.{Verdict}
use Rattle.format.specs.Returned.{Written}
use Rattle.sharing.specs.Arrays.{table_of}
use Rattle.sharing.specs.Calls.{opened_as, asked_as, closed_as, tidied_as}
use Rattle.sharing.specs.Model.{Call, Answer, opening, asking, closing, tidying}
use Rattle.sharing.specs.Named.{names}
use Rattle.sharing.specs.Promises.{SharingOpen, SharingAsk, SharingClose, SharingCompact}
use Rattle.sharing.specs.Step.{After, leaves, step}
use Rattle.sharing.specs.Table.{Table}
use Rattle.sharing.specs.declared.Turned.{Turned}
use Rattle.sharing.specs.declared.Opened.{Opened}
use Rattle.sharing.specs.declared.Table.{Table as Arrays}
use Rattle.sharing.specs.Returned.{Told}
use Rattle.wakemiono.specs.Boundary.{wm_count, wm_judged, wm_found, wm_none, wm_refused}
use Rattle.wakemiono.specs.Shared.{wm_shared, wm_told, buffer_of, Shares, WmShares}
use Rattle.wakemiono.specs.declared.WmAnswer.{WmAnswer}

-- An answer tells the buffer and the fields

opened_fields : (w : Written) (left : List ℕ) → wm_count (written_as w) ≡ wm_shared (opened_as w left)
opened_fields (Ok hold) left = refl
opened_fields (Err r) left = refl

opened_buffer : (w : Written) (left : List ℕ) → left ≡ buffer_of (opened_as w left)
opened_buffer (Ok hold) left = refl
opened_buffer (Err r) left = refl

told_fields : (t : Told) (left : List ℕ) → wm_told t ≡ wm_shared (asked_as t left)
told_fields (Ok None) left = refl
told_fields (Ok (Some size)) left = refl
told_fields (Err r) left = refl

told_buffer : (t : Told) (left : List ℕ) → left ≡ buffer_of (asked_as t left)
told_buffer (Ok None) left = refl
told_buffer (Ok (Some size)) left = refl
told_buffer (Err r) left = refl

closed_fields : (v : Verdict) → wm_judged 0 (verdict_of v) ≡ wm_shared (closed_as v)
closed_fields (Ok _) = refl
closed_fields (Err r) = refl

closed_buffer : (v : Verdict) → [] ≡ buffer_of (closed_as v)
closed_buffer (Ok _) = refl
closed_buffer (Err r) = refl

tidied_fields : (v : Verdict) → wm_judged 0 (verdict_of v) ≡ wm_shared (tidied_as v)
tidied_fields (Ok _) = refl
tidied_fields (Err r) = refl

tidied_buffer : (v : Verdict) → [] ≡ buffer_of (tidied_as v)
tidied_buffer (Ok _) = refl
tidied_buffer (Err r) = refl

-- what is left and answered as the step says is shared
shares_so : (t : Table) (store : List ℕ) (call : Call) (after : Table) (left buffer : List ℕ) (x : Answer) (a : WmAnswer)
    → leaves after left x ≡ step names t store call → buffer ≡ buffer_of x → a ≡ wm_shared x → Shares t store call after left buffer a
shares_so t store call after left buffer x a e b s = record {
  table = ap (λ (y : After). y.table) e;
  stored = ap (λ (y : After). y.store) e;
  lent = b ∙ ap (λ (y : After). buffer_of y.answer) e;
  says = s ∙ ap (λ (y : After). wm_shared y.answer) e;
}

module _ (t : Arrays) (store : List ℕ) (customer : ℕ) where
  pub opens_shared : (r : Opened) {payload work left buffer : List ℕ} {a : WmAnswer} → SharingOpen t store customer payload work left buffer r → a ≡ wm_count (written_as r.answer)
      → WmShares t store (opening customer payload work) r.table left buffer a
  opens_shared r {payload} {work} {left} {buffer} {a} p e = record {
    shares = shares_so (table_of t) store (opening customer payload work) (table_of r.table) left buffer (opened_as r.answer buffer) a p.0 (opened_buffer r.answer buffer) (e ∙ opened_fields r.answer buffer);
    full = p.1;
  }

  pub asks_shared : (r : Told) {hold function : ℕ} {out buffer : List ℕ} {a : WmAnswer} → SharingAsk t store customer hold function out buffer r → a ≡ wm_told r
      → Shares (table_of t) store (asking customer hold function out) (table_of t) store buffer a
  asks_shared r {hold} {function} {out} {buffer} {a} p e = shares_so (table_of t) store (asking customer hold function out) (table_of t) store buffer (asked_as r buffer) a p (told_buffer r buffer) (e ∙ told_fields r buffer)

  pub closes_shared : (r : Turned) {hold : ℕ} {a : WmAnswer} → SharingClose t store customer hold r → a ≡ wm_judged 0 (verdict_of r.verdict)
      → WmShares t store (closing customer hold) r.table store [] a
  closes_shared r {hold} {a} p e = record {
    shares = shares_so (table_of t) store (closing customer hold) (table_of r.table) store [] (closed_as r.verdict) a p.0 (closed_buffer r.verdict) (e ∙ closed_fields r.verdict);
    full = p.1;
  }

pub compacts_shared : (t : Arrays) (store : List ℕ) (r : Turned) {left : List ℕ} {a : WmAnswer} → SharingCompact t store left r → a ≡ wm_judged 0 (verdict_of r.verdict)
    → WmShares t store tidying r.table left [] a
compacts_shared t store r {left} {a} p e = record {
  shares = shares_so (table_of t) store tidying (table_of r.table) left [] (tidied_as r.verdict) a p.0 (tidied_buffer r.verdict) (e ∙ tidied_fields r.verdict);
  full = p.1;
}

-- the answer to a question, from its three ways
module _ (t : Told) where
  pub told_none : t ≡ Ok None → wm_none ≡ wm_told t
  told_none e = rw e

  pub told_refused : {a : WmAnswer} {r : Refusal} → t ≡ Err r → a ≡ wm_refused (number_of r.reason) r.offset.0 → a ≡ wm_told t
  told_refused e q = rw e q

  pub told_length : {a : WmAnswer} {n : ℕ} → t ≡ Ok (Some n) → a ≡ wm_found 0 0 n → a ≡ wm_told t
  told_length e q = rw e q

pub ruleset tellings = (told_none, told_refused, told_length, rules)

pub ruleset shared = (opens_shared, asks_shared, closes_shared, compacts_shared, rules)
