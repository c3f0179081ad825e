-- Each promise of the crate `sharing` determines what comes back: the table, the answer, and what is left of the lent buffers.
use Rattle.std.proofs.Common.{sym, ap, ◌∙◌}
use Rattle.format.proofs.Determined.{Determines1, Determines4, DeterminesBoth2, DeterminesBoth6}
use Rattle.sharing.specs.Laws.Same.{same_table, same_opened, same_told, same_closed, same_tidied}
use Rattle.sharing.specs.Promises.{SharingStart, SharingOpen, SharingAsk, SharingClose, SharingCompact}
use Rattle.sharing.specs.Step.{After}
use Rattle.promises.specs.Determined.Forms.{DeterminesThree5}

pub record Sharing : Type 0 where
  -- sharing
  sharing_start : Determines1 SharingStart
  sharing_open : DeterminesThree5 SharingOpen
  sharing_ask : DeterminesBoth6 SharingAsk
  sharing_close : Determines4 SharingClose
  sharing_compact : DeterminesBoth2 SharingCompact

pub determined : Sharing
determined =
    record {
      sharing_start = λ bytes a b p q. same_table a b p.1 q.1 (p.0 ∙ sym q.0);
      sharing_open = λ t store customer payload work a b p q.
          let e = p.0 ∙ sym q.0 in
          let table = same_table a.0.table b.0.table p.1 q.1 (ap (λ (x : After). x.table) e) in
          let told = same_opened a.0.answer b.0.answer a.2 b.2 (ap (λ (x : After). x.answer) e) in
          let left = ap (λ (x : After). x.store) e in
          λ i. (record { table = table i; answer = told.0 i }, left i, told.1 i);
      sharing_ask = λ t store customer hold function out a b p q.
          let told = same_told a.0 b.0 a.1 b.1 (ap (λ (x : After). x.answer) (p ∙ sym q)) in
          λ i. (told.0 i, told.1 i);
      sharing_close = λ t store customer hold a b p q.
          let e = p.0 ∙ sym q.0 in
          let table = same_table a.table b.table p.1 q.1 (ap (λ (x : After). x.table) e) in
          let told = same_closed a.verdict b.verdict (ap (λ (x : After). x.answer) e) in
          λ i. record { table = table i; verdict = told i };
      sharing_compact = λ t store a b p q.
          let e = p.0 ∙ sym q.0 in
          let table = same_table a.0.table b.0.table p.1 q.1 (ap (λ (x : After). x.table) e) in
          let told = same_tidied a.0.verdict b.0.verdict (ap (λ (x : After). x.answer) e) in
          let left = ap (λ (x : After). x.store) e in
          λ i. (record { table = table i; verdict = told i }, left i);
    }
