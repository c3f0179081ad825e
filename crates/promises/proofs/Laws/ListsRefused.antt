-- Lists are refused at their faults, and by 13 behind them.
use Rattle.std.specs.Prelude.{ℕ, List, ◌↔◌, length}
use Rattle.std.proofs.Common.{sym, subst}
use Rattle.format.specs.Lists.{function_names}
use Rattle.grammar.proofs.Laws.Faults.Writing.{lists_stop, by_fault}
use Rattle.promises.specs.Demands.{ListsRefused, lists_fault, output_too_short, by_aFault, too_short}
use Rattle.promises.proofs.Laws.Exactly.{JudgedOrShort, as_refused, as_short}
use Rattle.promises.specs.Laws.Lists.{fine_wanted, fine_long}

module _ (is ns text : List ℕ) (room : ℕ) where
  to_judged : {n at : ℕ} → ListsRefused is ns text room n at → JudgedOrShort (function_names is ns text) length room n at
  to_judged (lists_fault f) = by_aFault (lists_stop is ns text f)
  to_judged (output_too_short fine small short) =
      let long = fine_long fine small in
      subst (λ at. JudgedOrShort (function_names is ns text) length room 13 at) long (too_short (fine_wanted fine small) (rw long short))

  from_judged : (n at : ℕ) → JudgedOrShort (function_names is ns text) length room n at → ListsRefused is ns text room n at
  from_judged n at r =
      by_fault is ns text
      (λ m k f. as_refused (lists_stop is ns text f) r (λ n at. ListsRefused is ns text room n at) (lists_fault f))
      (λ fine small.
      let long = fine_long fine small in
      as_short (fine_wanted fine small) r (λ n at. ListsRefused is ns text room n at)
      (λ short. subst (λ at. ListsRefused is ns text room 13 at) (sym long) (output_too_short fine small (rw long at short))))

  pub lists_refused : (n at : ℕ) → JudgedOrShort (function_names is ns text) length room n at ↔ ListsRefused is ns text room n at
  lists_refused n at = (from_judged n at, λ r. to_judged r)
