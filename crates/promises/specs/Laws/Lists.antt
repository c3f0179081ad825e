-- Which lists are written: those that agree, with rising indices and names that are text.
use Rattle.std.specs.Prelude.{ℕ, ◌≤◌, ◌&&◌, List, [], ◌∷◌, ◌≡◌, refl, length}
use Rattle.std.proofs.Common.{sym, ap, ◌∙◌, arith}
use borrow.Author.Tests.{eqb-true}
use Rattle.std.proofs.Math.Dec.{eqb}
use Rattle.format.proofs.Laws.Lists.{on_provided, on_unless}
use Rattle.format.specs.Laws.Outcomes.{accepted_is, on_both}
use Rattle.format.specs.Lists.{sum, unsorted_at, bad_text_at, function_names}
use Rattle.format.specs.Reading.{accepted}
use Rattle.lists.specs.Steps.{rows_length, contents_length as measured_length, Joined, Measured, payload}
use Rattle.lists.proofs.Payloads.{nothing_listed, payload_filled, filled_long}
use Rattle.wakemiono.specs.Boundary.{wm_found, WmWrites}
use Rattle.wakemiono.specs.declared.WmAnswer.{WmAnswer}
use Rattle.grammar.specs.Faults.Writing.{FineLists, entries_length, contents_length}
use Rattle.grammar.proofs.Laws.Faults.Writing.{rising_of, are_text, number_long, fine_wanted as wanted}
use Rattle.promises.specs.Demands.{payload_length}
use Rattle.promises.specs.Laws.Outputs.{wrote, wrote_there}

module _ (is ns text old new : List ℕ) (a : WmAnswer) (w : WmWrites (function_names is ns text) old new a) where
  pub lists_fine : a.kind ≡ 1 → FineLists is ns text
  unfolding function_names
  lists_fine k =
      on_provided (eqb (length is) (length ns) && eqb (sum ns) (length text)) _ _ (wrote (function_names is ns text) w k).wants λ c e₁.
      on_unless (unsorted_at 0 0 is) _ _ e₁ λ u e₂. on_unless (bad_text_at 0 ns text) _ _ e₂ λ b e₃.
      on_both (eqb (length is) (length ns)) (eqb (sum ns) (length text)) c λ l s.
      record {
        agree = (eqb-true (length is) (length ns) l, eqb-true (sum ns) (length text) s);
        rise = rising_of 0 0 is u;
        are_text = are_text b;
      }

-- How long what is written is, as the demands count it
entries_long : (is ns : List ℕ) → rows_length is ns ≡ entries_length is ns
unfolding rows_length
entries_long [] ns = refl
entries_long (i ∷ is) [] = refl
entries_long (i ∷ is) (n ∷ ns) = rw (number_long i, number_long n, entries_long is ns)

contents_long : (is ns : List ℕ) → measured_length is ns ≡ contents_length is ns
contents_long is ns = rw (number_long (length is), entries_long is ns)

payload_long : (is ns text : List ℕ) {size : ℕ} → Measured is ns text size → length (payload is ns text) ≡ payload_length is ns
payload_long [] ns text m = ap length (nothing_listed [] ns text refl)
payload_long (i ∷ is) ns text {size} m =
    let same : size ≡ contents_length (i ∷ is) ns = m.measured ∙ contents_long (i ∷ is) ns in
    ap length (payload_filled m (λ h. omega (arith, h))) ∙ filled_long m ∙ rw (number_long size, same)

module _ {is ns text : List ℕ} (fine : FineLists is ns text) where
  joined : Joined is ns text
  joined = record { same_count = fine.agree.0; add_up = fine.agree.1 }

  module _ (small : contents_length is ns ≤ 4_294_967_295) where
    pub fine_wanted : function_names is ns text ≡ accepted (payload is ns text)
    unfolding payload
    fine_wanted = wanted fine small

    pub fine_long : length (payload is ns text) ≡ payload_length is ns
    fine_long = payload_long is ns text (record { joined = joined; measured = sym (contents_long is ns); small = omega arith })

pub fine_written : (is ns text old new : List ℕ) (a : WmAnswer) → WmWrites (function_names is ns text) old new a → FineLists is ns text → contents_length is ns ≤ 4_294_967_295 → payload_length is ns ≤ length old → a ≡ wm_found 0 0 (payload_length is ns)
fine_written is ns text old new a w fine h room =
    let v = wrote_there (payload is ns text) (rw (fine_long fine h) room) (rw (fine_wanted fine h) at w) in
    v.is ∙ ap (λ bs. wm_found 0 0 (length bs)) (sym (accepted_is v.wants)) ∙ ap (λ n. wm_found 0 0 n) (fine_long fine h)
