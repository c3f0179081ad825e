-- What the check makes of one hint, of a function's hints and of all, by the rule: accepted where they sit, and else refused as the first that does not.
use Rattle.std.specs.Prelude.{ℕ, List, [], ◌∷◌, ◌≡◌}
use Rattle.std.proofs.Math.Option.{Option, none, some}
use Rattle.std.proofs.Math.Path.{refl}
use Rattle.std.proofs.Common.{sym, ◌∙◌}
use Rattle.format.specs.Bytes.{Bytes}
use Rattle.format.specs.Parts.{Part}
use Rattle.format.specs.Reading.{Judged, accepted, refused, judged_then}
use Rattle.format.specs.Laws.Options.{not_some, some_is}
use Rattle.format.specs.Laws.Outcomes.{not_accepted}
use Rattle.grammar.specs.Modules.{Among}
use Rattle.branches.specs.Bodies.{body_of, Seat, on_branch_lem, not_readable, elsewhere, seat_in}
use Rattle.branches.specs.Branches.{seat_judged, each_hint, hints_of, one_function, each_function}
use Rattle.branches.specs.Hints.{Placed, Hints}
use Rattle.branches.specs.Rule.{Sits, HintRefused, no_body, cannot_be_read, not_on_aBranch, HintsSit, AllSit, FirstRefused, FirstOfFunction, FirstOfAll}
use Rattle.branches.specs.Laws.InTurn.{Decides, decides_each}
use Rattle.branches.specs.Laws.Seats.{branch_exactly, unreadable_exactly, elsewhere_exactly}

-- one hint, by its function's body
abbrev hint_judged : (at : ℕ) → Option Part → Placed Part → Judged (Unit {0})
hint_judged at none h = refused 19 at
hint_judged at (some body) h = seat_judged h.at (seat_in body h.number)

hints_go_on : (at : ℕ) (found : Option Part) (h : Placed Part) (hs : Hints) → hints_of at found (h ∷ hs) ≡ judged_then (hint_judged at found h) (λ _. hints_of at found hs)
unfolding each_hint
hints_go_on at none h hs = refl
hints_go_on at (some body) h [] = refl
hints_go_on at (some body) h (x ∷ hs) = refl

refused_with : {n m at o : ℕ} → ◌≡◌ {A = Judged (Unit {0})} (refused n at) (refused m o) → (n ≡ m) × (at ≡ o)
refused_with e = (cc, cc)

module _ (first : ℕ) (parts : List Part) (bytes : (f : ℕ) (body : Part) → body_of first parts f ≡ some body → Bytes body.bytes) where
  -- one hint of a function
  module _ (f : Placed Hints) where
    module _ (body : Part) (is : body_of first parts f.number ≡ some body) (h : Placed Part) where
      its_body : {other : Part} → body_of first parts f.number ≡ some other → other ≡ body
      its_body e = some_is (sym e ∙ is)

      seat_fine : (seat : Seat) → seat_in body h.number ≡ seat → seat_judged h.at seat ≡ accepted tt → Sits first parts f.number h.number
      seat_fine on_branch_lem e j =
          let (op, b, begins) = (branch_exactly body h.number (bytes f.number body is)).0 e in
          record { body = body; its_body = is; op = op; is_branch_lem = b; begins = begins }
      seat_fine not_readable e j = absurd (not_accepted j)
      seat_fine elsewhere e j = absurd (not_accepted j)

      seat_fault : (seat : Seat) → seat_in body h.number ≡ seat → {n at : ℕ} → seat_judged h.at seat ≡ refused n at → HintRefused first parts f h n at
      seat_fault on_branch_lem e j = absurd (not_accepted (sym j))
      seat_fault not_readable e j = let (n, at) = refused_with j in rw (← n, ← at) (cannot_be_read is ((unreadable_exactly body h.number (bytes f.number body is)).0 e))
      seat_fault elsewhere e j = let (n, at) = refused_with j in rw (← n, ← at) (not_on_aBranch is ((elsewhere_exactly body h.number (bytes f.number body is)).0 e))

    hint_fine : (found : Option Part) → body_of first parts f.number ≡ found → (h : Placed Part) → hint_judged f.at found h ≡ accepted tt → Sits first parts f.number h.number
    hint_fine none is h e = absurd (not_accepted e)
    hint_fine (some body) is h e = seat_fine body is h (seat_in body h.number) refl e

    fine_hint : (found : Option Part) → body_of first parts f.number ≡ found → (h : Placed Part) → Sits first parts f.number h.number → hint_judged f.at found h ≡ accepted tt
    fine_hint none is h s = absurd (not_some (sym is ∙ s.its_body))
    fine_hint (some body) is h s =
        let same = its_body body is h s.its_body in
        rw ((branch_exactly body h.number (bytes f.number body is)).1 (s.op, s.is_branch_lem, rw same at s.begins))

    hint_fault : (found : Option Part) → body_of first parts f.number ≡ found → (h : Placed Part) (n at : ℕ) → hint_judged f.at found h ≡ refused n at → HintRefused first parts f h n at
    hint_fault none is h n at e = let (n, at) = refused_with e in rw (← n, ← at) (no_body is)
    hint_fault (some body) is h n at e = seat_fault body is h (seat_in body h.number) refl e

    fault_hint : (found : Option Part) → body_of first parts f.number ≡ found → (h : Placed Part) (n at : ℕ) → HintRefused first parts f h n at → hint_judged f.at found h ≡ refused n at
    fault_hint none is h n at (no_body e) = refl
    fault_hint none is h n at (cannot_be_read e r) = absurd (not_some (sym is ∙ e))
    fault_hint none is h n at (not_on_aBranch e r) = absurd (not_some (sym is ∙ e))
    fault_hint (some body) is h n at (no_body e) = absurd (not_some (sym e ∙ is))
    fault_hint (some body) is h n at (cannot_be_read e r) =
        let same = its_body body is h e in
        rw ((unreadable_exactly body h.number (bytes f.number body is)).1 (rw same at r))
    fault_hint (some body) is h n at (not_on_aBranch e r) =
        let same = its_body body is h e in
        rw ((elsewhere_exactly body h.number (bytes f.number body is)).1 (rw same at r))

    hint_decides : (found : Option Part) → body_of first parts f.number ≡ found → Decides (hint_judged f.at found) (λ h. Sits first parts f.number h.number) (HintRefused first parts f)
    hint_decides found is = record { fine = λ h. (hint_fine found is h, fine_hint found is h); fault = λ h n at. (hint_fault found is h n at, fault_hint found is h n at) }

    function_decides : (found : Option Part) → body_of first parts f.number ≡ found → Decides (hints_of f.at found) (λ hs. (h : Placed Part) → Among h hs → Sits first parts f.number h.number) (λ hs. FirstRefused (λ h. Sits first parts f.number h.number) (HintRefused first parts f) hs)
    function_decides found is = decides_each (hints_of f.at found) (hint_decides found is) refl (hints_go_on f.at found)

  functions_decide : Decides (one_function first parts) (HintsSit first parts) (FirstOfFunction first parts)
  unfolding one_function
  functions_decide = record {
    fine = λ f. (function_decides f (body_of first parts f.number) refl).fine f.value;
    fault = λ f. (function_decides f (body_of first parts f.number) refl).fault f.value;
  }

  pub all_decide : Decides (each_function first parts) (AllSit first parts) (FirstOfAll first parts)
  unfolding each_function
  all_decide = decides_each (each_function first parts) functions_decide refl (λ f fs. refl)
