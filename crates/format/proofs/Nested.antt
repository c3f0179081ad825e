-- An arm `Ok(Some(p))` or `Ok(None)` says what the result is and what is in it; a law speaks of both at once.
use Rattle.std.specs.Prelude.{Result, Option, Ok, Err, Some, None, IsErr, IsErrAnd}
use mathlib.Core.Path.{◌≡◌, ap, ◌∙◌}

module _ {A E : Type 0} {r : Result (Option A) E} {x : Option A} (is : r ≡ Ok x) where
  pub ok_some : {a : A} → x ≡ Some a → r ≡ Ok (Some a)
  ok_some inner = is ∙ ap Ok inner

  pub ok_none : x ≡ None → r ≡ Ok None
  ok_none inner = is ∙ ap Ok inner

-- What a `?` hands on is the error that it met
pub handed_on : {A E : Type 0} (r : Result A E) {e : E} → IsErr r × IsErrAnd r (λ f. f ≡ e) → r ≡ Err e
handed_on (Ok x) h = absurd h.1
handed_on (Err f) h = ap Err h.1

pub ruleset nested = (ok_some, ok_none)
