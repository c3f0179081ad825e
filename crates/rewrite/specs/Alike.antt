-- What two calls hand back, compared; and what a judging call says of what is accepted.
use Rattle.std.specs.Prelude.{ℕ, List, [], ◌↔◌, ◌≡◌, refl, Ok, Err, None}
use Rattle.std.proofs.Math.Logic.Iff
use Rattle.std.proofs.Math.Option.{Option, none, some}
use Rattle.std.proofs.Common.{sym, ap, ◌∙◌}
use Rattle.format.specs.Reading.{Judged, accepted, refused}
use Rattle.format.specs.Verdicts.{verdict_of}
use Rattle.format.specs.Returned.{Verdict}
use Rattle.format.specs.Parts.{Part}
use Rattle.format.specs.Questions.{as_place, as_bytes, as_told, answered}
use Rattle.format.proofs.Laws.Answers.{told_none}
use Rattle.format.proofs.Laws.Calls.{none_told}
use Rattle.format.specs.Laws.Outcomes.{not_accepted}
use Rattle.format.specs.Returned.{Answer}

-- "Two answers are the same when both are none, both give the same bytes": what a question's two calls hand back of the one payload and of the other
pub record SameTold (r r' : Answer) (bytes bytes' : List ℕ) : Type 0 where
  pub both_none : (r ≡ (Ok None)) ↔ (r' ≡ (Ok None))
  pub same_bytes : bytes ≡ bytes'

-- the bytes that are handed back are those that are told
told_bytes : Judged (Option (List ℕ)) → List ℕ
told_bytes (accepted none) = []
told_bytes (accepted (some x)) = x
told_bytes (refused n at) = []

bytes_told : (j : Judged (Option Part)) → as_bytes j ≡ told_bytes (as_told j)
unfolding as_bytes as_told told_bytes
bytes_told (accepted none) = refl
bytes_told (accepted (some x)) = refl
bytes_told (refused n at) = refl

pub same_told : (j k : Judged (Option Part)) (r r' : Answer) (bytes bytes' : List ℕ) → answered r ≡ as_place j → bytes ≡ as_bytes j → answered r' ≡ as_place k → bytes' ≡ as_bytes k → as_told k ≡ as_told j → SameTold r r' bytes bytes'
same_told j k r r' bytes bytes' e b e' b' same =
    let as_none : (as_told j ≡ accepted none) ↔ (as_told k ≡ accepted none) = (λ h. same ∙ h, λ h. sym same ∙ h) in
    let back : (k ≡ accepted none) ↔ (as_told k ≡ accepted none) = told_none k in
    let there : (r' ≡ (Ok None)) ↔ (k ≡ accepted none) = none_told k e' in
    record {
      both_none = Iff.trans (none_told j e) (Iff.trans (told_none j) (Iff.trans as_none (λ h. there.1 (back.1 h), λ h. back.0 (there.0 h))));
      same_bytes = b ∙ bytes_told j ∙ ap told_bytes (sym same) ∙ sym (bytes_told k) ∙ sym b';
    }

pub accepted_so : (v : Verdict) → verdict_of v ≡ accepted tt → v ≡ (Ok tt)
accepted_so (Ok _) e = refl
accepted_so (Err r) e = absurd (not_accepted e)
