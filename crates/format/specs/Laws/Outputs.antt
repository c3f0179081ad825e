-- Writing into a lent output, path by path: refused before, without room, and written; and that one answer and one end state alone meet the promise.
use Rattle.std.specs.Prelude.{ℕ, ◌≤◌, ◌<◌, cond, List, ◌++◌, ◌≡◌, leb, length, take, drop, Ok, Err}
use Rattle.std.proofs.Common.{sym, ap, ◌∙◌, take_at}
use borrow.Author.Tests.{le-leb, lt-leb}
use Rattle.format.specs.Refusals.{number_of}
use Rattle.format.specs.Reading.{Judged, accepted, refused}
use Rattle.format.specs.Outputs.{fitting, write_answer, output_after, written_as, Writes}
use Rattle.format.specs.Laws.Outcomes.{not_accepted, accepted_is, by_test, mapped, followed}
use Rattle.format.specs.Laws.Refusals.{same_judgement}
use Rattle.format.specs.declared.Reason.TheVariants.{OutputTooShort}
use Rattle.format.specs.declared.Refusal.{Refusal}
use Rattle.format.specs.Returned.{Written}

module _ {wanted : Judged (List ℕ)} {old : List ℕ} where
  -- refused for what was lent: nothing changes
  pub writes_refused : {r : Refusal} → wanted ≡ refused (number_of r.reason) r.offset.0 → Writes wanted old old (Err r)
  unfolding fitting write_answer output_after
  writes_refused e = record { says = rw e; leaves = rw e }

  module _ {bytes : List ℕ} (e : wanted ≡ accepted bytes) where
    -- 13 gives the needed length, and nothing changes
    pub writes_short : length old < length bytes → Writes wanted old old (Err (record { reason = OutputTooShort; offset = record { 0 = length bytes } }))
    unfolding fitting write_answer output_after
    writes_short h = record { says = rw (e, lt-leb (length bytes) (length old) h); leaves = rw (e, lt-leb (length bytes) (length old) h) }

    -- the bytes stand first, the others are as they were
    pub writes_all : {new : List ℕ} → length bytes ≤ length old → new ≡ bytes ++ drop (length bytes) old → Writes wanted old new (Ok (length bytes))
    unfolding fitting write_answer output_after
    writes_all h w = record { says = rw (e, le-leb (length bytes) (length old) h); leaves = w ∙ rw (e, le-leb (length bytes) (length old) h) }

-- one answer alone has a meaning
pub same_written : (r r' : Written) → written_as r ≡ written_as r' → r ≡ r'
same_written (Ok n) (Ok m) e = ap Ok (accepted_is e)
same_written (Ok n) (Err r) e = absurd (not_accepted (sym e))
same_written (Err r) (Ok n) e = absurd (not_accepted e)
same_written (Err r) (Err t) e = ap Err (same_judgement e)

-- two results that meet one promise are equal, the output included
pub writes_same : {wanted : Judged (List ℕ)} {old new new' : List ℕ} {r r' : Written} → Writes wanted old new r → Writes wanted old new' r' → (r ≡ r') × (new ≡ new')
writes_same {r = r} {r' = r'} p q = (same_written r r' (p.says ∙ sym q.says), p.leaves ∙ sym q.leaves)

-- a length is that of the bytes wanted, which stand first in the output
pub on_written {ℓ} : {C : Type ℓ} {wanted : Judged (List ℕ)} {old new : List ℕ} {n : ℕ} → Writes wanted old new (Ok n) → ((bs : List ℕ) → wanted ≡ accepted bs → take n new ≡ bs → C) → C
unfolding fitting write_answer output_after
on_written {wanted = wanted} {old} {new} {n} w k =
    mapped length (fitting (length old) wanted) (sym w.says) λ fit e l.
    followed wanted (λ bs. cond (leb (length bs) (length old)) (accepted bs) (refused (number_of OutputTooShort) (length bs))) e λ bs e₁ e₂.
    by_test (leb (length bs) (length old))
    (λ t. let same : bs ≡ fit = accepted_is (rw t at e₂) in
    k bs e₁ (ap (take n) w.leaves ∙ rw (e₁, t) (take_at bs (drop (length bs) old) n (rw same l))))
    (λ t. absurd (not_accepted (rw t at e₂)))
