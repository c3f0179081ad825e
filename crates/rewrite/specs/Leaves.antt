-- Demand 3, said of what the calls leave: `names` promises to write `canonical_names kind_of p` over its table of ids, `metadata` to write `canonical_metadata p`, `hints` to write `canonical_hints p`, each by `Writes`; a call that answered with a length n left `take n new`.
use Rattle.std.specs.Prelude.{ℕ, List, ◌≡◌, take, Ok}
use Rattle.std.proofs.Common.{sym, ◌∙◌}
use Rattle.format.specs.Reading.{Accepted, verdict}
use Rattle.format.specs.Names.{Kind, judge_names}
use Rattle.format.specs.Questions.{AllowedBy, ask, as_place, as_bytes, as_told, answered}
use Rattle.format.specs.declared.Question.{Question}
use Rattle.format.specs.Metadata.{any_item, hint_item, judge_metadata, ask_metadata, ask_hint, hint_answered}
use Rattle.format.specs.Canonical.{canonical_names, canonical_metadata, canonical_hints}
use Rattle.format.specs.Verdicts.{verdict_of}
use Rattle.format.specs.Returned.{Verdict}
use Rattle.format.specs.Outputs.{Writes}
use Rattle.format.proofs.Theorems.{ItemQuestion, ItemInRange, item_told, hint_told, questions_rewritten, any_metadata_rewritten, hints_rewritten}
use Rattle.format.proofs.Laws.Questions.{AllPosed}
use Rattle.format.proofs.Laws.Answers.{same_hint_answer}
use Rattle.format.specs.Returned.{Answer}
use Rattle.format.specs.Returned.{HintAnswer}
use Rattle.rewrite.specs.Rewritten.{CallsRewrite, calls_rewrite}
use Rattle.rewrite.specs.Alike.{SameTold, same_told, accepted_so}

-- "Canonical rewritings of two accepted payloads are equal byte by byte exactly when every allowed question gets the same answer from both. A rewriting is accepted, answers as its original, is never longer, and rewriting it again changes nothing."
pub names_calls : (kind_of : ℕ → Kind) → AllPosed kind_of → CallsRewrite (judge_names kind_of 0) (canonical_names kind_of) (λ q p. as_told (ask kind_of q p)) (AllowedBy kind_of)
names_calls kind_of posed = calls_rewrite (questions_rewritten kind_of posed)

pub metadata_calls : CallsRewrite (judge_metadata any_item 0) canonical_metadata (item_told any_item) ItemInRange
metadata_calls = calls_rewrite any_metadata_rewritten

-- of hints the answers are none, likely and unlikely
pub hint_calls : CallsRewrite (judge_metadata hint_item 0) canonical_hints hint_told ItemInRange
hint_calls = calls_rewrite hints_rewritten

-- What `names` wrote is accepted by the judging call, and every question's calls tell of it what they tell of the original.
module _ (kind_of : ℕ → Kind) (posed : AllPosed kind_of) {p old new : List ℕ} {n : ℕ} (a : Accepted (judge_names kind_of 0) p) (w : Writes (canonical_names kind_of p) old new (Ok n)) where
  pub names_accepted : (j : Verdict) → verdict_of j ≡ verdict (judge_names kind_of 0 (take n new)) → j ≡ (Ok tt)
  names_accepted j says =
      let again = ((names_calls kind_of posed).leaves_canonical a w).is_accepted in
      accepted_so j (says ∙ rw again.judged)

  pub names_asked : (q : Question) (r r' : Answer) (bytes bytes' : List ℕ)
      → answered r ≡ as_place (ask kind_of q p) → bytes ≡ as_bytes (ask kind_of q p)
      → answered r' ≡ as_place (ask kind_of q (take n new)) → bytes' ≡ as_bytes (ask kind_of q (take n new))
      → SameTold r r' bytes bytes'
  names_asked q r r' bytes bytes' e b e' b' = same_told (ask kind_of q p) (ask kind_of q (take n new)) r r' bytes bytes' e b e' b' (((names_calls kind_of posed).leaves_canonical a w).answers_alike q)

-- The same of `metadata`, and of `hints` by likelihood.
pub metadata_accepted : {p old new : List ℕ} {n : ℕ} → Accepted (judge_metadata any_item 0) p → Writes (canonical_metadata p) old new (Ok n) → (j : Verdict) → verdict_of j ≡ verdict (judge_metadata any_item 0 (take n new)) → j ≡ (Ok tt)
metadata_accepted a w j says = accepted_so j (says ∙ rw (metadata_calls.leaves_canonical a w).is_accepted.judged)

pub metadata_asked : {p old new : List ℕ} {n : ℕ} → Accepted (judge_metadata any_item 0) p → Writes (canonical_metadata p) old new (Ok n) → (q : ItemQuestion) (r r' : Answer) (bytes bytes' : List ℕ)
    → answered r ≡ as_place (ask_metadata any_item q.0 q.1 0 p) → bytes ≡ as_bytes (ask_metadata any_item q.0 q.1 0 p)
    → answered r' ≡ as_place (ask_metadata any_item q.0 q.1 0 (take n new)) → bytes' ≡ as_bytes (ask_metadata any_item q.0 q.1 0 (take n new))
    → SameTold r r' bytes bytes'
metadata_asked {p = p} {new = new} {n = n} a w q r r' bytes bytes' e b e' b' =
    same_told (ask_metadata any_item q.0 q.1 0 p) (ask_metadata any_item q.0 q.1 0 (take n new)) r r' bytes bytes' e b e' b' ((metadata_calls.leaves_canonical a w).answers_alike q)

pub hints_accepted : {p old new : List ℕ} {n : ℕ} → Accepted (judge_metadata hint_item 0) p → Writes (canonical_hints p) old new (Ok n) → (j : Verdict) → verdict_of j ≡ verdict (judge_metadata hint_item 0 (take n new)) → j ≡ (Ok tt)
hints_accepted a w j says = accepted_so j (says ∙ rw (hint_calls.leaves_canonical a w).is_accepted.judged)

pub hints_asked : {p old new : List ℕ} {n : ℕ} → Accepted (judge_metadata hint_item 0) p → Writes (canonical_hints p) old new (Ok n) → (q : ItemQuestion) (r r' : HintAnswer)
    → hint_answered r ≡ ask_hint q.0 q.1 0 p → hint_answered r' ≡ ask_hint q.0 q.1 0 (take n new)
    → r ≡ r'
hints_asked a w q r r' e e' = same_hint_answer r r' (e ∙ sym ((hint_calls.leaves_canonical a w).answers_alike q) ∙ sym e')
