-- K3. What comes back of a question to two payloads and of their join: each answer has one meaning, a pair's places are those of both answers, and a join is written as any payload is.
use Rattle.format.specs.declared.JoinRefusal.TheVariants.{Payload, Output}
use Rattle.std.specs.Prelude.{ℕ, List, ◌≡◌, refl, Ok, Err, Some, None}
use Rattle.std.proofs.Math.Option.{Option, none, some}
use Rattle.std.proofs.Common.{sym, ap, ◌∙◌}
use Rattle.format.specs.Refusals.{number_of}
use Rattle.format.specs.Reading.{Judged, accepted, refused}
use Rattle.format.specs.Options.{map_some}
use Rattle.format.specs.Parts.{Part, place_of}
use Rattle.format.specs.Names.{Kind}
use Rattle.format.specs.Questions.{ask, as_place}
use Rattle.format.specs.Outputs.{write_answer, Writes}
use Rattle.format.specs.Pairs.{Paired, agreed, refused_by, both_judged, first_of, ask_pair, supplied_at, as_places, pair_answered}
use Rattle.format.specs.Joined.{join_answer, join_written_as, JoinWrites}
use Rattle.format.specs.Laws.Outcomes.{accepted_is, not_accepted}
use Rattle.format.specs.Laws.Options.{not_some, some_is}
use Rattle.format.specs.Laws.Refusals.{same_refusal, same_judgement}
use Rattle.format.specs.Laws.Pairs.{agreed_is, not_agreed}
use Rattle.format.specs.Returned.{JoinWritten}
use Rattle.format.specs.Returned.{PairAnswer}
use Rattle.format.specs.declared.Question.{Question}
use Rattle.format.specs.declared.Refusal.{Refusal}
use Rattle.format.specs.declared.Whose.{Whose}
use Rattle.format.specs.Returned.{Written}

-- a refusal and whose it is
same_whose : {A : Type 0} {x y : Whose} {n m at at' : ℕ} → ◌≡◌ {A = Paired A} (refused_by x n at) (refused_by y m at') → x ≡ y
same_whose e = cc

same_refusal_by : {A : Type 0} {x y : Whose} {r s : Refusal} → ◌≡◌ {A = Paired A} (refused_by x (number_of r.reason) r.offset.0) (refused_by y (number_of s.reason) s.offset.0) → r ≡ s
same_refusal_by {r = r} {s} e = same_refusal r s (cc) (cc)

-- one answer alone has a meaning
pub same_pair_answer : (a b : PairAnswer) → pair_answered a ≡ pair_answered b → a ≡ b
same_pair_answer (Ok None) (Ok None) e = refl
same_pair_answer (Ok None) (Ok (Some (w, p))) e = absurd (not_some (agreed_is e))
same_pair_answer (Ok None) (Err (w, r)) e = absurd (not_agreed (sym e))
same_pair_answer (Ok (Some (w, p))) (Ok None) e = absurd (not_some (sym (agreed_is e)))
same_pair_answer (Ok (Some (w, p))) (Ok (Some (w', p'))) e = let s = some_is (agreed_is e) in λ i. Ok (Some ((s i).whose, (s i).value))
same_pair_answer (Ok (Some (w, p))) (Err (w', r)) e = absurd (not_agreed (sym e))
same_pair_answer (Err (w, r)) (Ok None) e = absurd (not_agreed e)
same_pair_answer (Err (w, r)) (Ok (Some (w', p))) e = absurd (not_agreed e)
same_pair_answer (Err (w, r)) (Err (w', s)) e = let x = same_whose e in let y = same_refusal_by e in λ i. Err ((x i), (y i))

pub same_join_written : (a b : JoinWritten) → join_written_as a ≡ join_written_as b → a ≡ b
same_join_written (Ok n) (Ok m) e = ap Ok (accepted_is (agreed_is e))
same_join_written (Ok n) (Err (Payload w r)) e = absurd (not_agreed (sym e))
same_join_written (Ok n) (Err (Output r)) e = absurd (not_accepted (sym (agreed_is e)))
same_join_written (Err (Payload w r)) (Ok n) e = absurd (not_agreed e)
same_join_written (Err (Payload w r)) (Err (Payload w' s)) e = let x = same_whose e in let y = same_refusal_by e in λ i. Err (Payload (x i) (y i))
same_join_written (Err (Payload w r)) (Err (Output s)) e = absurd (not_agreed e)
same_join_written (Err (Output r)) (Ok n) e = absurd (not_accepted (agreed_is e))
same_join_written (Err (Output r)) (Err (Payload w s)) e = absurd (not_agreed (sym e))
same_join_written (Err (Output r)) (Err (Output s)) e = ap (λ x. Err (Output x)) (same_judgement (agreed_is e))

-- A pair's places are those of both answers
first_places : (x y : Option Part) → map_some supplied_at (first_of x y) ≡ first_of (map_some place_of x) (map_some place_of y)
first_places none none = refl
first_places none (some w) = refl
first_places (some v) y = refl

both_places : (j k : Judged (Option Part)) → as_places (both_judged first_of j k) ≡ both_judged first_of (as_place j) (as_place k)
unfolding as_places as_place
both_places (refused n at) k = refl
both_places (accepted x) (refused n at) = refl
both_places (accepted x) (accepted y) = ap agreed (first_places x y)

pub pair_places : (kind_of : ℕ → Kind) (q : Question) (s o : List ℕ) → as_places (ask_pair kind_of q s o) ≡ both_judged first_of (as_place (ask kind_of q s)) (as_place (ask kind_of q o))
unfolding ask_pair
pair_places kind_of q s o = both_places (ask kind_of q s) (ask kind_of q o)

-- A join is refused for a payload, and nothing changes; or written as any payload is
abbrev pub join_as : Written → JoinWritten
join_as (Ok n) = Ok n
join_as (Err r) = Err (Output r)

module _ {wanted : Paired (Judged (List ℕ))} {old : List ℕ} where
  pub join_refused : {w : Whose} {r : Refusal} → wanted ≡ refused_by w (number_of r.reason) r.offset.0 → JoinWrites wanted old old (Err (Payload w r))
  unfolding join_answer
  join_refused e = record { says = rw e; leaves = rw e }

  pub join_writes : {j : Judged (List ℕ)} {new : List ℕ} (r : Written) → wanted ≡ agreed j → Writes j old new r → JoinWrites wanted old new (join_as r)
  unfolding join_answer write_answer
  join_writes (Ok n) e w = record { says = rw e (ap agreed w.says); leaves = rw e w.leaves }
  join_writes (Err r) e w = record { says = rw e (ap agreed w.says); leaves = rw e w.leaves }

-- two results that meet one promise are equal, the output included
pub joins_same : {wanted : Paired (Judged (List ℕ))} {old new new' : List ℕ} {r r' : JoinWritten} → JoinWrites wanted old new r → JoinWrites wanted old new' r' → (r ≡ r') × (new ≡ new')
joins_same {r = r} {r' = r'} p q = (same_join_written r r' (p.says ∙ sym q.says), p.leaves ∙ sym q.leaves)
