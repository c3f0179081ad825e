-- A judging call finds exactly what the grammar has a meaning for, and refuses exactly what it has none for.
use Rattle.std.specs.Prelude.{ℕ, List, ◌↔◌, ◌≡◌}
use Rattle.std.proofs.Math.Logic.Iff
use Rattle.std.proofs.Common.{ap}
use Rattle.format.specs.Bytes.{Bytes}
use Rattle.format.specs.Laws.Outcomes.{mapped, refused_exactly}
use Rattle.format.specs.Reading.{Judged, map_judged}
use Rattle.grammar.proofs.Grammar.{Accepts}
use Rattle.grammar.specs.Numbers.{Grammar}
use Rattle.wakemiono.specs.declared.WmAnswer.{WmAnswer}
use Rattle.promises.specs.Laws.Saying.{Verdict}

module _ {A B : Type 0} (judgement : List ℕ → Judged A) (plain : A → B) {grammar : Grammar B} (exact : Accepts (λ p. map_judged plain (judgement p)) grammar) {p : List ℕ} {a : WmAnswer} (bytes : Bytes p) (says : Verdict a (judgement p)) where
  pub found_grammar : (a.kind ≡ 1) ↔ ((m : B) × grammar p m)
  found_grammar = (
    λ e. let (v, j) = says.found.0 e in (plain v, (exact.accepted_exactly p bytes (plain v)).0 (ap (map_judged plain) j)),
    λ g. mapped plain (judgement p) ((exact.accepted_exactly p bytes g.0).1 g.1) λ v e _. says.found.1 (v, e),
  )

  pub refused_grammar : (a.kind ≡ 2) ↔ ((m : B) → grammar p m → ⊥)
  refused_grammar = Iff.trans says.refuses (Iff.trans
      (λ r. (r.0, r.1, ap (map_judged plain) r.2), λ r. (r.0, r.1, (refused_exactly plain (judgement p)).0 r.2))
      (exact.refused_exactly p bytes))
