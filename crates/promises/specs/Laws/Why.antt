-- K7: what the calls that say why come to.
use Rattle.std.specs.Prelude.{ℕ, List, ◌↔◌, ◌≡◌, refl, length}
use Rattle.std.proofs.Math.Logic.Iff
use Rattle.std.proofs.Math.Option.{Option, none, some}
use Rattle.std.proofs.Common.{sym, ap, ◌∙◌, arith}
use Rattle.format.specs.Canonical.{bare}
use Rattle.format.specs.Laws.Outcomes.{not_accepted, accepted_is}
use Rattle.format.specs.Names.{Content, known_kind, judge_names}
use Rattle.format.specs.Parts.{Part}
use Rattle.format.specs.Questions.{as_place, ask}
use Rattle.format.specs.Reading.{Judged, accepted, refused, Accepted}
use Rattle.format.specs.Tables.{Table, map_table}
use Rattle.format.proofs.Theorems.{AnswersWhy, questions_answered}
use Rattle.format.specs.Why.{Why, named, no_subsection, no_group, no_entry, an_entry, TrueOfFunction, among_functions, TrueOfLocal, among_locals}
use Rattle.format.specs.declared.Question.{Question}
use Rattle.grammar.proofs.Laws.Names.{source_ids, names_complete}
use Rattle.grammar.specs.Names.{SourceIds, NamePayload}
use Rattle.wakemiono.specs.Boundary.{wm_place}
use Rattle.wakemiono.specs.Why.{wm_why}
use Rattle.promises.specs.Answers.{says_why, why_said}
use Rattle.promises.specs.Demands.{WhyReply, a_place, no_such_subsection, no_such_group, no_such_entry, why_refused, SaysWhy}
use Rattle.promises.specs.Laws.Saying.{judged_said}
use Rattle.promises.specs.Laws.Telling.{by_judged}

reply : (j : Judged Why) → WhyReply (wm_why j)
reply (accepted (named id n)) = a_place id n
reply (accepted no_subsection) = no_such_subsection
reply (accepted no_group) = no_such_group
reply (accepted (no_entry b a)) = no_such_entry b a
reply (refused n at) = why_refused n at

-- the answer tells what is said
told_apart : (x y : Judged Why) → wm_why x ≡ wm_why y → x ≡ y
told_apart x y e = sym (why_said x) ∙ ap says_why e ∙ why_said y

-- kind 1 is a place, and a name that was found
place_said : (j : Judged Why) → (wm_why j).kind ≡ 1 → (id n : ℕ) × (j ≡ accepted (named id n))
place_said (accepted (named id n)) e = (id, n, refl)
place_said (accepted no_subsection) e = absurd (omega (arith, e))
place_said (accepted no_group) e = absurd (omega (arith, e))
place_said (accepted (no_entry b a)) e = absurd (omega (arith, e))
place_said (refused n at) e = absurd (omega (arith, e))

name_said : (j : Judged (Option Part)) → ((wm_place (as_place j)).kind ≡ 1) ↔ ((x : Part) × (j ≡ accepted (some x)))
unfolding as_place
name_said (accepted none) = (λ e. absurd (omega (arith, e)), λ f. absurd (omega (arith, ap (λ j. (wm_place (as_place j)).kind) f.1)))
name_said (accepted (some x)) = (λ _. (x, refl), λ _. refl)
name_said (refused n at) = (λ e. absurd (omega (arith, e)), λ f. absurd (not_accepted f.1))

-- the place of a function is in subsection 1, and that of a local in subsection 2
pub function_in_1 : {X : Type 0} {k i n : ℕ} {t : Table (Content X)} → TrueOfFunction k t (named i n) → i ≡ 1
function_in_1 (among_functions h (an_entry at)) = refl

pub local_in_2 : {X : Type 0} {k j i n : ℕ} {t : Table (Content X)} → TrueOfLocal k j t (named i n) → i ≡ 2
local_in_2 (among_locals h g (an_entry at)) = refl

module _ {Q : Type 0} (id : ℕ) (question : Q → Question) (why : Q → List ℕ → Judged Why) (True : Q → Table (Content (List ℕ)) → Why → Type 0) (answers : AnswersWhy id question why True) (own : (q : Q) (m : Table (Content (List ℕ))) (i n : ℕ) → True q m (named i n) → i ≡ id) (q : Q) where
  -- of a payload with a meaning
  module _ (p : List ℕ) (m : Table (Content (List ℕ))) (g : NamePayload SourceIds p m) where
    says_exactly : (w : Why) → (why q p ≡ accepted w) ↔ True q m w
    says_exactly w =
        let (t, e, same) = names_complete source_ids 0 p m g in
        let exactly = answers.true_exactly (record { value = t; judged = e }) q w in
        rw same at exactly

    says_one : (w : Why) × True q m w × ((v : Why) → True q m v → v ≡ w)
    says_one =
        let (t, e, same) = names_complete source_ids 0 p m g in
        let (w, is) = answers.gives (record { value = t; judged = e }) q in
        (w, (says_exactly w).0 is, λ v true. accepted_is (sym ((says_exactly v).1 true) ∙ is))

  -- what is accepted gives a place exactly where it finds the name, and what is refused neither
  finds_exactly : (p : List ℕ) → ((wm_why (why q p)).kind ≡ 1) ↔ ((wm_place (as_place (ask known_kind (question q) p))).kind ≡ 1)
  finds_exactly p =
      by_judged (judge_names known_kind 0 p)
      (λ t e.
      let a : Accepted (judge_names known_kind 0) p = record { value = t; judged = e } in
      Iff.trans (placed a, λ f. rw f.1) (Iff.trans (answers.named_exactly a q) ((name_said (ask known_kind (question q) p)).1, (name_said (ask known_kind (question q) p)).0)))
      (λ n at e.
      let no : why q p ≡ refused n at = (answers.refuses q p n at).1 e in
      let none : ask known_kind (question q) p ≡ refused n at = ((questions_answered known_kind).refuses (question q) p n at).1 e in
      (λ k. absurd (omega (arith, sym (ap (λ j. (wm_why j).kind) no) ∙ k)), λ k. absurd (let (x, is) = (name_said (ask known_kind (question q) p)).0 k in not_accepted (sym none ∙ is))))
    where
      placed : {p : List ℕ} → Accepted (judge_names known_kind 0) p → (wm_why (why q p)).kind ≡ 1 → (n : ℕ) × (why q p ≡ accepted (named id n))
      placed {p} a k =
          let (i, n, is) = place_said (why q p) k in
          (n, is ∙ ap (λ i. accepted (named i n)) (own q (map_table bare a.value) i n ((answers.true_exactly a q (named i n)).0 is)))

  pub says_why_lem : SaysWhy (λ p a. a ≡ wm_why (why q p)) (True q) (λ p b. b ≡ wm_place (as_place (ask known_kind (question q) p)))
  says_why_lem = record {
    answers = λ p a e. rw e (reply (why q p));
    one_is_true = says_one;
    given = λ p m a w g e. (λ is. (says_exactly p m g w).0 (told_apart (why q p) (accepted w) (sym e ∙ is)), λ true. e ∙ ap wm_why ((says_exactly p m g w).1 true));
    found_exactly = λ p a b e f. rw (e, f) (finds_exactly p);
    refuses = λ p a j e says n at.
        Iff.trans (λ is. told_apart (why q p) (refused n at) (sym e ∙ is), λ is. e ∙ ap wm_why is) (Iff.trans (answers.refuses q p n at) (((judged_said (length p) (judge_names known_kind 0 p) says).refusal n at).1, ((judged_said (length p) (judge_names known_kind 0 p) says).refusal n at).0));
  }
