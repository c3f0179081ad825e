-- Rules R10.3 and R10.5 of docs/RULES.md.
-- K3. What users demand of two name payloads that are lent together, as types, each under the sentence that it comes from; below each stands its proof, by the laws that it rests on. As in Theorems they are said of the definitions.
use Rattle.std.specs.Prelude.{ℕ, ◌+◌, ◌≤◌, ◌<◌, List, [], ◌↔◌, ◌≡◌, length}
use Rattle.std.proofs.Math.Logic.Iff
use Rattle.std.proofs.Math.Option.{Option, none, some}
use Rattle.std.proofs.Math.Path.{sym, ap}
use Rattle.std.proofs.Common.{◌∙◌}
use Rattle.format.specs.Bytes.{Bytes}
use Rattle.format.specs.Refusals.{number_of}
use Rattle.format.specs.Reading.{accepted, refused, Accepted}
use Rattle.format.specs.Numbers.{limit32}
use Rattle.format.specs.Parts.{Part}
use Rattle.format.specs.Names.{Kind, kind_in, Content, judge_names}
use Rattle.format.specs.declared.Edition.{Edition}
use Rattle.format.specs.Questions.{answer, Allowed, id_of, query_of, AllowedBy, asked, ask_at, ask, as_told}
use Rattle.format.specs.declared.Question.{Question}
use Rattle.format.specs.declared.Query.{Query}
use Rattle.format.specs.Holding.{Has}
use Rattle.format.specs.Canonical.{write_content, write_subsections, canonical_names}
use Rattle.format.specs.Pairs.{agreed, refused_by, Supplied, first_of, ask_pair, lent_by, pair_told}
use Rattle.format.specs.Joined.{joined_contents, all_fit, write_joined, join_names}
use Rattle.format.specs.declared.Reason.TheVariants.{SubsectionTooLarge}
use Rattle.format.specs.declared.Whose.TheVariants.{Separate, Own}
use Rattle.format.proofs.Theorems.{VeryBytes, questions_answered}
use Rattle.format.specs.Laws.Outcomes.{mapped, refused_exactly}
use Rattle.format.proofs.Laws.Questions.{AllPosed, Posed, all_posed}
use Rattle.format.proofs.Laws.CanonicalNames.{AcceptedNames, canonical_accepted, canonical_stays}
use Rattle.format.proofs.Laws.JoiningAll.{large_exactly}
use Rattle.format.specs.Laws.Pairs.{agreed_is, separate_exactly, own_exactly, on_agreed, agreed_as, first_separate, first_own, first_none, by_supplier}
use Rattle.format.proofs.Laws.Joined.{provided_not, provided_alone, first_answer, pair_told_lem, joins_short, joined_canonical, joined_told, joined_shorter, join_no_own, join_no_separate, joined_alike, joined_same}

-- "One question goes over the two lent payloads: the separate one answers unless it gives none, else the module's; a name found says which, and is handed back as a part of the payload that supplied it. .. Refusals: the separate payload's first, the answer saying whose". Both are judged whole, whatever is asked.
module _ (kind_of : ℕ → Kind) where
  pub record AnswersPairs : Type 0 where
    -- what is found lies in the payload that supplied it, and is those very bytes
    pub very_bytes : (q : Question) (separate own : List ℕ) {x : Supplied Part} → ask_pair kind_of q separate own ≡ agreed (some x) → VeryBytes (lent_by x.whose separate own) x.value
    -- the separate one answers where it has an answer, an empty name too
    pub separate_answers : (q : Question) (separate own : List ℕ) (x : Part) → (ask_pair kind_of q separate own ≡ agreed (some (record { whose = Separate; value = x }))) ↔ ((ask kind_of q separate ≡ accepted (some x)) × Accepted (judge_names kind_of 0) own)
    -- else the own one
    pub own_answers : (q : Question) (separate own : List ℕ) (x : Part) → (ask_pair kind_of q separate own ≡ agreed (some (record { whose = Own; value = x }))) ↔ ((ask kind_of q separate ≡ accepted none) × (ask kind_of q own ≡ accepted (some x)))
    pub none_found : (q : Question) (separate own : List ℕ) → (ask_pair kind_of q separate own ≡ agreed none) ↔ ((ask kind_of q separate ≡ accepted none) × (ask kind_of q own ≡ accepted none))
    -- a refusal is the separate one's, and of the own one where the separate one is accepted
    pub refuses_separate : (q : Question) (separate own : List ℕ) (n at : ℕ) → (ask_pair kind_of q separate own ≡ refused_by Separate n at) ↔ (judge_names kind_of 0 separate ≡ refused n at)
    pub refuses_own : (q : Question) (separate own : List ℕ) (n at : ℕ) → (ask_pair kind_of q separate own ≡ refused_by Own n at) ↔ (Accepted (judge_names kind_of 0) separate × (judge_names kind_of 0 own ≡ refused n at))

  -- "Add a writer of one canonical payload that answers every question, kept subsections too, as the pair does. Refusals: the separate payload's first, the answer saying whose; 15 for a joined subsection too large". With an output of the length of both payloads there is no 13.
  pub record JoinedTo (separate own x : List ℕ) : Type 0 where
    pub is_accepted : Accepted (judge_names kind_of 0) x
    pub is_canonical : canonical_names kind_of x ≡ accepted x
    pub answers_as_pair : (q : Question) → (v : Option (List ℕ)) × (as_told (ask kind_of q x) ≡ accepted v) × (pair_told (ask_pair kind_of q separate own) ≡ agreed v)
    pub never_longer : length x ≤ length separate + length own

  pub record JoinsPairs : Type 0 where
    -- two pairs are joined to one payload exactly where every allowed question gets the same answer from both
    pub same_exactly : (s o s' o' : List ℕ) {x y : List ℕ} → Bytes s → Bytes o → Bytes s' → Bytes o' → join_names kind_of s o ≡ agreed (accepted x) → join_names kind_of s' o' ≡ agreed (accepted y) → (x ≡ y) ↔ ((q : Question) → AllowedBy kind_of q → pair_told (ask_pair kind_of q s o) ≡ pair_told (ask_pair kind_of q s' o'))
    pub writes : (separate own : List ℕ) {x : List ℕ} → join_names kind_of separate own ≡ agreed (accepted x) → JoinedTo separate own x
    -- accepted payloads are joined, unless they are too long
    pub accepts : {separate own : List ℕ} → Accepted (judge_names kind_of 0) separate → Accepted (judge_names kind_of 0) own → length separate + length own < limit32 → (x : List ℕ) × (join_names kind_of separate own ≡ agreed (accepted x))
    -- with nothing on one side it is the rewriting of the other, of any length
    pub no_own : {separate : List ℕ} → Accepted (judge_names kind_of 0) separate → join_names kind_of separate [] ≡ agreed (canonical_names kind_of separate)
    pub no_separate : {own : List ℕ} → Accepted (judge_names kind_of 0) own → join_names kind_of [] own ≡ agreed (canonical_names kind_of own)
    -- 15 is given exactly where a subsection of the join is too large
    pub too_large : {separate own : List ℕ} (a : Accepted (judge_names kind_of 0) separate) (b : Accepted (judge_names kind_of 0) own) → (join_names kind_of separate own ≡ agreed (refused (number_of SubsectionTooLarge) 0)) ↔ ((id : ℕ) × (c : Content (List ℕ)) × Has id c (joined_contents a.value b.value) × (limit32 ≤ length (write_content c)))
    pub nothing_else : (separate own : List ℕ) {n at : ℕ} → join_names kind_of separate own ≡ agreed (refused n at) → (n ≡ number_of SubsectionTooLarge) × (at ≡ 0)
    pub refuses_separate : (separate own : List ℕ) (n at : ℕ) → (join_names kind_of separate own ≡ refused_by Separate n at) ↔ (judge_names kind_of 0 separate ≡ refused n at)
    pub refuses_own : (separate own : List ℕ) (n at : ℕ) → (join_names kind_of separate own ≡ refused_by Own n at) ↔ (Accepted (judge_names kind_of 0) separate × (judge_names kind_of 0 own ≡ refused n at))

-- THE PROOFS

module _ (kind_of : ℕ → Kind) where
  -- what is answered was accepted, and what is accepted answers
  was_accepted : (q : Question) (bs : List ℕ) {v : Option Part} → ask kind_of q bs ≡ accepted v → AcceptedNames kind_of bs
  unfolding ask ask_at asked
  was_accepted q bs e = mapped (answer (id_of q) (query_of q)) (judge_names kind_of 0 bs) e λ t j _. record { value = t; judged = j }

  answers : (q : Question) {bs : List ℕ} (a : AcceptedNames kind_of bs) → ask kind_of q bs ≡ accepted (answer (id_of q) (query_of q) a.value)
  unfolding ask ask_at asked
  answers q a = rw a.judged

  refuses : (q : Question) (bs : List ℕ) {n at : ℕ} → (ask kind_of q bs ≡ refused n at) ↔ (judge_names kind_of 0 bs ≡ refused n at)
  unfolding ask ask_at asked
  refuses q bs = refused_exactly (answer (id_of q) (query_of q)) (judge_names kind_of 0 bs)

  pub pairs_answered : AnswersPairs kind_of
  unfolding ask_pair
  pairs_answered = record {
    very_bytes = λ q s o e.
        on_agreed first_of (ask kind_of q s) (ask kind_of q o) e λ v w j k is.
        by_supplier v w is
        (λ l whose. rw whose ((questions_answered kind_of).very_bytes q s (j ∙ ap accepted l)))
        (λ l whose. rw whose ((questions_answered kind_of).very_bytes q o (k ∙ ap accepted l)));
    separate_answers = λ q s o x. (
      λ e. on_agreed first_of (ask kind_of q s) (ask kind_of q o) e λ v w j k is. (j ∙ ap accepted ((first_separate v w).0 is), was_accepted q o k),
      λ h. agreed_as first_of h.0 (answers q h.1),
    );
    own_answers = λ q s o x. (
      λ e. on_agreed first_of (ask kind_of q s) (ask kind_of q o) e λ v w j k is. let l = (first_own v w).0 is in (j ∙ ap accepted l.0, k ∙ ap accepted l.1),
      λ h. agreed_as first_of h.0 h.1,
    );
    none_found = λ q s o. (
      λ e. on_agreed first_of (ask kind_of q s) (ask kind_of q o) e λ v w j k is. let l = (first_none v w).0 is in (j ∙ ap accepted l.0, k ∙ ap accepted l.1),
      λ h. agreed_as first_of h.0 h.1,
    );
    refuses_separate = λ q s o n at. Iff.trans (separate_exactly first_of (ask kind_of q s) (ask kind_of q o)) (refuses q s);
    refuses_own = λ q s o n at. (
      λ e. let h = (own_exactly first_of (ask kind_of q s) (ask kind_of q o)).0 e in (was_accepted q s h.0.1, (refuses q o).0 h.1),
      λ h. (own_exactly first_of (ask kind_of q s) (ask kind_of q o)).1 ((_, answers q h.0), (refuses q o).1 h.1),
    );
  }

  -- what holds of all questions that are allowed holds of all that is allowed
  posed_alike : {s o s' o' : List ℕ} (a : AcceptedNames kind_of s) (b : AcceptedNames kind_of o) (a' : AcceptedNames kind_of s') (b' : AcceptedNames kind_of o') {id : ℕ} {q : Query} → Posed id q → Allowed kind_of id q → ((x : Question) → AllowedBy kind_of x → pair_told (ask_pair kind_of x s o) ≡ pair_told (ask_pair kind_of x s' o')) → first_answer kind_of a b id q ≡ first_answer kind_of a' b' id q
  posed_alike a b a' b' p l h =
      let x = p.question in
      let alike = agreed_is (sym (pair_told_lem kind_of a b x) ∙ h x (rw (p.its_id, p.its_query) l) ∙ pair_told_lem kind_of a' b' x) in
      rw (p.its_id, p.its_query) at alike

  pub pairs_joined : AllPosed kind_of → JoinsPairs kind_of
  unfolding join_names write_joined ask ask_at
  pairs_joined posed = record {
    same_exactly = λ s o s' o' bs bo bs' bo' e e'.
        on_agreed write_joined (judge_names kind_of 0 s) (judge_names kind_of 0 o) e λ t u j k w.
        on_agreed write_joined (judge_names kind_of 0 s') (judge_names kind_of 0 o') e' λ t' u' j' k' w'.
        let a : AcceptedNames kind_of s = record { value = t; judged = j } in
        let b : AcceptedNames kind_of o = record { value = u; judged = k } in
        let a' : AcceptedNames kind_of s' = record { value = t'; judged = j' } in
        let b' : AcceptedNames kind_of o' = record { value = u'; judged = k' } in (
          λ same q l. pair_told_lem kind_of a b q ∙ ap agreed (joined_alike kind_of a b a' b' w w' same (id_of q) (query_of q)) ∙ sym (pair_told_lem kind_of a' b' q),
          λ h. joined_same kind_of a b a' b' w w' bs bo bs' bo' (λ id q l. posed_alike a b a' b' (posed id q l) l h),
        );
    writes = λ s o e.
        on_agreed write_joined (judge_names kind_of 0 s) (judge_names kind_of 0 o) e λ t u j k w.
        let a : AcceptedNames kind_of s = record { value = t; judged = j } in
        let b : AcceptedNames kind_of o = record { value = u; judged = k } in
        let c = joined_canonical kind_of a b w in
        record {
          is_accepted = canonical_accepted kind_of c;
          is_canonical = canonical_stays kind_of c;
          answers_as_pair = λ q. (first_answer kind_of a b (id_of q) (query_of q), joined_told kind_of a b w (id_of q) (query_of q), pair_told_lem kind_of a b q);
          never_longer = joined_shorter kind_of a b w;
        };
    accepts = λ a b short. (_, joins_short kind_of a b short);
    no_own = λ a. join_no_own kind_of a;
    no_separate = λ b. join_no_separate kind_of b;
    too_large = λ a b. Iff.trans
        (λ e. agreed_is (sym (agreed_as write_joined a.judged b.judged) ∙ e), λ e. agreed_as write_joined a.judged b.judged ∙ ap agreed e)
        (Iff.trans (provided_not (all_fit (joined_contents a.value b.value)) SubsectionTooLarge (write_subsections (joined_contents a.value b.value))) (large_exactly (joined_contents a.value b.value)));
    nothing_else = λ s o e. on_agreed write_joined (judge_names kind_of 0 s) (judge_names kind_of 0 o) e λ t u j k w. provided_alone (all_fit (joined_contents t u)) SubsectionTooLarge (write_subsections (joined_contents t u)) w;
    refuses_separate = λ s o n at. separate_exactly write_joined (judge_names kind_of 0 s) (judge_names kind_of 0 o);
    refuses_own = λ s o n at. (
      λ e. let h = (own_exactly write_joined (judge_names kind_of 0 s) (judge_names kind_of 0 o)).0 e in (record { value = h.0.0; judged = h.0.1 }, h.1),
      λ h. (own_exactly write_joined (judge_names kind_of 0 s) (judge_names kind_of 0 o)).1 ((h.0.value, h.0.judged), h.1),
    );
  }

-- of an edition
pub edition_pairs_joined : (edition : Edition) → JoinsPairs (kind_in edition)
edition_pairs_joined edition = pairs_joined (kind_in edition) (all_posed edition)
