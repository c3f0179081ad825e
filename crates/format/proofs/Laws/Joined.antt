-- K3. The payload that a pair is joined to, over any table of ids: it is canonical, answers as the pair does, is no longer than both, and is the rewriting of one where the other is empty; and two pairs have one such payload exactly where all allowed questions get the same answers.
use Rattle.std.specs.Prelude.{ℕ, ◌+◌, ◌≤◌, ◌<◌, Bool, true, false, List, [], ◌↔◌, ◌≡◌, length}
use Rattle.std.proofs.Math.Option.{Option}
use Rattle.std.proofs.Math.Path.{refl, sym, ap}
use Rattle.std.proofs.Common.{ap₂, ◌∙◌, arith}
use Rattle.format.specs.Bytes.{Bytes}
use Rattle.format.specs.Refusals.{number_of}
use Rattle.format.specs.Reading.{accepted, refused}
use Rattle.format.specs.Numbers.{limit32}
use Rattle.format.specs.Options.{or_else}
use Rattle.format.specs.Tables.{nil, map_table}
use Rattle.format.specs.Names.{Kind, subsections, payload, judge_names}
use Rattle.format.specs.Questions.{answer, Allowed, asked, id_of, query_of, ask_at, ask, as_told}
use Rattle.format.specs.declared.Query.{Query}
use Rattle.format.specs.declared.Question.{Question}
use Rattle.format.specs.Canonical.{keep_rows, trim, write_subsections, rewrite_names, canonical_names}
use Rattle.format.specs.Lists.{provided}
use Rattle.format.specs.Pairs.{agreed, ask_pair, pair_told}
use Rattle.format.specs.Joined.{joined, joined_contents, all_fit, write_joined, join_names}
use Rattle.format.specs.declared.Reason.{Reason}
use Rattle.format.specs.declared.Reason.TheVariants.{SubsectionTooLarge}
use Rattle.format.specs.Laws.Outcomes.{not_accepted, accepted_is, false_true}
use Rattle.format.proofs.Laws.Codecs.{Sorted}
use Rattle.format.proofs.Laws.Answers.{answer_bare, allowed_or_none}
use Rattle.format.proofs.Laws.CanonicalNames.{SubNorm, norm_sorted, norm_fines, norm_answers, norm_determined, subsections_shorter, Canonical, AcceptedNames, held, read_whole, told_is, canonical_accepted, canonical_held, canonical_is}
use Rattle.format.proofs.Laws.JoiningAll.{joined_no_left, joined_no_right, joined_answers, joined_trim, joined_length, joined_norm, normal_fits, short_fits}
use Rattle.format.specs.Laws.Pairs.{first_told}

-- what was provided, and what was refused for one reason and no other
provided_true : {A : Type 0} (b : Bool) (why : Reason) {v w : A} → provided b why (accepted v) ≡ accepted w → (b ≡ true) × (v ≡ w)
provided_true true why e = (refl, accepted_is e)
provided_true false why e = absurd (not_accepted e)

pub provided_not : {A : Type 0} (b : Bool) (why : Reason) (v : A) → (provided b why (accepted v) ≡ refused (number_of why) 0) ↔ (b ≡ false)
provided_not true why v = (λ e. absurd (not_accepted (sym e)), λ e. false_true (sym e))
provided_not false why v = (λ e. refl, λ e. refl)

pub provided_alone : {A : Type 0} (b : Bool) (why : Reason) (v : A) {n at : ℕ} → provided b why (accepted v) ≡ refused n at → (n ≡ number_of why) × (at ≡ 0)
provided_alone true why v e = absurd (not_accepted (sym e))
provided_alone false why v e = (cc, cc)

module _ (kind_of : ℕ → Kind) where
  module _ {s o : List ℕ} (a : AcceptedNames kind_of s) (b : AcceptedNames kind_of o) where
    left_norm : Sorted (SubNorm kind_of) 0 (keep_rows trim (held kind_of a))
    left_norm = norm_sorted kind_of (read_whole kind_of a).sorted

    right_norm : Sorted (SubNorm kind_of) 0 (keep_rows trim (held kind_of b))
    right_norm = norm_sorted kind_of (read_whole kind_of b).sorted

    -- What is left of the join is the join of both rewritings
    pub contents_joined : joined_contents a.value b.value ≡ joined (keep_rows trim (held kind_of a)) (keep_rows trim (held kind_of b))
    unfolding joined_contents
    contents_joined = joined_trim kind_of (read_whole kind_of a).sorted (read_whole kind_of b).sorted

    -- the first of both answers, whatever is asked
    abbrev pub first_answer : ℕ → Query → Option (List ℕ)
    first_answer id q = or_else (answer id q (held kind_of a)) (answer id q (held kind_of b))

    pub contents_answer : (id : ℕ) (q : Query) → answer id q (joined_contents a.value b.value) ≡ first_answer id q
    contents_answer id q =
        ap (answer id q) contents_joined
        ∙ joined_answers kind_of (norm_fines kind_of left_norm) (norm_fines kind_of right_norm) id q
        ∙ ap₂ or_else (norm_answers kind_of (read_whole kind_of a).sorted id q) (norm_answers kind_of (read_whole kind_of b).sorted id q)

    pub contents_normal : all_fit (joined_contents a.value b.value) ≡ true → Sorted (SubNorm kind_of) 0 (joined_contents a.value b.value)
    contents_normal h = rw contents_joined (joined_norm kind_of left_norm right_norm (rw contents_joined at h))

    pub contents_length : length (write_subsections (joined_contents a.value b.value)) ≤ length s + length o
    contents_length =
        let ra = read_whole kind_of a in
        let rb = read_whole kind_of b in
        rw contents_joined (omega (arith, joined_length kind_of (keep_rows trim (held kind_of a)) (keep_rows trim (held kind_of b)) (norm_fines kind_of left_norm) (norm_fines kind_of right_norm), subsections_shorter kind_of ra.sorted, subsections_shorter kind_of rb.sorted, ra.shorter, rb.shorter))

    -- What the pair answers
    pub pair_told_lem : (q : Question) → pair_told (ask_pair kind_of q s o) ≡ agreed (first_answer (id_of q) (query_of q))
    unfolding ask_pair pair_told ask ask_at asked
    pair_told_lem q =
        rw (a.judged, b.judged) (ap agreed (first_told (answer (id_of q) (query_of q) a.value) (answer (id_of q) (query_of q) b.value)
        ∙ sym (ap₂ or_else (answer_bare (id_of q) (query_of q) a.value) (answer_bare (id_of q) (query_of q) b.value))))

    -- it is joined, unless it is too long
    pub joins_short : length s + length o < limit32 → join_names kind_of s o ≡ agreed (accepted (write_subsections (joined_contents a.value b.value)))
    unfolding join_names write_joined
    joins_short h = rw (a.judged, b.judged, short_fits (joined_contents a.value b.value) (omega (arith, h, contents_length)))

    -- What is written
    module _ {x : List ℕ} (w : write_joined a.value b.value ≡ accepted x) where
      fits : all_fit (joined_contents a.value b.value) ≡ true
      unfolding write_joined
      fits = (provided_true (all_fit (joined_contents a.value b.value)) SubsectionTooLarge w).0

      pub joined_written : write_subsections (joined_contents a.value b.value) ≡ x
      unfolding write_joined
      joined_written = (provided_true (all_fit (joined_contents a.value b.value)) SubsectionTooLarge w).1

      pub joined_canonical : Canonical kind_of x
      joined_canonical = record { subsections = joined_contents a.value b.value; normal = contents_normal fits; written = sym joined_written }

      pub joined_told : (id : ℕ) (q : Query) → as_told (asked kind_of id q 0 x) ≡ accepted (first_answer id q)
      unfolding joined_canonical
      joined_told id q =
          let c = canonical_accepted kind_of joined_canonical in
          told_is kind_of c id q ∙ ap accepted (ap (answer id q) (canonical_held kind_of joined_canonical c) ∙ contents_answer id q)

      pub joined_shorter : length x ≤ length s + length o
      joined_shorter = rw (← joined_written) contents_length

  -- Joined with nothing, on either side, it is the rewriting
  empty_judged : judge_names kind_of 0 [] ≡ accepted nil
  unfolding judge_names payload subsections
  empty_judged = refl

  pub join_no_own : {s : List ℕ} → AcceptedNames kind_of s → join_names kind_of s [] ≡ agreed (canonical_names kind_of s)
  unfolding join_names write_joined joined_contents map_table rewrite_names
  join_no_own a = rw (canonical_is kind_of a, a.judged, empty_judged, joined_no_right (held kind_of a), normal_fits kind_of (norm_sorted kind_of (read_whole kind_of a).sorted))

  pub join_no_separate : {o : List ℕ} → AcceptedNames kind_of o → join_names kind_of [] o ≡ agreed (canonical_names kind_of o)
  unfolding join_names write_joined joined_contents map_table rewrite_names
  join_no_separate b = rw (canonical_is kind_of b, b.judged, empty_judged, joined_no_left (held kind_of b), normal_fits kind_of (norm_sorted kind_of (read_whole kind_of b).sorted))

  -- Two pairs
  module _ {s o s' o' : List ℕ} (a : AcceptedNames kind_of s) (b : AcceptedNames kind_of o) (a' : AcceptedNames kind_of s') (b' : AcceptedNames kind_of o') where
    -- what may not be asked gets none from both
    all_alike : Bytes s → Bytes o → Bytes s' → Bytes o' → ((id : ℕ) (q : Query) → Allowed kind_of id q → first_answer a b id q ≡ first_answer a' b' id q) → (id : ℕ) (q : Query) → first_answer a b id q ≡ first_answer a' b' id q
    all_alike bs bo bs' bo' h id q =
        allowed_or_none kind_of a bs id q (h id q) λ n.
        allowed_or_none kind_of b bo id q (h id q) λ m.
        allowed_or_none kind_of a' bs' id q (h id q) λ n'.
        allowed_or_none kind_of b' bo' id q (h id q) λ m'. rw (n, m, n', m')

    module _ {x y : List ℕ} (w : write_joined a.value b.value ≡ accepted x) (w' : write_joined a'.value b'.value ≡ accepted y) where
      pub joined_alike : x ≡ y → (id : ℕ) (q : Query) → first_answer a b id q ≡ first_answer a' b' id q
      joined_alike e id q = accepted_is (sym (joined_told a b w id q) ∙ ap (λ bs. as_told (asked kind_of id q 0 bs)) e ∙ joined_told a' b' w' id q)

      pub joined_same : Bytes s → Bytes o → Bytes s' → Bytes o' → ((id : ℕ) (q : Query) → Allowed kind_of id q → first_answer a b id q ≡ first_answer a' b' id q) → x ≡ y
      joined_same bs bo bs' bo' h =
          let one = norm_determined kind_of (contents_normal a b (fits a b w)) (contents_normal a' b' (fits a' b' w')) (λ id q. contents_answer a b id q ∙ all_alike bs bo bs' bo' h id q ∙ sym (contents_answer a' b' id q)) in
          sym (joined_written a b w) ∙ ap write_subsections one ∙ joined_written a' b' w'
