-- K3: what the join of two payloads comes to, by the calls of its edition.
use Rattle.std.specs.Prelude.{ℕ, ◌+◌, ◌≤◌, ◌<◌, List, [], ◌↔◌, Bool, ◌≡◌, leb, length, take, drop}
use Rattle.std.proofs.Math.Logic.Iff
use Rattle.std.proofs.Math.Option.{Option}
use Rattle.std.proofs.Math.Bool.{true, false}
use Rattle.std.proofs.Math.Path.{refl, ap}
use Rattle.std.proofs.Common.{sym, ◌∙◌, arith, leb-true, leb-false}
use Rattle.std.proofs.lemmas.Bool.{lt-leb}
use Rattle.format.specs.Bytes.{Bytes}
use Rattle.format.specs.Canonical.{write_content, write_subsections, canonical_names}
use Rattle.format.specs.Holding.{Has}
use Rattle.format.specs.Joined.{joined_contents, all_fit, write_joined, join_names, join_answer}
use Rattle.format.proofs.Laws.JoiningAll.{large_exactly}
use Rattle.format.specs.Lists.{provided}
use Rattle.format.specs.Parts.{Part}
use Rattle.format.specs.Tables.{Table, nil}
use Rattle.format.specs.declared.Reason.TheVariants.{SubsectionTooLarge}
use Rattle.format.specs.Laws.Outcomes.{not_accepted, accepted_is, by_test}
use Rattle.format.specs.Laws.Pairs.{agreed_is, on_agreed}
use Rattle.format.specs.Names.{Kind, Content, kind_in, subsections, payload, judge_names}
use Rattle.format.specs.Outputs.{fitting, write_answer, output_after}
use Rattle.format.proofs.PairTheorems.{JoinedTo, pairs_answered, edition_pairs_joined}
use Rattle.format.specs.Pairs.{Paired, agreed, refused_by, ask_pair, as_places, pair_told}
use Rattle.format.specs.Questions.{AllowedBy, ask, as_place}
use Rattle.format.specs.Reading.{Judged, accepted, refused, Accepted, verdict}
use Rattle.format.specs.Telling.{is_its_rewriting, names_are_canonical}
use Rattle.format.proofs.Theorems.{questions_answered}
use Rattle.format.specs.declared.Edition.{Edition}
use Rattle.format.specs.declared.Question.{Question}
use Rattle.format.specs.declared.Whose.TheVariants.{Separate, Own}
use Rattle.wakemiono.proofs.Same.{wm_writes_same}
use Rattle.wakemiono.specs.Boundary.{wm_place, wm_count, wm_judged, wm_yes, WmWrites}
use Rattle.wakemiono.specs.Pairs.{wm_pair_found, wm_pair_refused, wm_pair, wm_join, WmJoins}
use Rattle.wakemiono.specs.declared.WmAnswer.{WmAnswer}
use Rattle.wakemiono.specs.declared.beside.WmPairAnswer.{WmPairAnswer}
use Rattle.promises.specs.Demands.{without_whose, bytes_of, JoinReply, join_written, payload_not_joined, not_joined, JoinRefused, separate_refused, own_refused, join_too_large, join_too_short, JoinsPairs}
use Rattle.promises.specs.Laws.Outputs.{Wrote, wrote, wrote_there, wrote_long, wrote_first, wrote_leaves, wrote_short, wrote_again}
use Rattle.promises.specs.Laws.Pairs.{pair_kind, pair_whose, kind_for, bytes_for, told_alike, pair_said, one_said}
use Rattle.promises.specs.Laws.Refusing.{Numbered, names_fair}
use Rattle.promises.specs.Laws.Rewriting.{names_refuse}
use Rattle.promises.specs.Laws.Saying.{judged_said}
use Rattle.promises.specs.Laws.Telling.{by_judged, own, yes_one}

-- A join without whose refusal it is, is a write like any other
abbrev unowned : Paired (Judged (List ℕ)) → Judged (List ℕ)
unowned (agreed j) = j
unowned (refused_by w n at) = refused n at

join_counts : (j : Judged ℕ) → without_whose (wm_join (agreed j)) ≡ wm_count j
join_counts (accepted n) = refl
join_counts (refused n at) = refl

join_writes : (wanted : Paired (Judged (List ℕ))) {old new : List ℕ} {a : WmPairAnswer} → WmJoins wanted old new a → WmWrites (unowned wanted) old new (without_whose a)
unfolding join_answer write_answer output_after fitting
join_writes (agreed j) {old} w = record { says = ap without_whose w.says ∙ join_counts (write_answer (length old) j); leaves = w.leaves }
join_writes (refused_by x n at) w = record { says = ap without_whose w.says; leaves = w.leaves }

unowned_is : (wanted : Paired (Judged (List ℕ))) {bytes : List ℕ} → unowned wanted ≡ accepted bytes → wanted ≡ agreed (accepted bytes)
unowned_is (agreed j) e = ap agreed e
unowned_is (refused_by w n at) e = absurd (not_accepted e)

join_reply : (j : Paired (Judged ℕ)) → JoinReply (wm_join j)
join_reply (agreed (accepted n)) = join_written n
join_reply (agreed (refused n at)) = not_joined n at
join_reply (refused_by w n at) = payload_not_joined w n at

-- Which pair is refused, and how
module _ (edition : Edition) (s o : List ℕ) where
  -- 15 is given where a subsection is too large, and not where none is
  too_large : (room : ℕ) → join_names (kind_in edition) s o ≡ agreed (refused 15 0) → JoinRefused (kind_in edition) s o room 0 15 0
  unfolding join_names
  too_large room is =
      on_agreed write_joined (judge_names (kind_in edition) 0 s) (judge_names (kind_in edition) 0 o) is λ t u j k _.
      let large = ((edition_pairs_joined edition).too_large (record { value = t; judged = j }) (record { value = u; judged = k })).0 is in
      join_too_large j k large.0 large.1 large.2 (omega (arith, large.3))

  module _ {t u : Table (Content Part)} (j : judge_names (kind_in edition) 0 s ≡ accepted t) (k : judge_names (kind_in edition) 0 o ≡ accepted u) where
    none_large : {bytes : List ℕ} → join_names (kind_in edition) s o ≡ agreed (accepted bytes) → (id : ℕ) (c : Content (List ℕ)) → Has id c (joined_contents t u) → length (write_content c) ≤ 4_294_967_295
    none_large is id c h =
        by_test (leb (length (write_content c)) 4_294_967_295)
        (λ b. leb-true (length (write_content c)) 4_294_967_295 b)
        (λ b.
        let long = leb-false (length (write_content c)) 4_294_967_295 b in
        let large = ((edition_pairs_joined edition).too_large (record { value = t; judged = j }) (record { value = u; judged = k })).1 (id, c, h, omega (arith, long)) in
        absurd (not_accepted (agreed_is (sym large ∙ is))))

    no_15 : ((id : ℕ) (c : Content (List ℕ)) → Has id c (joined_contents t u) → length (write_content c) ≤ 4_294_967_295) → join_names (kind_in edition) s o ≡ agreed (accepted (write_subsections (joined_contents t u)))
    unfolding join_names write_joined
    no_15 small = rw (j, k) (ap agreed (provided_small (all_fit (joined_contents t u)) refl))
      where
        provided_small : (b : Bool) → all_fit (joined_contents t u) ≡ b → provided b SubsectionTooLarge (accepted (write_subsections (joined_contents t u))) ≡ accepted (write_subsections (joined_contents t u))
        provided_small true e = refl
        provided_small false e = let (id, c, h, long) = (large_exactly (joined_contents t u)).0 e in absurd (omega (arith, small id c h, long))

  -- a refusal that was said is the one that is asked of
  as_said : {room : ℕ} {a : WmPairAnswer} {w n at w' n' at' : ℕ} → a ≡ wm_pair_refused w n at → a ≡ wm_pair_refused w' n' at' → JoinRefused (kind_in edition) s o room w n at → JoinRefused (kind_in edition) s o room w' n' at'
  as_said e e' r =
      let both = sym e ∙ e' in
      let code = ap (λ (a : WmPairAnswer). a.code) both in
      let offset = ap (λ (a : WmPairAnswer). a.offset) both in
      rw (← pair_whose both, ← code, ← offset) r

  too_short : {room : ℕ} (bytes : List ℕ) → join_names (kind_in edition) s o ≡ agreed (accepted bytes) → room < length bytes → JoinRefused (kind_in edition) s o room 0 13 (length bytes)
  unfolding join_names
  too_short bytes is short =
      on_agreed write_joined (judge_names (kind_in edition) 0 s) (judge_names (kind_in edition) 0 o) is λ t u j k _.
      let small = none_large j k is in
      let same : write_subsections (joined_contents t u) ≡ bytes = accepted_is (agreed_is (sym (no_15 j k small) ∙ is)) in
      rw (← same) (join_too_short j k small (rw same short))

  module _ (old : List ℕ) (a : WmPairAnswer) where
    from_wanted : (wanted : Paired (Judged (List ℕ))) → join_names (kind_in edition) s o ≡ wanted → a ≡ wm_join (join_answer (length old) wanted) → (w n at : ℕ) → a ≡ wm_pair_refused w n at → JoinRefused (kind_in edition) s o (length old) w n at
    unfolding join_answer fitting
    from_wanted (refused_by Separate m k) is e w n at r = as_said e r (separate_refused (((edition_pairs_joined edition).refuses_separate s o m k).0 is))
    from_wanted (refused_by Own m k) is e w n at r = let both = ((edition_pairs_joined edition).refuses_own s o m k).0 is in as_said e r (own_refused both.0.judged both.1)
    from_wanted (agreed (refused m k)) is e w n at r =
        let only = (edition_pairs_joined edition).nothing_else s o is in
        as_said e r (rw (only.0, only.1) (too_large (length old) (rw (only.0, only.1) at is)))
    from_wanted (agreed (accepted bytes)) is e w n at r =
        by_test (leb (length bytes) (length old))
        (λ b. let found : a ≡ wm_pair_found 0 0 (length bytes) = e ∙ rw b in absurd (omega (arith, pair_kind (sym found ∙ r))))
        (λ b. let short : a ≡ wm_pair_refused 0 13 (length bytes) = e ∙ rw b in as_said short r (too_short bytes is (leb-false (length bytes) (length old) b)))

    to_refused : a ≡ wm_join (join_answer (length old) (join_names (kind_in edition) s o)) → {w n at : ℕ} → JoinRefused (kind_in edition) s o (length old) w n at → a ≡ wm_pair_refused w n at
    unfolding join_answer fitting
    to_refused e {n = n} {at = at} (separate_refused j) = e ∙ ap (λ x. wm_join (join_answer (length old) x)) (((edition_pairs_joined edition).refuses_separate s o n at).1 j)
    to_refused e {n = n} {at = at} (own_refused {t = t} j k) = e ∙ ap (λ x. wm_join (join_answer (length old) x)) (((edition_pairs_joined edition).refuses_own s o n at).1 (record { value = t; judged = j }, k))
    to_refused e (join_too_large {t} {u} j k id c h long) = e ∙ ap (λ x. wm_join (join_answer (length old) x)) (((edition_pairs_joined edition).too_large (record { value = t; judged = j }) (record { value = u; judged = k })).1 (id, c, h, omega (arith, long)))
    to_refused e (join_too_short {t} {u} j k small short) = e ∙ ap (λ x. wm_join (join_answer (length old) x)) (no_15 j k small) ∙ rw (lt-leb (length (write_subsections (joined_contents t u))) (length old) short)

  refused_numbered : {room w n at : ℕ} → JoinRefused (kind_in edition) s o room w n at → Numbered n
  refused_numbered {n = n} {at = at} (separate_refused e) = (names_fair (kind_in edition) 0 s).numbered n at e
  refused_numbered {n = n} {at = at} (own_refused j e) = (names_fair (kind_in edition) 0 o).numbered n at e
  refused_numbered (join_too_large j k id c h long) = refl
  refused_numbered (join_too_short j k small short) = refl

-- What was written
module _ (edition : Edition) (s o old new : List ℕ) (a : WmPairAnswer) (joins : WmJoins (join_names (kind_in edition) s o) old new a) (k : a.kind ≡ 1) where
  join_wrote : Wrote (unowned (join_names (kind_in edition) s o)) old new (without_whose a)
  join_wrote = wrote (unowned (join_names (kind_in edition) s o)) (join_writes (join_names (kind_in edition) s o) joins) k

  bytes_joined : join_names (kind_in edition) s o ≡ agreed (accepted join_wrote.bytes)
  bytes_joined = unowned_is (join_names (kind_in edition) s o) join_wrote.wants

  joined_to : JoinedTo (kind_in edition) s o (take a.length new)
  joined_to = rw (wrote_first join_wrote) ((edition_pairs_joined edition).writes s o bytes_joined)

  joined_is : join_names (kind_in edition) s o ≡ agreed (accepted (take a.length new))
  joined_is = rw (wrote_first join_wrote) bytes_joined

  -- each question is told something by the pair
  pair_tells : (q : Question) → (v : Option (List ℕ)) × (pair_told (ask_pair (kind_in edition) q s o) ≡ agreed v) × ((wm_pair (as_places (ask_pair (kind_in edition) q s o))).kind ≡ kind_for v) × (bytes_of s o (wm_pair (as_places (ask_pair (kind_in edition) q s o))) ≡ bytes_for v)
  pair_tells q =
      let (v, _, told) = joined_to.answers_as_pair q in
      let said = pair_said s o (ask_pair (kind_in edition) q s o) (λ x is. (pairs_answered (kind_in edition)).very_bytes q s o {x = x} is) told in
      (v, told, said.0, said.1)

-- joined with nothing it is the rewriting, refused or not
no_own_is : (edition : Edition) (s : List ℕ) → unowned (join_names (kind_in edition) s []) ≡ canonical_names (kind_in edition) s
no_own_is edition s =
    by_judged (judge_names (kind_in edition) 0 s)
    (λ t j. ap (λ x. unowned x) ((edition_pairs_joined edition).no_own (record { value = t; judged = j })))
    (λ n at j. ap (λ x. unowned x) (((edition_pairs_joined edition).refuses_separate s [] n at).1 j) ∙ sym (names_refuse (kind_in edition) s n at j))

empty_accepted : (kind_of : ℕ → Kind) → Accepted (judge_names kind_of 0) []
unfolding judge_names payload subsections
empty_accepted kind_of = record { value = nil; judged = refl }

no_separate_is : (edition : Edition) (o : List ℕ) → unowned (join_names (kind_in edition) [] o) ≡ canonical_names (kind_in edition) o
no_separate_is edition o =
    by_judged (judge_names (kind_in edition) 0 o)
    (λ t j. ap (λ x. unowned x) ((edition_pairs_joined edition).no_separate (record { value = t; judged = j })))
    (λ n at j. ap (λ x. unowned x) (((edition_pairs_joined edition).refuses_own [] o n at).1 (empty_accepted (kind_in edition), j)) ∙ sym (names_refuse (kind_in edition) o n at j))

-- THE JOIN, of an edition
module _ (edition : Edition) where
  abbrev joining : (s o old new : List ℕ) → WmPairAnswer → Type 0
  joining s o old new a = WmJoins (join_names (kind_in edition) s o) old new a

  as_write : (s o : List ℕ) {old new : List ℕ} {a : WmPairAnswer} → joining s o old new a → WmWrites (unowned (join_names (kind_in edition) s o)) old new (without_whose a)
  as_write s o w = join_writes (join_names (kind_in edition) s o) w

  join_fits : (s o old new : List ℕ) (a : WmPairAnswer) (i j : WmAnswer) → joining s o old new a → i ≡ wm_judged (length s) (verdict (judge_names (kind_in edition) 0 s)) → i.kind ≡ 1 → j ≡ wm_judged (length o) (verdict (judge_names (kind_in edition) 0 o)) → j.kind ≡ 1 → length s + length o < 4_294_967_296 → length s + length o ≤ length old → a.kind ≡ 1
  join_fits s o old new a i j w e k f l small room =
      let (t, is) = (judged_said (length s) (judge_names (kind_in edition) 0 s) e).found.0 k in
      let (u, is') = (judged_said (length o) (judge_names (kind_in edition) 0 o) f).found.0 l in
      let (x, wants) = (edition_pairs_joined edition).accepts (record { value = t; judged = is }) (record { value = u; judged = is' }) small in
      let short = ((edition_pairs_joined edition).writes s o wants).never_longer in
      let write : WmWrites (accepted x) old new (without_whose a) = rw (ap (λ p. unowned p) wants) at (as_write s o w) in
      ap (λ (b : WmAnswer). b.kind) (wrote_there x (omega (arith, short, room)) write).is

  -- what is written answers as the pair
  module _ (s o old new : List ℕ) (a : WmPairAnswer) (w : joining s o old new a) (k : a.kind ≡ 1) where
    join_accepted : (j : WmAnswer) → j ≡ wm_judged (length (take a.length new)) (verdict (judge_names (kind_in edition) 0 (take a.length new))) → j.kind ≡ 1
    join_accepted j e = let c = (joined_to edition s o old new a w k).is_accepted in (judged_said (length (take a.length new)) (judge_names (kind_in edition) 0 (take a.length new)) e).found.1 (c.value, c.judged)

    join_canonical : (y : ℕ) → y ≡ wm_yes (names_are_canonical (kind_in edition) (take a.length new)) → y ≡ 1
    unfolding names_are_canonical
    join_canonical y e =
        let rests = (joined_to edition s o old new a w k).is_canonical in
        let told = is_its_rewriting (canonical_names (kind_in edition) (take a.length new)) (take a.length new) in
        e ∙ (yes_one told).1 ((own (canonical_names (kind_in edition) (take a.length new)) (take a.length new)).1 rests)

    join_answers : (q : Question) (b : WmPairAnswer) (c : WmAnswer) → b ≡ wm_pair (as_places (ask_pair (kind_in edition) q s o)) → c ≡ wm_place (as_place (ask (kind_in edition) q (take a.length new))) → (b.kind ≡ c.kind) × (bytes_of s o b ≡ take c.length (drop c.offset (take a.length new)))
    join_answers q b c e f =
        let x = take a.length new in
        let (v, told, pairs) = (joined_to edition s o old new a w k).answers_as_pair q in
        let one = one_said x (ask (kind_in edition) q x) (λ y is. (questions_answered (kind_in edition)).very_bytes q x is) told in
        let two = pair_said s o (ask_pair (kind_in edition) q s o) (λ x is. (pairs_answered (kind_in edition)).very_bytes q s o {x = x} is) pairs in
        rw (e, f) (two.0 ∙ sym one.0, two.1 ∙ sym one.1)

  -- two pairs
  join_same : (s o s' o' old new old' new' : List ℕ) (a b : WmPairAnswer) → Bytes s → Bytes o → Bytes s' → Bytes o' → joining s o old new a → joining s' o' old' new' b → a.kind ≡ 1 → b.kind ≡ 1
      → (take a.length new ≡ take b.length new') ↔ ((q : Question) → AllowedBy (kind_in edition) q → (c d : WmPairAnswer) → c ≡ wm_pair (as_places (ask_pair (kind_in edition) q s o)) → d ≡ wm_pair (as_places (ask_pair (kind_in edition) q s' o')) → (c.kind ≡ d.kind) × (bytes_of s o c ≡ bytes_of s' o' d))
  join_same s o s' o' old new old' new' a b bs bo bs' bo' w w' k k' =
      Iff.trans ((edition_pairs_joined edition).same_exactly s o s' o' bs bo bs' bo' (joined_is edition s o old new a w k) (joined_is edition s' o' old' new' b w' k')) (
        λ same q l c d e f.
            let (v, told, kind, bytes) = pair_tells edition s o old new a w k q in
            let (v', told', kind', bytes') = pair_tells edition s' o' old' new' b w' k' q in
            let alike = (told_alike v v').1 (agreed_is (sym told ∙ same q l ∙ told')) in
            rw (e, f) (kind ∙ alike.0 ∙ sym kind', bytes ∙ alike.1 ∙ sym bytes'),
        λ same q l.
            let (v, told, kind, bytes) = pair_tells edition s o old new a w k q in
            let (v', told', kind', bytes') = pair_tells edition s' o' old' new' b w' k' q in
            let alike = same q l (wm_pair (as_places (ask_pair (kind_in edition) q s o))) (wm_pair (as_places (ask_pair (kind_in edition) q s' o'))) refl refl in
            told ∙ ap agreed ((told_alike v v').0 (sym kind ∙ alike.0 ∙ kind', sym bytes ∙ alike.1 ∙ bytes')) ∙ sym told',
      )

  -- of two writes of one payload
  one_write : {wanted wanted' : Judged (List ℕ)} {old new new' : List ℕ} {a b : WmAnswer} → wanted ≡ wanted' → WmWrites wanted old new a → WmWrites wanted' old new' b → (a ≡ b) × (new ≡ new')
  one_write e w v = wm_writes_same (rw e at w) v

  pub joins_pairs : JoinsPairs (kind_in edition) (λ p j. j ≡ wm_judged (length p) (verdict (judge_names (kind_in edition) 0 p))) (λ q p a. a ≡ wm_place (as_place (ask (kind_in edition) q p))) (λ q s o a. a ≡ wm_pair (as_places (ask_pair (kind_in edition) q s o)))
      (λ p old new a. WmWrites (canonical_names (kind_in edition) p) old new a) (λ p y. y ≡ wm_yes (names_are_canonical (kind_in edition) p)) (λ s o old new a. WmJoins (join_names (kind_in edition) s o) old new a)
  joins_pairs = record {
    answers = λ s o old new a w. rw w.says (join_reply (join_answer (length old) (join_names (kind_in edition) s o)));
    refuses = λ s o old new a w whose n at. (from_wanted edition s o old a (join_names (kind_in edition) s o) refl w.says whose n at, λ r. to_refused edition s o old a w.says r);
    numbered = λ s o old new a w whose n at is. refused_numbered edition s o (from_wanted edition s o old a (join_names (kind_in edition) s o) refl w.says whose n at is);
    leaves = λ s o old new a w. wrote_leaves (unowned (join_names (kind_in edition) s o)) old new (without_whose a) (as_write s o w);
    needs_room = λ s o old new old' new' a b v w k.
        let v' : WmWrites (unowned (join_names (kind_in edition) s o)) old new a = rw v.2 at (as_write s o v.1) in
        let w' : WmWrites (unowned (join_names (kind_in edition) s o)) old' new' b = rw w.2 at (as_write s o w.1) in
        (wrote_short v' w' k, wrote_again v' w' k);
    room_enough = join_fits;
    is_accepted = join_accepted;
    is_canonical = join_canonical;
    never_longer = λ s o old new a w k. let c = (joined_to edition s o old new a w k).never_longer in let short = wrote_long (join_wrote edition s o old new a w k) in let same = ap length (wrote_first (join_wrote edition s o old new a w k)) in omega (arith, c, short, same);
    answers_as_pair = join_answers;
    same_exactly = join_same;
    no_own = λ s old new new' a b w v. one_write (no_own_is edition s) (as_write s [] w) v;
    no_separate = λ o old new new' a b w v. one_write (no_separate_is edition o) (as_write [] o w) v;
  }
