-- The canonical rewriting of name payloads, over any table of ids: it is accepted, keeps every answer, is never longer and comes to rest; and two payloads have one rewriting exactly where all allowed questions get the same answers.
use Rattle.std.specs.Prelude.{ℕ, ◌≤◌, List, [], ◌↔◌, ◌≡◌, length}
use Rattle.std.proofs.Math.Option.{some}
use Rattle.std.proofs.Math.Path.{refl, sym, ap}
use Rattle.std.proofs.Common.{◌∙◌}
use native.Mathlib.Omega.{arith}
use Rattle.std.proofs.Math.ListN.{length-append}
use Rattle.format.specs.Bytes.{Bytes}
use Rattle.format.specs.Reading.{accepted, Accepted}
use Rattle.format.specs.Tables.{Table, lookup, map_table}
use Rattle.format.specs.Names.{Kind, Content, payload, judge_names}
use Rattle.format.specs.Questions.{answer_in, answer, Allowed, asked, as_told}
use Rattle.format.specs.declared.Query.{Query}
use Rattle.format.specs.Canonical.{keep_rows, trim, bare, write_content, write_subsections, rewrite_names, canonical_names}
use Rattle.format.specs.Laws.Outcomes.{accepted_is, judged}
use Rattle.format.specs.Laws.Options.{by_option}
use Rattle.format.proofs.Laws.Codecs.{Fits32, Sorted, end, next, write_part_mono}
use Rattle.format.proofs.Laws.Tables.{lookup_keep, sorted_keep, keep_all, sorted_imp, lookup_fine, table_sure}
use Rattle.format.proofs.Laws.Names.{SubFine, SubsectionsRead, payload_sound, payload_back, payload_end}
use Rattle.format.proofs.Laws.Trimming.{ContentNorm, norm_fine, trim_norm, trim_stay, trim_answer, trim_shorter, norm_loud, norm_sure}
use Rattle.format.proofs.Laws.Answers.{answer_bare, allowed_or_none}

abbrev Subsections : Type 0
Subsections = Table (Content (List ℕ))

module _ (kind_of : ℕ → Kind) where
  -- well formed, and nothing empty is left
  abbrev pub SubNorm : ℕ → Content (List ℕ) → Type 0
  SubNorm id c = ContentNorm (kind_of id) c × Fits32 (length (write_content c))

  norm_subsection : (id : ℕ) (c d : Content (List ℕ)) → SubFine kind_of id c → trim c ≡ some d → SubNorm id d
  norm_subsection id c d p e = (trim_norm p.0 e, omega (arith, p.1, trim_shorter p.0 e))

  pub norm_sorted : {t : Subsections} {least : ℕ} → Sorted (SubFine kind_of) least t → Sorted SubNorm least (keep_rows trim t)
  norm_sorted s = sorted_keep trim norm_subsection s

  norm_stays : {t : Subsections} {least : ℕ} → Sorted SubNorm least t → keep_rows trim t ≡ t
  norm_stays s = keep_all trim (λ id c p. trim_stay p.0) s

  pub norm_fines : {t : Subsections} {least : ℕ} → Sorted SubNorm least t → Sorted (SubFine kind_of) least t
  norm_fines s = sorted_imp (λ id c p. (norm_fine p.0, p.1)) s

  pub norm_answers : {t : Subsections} → Sorted (SubFine kind_of) 0 t → (id : ℕ) (q : Query) → answer id q (keep_rows trim t) ≡ answer id q t
  unfolding answer
  norm_answers {t} s id q = rw (lookup_keep trim id s) (by_option (lookup id t) (λ e. rw e) (λ c e. rw e (trim_answer (lookup_fine id s e).0 q)))

  pub norm_determined : {s t : Subsections} → Sorted SubNorm 0 s → Sorted SubNorm 0 t → ((id : ℕ) (q : Query) → answer id q s ≡ answer id q t) → s ≡ t
  unfolding answer
  norm_determined a b h = table_sure (λ q c. answer_in q c) SubNorm (λ id c p. norm_loud p.0) (λ id c d p q e. norm_sure p.0 q.0 e) a b h

  pub subsections_shorter : {t : Subsections} {least : ℕ} → Sorted (SubFine kind_of) least t → length (write_subsections (keep_rows trim t)) ≤ length (write_subsections t)
  unfolding keep_rows write_subsections
  subsections_shorter end = omega arith
  subsections_shorter (next {v = c} l p s) =
      by_option (trim c)
      (λ n. rw n (simp length-append (omega (arith, subsections_shorter s))))
      (λ d n. rw n (simp length-append (omega (arith, subsections_shorter s, write_part_mono (write_content d) (write_content c) (trim_shorter p.0 n)))))

  -- What canonical means of bytes: the shortest writing of subsections in order, well formed, none left empty
  pub record Canonical (bs : List ℕ) : Type 0 where
    pub subsections : Subsections
    pub normal : Sorted SubNorm 0 subsections
    pub written : bs ≡ write_subsections subsections

  abbrev pub AcceptedNames : List ℕ → Type 0
  AcceptedNames bs = Accepted (judge_names kind_of 0) bs

  -- what an accepted payload holds, in bytes
  abbrev pub held : {bs : List ℕ} → AcceptedNames bs → Subsections
  held a = map_table bare a.value

  pub read_whole : {bs : List ℕ} (a : AcceptedNames bs) → SubsectionsRead kind_of 0 (held a) [] bs
  unfolding judge_names
  read_whole {bs} a = judged (payload kind_of 0 bs) a.judged λ o rest e. rw (← payload_end kind_of 0 bs e) (payload_sound kind_of 0 bs e)

  pub told_is : {bs : List ℕ} (a : AcceptedNames bs) (id : ℕ) (q : Query) → as_told (asked kind_of id q 0 bs) ≡ accepted (answer id q (held a))
  unfolding asked as_told
  told_is a id q = rw (a.judged, answer_bare id q a.value)

  -- canonical bytes are accepted, and hold what they were written from
  pub canonical_accepted : {bs : List ℕ} → Canonical bs → AcceptedNames bs
  unfolding judge_names
  canonical_accepted c = let (v, o, e, q) = payload_back kind_of (norm_fines c.normal) 0 in record { value = v; judged = rw (c.written, e) }

  pub canonical_held : {bs : List ℕ} (c : Canonical bs) (a : AcceptedNames bs) → held a ≡ c.subsections
  unfolding judge_names
  canonical_held {bs} c a =
      let (v, o, e, q) = payload_back kind_of (norm_fines c.normal) 0 in
      let there : judge_names kind_of 0 bs ≡ accepted v = rw (c.written, e) in
      ap (map_table bare) (accepted_is (sym a.judged ∙ there)) ∙ q

  pub canonical_is : {bs : List ℕ} (a : AcceptedNames bs) → canonical_names kind_of bs ≡ accepted (rewrite_names a.value)
  unfolding canonical_names
  canonical_is a = rw a.judged

  pub canonical_stays : {bs : List ℕ} → Canonical bs → canonical_names kind_of bs ≡ accepted bs
  unfolding rewrite_names
  canonical_stays c =
      let a = canonical_accepted c in
      canonical_is a ∙ ap accepted (ap (λ x. write_subsections (keep_rows trim x)) (canonical_held c a) ∙ ap write_subsections (norm_stays c.normal) ∙ sym c.written)

  -- the rewriting of an accepted payload is canonical
  pub rewriting_canonical : {bs : List ℕ} (a : AcceptedNames bs) → Canonical (rewrite_names a.value)
  unfolding rewrite_names
  rewriting_canonical a = record { subsections = keep_rows trim (held a); normal = norm_sorted (read_whole a).sorted; written = refl }

  pub rewriting_told : {bs : List ℕ} (a : AcceptedNames bs) (id : ℕ) (q : Query) → as_told (asked kind_of id q 0 (rewrite_names a.value)) ≡ as_told (asked kind_of id q 0 bs)
  unfolding rewriting_canonical
  rewriting_told a id q =
      let c = rewriting_canonical a in
      let b = canonical_accepted c in
      told_is b id q ∙ ap accepted (ap (answer id q) (canonical_held c b) ∙ norm_answers (read_whole a).sorted id q) ∙ sym (told_is a id q)

  pub rewriting_shorter : {bs : List ℕ} (a : AcceptedNames bs) → length (rewrite_names a.value) ≤ length bs
  unfolding rewrite_names
  rewriting_shorter a = omega (arith, subsections_shorter (read_whole a).sorted, (read_whole a).shorter)

  -- payloads with one rewriting answer alike, whatever is asked
  pub same_answers : {x y : List ℕ} (a : AcceptedNames x) (b : AcceptedNames y) → canonical_names kind_of x ≡ canonical_names kind_of y → (id : ℕ) (q : Query) → as_told (asked kind_of id q 0 x) ≡ as_told (asked kind_of id q 0 y)
  same_answers a b e id q =
      let one = accepted_is (sym (canonical_is a) ∙ e ∙ canonical_is b) in
      sym (rewriting_told a id q) ∙ ap (λ bs. as_told (asked kind_of id q 0 bs)) one ∙ rewriting_told b id q

  -- two payloads have one rewriting exactly where all allowed questions get the same answers
  pub same_rewriting : {x y : List ℕ} → Bytes x → Bytes y → AcceptedNames x → AcceptedNames y → (canonical_names kind_of x ≡ canonical_names kind_of y) ↔ ((id : ℕ) (q : Query) → Allowed kind_of id q → as_told (asked kind_of id q 0 x) ≡ as_told (asked kind_of id q 0 y))
  unfolding rewrite_names
  same_rewriting {x} {y} bx by a b = (λ e id q _. same_answers a b e id q, from)
    where
      alike : ((id : ℕ) (q : Query) → Allowed kind_of id q → as_told (asked kind_of id q 0 x) ≡ as_told (asked kind_of id q 0 y)) → (id : ℕ) (q : Query) → answer id q (held a) ≡ answer id q (held b)
      alike h id q =
          let told : Allowed kind_of id q → answer id q (held a) ≡ answer id q (held b) = λ l. accepted_is (sym (told_is a id q) ∙ h id q l ∙ told_is b id q) in
          allowed_or_none kind_of a bx id q told (λ n. allowed_or_none kind_of b by id q told (λ m. n ∙ sym m))

      from : ((id : ℕ) (q : Query) → Allowed kind_of id q → as_told (asked kind_of id q 0 x) ≡ as_told (asked kind_of id q 0 y)) → canonical_names kind_of x ≡ canonical_names kind_of y
      from h =
          let sa = (read_whole a).sorted in
          let sb = (read_whole b).sorted in
          let one = norm_determined (norm_sorted sa) (norm_sorted sb) (λ id q. norm_answers sa id q ∙ alike h id q ∙ sym (norm_answers sb id q)) in
          canonical_is a ∙ ap accepted (ap write_subsections one) ∙ sym (canonical_is b)
