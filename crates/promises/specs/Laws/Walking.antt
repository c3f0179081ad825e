-- The walk's answers, by the meaning that the grammar gives the module.
use Prim.Native.Nat.{ℕ, zero, suc, ◌+◌, ◌≤◌}
use Rattle.std.proofs.Math.Bool.{true}
use mathlib.Core.List.{List, [], ◌∷◌, ◌++◌}
use Rattle.std.specs.Prelude.{◌↔◌, ◌≡◌, take, drop}
use Rattle.std.proofs.Math.Logic.Iff
use Rattle.std.proofs.Math.Option.{Option, none, some}
use Rattle.std.proofs.Math.Path.{refl, sym, ap}
use Rattle.std.proofs.Common.{subst, ◌∙◌, arith, add-one, take-append-drop, length-drop, length-take-le, drop-drop}
use Rattle.std.proofs.Math.ListN.{length, get_elem?}
use Rattle.format.specs.Bytes.{Bytes, same}
use Rattle.format.specs.Holding.{Framed, Covers, at_the_end_lem, a_section}
use Rattle.format.specs.Laws.Options.{not_some, some_is, by_option}
use Rattle.format.specs.Laws.Outcomes.{by_test, accepted_exactly, refused_exactly}
use Rattle.format.proofs.Laws.Answers.{told_none}
use Rattle.format.specs.Laws.Bytes.{same_true, same_self}
use Rattle.format.proofs.Laws.Found.{payload_lies}
use Rattle.format.proofs.Laws.Holding.{none_exactly}
use Rattle.format.proofs.Laws.Places.{lies_there, lies_inside}
use Rattle.format.proofs.Laws.Walk.{walk_covers}
use Rattle.format.specs.Options.{map_some}
use Rattle.format.specs.Parts.{Part}
use Rattle.format.specs.Questions.{as_place, as_told}
use Rattle.format.specs.Reading.{Judged, accepted, refused, map_judged}
use Rattle.format.specs.Walk.{preamble, Custom, Section, walk, section_count, section_at, payload_of, payload_in, custom_payload}
use Rattle.grammar.specs.Forgetting.{bare_custom, bare_section, bare_sections}
use Rattle.format.specs.Laws.Tight.{bytes_after}
use Rattle.grammar.proofs.Laws.Modules.{walk_complete}
use Rattle.grammar.proofs.Laws.Numbers.{number_exactly}
use Rattle.grammar.specs.Modules.{Custom as MeantCustom, Section as Meant, Among, here, further, Called, Module}
use Rattle.wakemiono.specs.Boundary.{wm_none, wm_found, wm_refused, wm_count, wm_section, wm_place}
use Rattle.wakemiono.specs.declared.WmAnswer.{WmAnswer}
use Rattle.walk.specs.Surveys.{section_place}
use Rattle.promises.specs.Demands.{Tells, Stands, FirstCalled}
use Rattle.promises.specs.Laws.Saying.{Verdict, count_said, found_said, none_said, refused_said}

framed_stands : (m : List ℕ) (s : Section) → Bytes m → Framed m s → Stands m s.at (s.contents.at + length s.contents.bytes) (bare_section s)
framed_stands m s bytes f =
    let after : Bytes (drop (suc s.at) m) = bytes_after (take (suc s.at) m) (drop (suc s.at) m) (rw take-append-drop bytes) in
    let (size, is, split, next) = (number_exactly (suc s.at) (drop (suc s.at) m) after (length s.contents.bytes) s.contents.at (drop s.contents.at m)).0 f.size_number in
    let rest : List ℕ = drop (length s.contents.bytes) (drop s.contents.at m) in
    let one : s.id ∷ drop 1 (drop s.at m) ≡ drop s.at m = rw f.id_byte at (take-append-drop 1 (drop s.at m)) in
    let further : drop 1 (drop s.at m) ≡ drop (suc s.at) m = drop-drop 1 s.at m ∙ ap (λ n. drop n m) (add-one s.at) in
    let contents : s.contents.bytes ++ rest ≡ drop s.contents.at m = rw f.contents at (take-append-drop (length s.contents.bytes) (drop s.contents.at m)) in
    let inside = f.inside in (
      take s.at m,
      size,
      rest,
      sym (take-append-drop s.at m) ∙ ap (λ bs. take s.at m ++ bs) (sym one ∙ ap (λ bs. s.id ∷ bs) (further ∙ split ∙ ap (λ bs. size ++ bs) (sym contents))),
      length-take-le s.at m (omega (arith, inside, next)),
      is,
      omega (arith, inside, length-drop (length s.contents.bytes) (drop s.contents.at m), length-drop s.contents.at m),
    )

covered_framed : {m : List ℕ} {o : ℕ} {ss : List Section} {s : Section} → Covers m o ss → (i : ℕ) → get_elem? ss i ≡ some s → Framed m s
covered_framed (a_section f c) zero e = rw (← some_is e) f
covered_framed (a_section f c) (suc i) e = covered_framed c i e
covered_framed at_the_end_lem i e = absurd (not_some e)

-- the first stands after the preamble, and each other where the one before it ends
covered_first : {m : List ℕ} {o : ℕ} {ss : List Section} {t : Section} → Covers m o ss → get_elem? ss 0 ≡ some t → t.at ≡ o
covered_first (a_section f c) e = ap (λ (s : Section). s.at) (sym (some_is e))
covered_first at_the_end_lem e = absurd (not_some e)

covered_next : {m : List ℕ} {o : ℕ} {ss : List Section} {s t : Section} → Covers m o ss → (i : ℕ) → get_elem? ss i ≡ some s → get_elem? ss (suc i) ≡ some t → t.at ≡ s.contents.at + length s.contents.bytes
covered_next (a_section f c) zero e e' = covered_first c e' ∙ ap (λ (s : Section). s.contents.at + length s.contents.bytes) (some_is e)
covered_next (a_section f c) (suc i) e e' = covered_next c i e e'
covered_next at_the_end_lem i e e' = absurd (not_some e)

bare_at : (ss : List Section) (i : ℕ) → get_elem? (bare_sections ss) i ≡ map_some bare_section (get_elem? ss i)
bare_at [] i = refl
bare_at (s ∷ ss) zero = refl
bare_at (s ∷ ss) (suc i) = bare_at ss i

bare_count : (ss : List Section) → length (bare_sections ss) ≡ length ss
bare_count [] = refl
bare_count (s ∷ ss) = ap suc (bare_count ss)

past_last : {A : Type 0} (l : List A) (i : ℕ) → (get_elem? l i ≡ none) ↔ (length l ≤ i)
past_last [] i = (λ _. omega arith, λ _. refl)
past_last (v ∷ l) zero = (λ e. absurd (not_some (sym e)), λ h. absurd (omega arith))
past_last (v ∷ l) (suc i) = let ih = past_last l i in (λ e. let h = ih.0 e in omega arith, λ h. ih.1 (omega arith))

pub walked : (m : List ℕ) {a : WmAnswer} → a ≡ wm_count (section_count m) → Verdict a (walk m)
unfolding section_count
walked m e = count_said length (walk m) e

pub walk_counts : (m : List ℕ) (ss : List Meant) (a : WmAnswer) → Module m ss → a ≡ wm_count (section_count m) → a.length ≡ length ss
unfolding section_count
walk_counts m ss a g e =
    let (read, is, same) = walk_complete m ss g in
    let counted : (wm_count (section_count m)).length ≡ length read = rw is in
    ap (λ (a : WmAnswer). a.length) e ∙ counted ∙ sym (bare_count read) ∙ ap length same

-- the section at a position
section_kind : (j : Judged (List Section)) (i : ℕ) {read : List Section} → j ≡ accepted read → ((wm_section (map_judged (map_some section_place) (map_judged (λ ss. get_elem? ss i) j))).kind ≡ 0) ↔ (get_elem? read i ≡ none)
section_kind j i {read} is = rw is (by_section (get_elem? read i))
  where
    by_section : (x : Option Section) → ((wm_section (accepted (map_some section_place x))).kind ≡ 0) ↔ (x ≡ none)
    by_section none = (λ _. refl, λ _. refl)
    by_section (some s) = (λ e. absurd (omega (arith, e)), λ e. absurd (not_some (sym e)))

section_offset : (i : ℕ) (m : List ℕ) (b : WmAnswer) {read : List Section} (at : ℕ) → walk m ≡ accepted read → b ≡ wm_section (map_judged (map_some section_place) (section_at i m)) → b.kind ≡ 1 → ((t : Section) → get_elem? read i ≡ some t → t.at ≡ at) → b.offset ≡ at
unfolding section_at
section_offset i m b {read} at is e k h =
    by_option (get_elem? read i)
    (λ n. let none_there : b ≡ wm_none = e ∙ rw (is, n) in absurd (omega (arith, k, ap (λ (a : WmAnswer). a.kind) none_there)))
    (λ t n. let there : b ≡ wm_found t.id t.at (length t.contents.bytes) = e ∙ rw (is, n) in ap (λ (a : WmAnswer). a.offset) there ∙ h t n)

pub section_first : (m : List ℕ) (ss : List Meant) (a : WmAnswer) → Module m ss → a ≡ wm_section (map_judged (map_some section_place) (section_at 0 m)) → a.kind ≡ 1 → a.offset ≡ 8
unfolding preamble
section_first m ss a g e k = let (read, is, same) = walk_complete m ss g in section_offset 0 m a 8 is e k (λ t n. covered_first (walk_covers m is) n)

module _ (i : ℕ) (m : List ℕ) (ss : List Meant) (a : WmAnswer) (g : Module m ss) (e : a ≡ wm_section (map_judged (map_some section_place) (section_at i m))) where
  pub section_none : (a.kind ≡ 0) ↔ (length ss ≤ i)
  unfolding section_at
  section_none =
      let (read, is, same) = walk_complete m ss g in
      rw (e, ← same, bare_count read) (Iff.trans (section_kind (walk m) i is) (past_last read i))

  pub section_found : Bytes m → (s : Meant) → get_elem? ss i ≡ some s → (a.kind ≡ 1) × (a.code ≡ s.id) × (a.length ≡ length s.contents) × ((next : ℕ) × Stands m a.offset next s × ((b : WmAnswer) → b ≡ wm_section (map_judged (map_some section_place) (section_at (suc i) m)) → b.kind ≡ 1 → b.offset ≡ next))
  unfolding section_at
  section_found bytes s at =
      let (read, is, same) = walk_complete m ss g in
      let there : map_some bare_section (get_elem? read i) ≡ some s = sym (bare_at read i) ∙ ap (λ l. get_elem? l i) same ∙ at in
      by_option (get_elem? read i)
      (λ n. absurd (not_some (rw n at there)))
      (λ t n.
      let meant : bare_section t ≡ s = some_is (rw n at there) in
      let stands = framed_stands m t bytes (covered_framed (walk_covers m is) i n) in
      let end : ℕ = t.contents.at + length t.contents.bytes in
      let follows : (b : WmAnswer) → b ≡ wm_section (map_judged (map_some section_place) (section_at (suc i) m)) → b.kind ≡ 1 → b.offset ≡ end = λ b e' k. section_offset (suc i) m b end is e' k (λ t' n'. covered_next (walk_covers m is) i n n') in
      let here : a ≡ wm_found t.id t.at (length t.contents.bytes) = e ∙ rw (is, n) in
      rw (here, ← meant) (refl, refl, refl, (end, stands, follows)))

pub section_refused : (i : ℕ) (m : List ℕ) (a j : WmAnswer) → a ≡ wm_section (map_judged (map_some section_place) (section_at i m)) → j ≡ wm_count (section_count m) → (n at : ℕ) → (a ≡ wm_refused n at) ↔ (j ≡ wm_refused n at)
unfolding section_at section_count
section_refused i m a j e e' n at = rw (e, e') (after (walk m))
  where
    found_not : (x : Option Section) → wm_section (accepted (map_some section_place x)) ≡ wm_refused n at → ⊥
    found_not none q = omega (arith, ap (λ (a : WmAnswer). a.kind) q)
    found_not (some s) q = omega (arith, ap (λ (a : WmAnswer). a.kind) q)

    after : (j : Judged (List Section)) → (wm_section (map_judged (map_some section_place) (map_judged (λ ss. get_elem? ss i) j)) ≡ wm_refused n at) ↔ (wm_count (map_judged length j) ≡ wm_refused n at)
    after (accepted read) = (λ q. absurd (found_not (get_elem? read i) q), λ q. absurd (omega (arith, ap (λ (a : WmAnswer). a.kind) q)))
    after (refused k o) = (λ q. q, λ q. q)

-- The first custom section of a name
data First (name x : List ℕ) : List Meant → Type 0 where
  first_here : {s : Meant} {ss : List Meant} → s.custom ≡ some (record { name = name; payload = x }) → First name x (s ∷ ss)
  first_later : {s : Meant} {ss : List Meant} → (Called name s → ⊥) → First name x ss → First name x (s ∷ ss)

not_empty : {A : Type 0} {v : A} {l : List A} → v ∷ l ≡ [] → ⊥
not_empty e = let z : ◌≡◌ {A = ℕ} 0 1 = cc in omega arith

none_among : {t : Meant} {ss : List Meant} → ss ≡ [] → Among t ss → ⊥
none_among e here = not_empty e
none_among e (further h) = not_empty e

among_next : (P : Meant → Type 0) (s : Meant) (ss : List Meant) → P s → ((t : Meant) → Among t ss → P t) → (t : Meant) → Among t (s ∷ ss) → P t
among_next P s ss h k t here = h
among_next P s ss h k t (further a) = k t a

module _ (name : List ℕ) where
  first_split : {x : List ℕ} {ss : List Meant} → First name x ss → FirstCalled name ss x
  first_split (first_here {s = s} {ss = ss} is) = ([], s, ss, refl, is, λ t a. absurd (none_among refl a))
  first_split (first_later {s = r} other first) =
      let (before, s, after, split, is, others) = first_split first in
      (r ∷ before, s, after, ap (λ l. r ∷ l) split, is, among_next (λ t. Called name t → ⊥) r before other others)

  split_first : {x : List ℕ} (before : List Meant) (s : Meant) (after : List Meant) → s.custom ≡ some (record { name = name; payload = x }) → ((t : Meant) → Among t before → Called name t → ⊥) → First name x (before ++ (s ∷ after))
  split_first [] s after is others = first_here is
  split_first (r ∷ before) s after is others = first_later (others r here) (split_first before s after is (λ t a. others t (further a)))

  first_called : (x : List ℕ) (ss : List Meant) → First name x ss ↔ FirstCalled name ss x
  first_called x ss = (first_split, λ f. rw f.3 (split_first f.0 f.1 f.2 f.4 f.5))

  -- by what the walk finds
  of_payload : (c : Option Custom) {p : Part} → payload_of name c ≡ some p → map_some bare_custom c ≡ some (record { name = name; payload = p.bytes })
  unfolding payload_of
  of_payload none e = absurd (not_some e)
  of_payload (some c) e =
      by_test (same name c.name.bytes)
      (λ t. let there : c.payload ≡ _ = some_is (rw t at e) in rw (← there, ← same_true name c.name.bytes t))
      (λ t. absurd (not_some (rw t at e)))

  no_payload : (c : Option Custom) {x : List ℕ} → payload_of name c ≡ none → map_some bare_custom c ≡ some (record { name = name; payload = x }) → ⊥
  unfolding payload_of
  no_payload none e is = not_some is
  no_payload (some c) e is =
      let called : c.name.bytes ≡ name = ap (λ (d : MeantCustom). d.name) (some_is is) in
      let t : same name c.name.bytes ≡ true = rw called (same_self name) in
      not_some (sym (rw t at e))

  payload_first : (read : List Section) {p : Part} → payload_in name read ≡ some p → First name p.bytes (bare_sections read)
  unfolding payload_in
  payload_first [] e = absurd (not_some e)
  payload_first (s ∷ ss) e =
      by_option (payload_of name s.custom)
      (λ n. first_later (λ c. no_payload s.custom n c.is) (payload_first ss (rw n at e)))
      (λ p n. let there = some_is (rw n at e) in first_here (of_payload s.custom (n ∙ ap some there)))

  first_payload : (read : List Section) {x : List ℕ} → First name x (bare_sections read) → map_some (λ p. p.bytes) (payload_in name read) ≡ some x
  unfolding payload_in
  first_payload [] first = elim first [ ]
  first_payload (s ∷ ss) (first_here is) =
      by_option (payload_of name s.custom)
      (λ n. absurd (no_payload s.custom n is))
      (λ p n. rw n (ap (λ (c : MeantCustom). some c.payload) (some_is (sym (of_payload s.custom n) ∙ is))))
  first_payload (s ∷ ss) (first_later other first) =
      by_option (payload_of name s.custom)
      (λ n. rw n (first_payload ss first))
      (λ p n. absurd (other (record { payload = p.bytes; is = of_payload s.custom n })))

  told_first : (read : List Section) (x : List ℕ) → (map_some (λ p. p.bytes) (payload_in name read) ≡ some x) ↔ First name x (bare_sections read)
  told_first read x = (λ e. told (payload_in name read) refl e, first_payload read)
    where
      told : (o : Option Part) → payload_in name read ≡ o → map_some (λ p. p.bytes) o ≡ some x → First name x (bare_sections read)
      told none n e = absurd (not_some e)
      told (some p) n e = rw (← some_is e) (payload_first read n)

  pub custom_tells : (m : List ℕ) (ss : List Meant) (a : WmAnswer) → Module m ss → a ≡ wm_place (as_place (custom_payload name m)) → Tells m (λ x. FirstCalled name ss x) a
  unfolding custom_payload as_told
  custom_tells m ss a g e =
      let (read, is, same) = walk_complete m ss g in
      let held : (x : List ℕ) → (map_some (λ p. p.bytes) (payload_in name read) ≡ some x) ↔ FirstCalled name ss x = λ x. Iff.trans (told_first read x) (subst (λ l. First name x (bare_sections read) ↔ FirstCalled name l x) same (first_called x (bare_sections read))) in
      let told : as_told (custom_payload name m) ≡ accepted (map_some (λ p. p.bytes) (payload_in name read)) = rw is in
      rw e (
        λ x. Iff.trans (found_said m (custom_payload name m) (λ y h. let l = payload_lies name m h in record { inside = lies_inside l; bytes = lies_there l }) x) (Iff.trans (accepted_exactly told) (held x)),
        Iff.trans (none_said (custom_payload name m)) (Iff.trans (told_none (custom_payload name m)) (Iff.trans (accepted_exactly told) (none_exactly _ held))),
      )

  pub custom_refused : (m : List ℕ) (a j : WmAnswer) → a ≡ wm_place (as_place (custom_payload name m)) → j ≡ wm_count (section_count m) → (n at : ℕ) → (a ≡ wm_refused n at) ↔ (j ≡ wm_refused n at)
  unfolding custom_payload
  custom_refused m a j e e' n at =
      let found = walked m e' in
      rw e (Iff.trans (refused_said (custom_payload name m) n at) (Iff.trans (refused_exactly (payload_in name) (walk m)) ((found.refusal n at).1, (found.refusal n at).0)))
