-- A lookup finds exactly what the grammar's meaning of the payload holds, says none exactly where it holds nothing, and refuses as the judging call does.
use Rattle.std.specs.Prelude.{ℕ, List, [], ◌∷◌, ◌↔◌, ◌≡◌}
use Rattle.std.proofs.Math.Logic.Iff
use Rattle.std.proofs.Math.Option.{Option}
use Rattle.format.proofs.Theorems.{Answers, hints_answered}
use Rattle.format.specs.Holding.{Has, HasWithin, Holds, the_name, the_entry, the_inner, the_contents}
use Rattle.format.specs.Metadata.{data_of, hint_item, judge_metadata, ask_hint}
use Rattle.format.specs.Names.{Content, single, names, names_by, whole}
use Rattle.format.specs.Parts.{Part}
use Rattle.format.specs.Questions.{as_place}
use Rattle.format.specs.declared.Query.TheVariants.{ItsName, ItsContents, NameOf, NameWithin}
use Rattle.format.specs.Reading.{Judged, accepted}
use Rattle.format.specs.Tables.{Table}
use Rattle.format.specs.declared.CodeOffset.{CodeOffset}
use Rattle.format.specs.declared.FunctionIndex.{FunctionIndex}
use Rattle.format.specs.declared.Hint.TheVariants.{Unlikely, Likely}
use Rattle.grammar.proofs.Laws.Metadata.{hint_exact, metadata_complete}
use Rattle.grammar.specs.Metadata.{CodeMetadata, BranchHint}
use Rattle.wakemiono.specs.Boundary.{wm_refused, wm_place, wm_hint}
use Rattle.wakemiono.specs.declared.WmAnswer.{WmAnswer}
use Rattle.promises.specs.Demands.{Tells}
use Rattle.promises.specs.Laws.Saying.{Verdict, found_said, none_said, refused_said, unlikely_said, likely_said, no_hint_said, hint_refused_said}

back : {A B : Type 0} → A ↔ B → B ↔ A
back e = (e.1, e.0)

pub tells_as : (lent : List ℕ) (a : WmAnswer) (Held Kept : List ℕ → Type 0) → ((x : List ℕ) → Held x ↔ Kept x) → Tells lent Held a → Tells lent Kept a
tells_as lent a Held Kept same t = (λ x. Iff.trans (t.0 x) (same x), Iff.trans t.1 (λ empty x h. empty x ((same x).1 h), λ empty x h. empty x ((same x).0 h)))

module _ {A B Q : Type 0} {judgement : List ℕ → Judged A} {plain : A → B} {answer : Q → List ℕ → Judged (Option Part)} (Held : B → Q → List ℕ → Type 0)
    (answers : Answers judgement answer (λ t q x. Held (plain t) q x)) (q : Q) (p : List ℕ) (a : WmAnswer) (meets : a ≡ wm_place (as_place (answer q p))) where
  pub asked_tells : (m : B) → (v : A) × (judgement p ≡ accepted v) × (plain v ≡ m) → Tells p (λ x. Held m q x) a
  asked_tells m read =
      let (v, e, same) = read in
      rw (meets, ← same) (
        λ x. Iff.trans (found_said p (answer q p) (λ y h. answers.very_bytes q p h) x) (answers.found (record { value = v; judged = e }) q x),
        Iff.trans (none_said (answer q p)) (answers.none_found (record { value = v; judged = e }) q),
      )

  pub asked_refused : {j : WmAnswer} → Verdict j (judgement p) → (n at : ℕ) → (a ≡ wm_refused n at) ↔ (j ≡ wm_refused n at)
  asked_refused says n at = rw meets (Iff.trans (refused_said (answer q p) n at) (Iff.trans (answers.refuses q p n at) (back (says.refusal n at))))

-- under two numbers, as the rows that hold it
pub within_held : {X : Type 0} {k j : ℕ} {x : X} {m : Table (Table X)} → HasWithin k j x m ↔ ((t : Table X) × Has k t m × Has j x t)
within_held = (λ h. (h.group, h.outer, h.inner), λ r. record { group = r.0; outer = r.1; inner = r.2 })

-- Hints
module _ (f : FunctionIndex) (at : CodeOffset) (p : List ℕ) (a : WmAnswer) (meets : a ≡ wm_hint (ask_hint f at 0 p)) where
  module _ (m : Table (Table (List ℕ))) (g : CodeMetadata BranchHint p m) where
    pub likely_held : (a.kind ≡ 4) ↔ HasWithin f.0 at.0 (1 ∷ []) m
    unfolding data_of
    likely_held =
        let (v, e, same) = metadata_complete hint_exact 0 p m g in
        rw (meets, ← same) (Iff.trans (likely_said (ask_hint f at 0 p)) (hints_answered.found (record { value = v; judged = e }) f at Likely))

    pub unlikely_held : (a.kind ≡ 3) ↔ HasWithin f.0 at.0 (0 ∷ []) m
    unfolding data_of
    unlikely_held =
        let (v, e, same) = metadata_complete hint_exact 0 p m g in
        rw (meets, ← same) (Iff.trans (unlikely_said (ask_hint f at 0 p)) (hints_answered.found (record { value = v; judged = e }) f at Unlikely))

    pub no_hint_held : (a.kind ≡ 0) ↔ ((x : List ℕ) → ((t : Table (List ℕ)) × Has f.0 t m × Has at.0 x t) → ⊥)
    no_hint_held =
        let (v, e, same) = metadata_complete hint_exact 0 p m g in
        rw (meets, ← same) (Iff.trans (no_hint_said (ask_hint f at 0 p)) (Iff.trans (hints_answered.none_found (record { value = v; judged = e }) f at) (λ empty x h. empty x (within_held.1 h), λ empty x h. empty x (within_held.0 h))))

  pub hint_refused : {j : WmAnswer} → Verdict j (judge_metadata hint_item 0 p) → (n o : ℕ) → (a ≡ wm_refused n o) ↔ (j ≡ wm_refused n o)
  hint_refused says n o = rw meets (Iff.trans (hint_refused_said (ask_hint f at 0 p) n o) (Iff.trans (hints_answered.refuses f at p n o) (back (says.refusal n o))))

-- What is held, as the rows that hold it
module _ {X : Type 0} {t : Table (Content X)} {x : X} (id : ℕ) where
  pub name_held : Holds id ItsName t x ↔ Has id (single x) t
  name_held = (elim [ the_name h ↦ h ], λ h. the_name h)

  pub contents_held : Holds id ItsContents t x ↔ Has id (whole x) t
  contents_held = (elim [ the_contents h ↦ h ], λ h. the_contents h)

  pub entry_held : (k : ℕ) → Holds id (NameOf k) t x ↔ ((m : Table X) × Has id (names m) t × Has k x m)
  entry_held k = (elim [ the_entry {m = m} h g ↦ (m, h, g) ], λ r. the_entry r.1 r.2)

  pub inner_held : (k j : ℕ) → Holds id (NameWithin k j) t x ↔ ((m : Table (Table X)) × Has id (names_by m) t × ((u : Table X) × Has k u m × Has j x u))
  inner_held k j = (elim [ the_inner {m = m} h g ↦ (m, h, within_held.0 g) ], λ r. the_inner r.1 (within_held.1 r.2))
