-- Subsections and where they lie, over any table of ids: what stands under each id, and one taken from the front of those that were accepted. Nothing here is about code.
use Prim.Native.Nat.{ℕ, zero, suc}
use mathlib.Core.List.{List, [], ◌∷◌}
use mathlib.Core.Option.{Option, none, some}
use mathlib.Core.Path.{◌≡◌, refl, sym, ap, ◌∙◌}
use borrow.Author.Tests.{eqb-true, le-leb}
use lib.Dec.{leb, eqb}
use lib.ListN.{length}
use Rattle.format.specs.Options.{some_then}
use Rattle.format.specs.Reading.{got, accepted, judge, Accepted}
use Rattle.format.specs.Parts.{Part, sized}
use Rattle.format.specs.Tables.{Table, nil, row, lookup}
use Rattle.format.specs.Names.{Kind, Content, contents, subsections, payload, judge_names}
use Rattle.format.specs.Questions.{answer_in, answer, asked}
use Rattle.format.specs.declared.Query.{Query}
use Rattle.format.specs.Laws.Outcomes.{got_value, got_next, got_rest, by_test, in_turn, passed, judged, mapped, accepted_is}
use Rattle.format.specs.Laws.Turns.{in_subsection}
use Rattle.names.specs.Contents.{asks_in}
use Rattle.names.specs.Frames.{frame, frames, judge_frames, read_under}

-- subsections that were read: the first of them, and those behind it
pub in_frames {ℓ} : {C : Type ℓ} (most least o id : ℕ) (bs : List ℕ) {t : Table Part} {o' : ℕ} {rest : List ℕ} → frames (suc most) least o (id ∷ bs) ≡ got t o' rest → ((p : Part) (o₁ : ℕ) (r₁ : List ℕ) (more : Table Part) → sized (suc o) bs ≡ got p o₁ r₁ → frames most (suc id) o₁ r₁ ≡ got more o' rest → row id p more ≡ t → C) → C
unfolding frames frame
in_frames most least o id bs e k =
    in_turn (frame least o (id ∷ bs)) _ e λ h o₁ r₁ e₁ e₂.
    passed (leb least id) _ _ _ _ _ e₁ λ t e₃. in_turn (sized (suc o) bs) _ e₃ λ p o₂ r₂ e₄ e₅.
    in_turn (frames most (suc id) o₁ r₁) _ (rw (← got_value e₅) at e₂) λ more o₃ r₃ e₆ e₇.
    k p o₁ r₁ more (rw (got_next e₅, got_rest e₅) at e₄) (rw (got_next e₇, got_rest e₇) at e₆) (got_value e₇)

-- none are left at the end
pub no_frames : (most least o : ℕ) {t : Table Part} {o' : ℕ} {rest : List ℕ} → frames most least o [] ≡ got t o' rest → nil ≡ t
unfolding frames frame
no_frames zero least o e = got_value e
no_frames (suc most) least o e = got_value e

module _ (kind_of : ℕ → Kind) where
  -- The subsections of an accepted payload have the ids of its frames, and under each id stands what is read where it lies
  pub record Lying (most least o : ℕ) (bs : List ℕ) (t : Table (Content Part)) (o' : ℕ) (rest : List ℕ) : Type 0 where
    pub table : Table Part
    pub framed_so : frames most least o bs ≡ got table o' rest
    pub stands : (id : ℕ) → accepted (lookup id t) ≡ read_under (kind_of id) (lookup id table)

  nothing_lies : (most least o : ℕ) (bs : List ℕ) {t : Table (Content Part)} {o' : ℕ} {rest : List ℕ} → frames most least o bs ≡ got nil o bs → got nil o bs ≡ got t o' rest → Lying most least o bs t o' rest
  unfolding lookup
  nothing_lies most least o bs f e = record { table = nil; framed_so = f ∙ rw (got_next e, got_rest e); stands = λ id. rw (← got_value e) }

  pub subsections_lie : (most least o : ℕ) (bs : List ℕ) {t : Table (Content Part)} {o' : ℕ} {rest : List ℕ} → subsections kind_of most least o bs ≡ got t o' rest → Lying most least o bs t o' rest
  unfolding subsections frames frame lookup
  subsections_lie zero least o bs e = nothing_lies zero least o bs refl e
  subsections_lie (suc most) least o [] e = nothing_lies (suc most) least o [] refl e
  subsections_lie (suc most) least o (id ∷ bs) e =
      in_subsection kind_of most least o id bs e λ p o₁ r₁ c o₂ r₂ more above e₁ e₂ e₃ is.
      let l = subsections_lie most (suc id) o₁ r₁ e₃ in
      record {
        table = row id p l.table;
        framed_so = rw (le-leb least id above, e₁, l.framed_so);
        stands = λ j. rw (← is) (by_test (eqb j id) (λ q. rw (q, eqb-true j id q, e₂)) (λ q. rw q (l.stands j)));
      }

  pub frames_accepted : (at : ℕ) (bs : List ℕ) → Accepted (judge_names kind_of at) bs → Accepted (judge_frames at) bs
  unfolding judge_names payload judge_frames
  frames_accepted at bs a = judged (subsections kind_of (length bs) 0 at bs) a.judged λ o rest r. let l = subsections_lie (length bs) 0 at bs r in record { value = l.table; judged = ap judge l.framed_so }

  -- so an answer is that of the contents under its id
  answer_read : (q : Query) (kind : Kind) (found : Option Part) (x : Option (Content Part)) → accepted x ≡ read_under kind found → accepted (some_then x (answer_in q)) ≡ asks_in kind q found
  answer_read q kind none x e = rw (accepted_is e)
  answer_read q kind (some p) x e = mapped some (judge (contents kind p.at p.bytes)) (sym e) λ c e₁ e₂. rw (← e₂, e₁)

  pub asked_lies : (id : ℕ) (q : Query) (at : ℕ) (bs : List ℕ) {t : Table (Content Part)} {f : Table Part} → judge_names kind_of at bs ≡ accepted t → judge_frames at bs ≡ accepted f → asked kind_of id q at bs ≡ asks_in (kind_of id) q (lookup id f)
  unfolding judge_names payload judge_frames asked answer
  asked_lies id q at bs {t} {f} e e' =
      judged (subsections kind_of (length bs) 0 at bs) e λ o rest r.
      let l = subsections_lie (length bs) 0 at bs r in
      let same : l.table ≡ f = accepted_is (sym (ap judge l.framed_so) ∙ e') in
      rw e (answer_read q (kind_of id) (lookup id f) (lookup id t) (rw same at (l.stands id)))
