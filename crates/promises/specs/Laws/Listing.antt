-- Function names written from lists, by what the C questions answer of them.
use Rattle.std.specs.Prelude.{ℕ, ◌≤◌, List, ◌↔◌, ◌≡◌, eqb, length, take}
use Rattle.std.proofs.Math.Logic.Iff
use Rattle.std.proofs.Math.Option.{Option, none, some}
use Rattle.std.proofs.Math.Path.{refl}
use Rattle.std.proofs.Common.{sym, ap, ◌∙◌}
use Rattle.format.specs.Canonical.{canonical_names}
use Rattle.format.proofs.Theorems.{questions_answered}
use Rattle.format.proofs.Laws.Answers.{told_none}
use Rattle.format.proofs.Laws.Holding.{none_exactly}
use Rattle.format.proofs.Laws.Lists.{Written, written, listed_exactly, lists_told, lists_stay}
use Rattle.format.specs.Laws.Options.{not_some}
use Rattle.format.specs.Laws.Outcomes.{accepted_is, by_test, accepted_exactly}
use Rattle.format.specs.Lists.{Indices, listed, function_names}
use Rattle.format.specs.Names.{name_map, known, known_kind, names, judge_names}
use Rattle.format.specs.Questions.{id_of, query_of, answer, ask_at, ask, as_place, as_told}
use Rattle.format.specs.declared.Question.{Question}
use Rattle.format.specs.declared.Question.TheVariants.{ModuleName, FunctionName, LocalName, LabelName, TypeName, TableName, MemoryName, GlobalName, ElementName, DataName, FieldName, TagName, KeptContents}
use Rattle.format.specs.Reading.{accepted, verdict}
use Rattle.format.specs.Tables.{nil, row, lookup}
use Rattle.wakemiono.specs.Boundary.{wm_found, wm_place, wm_judged, WmWrites}
use Rattle.wakemiono.specs.declared.WmAnswer.{WmAnswer}
use Rattle.promises.specs.Demands.{Tells, Listed}
use Rattle.promises.specs.Laws.Outputs.{Wrote, wrote, wrote_there, wrote_long, wrote_first}
use Rattle.promises.specs.Laws.Rewriting.{names_first_judged}
use Rattle.promises.specs.Laws.Saying.{found_said, none_said, judged_said}

map_kind : known_kind 1 ≡ name_map
unfolding known_kind known lookup
map_kind = refl

nothing_there : {o : Option (List ℕ)} (x : List ℕ) → o ≡ none → (o ≡ some x) ↔ ⊥
nothing_there x e = (λ h. not_some (sym e ∙ h), λ h. absurd h)

module _ {is ns text bs : List ℕ} (w : Written is ns text bs) where
  -- the lists' one subsection answers what they give
  answered_listed : (q : Question) (x : List ℕ) → (answer (id_of q) (query_of q) (row 1 (names (listed is ns text)) nil) ≡ some x) ↔ Listed is ns text q x
  unfolding answer lookup
  answered_listed ModuleName x = nothing_there x refl
  answered_listed (FunctionName k) x = listed_exactly w k.0 x
  answered_listed (TypeName k) x = nothing_there x refl
  answered_listed (LabelName k j) x = nothing_there x refl
  answered_listed (TableName k) x = nothing_there x refl
  answered_listed (MemoryName k) x = nothing_there x refl
  answered_listed (GlobalName k) x = nothing_there x refl
  answered_listed (ElementName k) x = nothing_there x refl
  answered_listed (DataName k) x = nothing_there x refl
  answered_listed (TagName k) x = nothing_there x refl
  answered_listed (LocalName k j) x = nothing_there x refl
  answered_listed (FieldName k j) x = nothing_there x refl
  answered_listed (KeptContents id) x = nothing_there x (by_test (eqb id 1) (λ e. rw e) (λ e. rw e))

  all_told : (q : Question) → as_told (ask known_kind q bs) ≡ accepted (answer (id_of q) (query_of q) (row 1 (names (listed is ns text)) nil))
  unfolding ask ask_at
  all_told q = lists_told w known_kind map_kind (id_of q) (query_of q)

  written_tells : (q : Question) {a : WmAnswer} → a ≡ wm_place (as_place (ask known_kind q bs)) → Tells bs (λ x. Listed is ns text q x) a
  written_tells q e =
      let told : as_told (ask known_kind q bs) ≡ accepted (answer (id_of q) (query_of q) (row 1 (names (listed is ns text)) nil)) = all_told q in
      rw e (
        λ x. Iff.trans (found_said bs (ask known_kind q bs) (λ y h. (questions_answered known_kind).very_bytes q bs h) x) (Iff.trans (accepted_exactly told) (answered_listed q x)),
        Iff.trans (none_said (ask known_kind q bs)) (Iff.trans (told_none (ask known_kind q bs)) (Iff.trans (accepted_exactly told) (none_exactly _ (answered_listed q)))),
      )

module _ (is ns text old new : List ℕ) (a : WmAnswer) (indices : Indices is) (writes : WmWrites (function_names is ns text) old new a) (k : a.kind ≡ 1) where
  lists_wrote : Wrote (function_names is ns text) old new a
  lists_wrote = wrote (function_names is ns text) writes k

  lists_written : Written is ns text (take a.length new)
  lists_written = rw (wrote_first lists_wrote) (written is ns text indices lists_wrote.wants)

  pub lists_accepted : (j : WmAnswer) → j ≡ wm_judged (length (take a.length new)) (verdict (judge_names known_kind 0 (take a.length new))) → j.kind ≡ 1
  lists_accepted j e =
      let p : List ℕ = take a.length new in
      let was = names_first_judged known_kind p p (lists_stay known_kind map_kind lists_written) in
      (judged_said (length p) (judge_names known_kind 0 p) e).found.1 (was.value, was.judged)

  pub lists_read_back : (q : Question) (b : WmAnswer) → b ≡ wm_place (as_place (ask known_kind q (take a.length new))) → Tells (take a.length new) (λ x. Listed is ns text q x) b
  lists_read_back q b e = written_tells lists_written q e

  pub lists_rest : (old' new' : List ℕ) (b : WmAnswer) → a.length ≤ length old' → WmWrites (canonical_names known_kind (take a.length new)) old' new' b → (b ≡ a) × (take b.length new' ≡ take a.length new)
  lists_rest old' new' b room again =
      let w = lists_wrote in
      let stays : canonical_names known_kind (take a.length new) ≡ accepted w.bytes = lists_stay known_kind map_kind lists_written ∙ ap accepted (wrote_first w) in
      let v = wrote_there w.bytes (rw (← wrote_long w) room) (rw stays at again) in
      let one = sym (accepted_is v.wants) in
      (v.is ∙ ap (λ bs. wm_found 0 0 (length bs)) one ∙ sym w.is, wrote_first v ∙ one ∙ sym (wrote_first w))
