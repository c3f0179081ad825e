-- Questions through a module, by what the walk's C call says of the section and what the payload's C call answers.
use Rattle.std.specs.Prelude.{ℕ, List, ◌≢◌, ◌≡◌, refl, length, take, drop}
use Rattle.std.proofs.Math.Option.{Option, none, some}
use Rattle.std.proofs.Common.{sym, ◌∙◌, arith}
use Rattle.std.proofs.Math.Path.{ap}
use Rattle.format.specs.Bytes.{same}
use Rattle.format.proofs.Theorems.{VeryBytes}
use Rattle.format.specs.Laws.Bytes.{same_true, same_self}
use Rattle.format.proofs.Laws.Found.{payload_lies}
use Rattle.format.specs.Laws.Laxer.{hint_laxer, table_laxer, filled_laxer}
use Rattle.format.specs.Laws.Outcomes.{by_test, judged}
use Rattle.format.proofs.Laws.Places.{lies_there, lies_inside}
use Rattle.format.specs.Metadata.{any_item, hint_item, metadata, judge_metadata, ask_metadata, ask_hint}
use Rattle.format.specs.Older.{ask_older}
use Rattle.format.specs.Options.{map_some}
use Rattle.format.specs.Parts.{Part}
use Rattle.format.specs.Names.{Kind}
use Rattle.format.specs.Questions.{ask_at, ask, as_place}
use Rattle.format.specs.declared.Question.{Question}
use Rattle.format.specs.Reading.{Judged, accepted, refused, judged_then, verdict}
use Rattle.format.specs.Tables.{Table}
use Rattle.format.specs.Through.{or_none, through, ask_through, metadata_section, item_of, ask_metadata_through, ask_hint_through, ask_older_through}
use Rattle.format.specs.Walk.{name_section, branch_hint, hint_section, older_hint_section, custom_payload}
use Rattle.format.specs.declared.CodeOffset.{CodeOffset}
use Rattle.format.specs.declared.FunctionIndex.{FunctionIndex}
use Rattle.format.specs.declared.InstructionOffset.{InstructionOffset}
use Rattle.format.specs.declared.Hint.{Hint}
use Rattle.format.specs.declared.Hint.TheVariants.{Unlikely, Likely}
use Rattle.wakemiono.specs.Boundary.{wm_none, wm_refused, wm_place, wm_judged, wm_hint}
use Rattle.wakemiono.specs.declared.WmAnswer.{WmAnswer}
use Rattle.promises.specs.Demands.{Moved, PutThrough}
use Rattle.promises.specs.Laws.Moving.{move_part, moved_judged, name_asked_moves, any_asked_moves, hint_data_moves, hint_asked_moves, older_asked_moves}
use Rattle.promises.specs.Laws.Saying.{judged_said}

place_moved : (k : ℕ) (j : Judged (Option Part)) → Moved k (wm_place (as_place j)) (wm_place (as_place (moved_judged (map_some (move_part k)) k j)))
unfolding as_place
place_moved k (accepted none) = (refl, refl, refl, λ e. absurd (omega (arith, e)), λ e. absurd (omega (arith, e)))
place_moved k (accepted (some p)) = (refl, refl, refl, λ e. refl, λ e. refl)
place_moved k (refused n at) = (refl, refl, refl, λ e. refl, λ e. refl)

hint_moved : (k : ℕ) (j : Judged (Option Hint)) → Moved k (wm_hint j) (wm_hint (moved_judged (λ h. h) k j))
hint_moved k (accepted none) = (refl, refl, refl, λ e. absurd (omega (arith, e)), λ e. absurd (omega (arith, e)))
hint_moved k (accepted (some Unlikely)) = (refl, refl, refl, λ e. absurd (omega (arith, e)), λ e. absurd (omega (arith, e)))
hint_moved k (accepted (some Likely)) = (refl, refl, refl, λ e. absurd (omega (arith, e)), λ e. absurd (omega (arith, e)))
hint_moved k (refused n at) = (refl, refl, refl, λ e. refl, λ e. refl)

-- by what was found of the section: c is the walk's answer, p the payload there
module _ {A : Type 0} (wm : Judged (Option A) → WmAnswer) (question : ℕ → List ℕ → Judged (Option A)) where
  abbrev put : Judged (Option Part) → Judged (Option A)
  put j = judged_then j (λ found. or_none found question)

  abbrev payload_at : List ℕ → WmAnswer → List ℕ
  payload_at m c = take c.length (drop c.offset m)

  put_none : (j : Judged (Option Part)) → wm (accepted none) ≡ wm_none → (wm_place (as_place j)).kind ≡ 0 → wm (put j) ≡ wm_none
  unfolding as_place
  put_none (accepted none) h k = h
  put_none (accepted (some p)) h k = absurd (omega (arith, k))
  put_none (refused n at) h k = absurd (omega (arith, k))

  put_refused : (j : Judged (Option Part)) (n at : ℕ) → ((n at : ℕ) → wm (refused n at) ≡ wm_refused n at) → wm_place (as_place j) ≡ wm_refused n at → wm (put j) ≡ wm_refused n at
  unfolding as_place
  put_refused (accepted none) n at h e = absurd (omega (arith, ap (λ (a : WmAnswer). a.kind) e))
  put_refused (accepted (some p)) n at h e = absurd (omega (arith, ap (λ (a : WmAnswer). a.kind) e))
  put_refused (refused m o) n at h e = h m o ∙ e

  put_found : (m : List ℕ) (j : Judged (Option Part)) → ((p : Part) → j ≡ accepted (some p) → VeryBytes m p) → (wm_place (as_place j)).kind ≡ 1 → wm (put j) ≡ wm (question (wm_place (as_place j)).offset (payload_at m (wm_place (as_place j))))
  unfolding as_place
  put_found m (accepted none) very k = absurd (omega (arith, k))
  put_found m (accepted (some p)) very k = ap (λ bs. wm (question p.at bs)) (sym (very p refl).bytes)
  put_found m (refused n at) very k = absurd (omega (arith, k))

pub payload_very : (x m : List ℕ) (p : Part) → custom_payload x m ≡ accepted (some p) → VeryBytes m p
payload_very x m p e = let l = payload_lies x m e in record { inside = lies_inside l; bytes = lies_there l }

-- The three calls' answers, of a question put to the section x
module _ {A : Type 0} (wm : Judged (Option A) → WmAnswer) (question : ℕ → List ℕ → Judged (Option A)) (x m : List ℕ) (a c : WmAnswer) (e : a ≡ wm (through x question m)) (d : c ≡ wm_place (as_place (custom_payload x m))) where
  through_none : wm (accepted none) ≡ wm_none → c.kind ≡ 0 → a ≡ wm_none
  unfolding through
  through_none h k = e ∙ put_none wm question (custom_payload x m) h (rw d at k)

  through_refused : ((n at : ℕ) → wm (refused n at) ≡ wm_refused n at) → (n at : ℕ) → c ≡ wm_refused n at → a ≡ wm_refused n at
  unfolding through
  through_refused h n at is = e ∙ put_refused wm question (custom_payload x m) n at h (sym d ∙ is)

  pub through_found : c.kind ≡ 1 → a ≡ wm (question c.offset (take c.length (drop c.offset m)))
  unfolding through
  through_found k = rw (e, d) (put_found wm question m (custom_payload x m) (payload_very x m) (rw d at k))

  through_moved : ((k : ℕ) (p : List ℕ) → Moved k (wm (question 0 p)) (wm (question k p))) → (b : WmAnswer) → c.kind ≡ 1 → b ≡ wm (question 0 (take c.length (drop c.offset m))) → Moved c.offset b a
  through_moved moves b k f = rw (through_found k, f) (moves c.offset (take c.length (drop c.offset m)))

places_through : (x : List ℕ) (question : ℕ → List ℕ → Judged (Option Part)) → ((k : ℕ) (p : List ℕ) → question k p ≡ moved_judged (map_some (move_part k)) k (question 0 p)) → PutThrough x (λ p b. b ≡ wm_place (as_place (question 0 p))) (λ m a. a ≡ wm_place (as_place (through x question m)))
unfolding as_place
places_through x question moves m a c e d = (
  through_none (λ j. wm_place (as_place j)) question x m a c e d refl,
  through_refused (λ j. wm_place (as_place j)) question x m a c e d (λ n at. refl),
  through_moved (λ j. wm_place (as_place j)) question x m a c e d (λ k p. rw (moves k p) (place_moved k (question 0 p))),
)

pub name_through : (kind_of : ℕ → Kind) (q : Question) → PutThrough name_section (λ p b. b ≡ wm_place (as_place (ask kind_of q p))) (λ m a. a ≡ wm_place (as_place (ask_through kind_of q m)))
unfolding ask_through ask
name_through kind_of q = places_through name_section (ask_at kind_of q) (name_asked_moves kind_of q)

hints_through : (x : List ℕ) (question : ℕ → List ℕ → Judged (Option Hint)) → ((k : ℕ) (p : List ℕ) → question k p ≡ moved_judged (λ h. h) k (question 0 p)) → PutThrough x (λ p b. b ≡ wm_hint (question 0 p)) (λ m a. a ≡ wm_hint (through x question m))
hints_through x question moves m a c e d = (
  through_none (λ j. wm_hint j) question x m a c e d refl,
  through_refused (λ j. wm_hint j) question x m a c e d (λ n at. refl),
  through_moved (λ j. wm_hint j) question x m a c e d (λ k p. rw (moves k p) (hint_moved k (question 0 p))),
)

pub hint_through : (f : FunctionIndex) (o : CodeOffset) → PutThrough hint_section (λ p b. b ≡ wm_hint (ask_hint f o 0 p)) (λ m a. a ≡ wm_hint (ask_hint_through f o m))
unfolding ask_hint_through
hint_through f o = hints_through hint_section (ask_hint f o) (hint_asked_moves f o)

pub older_through : (f : FunctionIndex) (o : InstructionOffset) → PutThrough older_hint_section (λ p b. b ≡ wm_hint (ask_older f o 0 p)) (λ m a. a ≡ wm_hint (ask_older_through f o m))
unfolding ask_older_through
older_through f o = hints_through older_hint_section (ask_older f o) (older_asked_moves f o)

other_item : (format : List ℕ) → format ≢ branch_hint → item_of format ≡ any_item
unfolding item_of
other_item format other = by_test (same format branch_hint) (λ t. absurd (other (same_true format branch_hint t))) (λ t. rw t)

pub metadata_through : (format : List ℕ) → format ≢ branch_hint → (f : FunctionIndex) (o : CodeOffset) → PutThrough (metadata_section format) (λ p b. b ≡ wm_place (as_place (ask_metadata any_item f o 0 p))) (λ m a. a ≡ wm_place (as_place (ask_metadata_through format f o m)))
unfolding ask_metadata_through
metadata_through format other f o = rw (other_item format other) (places_through (metadata_section format) (ask_metadata any_item f o) (any_asked_moves f o))

-- Of hints their data, where the rules of hints accept them
hints_any : (p : List ℕ) {t : Table (Table Part)} → judge_metadata hint_item 0 p ≡ accepted t → judge_metadata any_item 0 p ≡ accepted t
unfolding judge_metadata metadata any_item
hints_any p e = judged (metadata hint_item 0 p) e λ o rest e₁. let (o₁, l) = filled_laxer (table_laxer (table_laxer hint_laxer)) 0 p e₁ in rw l

module _ (f : FunctionIndex) (o : CodeOffset) (p : List ℕ) (b j : WmAnswer) (judges : j ≡ wm_judged (length p) (verdict (judge_metadata hint_item 0 p))) (refuses : j.kind ≡ 2 → b ≡ j) (asks : j.kind ≡ 1 → b ≡ wm_place (as_place (ask_metadata any_item f o 0 p))) where
  hint_data_by : (v : Judged (Table (Table Part))) → judge_metadata hint_item 0 p ≡ v → b ≡ wm_place (as_place (ask_metadata hint_item f o 0 p))
  unfolding ask_metadata as_place
  hint_data_by (accepted t) is =
      let says = judged_said (length p) (judge_metadata hint_item 0 p) judges in
      asks (says.found.1 (t, is)) ∙ rw (is, hints_any p is)
  hint_data_by (refused n at) is =
      let says = judged_said (length p) (judge_metadata hint_item 0 p) judges in
      refuses (says.refuses.1 (n, at, is)) ∙ (says.refusal n at).1 is ∙ rw is

  hint_data_asked : b ≡ wm_place (as_place (ask_metadata hint_item f o 0 p))
  hint_data_asked = hint_data_by (judge_metadata hint_item 0 p) refl

hint_item_lem : item_of branch_hint ≡ hint_item
unfolding item_of
hint_item_lem = rw (same_self branch_hint)

pub hint_data_through : (f : FunctionIndex) (o : CodeOffset) → PutThrough hint_section (λ p b. (j : WmAnswer) × (j ≡ wm_judged (length p) (verdict (judge_metadata hint_item 0 p))) × (j.kind ≡ 2 → b ≡ j) × (j.kind ≡ 1 → b ≡ wm_place (as_place (ask_metadata any_item f o 0 p)))) (λ m a. a ≡ wm_place (as_place (ask_metadata_through branch_hint f o m)))
unfolding ask_metadata_through metadata_section hint_section
hint_data_through f o m a c e d =
    let put : PutThrough hint_section (λ p b. b ≡ wm_place (as_place (ask_metadata hint_item f o 0 p))) (λ m a. a ≡ wm_place (as_place (through hint_section (ask_metadata hint_item f o) m))) = places_through hint_section (ask_metadata hint_item f o) (hint_data_moves f o) in
    let one = put m a c (rw (← hint_item_lem) e) d in
    (one.0, one.1, λ b k h. one.2 b k (hint_data_asked f o (take c.length (drop c.offset m)) b h.0 h.1 h.2 h.3))
