-- Each C call refuses exactly where the rules do, by what its promise says of a judgement.
use Rattle.std.specs.Prelude.{ℕ, ◌<◌, List, ◌↔◌, leb, take, drop}
use Rattle.std.proofs.Math.Logic.Iff
use Rattle.std.proofs.Math.Option.{Option, none, some}
use Rattle.std.proofs.Math.Path.{◌≡◌, refl, ap}
use Rattle.std.proofs.Common.{sym, ◌∙◌, arith, leb-false}
use Rattle.std.proofs.Math.ListN.{length}
use Rattle.format.specs.Laws.Outcomes.{not_accepted, accepted_is, by_test, refused_exactly}
use Rattle.format.specs.Metadata.{hint_item, judge_metadata, item_at, ask_metadata, hint_in, ask_hint}
use Rattle.format.specs.Names.{Kind, judge_names}
use Rattle.format.specs.Older.{judge_older, first_in, ask_older}
use Rattle.format.specs.Outputs.{fitting, write_answer}
use Rattle.format.specs.Parts.{Part}
use Rattle.format.specs.Questions.{id_of, query_of, answer, asked, ask_at, as_place}
use Rattle.format.specs.Reading.{Judged, accepted, refused, judged_then, map_judged}
use Rattle.format.specs.Through.{or_none, through, ask_through, metadata_section, item_of, ask_metadata_through, ask_hint_through, ask_older_through}
use Rattle.format.specs.Walk.{name_section, hint_section, older_hint_section, walk, payload_in, custom_payload}
use Rattle.format.specs.declared.CodeOffset.{CodeOffset}
use Rattle.format.specs.declared.FunctionIndex.{FunctionIndex}
use Rattle.format.specs.declared.InstructionOffset.{InstructionOffset}
use Rattle.format.specs.declared.Question.{Question}
use Rattle.wakemiono.specs.Calls.{WmCustom}
use Rattle.wakemiono.specs.Boundary.{wm_found, wm_refused, wm_place, wm_hint, WmWrites}
use Rattle.wakemiono.specs.declared.WmAnswer.{WmAnswer}
use Rattle.promises.specs.Demands.{RefusedOrShort, by_aFault, too_short}
use Rattle.promises.specs.Laws.Outputs.{wrote_refused, short_there}
use Rattle.promises.specs.Laws.Saying.{refused_said, hint_refused_said}
use Rattle.promises.specs.Laws.Through.{payload_very, through_found}

-- By a judgement. The faults come in behind, once for all calls
abbrev pub RefusedBy : {A : Type 0} → Judged A → (number offset : ℕ) → Type 0
RefusedBy judged number offset = judged ≡ refused number offset

abbrev pub JudgedOrShort : {A : Type 0} → Judged A → (A → ℕ) → (room number offset : ℕ) → Type 0
JudgedOrShort judged needed room = RefusedOrShort (RefusedBy judged) judged needed room

pub data JudgedThrough {A : Type 0} (section : List ℕ) (judgement : (start : ℕ) → List ℕ → Judged A) (m : List ℕ) : (number offset : ℕ) → Type 0 where
  walk_refused : {number offset : ℕ} → walk m ≡ refused number offset → JudgedThrough section judgement m number offset
  payload_refused : {number offset : ℕ} (c : WmAnswer) → WmCustom section m c → c.kind ≡ 1 → judgement c.offset (take c.length (drop c.offset m)) ≡ refused number offset → JudgedThrough section judgement m number offset

-- Through a module: by what the question's answer says of a judgement, and by what it is refused
module _ {A B : Type 0} (wm : Judged (Option A) → WmAnswer) (says : (j : Judged (Option A)) (n at : ℕ) → (wm j ≡ wm_refused n at) ↔ (j ≡ refused n at))
    (judgement : ℕ → List ℕ → Judged B) (question : ℕ → List ℕ → Judged (Option A)) (alike : (k : ℕ) (p : List ℕ) (n at : ℕ) → (question k p ≡ refused n at) ↔ (judgement k p ≡ refused n at))
    (x m : List ℕ) where
  from_payload : (j : Judged (Option Part)) → custom_payload x m ≡ j → (n at : ℕ) → judged_then j (λ found. or_none found question) ≡ refused n at → JudgedThrough x judgement m n at
  unfolding as_place custom_payload
  from_payload (accepted none) is n at e = absurd (not_accepted (sym e))
  from_payload (accepted (some p)) is n at e =
      let judged : judgement p.at (take (length p.bytes) (drop p.at m)) ≡ refused n at = rw (payload_very x m p is).bytes ((alike p.at p.bytes n at).0 e) in
      let found : wm_found 0 p.at (length p.bytes) ≡ wm_place (as_place (custom_payload x m)) = rw is refl in
      payload_refused (wm_found 0 p.at (length p.bytes)) found refl judged
  from_payload (refused k o) is n at e = walk_refused ((refused_exactly (payload_in x) (walk m)).0 (is ∙ again e))
    where
      again : {A B : Type 0} {n m at at' : ℕ} → ◌≡◌ {A = Judged A} (refused n at) (refused m at') → ◌≡◌ {A = Judged B} (refused n at) (refused m at')
      again e = cc

  to_through : (a : WmAnswer) → a ≡ wm (through x question m) → {n at : ℕ} → JudgedThrough x judgement m n at → a ≡ wm_refused n at
  unfolding through custom_payload
  to_through a e {n} {at} (walk_refused walked) = e ∙ (says (through x question m) n at).1 (ap (λ j. judged_then (map_judged (payload_in x) j) (λ found. or_none found question)) walked)
  to_through a e {n} {at} (payload_refused c d k judged) = through_found wm question x m a c e d k ∙ (says _ n at).1 ((alike _ _ n at).1 judged)

  through_exactly : (a : WmAnswer) → a ≡ wm (through x question m) → (n at : ℕ) → (a ≡ wm_refused n at) ↔ JudgedThrough x judgement m n at
  unfolding through
  through_exactly a e n at = (λ r. from_payload (custom_payload x m) refl n at ((says (through x question m) n at).0 (sym e ∙ r)), λ r. to_through a e r)

pub name_in_exactly : (kind_of : ℕ → Kind) (q : Question) (m : List ℕ) (a : WmAnswer) → a ≡ wm_place (as_place (ask_through kind_of q m)) → (n at : ℕ) → (a ≡ wm_refused n at) ↔ JudgedThrough name_section (judge_names kind_of) m n at
unfolding ask_through ask_at asked
name_in_exactly kind_of q m = through_exactly (λ j. wm_place (as_place j)) refused_said (judge_names kind_of) (ask_at kind_of q) (λ k p n at. refused_exactly (answer (id_of q) (query_of q)) (judge_names kind_of k p)) name_section m

pub metadata_in_exactly : (format : List ℕ) (f : FunctionIndex) (o : CodeOffset) (m : List ℕ) (a : WmAnswer) → a ≡ wm_place (as_place (ask_metadata_through format f o m)) → (n at : ℕ) → (a ≡ wm_refused n at) ↔ JudgedThrough (metadata_section format) (judge_metadata (item_of format)) m n at
unfolding ask_metadata_through ask_metadata
metadata_in_exactly format f o m = through_exactly (λ j. wm_place (as_place j)) refused_said (judge_metadata (item_of format)) (ask_metadata (item_of format) f o) (λ k p n at. refused_exactly (item_at f o) (judge_metadata (item_of format) k p)) (metadata_section format) m

pub hint_in_exactly : (f : FunctionIndex) (o : CodeOffset) (m : List ℕ) (a : WmAnswer) → a ≡ wm_hint (ask_hint_through f o m) → (n at : ℕ) → (a ≡ wm_refused n at) ↔ JudgedThrough hint_section (judge_metadata hint_item) m n at
unfolding ask_hint_through ask_hint ask_metadata
hint_in_exactly f o m = through_exactly (λ j. wm_hint j) hint_refused_said (judge_metadata hint_item) (ask_hint f o) (λ k p n at. Iff.trans (refused_exactly hint_in (ask_metadata hint_item f o k p)) (refused_exactly (item_at f o) (judge_metadata hint_item k p))) hint_section m

pub older_in_exactly : (f : FunctionIndex) (o : InstructionOffset) (m : List ℕ) (a : WmAnswer) → a ≡ wm_hint (ask_older_through f o m) → (n at : ℕ) → (a ≡ wm_refused n at) ↔ JudgedThrough older_hint_section judge_older m n at
unfolding ask_older_through ask_older
older_in_exactly f o m = through_exactly (λ j. wm_hint j) hint_refused_said judge_older (ask_older f o) (λ k p n at. refused_exactly (first_in f.0 o.0) (judge_older k p)) older_hint_section m

-- Writing: what a call that refuses for want of room knows of the judgement, whatever is said of the refusal
module _ {A : Type 0} {judged : Judged A} {needed : A → ℕ} {room : ℕ} where
  pub as_refused : {n at m o : ℕ} → judged ≡ refused m o → JudgedOrShort judged needed room n at → (Said : ℕ → ℕ → Type 0) → Said m o → Said n at
  as_refused {n} {at} {m} {o} is (by_aFault e) Said said = let both = sym is ∙ e in let number : m ≡ n = cc in let offset : o ≡ at = cc in rw (← number, ← offset) said
  as_refused is (too_short e short) Said said = absurd (not_accepted (sym is ∙ e))

  pub as_short : {n at : ℕ} {v : A} → judged ≡ accepted v → JudgedOrShort judged needed room n at → (Said : ℕ → ℕ → Type 0) → (room < needed v → Said 13 (needed v)) → Said n at
  as_short is (by_aFault e) Said said = absurd (not_accepted (sym e ∙ is))
  as_short is (too_short e short) Said said = let same = accepted_is (sym is ∙ e) in rw same at said short

module _ {A : Type 0} (f : A → List ℕ) (room : ℕ) where
  rewritten_short : (j : Judged A) (n at : ℕ) → JudgedOrShort (map_judged f j) length room n at ↔ JudgedOrShort j (λ v. length (f v)) room n at
  rewritten_short j n at = (from j, λ r. to r)
    where
      from : (j : Judged A) → JudgedOrShort (map_judged f j) length room n at → JudgedOrShort j (λ v. length (f v)) room n at
      from (accepted v) r = as_short refl r (λ n at. JudgedOrShort (accepted v) (λ v. length (f v)) room n at) (λ short. too_short refl short)
      from (refused m o) r = as_refused refl r (λ n at. JudgedOrShort (refused m o) (λ v. length (f v)) room n at) (by_aFault refl)

      to : {n at : ℕ} → JudgedOrShort j (λ v. length (f v)) room n at → JudgedOrShort (map_judged f j) length room n at
      to (by_aFault e) = by_aFault ((refused_exactly f j).1 e)
      to (too_short e short) = too_short (ap (map_judged f) e) short

module _ {old new : List ℕ} {a : WmAnswer} where
  from_written : (wanted : Judged (List ℕ)) → WmWrites wanted old new a → (n at : ℕ) → a ≡ wm_refused n at → JudgedOrShort wanted length (length old) n at
  unfolding fitting write_answer
  from_written (accepted bytes) w n at e =
      by_test (leb (length bytes) (length old))
      (λ t. let is : a ≡ wm_found 0 0 (length bytes) = w.says ∙ rw t in absurd (omega (arith, ap (λ (a : WmAnswer). a.kind) (sym is ∙ e))))
      (λ t.
      let is : a ≡ wm_refused 13 (length bytes) = w.says ∙ rw t in
      let number : 13 ≡ n = ap (λ (a : WmAnswer). a.code) (sym is ∙ e) in
      let offset : length bytes ≡ at = ap (λ (a : WmAnswer). a.offset) (sym is ∙ e) in
      rw (← number, ← offset) (too_short refl (leb-false (length bytes) (length old) t)))
  from_written (refused m o) w n at e =
      let number : m ≡ n = ap (λ (a : WmAnswer). a.code) (sym w.says ∙ e) in
      let offset : o ≡ at = ap (λ (a : WmAnswer). a.offset) (sym w.says ∙ e) in
      by_aFault (λ i. refused (number i) (offset i))

  to_written : {wanted : Judged (List ℕ)} → WmWrites wanted old new a → {n at : ℕ} → JudgedOrShort wanted length (length old) n at → a ≡ wm_refused n at
  to_written w (by_aFault e) = wrote_refused w e
  to_written w (too_short {v} e short) = short_there v short (rw e at w)

  pub written_exactly : (wanted : Judged (List ℕ)) → WmWrites wanted old new a → (n at : ℕ) → (a ≡ wm_refused n at) ↔ JudgedOrShort wanted length (length old) n at
  written_exactly wanted w n at = (from_written wanted w n at, λ r. to_written w r)

  pub rewritten_exactly : {A : Type 0} (f : A → List ℕ) (j : Judged A) → WmWrites (map_judged f j) old new a → (n at : ℕ) → (a ≡ wm_refused n at) ↔ JudgedOrShort j (λ v. length (f v)) (length old) n at
  rewritten_exactly f j w n at = Iff.trans (written_exactly (map_judged f j) w n at) (rewritten_short f (length old) j n at)
