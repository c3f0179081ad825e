-- K5: what the promises of the three calls come to.
use Rattle.std.specs.Prelude.{ℕ, ◌+◌, ◌≤◌, ◌<◌, List, ◌≡◌, refl, length, Ok, Err}
use Rattle.std.proofs.Math.Option.{Option, none, some}
use Rattle.std.proofs.Math.Path.{sym, ap}
use Rattle.std.proofs.Common.{◌∙◌}
use native.Mathlib.Omega.{arith}
use Rattle.format.specs.Reading.{Judged, accepted, refused, map_judged}
use Rattle.format.specs.Options.{map_some}
use Rattle.format.specs.Parts.{Part, place_of}
use Rattle.format.specs.Questions.{as_place}
use Rattle.format.specs.Verdicts.{verdict_of}
use Rattle.format.specs.Walk.{name_section, hint_section, older_hint_section, Section, walk, section_count, payload_in, custom_payload}
use Rattle.format.specs.Returned.{Verdict}
use Rattle.format.specs.Laws.Outcomes.{by_test}
use Rattle.stream.specs.Stream.{Summary, begin, finish, steps}
use Rattle.stream.specs.Walked.{summary, walked}
use Rattle.stream.specs.Fields.{held, state_from}
use Rattle.stream.specs.Calls.{most, is_open, taken, told_of, ending_of, ended, Parts, no_part, one_taken, one_refused, together}
use Rattle.stream.specs.Laws.Calls.{part_taken, part_too_large, refused_stays, parts_begun, however_cut, parts_open, parts_ended, open_ends, shut_ends, ended_part, ended_again}
use Rattle.stream.specs.Laws.Fields.{held_total}
use Rattle.stream.specs.Laws.Fits.{steps_total}
use Rattle.stream.specs.declared.Stream.{Stream}
use Rattle.stream.specs.declared.Told.{Told}
use Rattle.wakemiono.specs.Arriving.{wm_ending}
use Rattle.wakemiono.specs.Boundary.{wm_none, wm_found, wm_refused, wm_count, wm_place, wm_judged}
use Rattle.wakemiono.specs.Calls.{WmWalk, WmCustom, WmStreamPart, WmStreamFinish}
use Rattle.wakemiono.specs.declared.WmAnswer.{WmAnswer}
use Rattle.wakemiono.specs.declared.arriving.WmStreamAnswer.{WmStreamAnswer}
use Rattle.promises.specs.Demands.{Arrives, nothing_more, found, not_found_lem, Begun, walk_fields, name_fields, hint_fields, older_fields}

-- A part's answer tells whether it was taken
told_taken : (n : ℕ) (v : Verdict) → (wm_judged n (verdict_of v)).kind ≡ 1 → v ≡ (Ok tt)
told_taken n (Ok _) e = refl
told_taken n (Err r) e = absurd (omega arith)

told_refused : (n : ℕ) (v : Verdict) → (wm_judged n (verdict_of v)).kind ≡ 2 → v ≡ (Ok tt) → ⊥
told_refused n (Ok _) e q = absurd (omega arith)
told_refused n (Err r) e q = let z : ◌≡◌ {A = ℕ} 0 1 = cc in omega arith

arrived : {s u : Stream} {ps : List (List ℕ)} → Arrives s ps u → Parts s ps u
arrived nothing_more = no_part
arrived {s} (found {t = t} {u = u} {a = a} p {ps} c k more) = one_taken p (told_taken (length p) (taken s p).verdict (sym (ap (λ x. x.kind) c.1) ∙ k)) (rw c.0 at (arrived more))
arrived {s} (not_found_lem {t = t} {u = u} {a = a} p {ps} c k more) = one_refused p (told_refused (length p) (taken s p).verdict (sym (ap (λ x. x.kind) c.1) ∙ k)) (rw c.0 at (arrived more))

pub begun : {ps : List (List ℕ)} {s : Stream} → Begun ps s → Parts (held begin) ps s
begun (b, is, more) = rw is at (arrived more)

-- What the finish answers, by what the walk says
walk_told : (j : Judged (List Section)) → walk_fields (wm_ending (ending_of (map_judged summary j))) ≡ wm_count (map_judged length j)
walk_told (accepted ss) = refl
walk_told (refused n at) = refl

-- a place that is told
abbrev told_fields : Told → WmAnswer
told_fields x = record { kind = x.there; code = 0; offset = x.offset; length = x.length }

place_told : (p : Option Part) → told_fields (told_of (map_some place_of p)) ≡ wm_place (as_place (accepted p))
unfolding as_place
place_told none = refl
place_told (some p) = refl

not_found : (n at : ℕ) → (wm_ending (ending_of (refused n at))).kind ≡ 1 → ⊥
not_found n at e = omega arith

name_told : (j : Judged (List Section)) → (wm_ending (ending_of (map_judged summary j))).kind ≡ 1 → name_fields (wm_ending (ending_of (map_judged summary j))) ≡ wm_place (as_place (map_judged (payload_in name_section) j))
name_told (accepted ss) k = place_told (payload_in name_section ss)
name_told (refused n at) k = absurd (not_found n at k)

hints_told : (j : Judged (List Section)) → (wm_ending (ending_of (map_judged summary j))).kind ≡ 1 → hint_fields (wm_ending (ending_of (map_judged summary j))) ≡ wm_place (as_place (map_judged (payload_in hint_section) j))
hints_told (accepted ss) k = place_told (payload_in hint_section ss)
hints_told (refused n at) k = absurd (not_found n at k)

older_told_lem : (j : Judged (List Section)) → (wm_ending (ending_of (map_judged summary j))).kind ≡ 1 → older_fields (wm_ending (ending_of (map_judged summary j))) ≡ wm_place (as_place (map_judged (payload_in older_hint_section) j))
older_told_lem (accepted ss) k = place_told (payload_in older_hint_section ss)
older_told_lem (refused n at) k = absurd (not_found n at k)

module _ (ps : List (List ℕ)) (s t : Stream) (a : WmStreamAnswer) (b : Begun ps s) (f : WmStreamFinish s t a) where
  ending : a ≡ wm_ending (ending_of (map_judged summary (walk (together ps))))
  unfolding walked
  ending = f.1 ∙ ap (λ x. wm_ending x.ending) (parts_ended (begun b))

  pub as_walk : (c : WmAnswer) → WmWalk (together ps) c → walk_fields a ≡ c
  unfolding section_count
  as_walk c w = ap walk_fields ending ∙ walk_told (walk (together ps)) ∙ sym w

  module _ (k : a.kind ≡ 1) where
    pub as_name : (c : WmAnswer) → WmCustom name_section (together ps) c → name_fields a ≡ c
    unfolding custom_payload
    as_name c w = ap name_fields ending ∙ name_told (walk (together ps)) (sym (ap (λ x. x.kind) ending) ∙ k) ∙ sym w

    pub as_hints : (c : WmAnswer) → WmCustom hint_section (together ps) c → hint_fields a ≡ c
    unfolding custom_payload
    as_hints c w = ap hint_fields ending ∙ hints_told (walk (together ps)) (sym (ap (λ x. x.kind) ending) ∙ k) ∙ sym w

    pub as_older : (c : WmAnswer) → WmCustom older_hint_section (together ps) c → older_fields a ≡ c
    unfolding custom_payload
    as_older c w = ap older_fields ending ∙ older_told_lem (walk (together ps)) (sym (ap (λ x. x.kind) ending) ∙ k) ∙ sym w

pub same_state : (ps qs : List (List ℕ)) (s t : Stream) → Begun ps s → Begun qs t → together ps ≡ together qs → s ≡ t
same_state ps qs s t b c e = however_cut (begun b) (begun c) e

module _ (ps : List (List ℕ)) (s : Stream) (b : Begun ps s) where
  pub total_is : s.total ≡ length (together ps)
  unfolding begin
  total_is = ap (λ x. x.total) (parts_begun (begun b)) ∙ held_total (steps begin (together ps)) ∙ steps_total begin (together ps) ∙ omega arith

  module _ (t : Stream) (p : List ℕ) (a : WmAnswer) (c : WmStreamPart s p t a) where
    pub is_taken : length (together ps) + length p ≤ most → a ≡ wm_found 0 0 (length p)
    is_taken h = c.1 ∙ ap (λ x. wm_judged (length p) (verdict_of x.verdict)) (part_taken s p (parts_open (begun b)) (let e = total_is in omega arith))

    pub is_too_large : most < length (together ps) + length p → a ≡ wm_refused 28 0
    is_too_large h = c.1 ∙ ap (λ x. wm_judged (length p) (verdict_of x.verdict)) (part_too_large s p (parts_open (begun b)) (let e = total_is in omega arith))

-- Of any state

module _ (s t : Stream) (a : WmStreamAnswer) (f : WmStreamFinish s t a) where
  pub no_place : a.kind ≡ 2 → (name_fields a ≡ wm_none) × (hint_fields a ≡ wm_none) × (older_fields a ≡ wm_none)
  no_place k =
      by_test (is_open s)
      (λ o. none_at (finish (state_from s)) (f.1 ∙ ap (λ x. wm_ending x.ending) (open_ends s o)))
      (λ o. none_at (refused 18 0) (f.1 ∙ ap (λ x. wm_ending x.ending) (shut_ends s o)))
    where
      none_at : (j : Judged Summary) → a ≡ wm_ending (ending_of j) → (name_fields a ≡ wm_none) × (hint_fields a ≡ wm_none) × (older_fields a ≡ wm_none)
      none_at (accepted x) e = let z : ◌≡◌ {A = ℕ} 1 2 = sym (ap (λ x. x.kind) e) ∙ k in absurd (omega arith)
      none_at (refused n at) e = (ap name_fields e, ap hint_fields e, ap older_fields e)

  pub late_part : (u : Stream) (p : List ℕ) (c : WmAnswer) → WmStreamPart t p u c → c ≡ wm_refused 18 0
  late_part u p c g = g.1 ∙ ap (λ x. wm_judged (length p) (verdict_of (taken x p).verdict)) f.0 ∙ ap (λ x. wm_judged (length p) (verdict_of x.verdict)) (ended_part s p)

  module _ (u : Stream) (c : WmStreamAnswer) (g : WmStreamFinish t u c) where
    pub late_finish : walk_fields c ≡ wm_refused 18 0
    late_finish = ap walk_fields (g.1 ∙ ap (λ x. wm_ending (ended x).ending) f.0 ∙ ap (λ x. wm_ending x.ending) (ended_again s))

    pub finish_stays : u ≡ t
    finish_stays = g.0 ∙ ap (λ x. (ended x).stream) f.0 ∙ ap (λ x. x.stream) (ended_again s) ∙ sym f.0

pub part_stays : (s t : Stream) (p : List ℕ) (a : WmAnswer) → WmStreamPart s p t a → a.kind ≡ 2 → t ≡ s
part_stays s t p a c k = c.0 ∙ refused_stays s p (told_refused (length p) (taken s p).verdict (sym (ap (λ x. x.kind) c.1) ∙ k))
