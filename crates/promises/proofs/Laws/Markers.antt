-- K8: what making markers comes to, and the quick question.
use Rattle.std.specs.Prelude.{ℕ, zero, suc, ◌*◌, ◌≤◌, ◌<◌, List, [], ◌∷◌, ◌++◌, map, ◌↔◌, ◌≡◌, refl, ltb, length, take, drop}
use Rattle.std.proofs.Math.Logic.Iff
use Rattle.std.proofs.Math.Option.{Option}
use Rattle.std.proofs.Common.{sym, ap, ap₂, ◌∙◌, arith, ltb-true, ltb-false, length-append, length-drop, take_at, drop_at}
use Rattle.std.proofs.Math.ListN.{get_elem?}
use Rattle.std.proofs.lemmas.List.{length-map}
use Rattle.format.specs.Bytes.{Bytes}
use Rattle.format.proofs.Laws.MarkerEntries.{markers_count}
use Rattle.format.specs.Laws.MarkerPositions.{marker_at}
use Rattle.format.proofs.Laws.MarkerRule.{rule_exactly}
use Rattle.format.proofs.Laws.MarkersMade.{made_refused, made_long, made_few_indices, made_few_offsets, made_fits, made_is, own_made}
use Rattle.format.specs.Laws.Outcomes.{not_accepted, accepted_is, by_test}
use Rattle.format.specs.MarkerRule.{Follows, too_long, fewer_indices, fewer_offsets, end_outside, not_markers}
use Rattle.format.specs.Markers.{Entry, thinned, Markers, made, made_as, indices_of, offsets_of, quick}
use Rattle.format.specs.Names.{known_kind, judge_names}
use Rattle.format.specs.Numbers.{limit32}
use Rattle.format.specs.Parts.{Part}
use Rattle.format.specs.Questions.{as_place, ask}
use Rattle.format.specs.Reading.{Judged, accepted, refused, map_judged}
use Rattle.format.specs.declared.Question.TheVariants.{FunctionName}
use Rattle.grammar.proofs.Laws.Names.{source_ids, names_sound}
use Rattle.wakemiono.specs.Boundary.{wm_found, wm_refused, wm_place, WmMakes}
use Rattle.wakemiono.specs.declared.WmAnswer.{WmAnswer}
use Rattle.grammar.proofs.Refusing.{names_refused}
use Rattle.promises.proofs.Laws.Faults.{faults}
use Rattle.promises.specs.Demands.{Leaves, FunctionNames, sixteenths, Marked, MarkersReply, markers_made, markers_refused_lem, MarkersRefused, payload_refused, payload_too_long, few_indices, few_offsets}
use Rattle.promises.specs.Laws.FunctionNames.{MarksOf, function_markers, function_names_lem}
use Rattle.promises.specs.Laws.Refusing.{Numbered, names_fair}
use Rattle.promises.specs.Laws.Saying.{refused_said}
use Rattle.promises.specs.Laws.Telling.{by_judged}

-- WHAT IS ANSWERED
pub made_reply : (j : Judged Markers) → MarkersReply (wm_place (map_judged made_as j))
made_reply (accepted m) = markers_made m.end (length m.marked)
made_reply (refused n at) = markers_refused_lem n at

made_said : (j : Judged Markers) (n at : ℕ) → (wm_place (map_judged made_as j) ≡ wm_refused n at) ↔ (j ≡ refused n at)
made_said (accepted m) n at = (λ e. absurd (omega (arith, ap (λ (a : WmAnswer). a.kind) e)), λ e. absurd (not_accepted (sym e)))
made_said (refused m o) n at = (λ e. ap₂ refused (ap (λ (a : WmAnswer). a.code) e) (ap (λ (a : WmAnswer). a.offset) e), λ e. ap (λ j. wm_place (map_judged made_as j)) e)

on_made {ℓ} : {C : Type ℓ} (j : Judged Markers) {a : WmAnswer} → a ≡ wm_place (map_judged made_as j) → a.kind ≡ 1 → ((m : Markers) → j ≡ accepted m → a ≡ wm_found 0 m.end (length m.marked) → C) → C
on_made (accepted m) e k c = c m refl e
on_made (refused n at) e k c = absurd (omega (arith, k, ap (λ (a : WmAnswer). a.kind) e))

-- how many markers there are
marks_many : {p entries : List ℕ} {n begin end : ℕ} (w : MarksOf p entries n begin end) → length (thinned 0 w.all) ≡ sixteenths n
marks_many w = markers_count w.all ∙ ap sixteenths w.count

-- WHICH INPUT IS REFUSED
module _ (p is os : List ℕ) (bytes : Bytes p) where
  from_refused : {n at : ℕ} → MarkersRefused p (length is) (length os) n at → made p is os ≡ refused n at
  from_refused {n} {at} (payload_refused f) = made_refused p is os ((faults (names_refused 0) p bytes n at).1 f)
  from_refused (payload_too_long f long) = made_long p is os (function_markers f).own long
  from_refused (few_indices f short few) =
      let w = function_markers f in
      let many = marks_many w in
      made_few_indices p is os w.own (omega arith) (rw many few) ∙ ap (refused 13) many
  from_refused (few_offsets f short few) =
      let w = function_markers f in
      let many = marks_many w in
      made_few_offsets p is os w.own (omega arith) (rw many few) ∙ ap (refused 13) many

  -- what is refused is refused as one of these is
  same_refused : {n at m o : ℕ} → made p is os ≡ refused n at → MarkersRefused p (length is) (length os) m o → MarkersRefused p (length is) (length os) n at
  same_refused e r = let q = sym (from_refused r) ∙ e in rw (← refused_code q, ← refused_place q) r
    where
      refused_code : {n at m o : ℕ} → ◌≡◌ {A = Judged Markers} (refused m o) (refused n at) → m ≡ n
      refused_code e = cc

      refused_place : {n at m o : ℕ} → ◌≡◌ {A = Judged Markers} (refused m o) (refused n at) → o ≡ at
      refused_place e = cc

  to_refused : {n at : ℕ} → made p is os ≡ refused n at → MarkersRefused p (length is) (length os) n at
  to_refused e =
      by_judged (judge_names known_kind 0 p)
      (λ t judged.
      let (entries, n, begin, end, f) = function_names_lem p _ (names_sound source_ids 0 p t bytes judged) in
      let w = function_markers f in
      let many = marks_many w in
      by_test (ltb (length p) limit32)
      (λ a. let short = ltb-true (length p) limit32 a in by_test (ltb (length is) (sixteenths n))
      (λ b. same_refused e (few_indices f (omega arith) (ltb-true (length is) (sixteenths n) b)))
      (λ b. by_test (ltb (length os) (sixteenths n))
      (λ c. same_refused e (few_offsets f (omega arith) (ltb-true (length os) (sixteenths n) c)))
      (λ c. absurd (not_accepted (sym e ∙ made_fits p is os w.own short (rw many (ltb-false (length is) (sixteenths n) b)) (rw many (ltb-false (length os) (sixteenths n) c)))))))
      (λ a. same_refused e (payload_too_long f (ltb-false (length p) limit32 a))))
      (λ n at judged. same_refused e (payload_refused ((faults (names_refused 0) p bytes n at).0 judged)))

  pub markers_refused : {a : WmAnswer} → a ≡ wm_place (map_judged made_as (made p is os)) → (n at : ℕ) → (a ≡ wm_refused n at) ↔ MarkersRefused p (length is) (length os) n at
  markers_refused e n at = rw e (Iff.trans (made_said (made p is os) n at) (to_refused, from_refused))

pub markers_numbered : {p : List ℕ} {indices offsets n at : ℕ} → Bytes p → MarkersRefused p indices offsets n at → Numbered n
markers_numbered {p} {n = n} {at = at} bytes (payload_refused f) = (names_fair known_kind 0 p).numbered n at ((faults (names_refused 0) p bytes n at).1 f)
markers_numbered bytes (payload_too_long f long) = refl
markers_numbered bytes (few_indices f short few) = refl
markers_numbered bytes (few_offsets f short few) = refl

-- WHAT A LIST HOLDS AFTERWARDS: the markers first, and then what it held
pub put_first : (xs old : List ℕ) {new : List ℕ} {a : WmAnswer} (end : ℕ) → length xs ≤ length old → new ≡ xs ++ drop (length xs) old → a ≡ wm_found 0 end (length xs) → Leaves old new a
put_first xs old {new} {a} end room is e =
    let long : a.length ≡ length xs = ap (λ (a : WmAnswer). a.length) e in
    record {
      refused_unchanged = λ k. absurd (omega (arith, k, ap (λ (a : WmAnswer). a.kind) e));
      others_unchanged = λ k. ap (drop a.length) is ∙ drop_at xs (drop (length xs) old) a.length (sym long) ∙ ap (λ n. drop n old) (sym long);
      inside = rw long room;
      as_long = ap length is ∙ omega (arith, length-append xs (drop (length xs) old), length-drop (length xs) old);
    }

-- what stands first is found there
first_there : (xs behind : List ℕ) (i : ℕ) → i < length xs → get_elem? (xs ++ behind) i ≡ get_elem? xs i
first_there [] behind i l = absurd (omega arith)
first_there (x ∷ xs) behind zero l = refl
first_there (x ∷ xs) behind (suc i) l = first_there xs behind i (omega arith)

pub first_of : {new : List ℕ} (xs behind : List ℕ) (i : ℕ) → new ≡ xs ++ behind → i < length xs → get_elem? new i ≡ get_elem? xs i
first_of xs behind i e l = rw e (first_there xs behind i l)

pub put_nothing : {old new : List ℕ} {a : WmAnswer} (n at : ℕ) → new ≡ old → a ≡ wm_refused n at → Leaves old new a
put_nothing n at is e = record {
  refused_unchanged = λ k. is;
  others_unchanged = λ k. absurd (omega (arith, k, ap (λ (a : WmAnswer). a.kind) e));
  inside = rw e (omega arith);
  as_long = ap length is;
}

module _ (p is os is' os' : List ℕ) (a : WmAnswer) (w : WmMakes (made p is os) is os is' os' a) where
  pub indices_left : Leaves is is' a
  indices_left =
      by_judged (made p is os)
      (λ m e. let many = length-map m.marked (λ (e : Entry). e.index) in put_first (indices_of m) is m.end (rw many (made_is p is os e).indices) (w.indices ∙ rw e) (w.says ∙ rw (e, many)))
      (λ n at e. put_nothing n at (w.indices ∙ rw e) (w.says ∙ rw e))

  pub offsets_left : Leaves os os' a
  offsets_left =
      by_judged (made p is os)
      (λ m e. let many = length-map m.marked (λ (e : Entry). e.offset) in put_first (offsets_of m) os m.end (rw many (made_is p is os e).offsets) (w.offsets ∙ rw e) (w.says ∙ rw (e, many)))
      (λ n at e. put_nothing n at (w.offsets ∙ rw e) (w.says ∙ rw e))

  module _ {m : Markers} (e : made p is os ≡ accepted m) where
    indices_are : is' ≡ indices_of m ++ drop (length (indices_of m)) is
    indices_are = w.indices ∙ rw e

    offsets_are : os' ≡ offsets_of m ++ drop (length (offsets_of m)) os
    offsets_are = w.offsets ∙ rw e

  -- EVERY SIXTEENTH ENTRY, and the end
  pub markers_marked : (entries : List ℕ) (n begin end : ℕ) → FunctionNames p entries n begin end → a.kind ≡ 1 → (a ≡ wm_found 0 end (sixteenths n)) × Marked entries n begin is' os'
  markers_marked entries n begin end f k =
      let of = function_markers f in
      let many = marks_many of in
      on_made (made p is os) w.says k λ m e found.
      let same : m ≡ record { marked = thinned 0 of.all; end = end } = accepted_is (sym (made_is p is os e).own ∙ of.own) in
      let own : made p is os ≡ accepted (record { marked = thinned 0 of.all; end = end }) = e ∙ ap accepted same in (
        found ∙ rw (same, many),
        λ i l.
            let (index, offset, is_index, is_offset, there) = of.each (16 * i) (omega arith) in (
              index,
              offset,
              first_of (map (λ e. e.index) (thinned 0 of.all)) _ i (indices_are own) (rw (length-map (thinned 0 of.all) (λ (e : Entry). e.index), many) l) ∙ marker_at (λ e. e.index) of.all i ∙ is_index,
              first_of (map (λ e. e.offset) (thinned 0 of.all)) _ i (offsets_are own) (rw (length-map (thinned 0 of.all) (λ (e : Entry). e.offset), many) l) ∙ marker_at (λ e. e.offset) of.all i ∙ is_offset,
              there,
            ),
      )

  -- WITH ITS OWN MARKERS the quick question answers as the full one
  pub own_answers : a.kind ≡ 1 → (function : ℕ) → quick p (take a.length is') (take a.length os') a.offset (record { 0 = function }) ≡ ask known_kind (FunctionName (record { 0 = function })) p
  own_answers k function =
      on_made (made p is os) w.says k λ m e found.
      let first_indices : take (length m.marked) is' ≡ indices_of m = rw (indices_are e) (take_at (indices_of m) (drop (length (indices_of m)) is) (length m.marked) (length-map m.marked (λ (e : Entry). e.index))) in
      let first_offsets : take (length m.marked) os' ≡ offsets_of m = rw (offsets_are e) (take_at (offsets_of m) (drop (length (offsets_of m)) os) (length m.marked) (length-map m.marked (λ (e : Entry). e.offset))) in
      rw (found, first_indices, first_offsets) (own_made p is os e (record { 0 = function }))

-- THE RULE
module _ (p is os : List ℕ) (end function : ℕ) where
  pub rule_followed : (j : Judged (Option Part)) × Follows p is os end function j × (wm_place (as_place (quick p is os end (record { 0 = function }))) ≡ wm_place (as_place j)) × ((other : Judged (Option Part)) → Follows p is os end function other → other ≡ j)
  rule_followed = let exactly = rule_exactly p is os end (record { 0 = function }) in (quick p is os end (record { 0 = function }), (exactly _).1 refl, refl, λ other follows. (exactly other).0 follows)

  pub quick_refused : (n at : ℕ) → (wm_place (as_place (quick p is os end (record { 0 = function }))) ≡ wm_refused n at) ↔ Follows p is os end function (refused n at)
  quick_refused n at =
      let asked = quick p is os end (record { 0 = function }) in
      let exactly = rule_exactly p is os end (record { 0 = function }) (refused n at) in
      (λ e. exactly.1 (sym ((refused_said asked n at).0 e)), λ follows. (refused_said asked n at).1 (sym (exactly.0 follows)))

pub quick_numbered : {p is os : List ℕ} {end function n at : ℕ} → Follows p is os end function (refused n at) → Numbered n
quick_numbered (too_long long) = refl
quick_numbered (fewer_indices short few) = refl
quick_numbered (fewer_offsets short few) = refl
quick_numbered (end_outside short equal outside) = refl
quick_numbered (not_markers short equal inside fault) = refl
