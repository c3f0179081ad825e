-- Rules R15.1 and R15.2 of docs/RULES.md.
-- K6 on definitions: "accept when every hint's offset begins one of those two", by the grammar of core specification 1.0, and else the refusal that comes first.
use Rattle.std.specs.Prelude.{ℕ, ◌+◌, List, ◌↔◌, ◌≡◌}
use Rattle.std.proofs.Math.Option.{Option, none, some}
use Rattle.std.proofs.Math.Path.{refl, ap}
use Rattle.std.proofs.Common.{sym, ◌∙◌}
use native.Mathlib.Omega.{arith}
use Rattle.format.specs.Bytes.{Bytes}
use Rattle.format.specs.Metadata.{hint_item, judge_metadata}
use Rattle.format.specs.Parts.{Part}
use Rattle.format.specs.Reading.{Judged, accepted, refused, judged_then}
use Rattle.format.specs.Walk.{hint_section, payload_in, custom_payload, walk}
use Rattle.format.specs.Laws.Options.{by_option}
use Rattle.format.specs.Laws.Outcomes.{not_accepted, refused_exactly}
use Rattle.branches.specs.Bodies.{body_of}
use Rattle.branches.specs.Branches.{contents_in, contents_of, imported_in, imported_functions, bodies_in, function_bodies, each_function, hints_checked, payload_on_branches, hints_on_branches}
use Rattle.branches.specs.Hints.{Placed, Hints}
use Rattle.branches.specs.Rule.{AllSit, FirstOfAll, HasHints, Hinted, ModuleRefused, by_the_walk, by_the_payload, by_the_imports, by_the_bodies, by_aHint}
use Rattle.branches.specs.Laws.Bytes.{contents_bytes, payload_bytes, body_bytes}
use Rattle.grammar.specs.Metadata.{BranchHint}
use Rattle.grammar.specs.Faults.Metadata.{HintFault, MetadataFault}
use Rattle.grammar.specs.Faults.Modules.{ModuleFault}
use Rattle.grammar.proofs.Refusing.{hints_refused, modules_refused}
use Rattle.branches.specs.Laws.Faults.{imports_refused, bodies_refused}
use Rattle.branches.specs.Laws.Deciding.{all_decide}
use Rattle.branches.specs.Laws.Hints.{read_again}
use Rattle.branches.specs.Laws.InTurn.{by_judged, same_refusal}

-- ALL HINTS of a list of bodies that are bytes
module _ (first : ℕ) (parts : List Part) (bytes : (f : ℕ) (body : Part) → body_of first parts f ≡ some body → Bytes body.bytes) where
  -- "accept when every hint's offset begins one of those two"
  pub all_sit_exactly : (fs : List (Placed Hints)) → (each_function first parts fs ≡ accepted tt) ↔ AllSit first parts fs
  all_sit_exactly = (all_decide first parts bytes).fine

  -- "Hints go in section order."
  pub first_refused_exactly : (fs : List (Placed Hints)) (n at : ℕ) → (each_function first parts fs ≡ refused n at) ↔ FirstOfAll first parts fs n at
  first_refused_exactly = (all_decide first parts bytes).fault

-- THE CHECK over a module: where the walk, the payload, the import list and the list of bodies are accepted, every hint decides
module _ (m : List ℕ) where
  check_is : {first : ℕ} {parts : List Part} {fs : List (Placed Hints)} → Hinted m first parts fs → hints_on_branches m ≡ each_function first parts fs
  unfolding hints_on_branches payload_on_branches hints_checked
  check_is h = rw (h.has_hints.found, h.has_hints.judged, h.imported, h.listed, h.placed)

  pub module_exactly : Bytes m → {first : ℕ} {parts : List Part} {fs : List (Placed Hints)} → Hinted m first parts fs → (hints_on_branches m ≡ accepted tt) ↔ AllSit first parts fs
  module_exactly b {first} {parts} {fs} h =
      let all = all_sit_exactly first parts (body_bytes m first b h.listed) fs in
      (λ e. all.0 (sym (check_is h) ∙ e), λ s. check_is h ∙ all.1 s)

  -- The walk and the payload are refused at their faults
  payload_faults : Bytes m → {p : Part} → custom_payload hint_section m ≡ accepted (some p) → (n k : ℕ) → (judge_metadata hint_item p.at p.bytes ≡ refused n k) ↔ ((place : ℕ) × (k ≡ p.at + place) × MetadataFault BranchHint HintFault p.bytes n place)
  payload_faults b {p} e = (hints_refused p.at).refused_exactly p.bytes (payload_bytes hint_section m b e)

  walk_faults : Bytes m → (n k : ℕ) → (walk m ≡ refused n k) ↔ ((place : ℕ) × (k ≡ 0 + place) × ModuleFault m n place)
  walk_faults b = modules_refused.refused_exactly m b

  -- a list that is refused stands in its section
  listed_in {ℓ} : {C : Type ℓ} {A : Type 0} (id : ℕ) (inside : Option Part → Judged A) {v : A} → inside none ≡ accepted v → HasHints m → {n at : ℕ} → judged_then (contents_of id m) inside ≡ refused n at → ((p : Part) → contents_of id m ≡ accepted (some p) → inside (some p) ≡ refused n at → C) → C
  unfolding contents_of custom_payload
  listed_in id inside nothing_there has e next =
      by_judged (contents_of id m)
      (λ found f. by_option found
      (λ q. absurd (not_accepted (sym (rw (f, q) at e) ∙ nothing_there)))
      (λ p q. next p (f ∙ ap accepted q) (rw (f, q) at e)))
      (λ k o f. absurd (not_accepted (sym ((refused_exactly (payload_in hint_section) (walk m)).1 ((refused_exactly (contents_in id) (walk m)).0 f)) ∙ has.found)))

  -- "Refusals, after all of document 01's for module and payload: faults in the import list, then in the list of sized bodies ..; then per hint"
  module _ (b : Bytes m) where
    hint_refused : {first : ℕ} {parts : List Part} {fs : List (Placed Hints)} {n at : ℕ} → Hinted m first parts fs → (hints_on_branches m ≡ refused n at) ↔ FirstOfAll first parts fs n at
    hint_refused {first} {parts} {fs} {n} {at} h =
        let all = first_refused_exactly first parts (body_bytes m first b h.listed) fs n at in
        (λ e. all.0 (sym (check_is h) ∙ e), λ r. check_is h ∙ all.1 r)

    by_hints : (has : HasHints m) {first : ℕ} {parts : List Part} {n at : ℕ} → imported_functions m ≡ accepted first → function_bodies m ≡ accepted parts → hints_on_branches m ≡ refused n at → ModuleRefused m n at
    by_hints has i l e =
        let again = read_again has.payload.at has.payload.bytes has.judged in
        let h : Hinted m _ _ again.functions = record { has_hints = has; imported = i; listed = l; placed = rw again.reads } in
        by_aHint h ((hint_refused h).0 e)

    by_imports : (has : HasHints m) {n at : ℕ} → imported_functions m ≡ refused n at → ModuleRefused m n at
    unfolding imported_functions
    by_imports has {n} {at} e =
        listed_in 2 imported_in refl has e λ p c e₁.
        let (place, is, f) = (imports_refused p.at p.bytes (contents_bytes m 2 b c) n at).0 e₁ in
        rw is (by_the_imports has c f)

    by_bodies : (has : HasHints m) {first n at : ℕ} → imported_functions m ≡ accepted first → function_bodies m ≡ refused n at → ModuleRefused m n at
    unfolding function_bodies
    by_bodies has {n = n} {at = at} i e =
        listed_in 10 bodies_in refl has e λ p c e₁.
        let (place, is, f) = (bodies_refused p.at p.bytes (contents_bytes m 10 b c) n at).0 e₁ in
        rw is (by_the_bodies has i c f)

    by_lists : (has : HasHints m) {n at : ℕ} → hints_on_branches m ≡ refused n at → ModuleRefused m n at
    unfolding hints_on_branches payload_on_branches hints_checked
    by_lists has e =
        by_judged (imported_functions m)
        (λ first i. by_judged (function_bodies m)
        (λ parts l. by_hints has i l e)
        (λ k o l. by_bodies has i (l ∙ same_refusal (rw (has.found, has.judged, i, l) at e))))
        (λ k o i. by_imports has (i ∙ same_refusal (rw (has.found, has.judged, i) at e)))

    by_payload : {p : Part} {n at : ℕ} → custom_payload hint_section m ≡ accepted (some p) → judge_metadata hint_item p.at p.bytes ≡ refused n at → ModuleRefused m n at
    by_payload {p} {n} {at} f j = let (place, is, fault) = (payload_faults b f n at).0 j in rw is (by_the_payload f fault)

    by_walk : {n at : ℕ} → walk m ≡ refused n at → ModuleRefused m n at
    by_walk {n} {at} e = let (place, is, fault) = (walk_faults b n at).0 e in let there : at ≡ place = omega (arith, is) in rw there (by_the_walk fault)

    refused_sound : {n at : ℕ} → hints_on_branches m ≡ refused n at → ModuleRefused m n at
    unfolding hints_on_branches payload_on_branches custom_payload
    refused_sound e =
        by_judged (custom_payload hint_section m)
        (λ found f. by_option found
        (λ q. absurd (not_accepted (sym e ∙ rw (f, q))))
        (λ p q. by_judged (judge_metadata hint_item p.at p.bytes)
        (λ t j. by_lists (record { payload = p; hints = t; found = f ∙ ap accepted q; judged = j }) e)
        (λ k o j. by_payload (f ∙ ap accepted q) (j ∙ same_refusal (rw (f, q, j) at e)))))
        (λ k o f. by_walk ((refused_exactly (payload_in hint_section) (walk m)).0 (f ∙ same_refusal (rw f at e))))

    refused_complete : {n at : ℕ} → ModuleRefused m n at → hints_on_branches m ≡ refused n at
    unfolding hints_on_branches payload_on_branches hints_checked custom_payload imported_functions function_bodies
    refused_complete {n} {at} (by_the_walk f) = rw ((walk_faults b n at).1 (at, omega arith, f))
    refused_complete {n} (by_the_payload {p = p} {place = place} c f) = rw (c, (payload_faults b c n (p.at + place)).1 (place, refl, f))
    refused_complete {n} (by_the_imports {p = p} {place = place} has c f) = rw (has.found, has.judged, c, (imports_refused p.at p.bytes (contents_bytes m 2 b c) n (p.at + place)).1 (place, refl, f))
    refused_complete {n} (by_the_bodies {p = p} {place = place} has i c f) = rw (has.found, has.judged, i, c, (bodies_refused p.at p.bytes (contents_bytes m 10 b c) n (p.at + place)).1 (place, refl, f))
    refused_complete (by_aHint h r) = (hint_refused h).1 r

    pub module_refused_exactly : (n at : ℕ) → (hints_on_branches m ≡ refused n at) ↔ ModuleRefused m n at
    module_refused_exactly n at = (refused_sound, refused_complete)

-- "An accepted module without the hint section is accepted, imports unread."
pub without_hints : (m : List ℕ) → custom_payload hint_section m ≡ accepted none → hints_on_branches m ≡ accepted tt
unfolding hints_on_branches
without_hints m e = rw e
