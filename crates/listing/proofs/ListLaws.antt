-- What is written of a module, line by line, is its listing.
use Rattle.std.specs.Prelude.{Ok, Err, Some, None}
use Prim.Native.Nat.{ℕ, suc, ◌+◌, ◌-◌, ◌*◌, ◌≤◌, ◌<◌}
use Prim.Native.String.{String}
use mathlib.Core.List.{List, [], ◌∷◌, ◌++◌, append_assoc, append-nil}
use mathlib.Core.Option.{Option, none, some}
use mathlib.Core.Path.{◌≡◌, refl, sym, ap, ◌∙◌}
use native.Mathlib.Omega.{arith}
use borrow.Author.Rules.{rules}
use borrow.Author.Tests.{le-leb, lt-leb}
use lib.ListN.{length, drop}
use lib.Seq.{length-slice}
use Rattle.format.specs.Bytes.{ascii}
use Rattle.format.specs.Reading.{got, Judged, accepted, refused, map_judged}
use Rattle.format.specs.Refusals.{number_of}
use Rattle.format.specs.Options.{map_some}
use Rattle.format.specs.Numbers.{number}
use Rattle.format.specs.Parts.{Part, place_of}
use Rattle.format.specs.Questions.{answered, as_place}
use Rattle.format.specs.Walk.{Section as AnySection, Seen, name_section, hint_section, section, step, walk, walk_from, payload_in, section_count, custom_payload}
use Rattle.format.specs.Listing.{decimal, num, piece, line, section_lines, payload_line, printed, greatest_input, listing}
use Rattle.format.specs.Laws.Outcomes.{got_value, got_next, not_accepted, accepted_is, in_turn, mapped, refused_exactly}
use Rattle.format.specs.Laws.Options.{not_some}
use Rattle.format.specs.Laws.Turns.{in_sized, in_section}
use Rattle.format.proofs.Laws.Passing.{number_passes, Reaches, reach, reach_step}
use Rattle.format.proofs.Laws.Numbers.{shortest_positive}
use Rattle.format.proofs.Laws.Codecs.{number_sound}
use Rattle.format.proofs.Laws.Walk.{walk_ended, walk_stepped, walk_refused, walk_begun, walk_not_begun}
use Rattle.format.specs.Returned.{Answer}
use Rattle.format.specs.declared.Place.{Place}
use Rattle.format.specs.declared.Reason.TheVariants.{InputTooLarge}
use Rattle.format.specs.declared.Refusal.{Refusal}
use Rattle.format.proofs.Nested.{nested}
use Rattle.listing.specs.Lines.{space, labelled, place_line, count_line, AnswerPut, custom_line, Adds, AddsFrom}
use Rattle.walk.specs.Sections.{seen_of, section_of}
use Rattle.walk.specs.Steps.{Forward, Steps, Begins}
use Rattle.walk.specs.Surveys.{counted}
use Rattle.walk.specs.Returned.{Counted}
use Rattle.walk.specs.Returned.{Began}
use Rattle.walk.specs.declared.step.Section.{Section}
use Rattle.walk.specs.Returned.{Step}
use Rattle.walk.specs.declared.step.Walk.{Walk}
use Rattle.walk.proofs.SurveyLaws.{begun_within}
use Rattle.writing.specs.Wrote.{Wrote}
use Rattle.writing.proofs.Laws.{wrote_nothing, wrote_join, wrote_length}

-- the line of an answer
module _ {label : List ℕ} {a : Answer} {old : List ℕ} {at : ℕ} where
  pub answer_refused : {r : Refusal} → a ≡ Err r → AnswerPut label a old old at at
  answer_refused e = record { says = λ found q. absurd (not_accepted (rw e at q)) }

  pub answer_none : {mid new : List ℕ} {i next : ℕ} → a ≡ Ok None → Wrote old mid at i (label ++ space) → Wrote mid new i next (110 ∷ 111 ∷ 110 ∷ 101 ∷ 10 ∷ []) → AnswerPut label a old new at next
  unfolding place_line labelled line piece ascii
  answer_none h p q = record { says = λ found e. rw (← accepted_is (rw h at e)) (rw append_assoc at (wrote_join p q)) }

  pub answer_found : {new : List ℕ} {next : ℕ} {p : Place} → a ≡ Ok (Some p) → Wrote old new at next (labelled label (num p.offset.0 ∷ num p.length ∷ [])) → AnswerPut label a old new at next
  unfolding place_line
  answer_found h w = record { says = λ found e. rw (← accepted_is (rw h at e)) w }

pub ruleset answers = (answer_refused, answer_none, answer_found, nested, rules)

-- the payload of a name
pub custom_put : (m name label : List ℕ) {a : Answer} {old new : List ℕ} {at next : ℕ} → answered a ≡ as_place (custom_payload name m) → AnswerPut label a old new at next → Adds m (custom_line name label) old new at next
unfolding custom_payload as_place custom_line
custom_put m name label e p = record { says = λ ss h. p.says (map_some place_of (payload_in name ss)) (e ∙ rw h) }

pub ruleset customs = (custom_put, rules)

-- a section takes at least two bytes: its id and its size
number_far : (o : ℕ) (bs : List ℕ) {n o₁ : ℕ} {r₁ : List ℕ} → number o bs ≡ got n o₁ r₁ → suc o ≤ o₁
number_far o bs {n} e = omega (arith, reach (λ end. number_passes (Reaches end) (reach_step end)) o bs e, (number_sound o bs e).shorter, shortest_positive n)

two_bytes : (seen : Seen) (o : ℕ) (bs : List ℕ) {s : AnySection} {o₁ : ℕ} {r₁ : List ℕ} → step seen o bs ≡ got (some s) o₁ r₁ → o + 2 ≤ o₁
unfolding step
two_bytes seen o [] e = absurd (not_some (got_value e))
two_bytes seen o (id ∷ bs) e =
    in_turn (section seen o id (suc o) bs) _ e λ s o₁ r₁ e₁ e₂. in_section seen o id bs e₁ λ _ _ _ _ e₃ _.
    in_sized (suc o) bs e₃ λ n o₂ r₂ e₄ _ _ h _.
    omega (arith, number_far (suc o) bs e₄, got_next e₂)

-- The sections that are written already, in front of those that the rest of the module has
lines_more : (done : List AnySection) (s : AnySection) → section_lines (done ++ (s ∷ [])) ≡ section_lines done ++ line (num s.id ∷ num s.at ∷ num (length s.contents.bytes) ∷ [])
unfolding section_lines
lines_more [] s = append-nil _
lines_more (d ∷ done) s = rw (lines_more done s, append_assoc)

one_more : (done : List AnySection) (s : AnySection) (j : Judged (List AnySection)) → map_judged (λ more. done ++ more) (map_judged (λ more. s ∷ more) j) ≡ map_judged (λ more. (done ++ (s ∷ [])) ++ more) j
one_more done s (accepted ss) = ap accepted (sym (append_assoc done (s ∷ []) ss))
one_more done s (refused n at) = refl

none_done : (j : Judged (List AnySection)) → j ≡ map_judged (λ more. [] ++ more) j
none_done (accepted ss) = refl
none_done (refused n at) = refl

pub record Turn (m : List ℕ) (begun walk : Walk) (old new : List ℕ) (at next : ℕ) : Type 0 where
  pub within : walk.at ≤ length m
  pub room : next ≤ at + 32 * walk.at
  pub long : length new ≡ length old
  pub done : List AnySection
  pub so_far : Wrote old new at next (section_lines done)
  pub same : walk_from m (seen_of begun.seen) begun.at ≡ map_judged (λ more. done ++ more) (walk_from m (seen_of walk.seen) walk.at)

pub turn_first : {m : List ℕ} {begun : Walk} {old : List ℕ} {at : ℕ} → begun.at ≤ length m → at + 32 * length m ≤ length old → Turn m begun begun old old at at
unfolding section_lines
turn_first {m} {begun} h r = record { within = h; room = omega arith; long = refl; done = []; so_far = wrote_nothing (omega arith); same = none_done (walk_from m (seen_of begun.seen) begun.at) }

module _ {m : List ℕ} {walk : Walk} {x : Step} (p : Steps m walk x) where
  module _ {s : Section} {after : Walk} (e : x ≡ Ok (Some (s, after))) where
    forward : Forward m walk s after
    forward = rw e at p.forward

    two_further : walk.at + 2 ≤ after.at
    two_further = two_bytes (seen_of walk.seen) walk.at (drop walk.at m) (sym (rw e at p.means))

    stepped : walk_from m (seen_of walk.seen) walk.at ≡ map_judged (λ more. section_of m s ∷ more) (walk_from m (seen_of after.seen) after.at)
    stepped = walk_stepped m (seen_of walk.seen) walk.at (sym (rw e at p.means)) ∙ ap (λ seen. map_judged (λ more. section_of m s ∷ more) (walk_from m seen after.at)) (sym (rw e at p.seen))

    pub contents_ahead : s.contents.at ≤ s.contents.end
    contents_ahead = let f = forward in f.inside.contents.ahead

    pub goes_on : length m - after.at < length m - walk.at
    goes_on = let f = forward in omega (arith, f.moves, f.within)

  module _ {begun : Walk} {old new : List ℕ} {at next : ℕ} (t : Turn m begun walk old new at next) where
    pub turn_stopped : {r : Refusal} → x ≡ Err r → AddsFrom m begun section_lines old new at next
    turn_stopped e =
        let refusal = t.same ∙ ap (map_judged (λ more. t.done ++ more)) (walk_refused m (seen_of walk.seen) walk.at (sym (rw e at p.means))) in
        record { says = λ ss q. absurd (not_accepted (sym refusal ∙ q)) }

    pub turn_done : x ≡ Ok None → AddsFrom m begun section_lines old new at next
    turn_done h =
        let all = t.same ∙ ap (map_judged (λ more. t.done ++ more)) (walk_ended m (seen_of walk.seen) walk.at (sym (rw h at p.means))) in
        record { says = λ ss q. rw (← accepted_is (sym all ∙ q), append-nil) t.so_far }

    pub turn_room : next ≤ at + 32 * length m
    turn_room = omega arith

    module _ {s : Section} {after : Walk} (e : x ≡ Ok (Some (s, after))) where
      pub section_room : at + 32 * length m ≤ length old → next + 64 ≤ length new
      section_room r = let f = forward e in omega (arith, f.within, two_further e)

      pub turn_next : {more : List ℕ} {last : ℕ} → Wrote new more next last (line (num s.id ∷ num s.at.0 ∷ num (s.contents.end - s.contents.at) ∷ [])) → last ≤ next + 64 → Turn m begun after old more at last
      turn_next w l =
          let f = forward e in
          let size : length (section_of m s).contents.bytes ≡ s.contents.end - s.contents.at = length-slice s.contents.at s.contents.end m f.inside.contents.within in
          record {
            within = f.within;
            room = omega (arith, two_further e);
            long = wrote_length w ∙ t.long;
            done = t.done ++ (section_of m s ∷ []);
            so_far = rw (lines_more t.done (section_of m s), size) (wrote_join t.so_far w);
            same = t.same ∙ ap (map_judged (λ more. t.done ++ more)) (stepped e) ∙ one_more t.done (section_of m s) (walk_from m (seen_of after.seen) after.at);
          }

pub ruleset list_turns = (turn_first, turn_stopped, turn_done, turn_room, section_room, turn_next, contents_ahead, goes_on, nested, rules)

-- and from the preamble on
module _ {m : List ℕ} {x : Began} (b : Begins m x) where
  pub sections_refused : {old : List ℕ} {at : ℕ} → {r : Refusal} → x ≡ Err r → Adds m section_lines old old at at
  sections_refused e =
      let refusal = walk_not_begun m (sym (rw e at b.means)) in
      record { says = λ ss q. absurd (not_accepted (sym refusal ∙ q)) }

  pub sections_put : {begun : Walk} {old new : List ℕ} {at next : ℕ} → x ≡ Ok begun → AddsFrom m begun section_lines old new at next → Adds m section_lines old new at next
  sections_put {begun} e f =
      let seen = rw e at b.seen in
      let from = ap (λ s. walk_from m s begun.at) seen.0 ∙ sym (walk_begun m (sym (rw e at b.means))) in
      record { says = λ ss q. f.says ss (from ∙ q) }

pub ruleset all_sections = (sections_refused, sections_put, begun_within, rules)

-- How many there are
pub count_put : {old mid new : List ℕ} {i next : ℕ} (count : ℕ) → Wrote old mid 0 i (115 ∷ 101 ∷ 99 ∷ 116 ∷ 105 ∷ 111 ∷ 110 ∷ 115 ∷ 32 ∷ []) → Wrote mid new i next (decimal count ++ (10 ∷ [])) → Wrote old new 0 next (count_line count)
unfolding count_line line piece ascii
count_put count p q = wrote_join p q

pub ruleset counts = (count_put, rules)

-- the payloads' lines
place_line_lem : (label : String) (x : Option Part) → place_line (ascii label) (map_some place_of x) ≡ payload_line label x
unfolding place_line payload_line labelled line piece ascii
place_line_lem label none = refl
place_line_lem label (some p) = refl

custom_line_lem : {x name l : List ℕ} (label : String) → x ≡ name → l ≡ ascii label → (ss : List AnySection) → custom_line x l ss ≡ payload_line label (payload_in name ss)
unfolding custom_line
custom_line_lem {name = name} label is labels ss = rw (is, labels) (place_line_lem label (payload_in name ss))

-- All lines of a module that is accepted
module _ (m : List ℕ) (count : ℕ) (e : accepted count ≡ section_count m) where
  pub accepted_put : {a b c d new x y p q : List ℕ} {i j k next : ℕ} → Wrote a b 0 i (count_line count) → Adds m section_lines b c i j → Adds m (custom_line x p) c d j k → Adds m (custom_line y q) d new k next → x ≡ name_section → p ≡ ascii "name" → y ≡ hint_section → q ≡ ascii "hints" → Wrote a new 0 next (printed (walk m))
  unfolding printed section_count count_line
  accepted_put w s n h names label hints label₂ =
      mapped length (walk m) (sym e) λ ss e₁ e₂.
      rw (e₁, e₂, ← custom_line_lem "name" names label ss, ← custom_line_lem "hints" hints label₂ ss) (wrote_join w (wrote_join (s.says ss e₁) (wrote_join (n.says ss e₁) (h.says ss e₁))))

pub ruleset accepts = (accepted_put, rules)

-- The whole listing: the length first, then the judgement
module _ (m : List ℕ) {old new : List ℕ} {next : ℕ} where
  pub list_too_long : 65_536 < length m → Wrote old new 0 next (printed (refused (number_of InputTooLarge) 65_536)) → Wrote old new 0 next (listing m)
  unfolding listing greatest_input
  list_too_long h w = rw (lt-leb (length m) 65_536 h) w

  module _ (h : length m ≤ 65_536) where
    pub list_accepted : Wrote old new 0 next (printed (walk m)) → Wrote old new 0 next (listing m)
    unfolding listing greatest_input
    list_accepted w = rw (le-leb (length m) 65_536 h) w

    pub list_refused : {x : Counted} {r : Refusal} → counted x ≡ section_count m → x ≡ Err r → Wrote old new 0 next (printed (refused (number_of r.reason) r.offset.0)) → Wrote old new 0 next (listing m)
    unfolding section_count
    list_refused e q w = list_accepted (rw ((refused_exactly length (walk m)).0 (sym (rw q at e))) w)

pub count_is : (m : List ℕ) {x : Counted} {n : ℕ} → counted x ≡ section_count m → x ≡ Ok n → accepted n ≡ section_count m
count_is m e q = rw q at e

pub ruleset lists = (list_too_long, list_accepted, list_refused, count_is, rules)
