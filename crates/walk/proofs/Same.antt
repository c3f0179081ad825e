-- Two results that meet one promise of the walk are equal.
use Rattle.std.specs.Prelude.{Ok, Err, Some, None}
use Prim.Native.Nat.{ℕ}
use mathlib.Core.List.{List, []}
use mathlib.Core.Option.{Option, none, some}
use mathlib.Core.Path.{◌≡◌, refl, sym, ap, ◌∙◌}
use Rattle.format.specs.Walk.{Custom as CustomSection, Section as AnySection, Seen as SeenBefore, seeing}
use Rattle.format.specs.Laws.Outcomes.{not_got, got_value, got_next, not_accepted, accepted_is}
use Rattle.format.specs.Laws.Options.{not_some, some_is}
use Rattle.format.specs.Laws.Refusals.{told_apart, same_judgement, same_stop}
use Rattle.format.proofs.Laws.Answers.{same_answer}
use Rattle.reading.proofs.Same.{same_part}
use Rattle.walk.proofs.BitLaws.{same_bits}
use Rattle.walk.specs.Sections.{seen_of, custom_of, section_of, CustomInside, SectionInside, ruling, IdRuled, NameRuled, Sees, Calls, row_called}
use Rattle.walk.specs.Steps.{Begins, Steps}
use Rattle.walk.specs.Surveys.{section_answered, counted, Found as Gathered, found_of, Surveys}
use Rattle.walk.specs.Returned.{Counted}
use Rattle.walk.specs.Returned.{Began}
use Rattle.walk.specs.Returned.{Custom}
use Rattle.walk.specs.declared.step.Section.{Section}
use Rattle.walk.specs.Returned.{Step}
use Rattle.walk.specs.declared.step.Walk.{Walk}
use Rattle.walk.specs.Returned.{Surveyed}
use Rattle.walk.specs.declared.survey.Tally.{Tally}
use Rattle.walk.specs.declared.rules.Seen.{Seen}
use Rattle.walk.specs.Returned.{Called}
use Rattle.walk.specs.Returned.{Ruling}
use Rattle.walk.specs.Returned.{SectionAnswer}

pub count_same : (a b : Counted) → counted a ≡ counted b → a ≡ b
count_same (Ok n) (Ok k) e = ap Ok (accepted_is e)
count_same (Ok n) (Err r) e = absurd (not_accepted (sym e))
count_same (Err r) (Ok n) e = absurd (not_accepted e)
count_same (Err r) (Err s) e = ap Err (same_judgement e)

pub section_same : (a b : SectionAnswer) → section_answered a ≡ section_answered b → a ≡ b
section_same (Ok None) (Ok None) e = refl
section_same (Ok None) (Ok (Some p)) e = absurd (not_some (accepted_is e))
section_same (Ok None) (Err r) e = absurd (not_accepted (sym e))
section_same (Ok (Some p)) (Ok None) e = absurd (not_some (sym (accepted_is e)))
section_same (Ok (Some p)) (Ok (Some q)) e = ap (λ x. Ok (Some x)) (some_is (accepted_is e))
section_same (Ok (Some p)) (Err r) e = absurd (not_accepted (sym e))
section_same (Err r) (Ok None) e = absurd (not_accepted e)
section_same (Err r) (Ok (Some p)) e = absurd (not_accepted e)
section_same (Err r) (Err s) e = ap Err (same_judgement e)

-- walks and sections are told by what they mean
same_walk : (v w : Walk) → v.at ≡ w.at → seen_of v.seen ≡ seen_of w.seen → v ≡ w
same_walk v w p q =
    let theres = same_bits v.seen.there w.seen.there (λ row. ap (λ (s : SeenBefore). s.there row) q) in
    λ i. record { at = p i; seen = record { rank = (q i).rank; code = (q i).code; there = theres i } }

same_custom : (m : List ℕ) (c d : Custom) → CustomInside m c → CustomInside m d → custom_of m c ≡ custom_of m d → c ≡ d
same_custom m None None i j e = refl
same_custom m None (Some (n, p)) i j e = absurd (not_some e)
same_custom m (Some (n, p)) None i j e = absurd (not_some (sym e))
same_custom m (Some (n, p)) (Some (k, q)) i j e =
    let one = some_is e in
    let names = same_part n k i.0 j.0 (ap (λ (c : CustomSection). c.name) one) in
    let payloads = same_part p q i.1 j.1 (ap (λ (c : CustomSection). c.payload) one) in
    λ i. Some (names i, payloads i)

same_section : {m : List ℕ} (s t : Section) → SectionInside m s → SectionInside m t → section_of m s ≡ section_of m t → s ≡ t
same_section {m} s t i j e =
    let contents = same_part s.contents t.contents i.contents j.contents (ap (λ (x : AnySection). x.contents) e) in
    let customs = same_custom m s.custom t.custom i.custom j.custom (ap (λ (x : AnySection). x.custom) e) in
    λ k. record { id = (e k).id; at = record { 0 = (e k).at }; contents = contents k; custom = customs k }

pub begin_same : {m : List ℕ} (a b : Began) → Begins m a → Begins m b → a ≡ b
begin_same (Ok v) (Ok w) p q = ap Ok (same_walk v w (got_next (p.means ∙ sym q.means)) (p.seen.0 ∙ sym q.seen.0))
begin_same (Ok v) (Err r) p q = absurd (not_got (sym (p.means ∙ sym q.means)))
begin_same (Err r) (Ok v) p q = absurd (not_got (p.means ∙ sym q.means))
begin_same (Err r) (Err s) p q = ap Err (same_stop (p.means ∙ sym q.means))

pub step_same : {m : List ℕ} {w : Walk} (a b : Step) → Steps m w a → Steps m w b → a ≡ b
step_same {w = w} (Ok (Some (s, v))) (Ok (Some (t, u))) p q =
    let one = p.means ∙ sym q.means in
    let sections = same_section s t p.forward.inside q.forward.inside (some_is (got_value one)) in
    let walks = same_walk v u (got_next one) (p.seen ∙ ap (seeing (seen_of w.seen)) (some_is (got_value one)) ∙ sym q.seen) in
    λ i. Ok (Some (sections i, walks i))
step_same (Ok (Some (s, v))) (Ok None) p q = absurd (not_some (sym (got_value (p.means ∙ sym q.means))))
step_same (Ok (Some (s, v))) (Err r) p q = absurd (not_got (sym (p.means ∙ sym q.means)))
step_same (Ok None) (Ok (Some (t, u))) p q = absurd (not_some (got_value (p.means ∙ sym q.means)))
step_same (Ok None) (Ok None) p q = refl
step_same (Ok None) (Err r) p q = absurd (not_got (sym (p.means ∙ sym q.means)))
step_same (Err r) (Ok (Some (t, u))) p q = absurd (not_got (p.means ∙ sym q.means))
step_same (Err r) (Ok None) p q = absurd (not_got (p.means ∙ sym q.means))
step_same (Err r) (Err s) p q = ap Err (same_stop (p.means ∙ sym q.means))

-- one pass over a module
same_tally : (t u : Tally) → found_of t ≡ found_of u → t ≡ u
same_tally t u e =
    let sections = section_same t.section u.section (ap (λ (f : Gathered). f.section) e) in
    let payloads = same_answer t.payload u.payload (ap (λ (f : Gathered). f.payload) e) in
    λ i. record { count = (e i).count; section = sections i; payload = payloads i }

pub survey_same : {m : List ℕ} {position : ℕ} {name : List ℕ} (a b : Surveyed) → Surveys m position name a → Surveys m position name b → a ≡ b
survey_same (Ok t) (Ok u) p q = ap Ok (same_tally t u (accepted_is (p.says ∙ sym q.says)))
survey_same (Ok t) (Err r) p q = absurd (not_accepted (sym (p.says ∙ sym q.says)))
survey_same (Err r) (Ok t) p q = absurd (not_accepted (p.says ∙ sym q.says))
survey_same (Err r) (Err s) p q = ap Err (same_judgement (p.says ∙ sym q.says))

-- the rules
same_ruling : (v w : Ruling) → ruling v 0 0 [] ≡ ruling w 0 0 [] → v ≡ w
same_ruling (Ok _) (Ok _) e = refl
same_ruling (Ok _) (Err r) e = absurd (not_got (sym e))
same_ruling (Err r) (Ok _) e = absurd (not_got e)
same_ruling (Err r) (Err s) e = ap Err (told_apart r s cc)

pub id_same : {seen : Seen} {id : ℕ} (v w : Ruling) → IdRuled seen id v → IdRuled seen id w → v ≡ w
id_same v w p q = same_ruling v w (p.says 0 0 [] ∙ sym (q.says 0 0 []))

pub name_same : {seen : Seen} (called : Called) (v w : Ruling) → NameRuled seen called v → NameRuled seen called w → v ≡ w
name_same called v w p q = same_ruling v w (p.says 0 0 [] ∙ sym (q.says 0 0 []))

pub see_same : {seen : Seen} {id : ℕ} {called : Called} (a b : Seen) → Sees seen id called a → Sees seen id called b → a ≡ b
see_same a b p q =
    let ranks = p.rank_is ∙ sym q.rank_is in
    let codes = p.code_is ∙ sym q.code_is in
    let theres = same_bits a.there b.there (λ row. p.there_is.says row ∙ sym (q.there_is.says row)) in
    λ i. record { rank = ranks i; code = codes i; there = theres i }

-- what a section is called, from its row
call_of : Option ℕ → Called
call_of none = None
call_of (some row) = Some row

call_is : (c : Called) → call_of (row_called c) ≡ c
unfolding call_of
call_is (Some row) = refl
call_is None = refl

pub called_same : {name : List ℕ} (a b : Called) → Calls name a → Calls name b → a ≡ b
called_same a b p q = sym (call_is a) ∙ ap call_of (sym p.row_is ∙ q.row_is) ∙ call_is b
