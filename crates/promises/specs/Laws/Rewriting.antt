-- Rewritings, by what their C calls leave and what the C questions answer.
use Rattle.std.specs.Prelude.{ℕ, ◌≤◌, List, ◌↔◌, ◌≡◌, refl, length, take}
use Rattle.std.proofs.Math.Logic.Iff
use Rattle.std.proofs.Math.Option.{Option, none, some}
use Rattle.std.proofs.Common.{sym, ap, ◌∙◌, arith}
use Rattle.format.specs.Bytes.{Bytes}
use Rattle.format.specs.Canonical.{rewrite_names, canonical_names, rewrite_metadata, canonical_of, canonical_metadata, canonical_hints}
use Rattle.format.proofs.Theorems.{VeryBytes, Rewritten, Rewrites, ItemQuestion, ItemInRange, item_told, hint_told, OlderInRange, older_told, questions_answered, any_metadata_answered, edition_rewritten, any_metadata_rewritten, hints_rewritten, older_rewritten}
use Rattle.format.proofs.Laws.CanonicalOlder.{rewriting}
use Rattle.format.specs.Laws.Options.{not_some, some_is}
use Rattle.format.specs.Laws.Outcomes.{accepted_is, mapped}
use Rattle.format.specs.Metadata.{any_item, hint_item, judge_metadata, item_at, ask_metadata, ask_hint}
use Rattle.format.specs.Names.{Kind, kind_in, judge_names}
use Rattle.format.specs.Older.{judge_older, ask_older, canonical_older}
use Rattle.format.specs.Parts.{Part}
use Rattle.format.specs.Questions.{AllowedBy, id_of, query_of, answer, asked, ask_at, ask, as_place, as_told}
use Rattle.format.specs.declared.Edition.{Edition}
use Rattle.format.specs.declared.Question.{Question}
use Rattle.format.specs.Reading.{Reader, Judged, accepted, refused, map_judged, Accepted}
use Rattle.format.specs.declared.Hint.{Hint}
use Rattle.wakemiono.specs.Boundary.{wm_found, wm_refused, wm_place, wm_hint, WmWrites}
use Rattle.wakemiono.specs.Calls.{WmMetadata, WmHint, WmOldHint}
use Rattle.wakemiono.specs.declared.WmAnswer.{WmAnswer}
use Rattle.promises.specs.Answers.{says_hint, hint_said}
use Rattle.promises.specs.Demands.{SameAnswer}
use Rattle.promises.specs.Laws.Outputs.{Wrote, wrote, wrote_there, wrote_long, wrote_first, wrote_refused}
use Rattle.promises.specs.Laws.Saying.{Verdict}

parts_same : (x y : List ℕ) (u w : Option Part) → ((p : Part) → u ≡ some p → VeryBytes x p) → ((p : Part) → w ≡ some p → VeryBytes y p) → SameAnswer x y (wm_place (as_place (accepted u))) (wm_place (as_place (accepted w))) ↔ (as_told (accepted u) ≡ as_told (accepted w))
unfolding as_place as_told
parts_same x y none none v v' = (λ _. refl, λ _. (refl, refl))
parts_same x y none (some p) v v' = (λ s. absurd (omega (arith, s.0)), λ e. absurd (not_some (accepted_is e)))
parts_same x y (some p) none v v' = (λ s. absurd (omega (arith, s.0)), λ e. absurd (not_some (sym (accepted_is e))))
parts_same x y (some p) (some q) v v' = (
  λ s. ap (λ bs. accepted (some bs)) (sym (v p refl).bytes ∙ s.1 ∙ (v' q refl).bytes),
  λ e. (refl, (v p refl).bytes ∙ some_is (accepted_is e) ∙ sym (v' q refl).bytes),
)

-- of two judgements that accept, the answers at the boundary are the same exactly where what is told is
pub places_same : {A : Type 0} {x y : List ℕ} {a b : WmAnswer} (f : A → Option Part) (j k : Judged A) {v w : A} → j ≡ accepted v → k ≡ accepted w → ((p : Part) → map_judged f j ≡ accepted (some p) → VeryBytes x p) → ((p : Part) → map_judged f k ≡ accepted (some p) → VeryBytes y p)
    → a ≡ wm_place (as_place (map_judged f j)) → b ≡ wm_place (as_place (map_judged f k)) → SameAnswer x y a b ↔ (as_told (map_judged f j) ≡ as_told (map_judged f k))
places_same {x = x} {y = y} f j k {v} {w} is is' very very' e e' =
    rw (e, e', is, is') (parts_same x y (f v) (f w) (λ p h. very p (ap (map_judged f) is ∙ ap accepted h)) (λ p h. very' p (ap (map_judged f) is' ∙ ap accepted h)))

hints_same : {a b : WmAnswer} (j k : Judged (Option Hint)) → a ≡ wm_hint j → b ≡ wm_hint k → (a ≡ b) ↔ (j ≡ k)
hints_same j k e e' = (λ same. sym (hint_said j) ∙ ap says_hint (sym e ∙ same ∙ e') ∙ hint_said k, λ same. e ∙ ap (λ j. wm_hint j) same ∙ sym e')

-- What is known of a rewriting, wherever a payload has one
pub record WhereWritten {A Q R : Type 0} (judgement : List ℕ → Judged A) (rewriting : List ℕ → Judged (List ℕ)) (told : Q → List ℕ → R) (Allows : Q → Type 0) : Type 0 where
  pub first_judged : (p : List ℕ) {bytes : List ℕ} → rewriting p ≡ accepted bytes → Accepted judgement p
  pub same_exactly : (x y : List ℕ) {v w : List ℕ} → Bytes x → Bytes y → rewriting x ≡ accepted v → rewriting y ≡ accepted w → (v ≡ w) ↔ ((q : Q) → Allows q → told q x ≡ told q y)
  pub rewritten : (p : List ℕ) {bytes : List ℕ} → rewriting p ≡ accepted bytes → Rewritten judgement rewriting told Allows p bytes

-- where every accepted payload has one
pub always_written : {A Q R : Type 0} {judgement : List ℕ → Judged A} {rewriting : List ℕ → Judged (List ℕ)} {told : Q → List ℕ → R} {Allows : Q → Type 0} → Rewrites judgement rewriting told Allows → ((p bytes : List ℕ) → rewriting p ≡ accepted bytes → Accepted judgement p) → WhereWritten judgement rewriting told Allows
always_written rewrites first_judged = record {
  first_judged = λ p {bytes} c. first_judged p bytes c;
  same_exactly = λ x y {v} {w} bx by c d. Iff.trans (λ e. c ∙ ap accepted e ∙ sym d, λ e. accepted_is (sym c ∙ e ∙ d)) (rewrites.same_exactly bx by (first_judged x v c) (first_judged y w d));
  rewritten = λ p {bytes} c. rewrites.rewritten (first_judged p bytes c) bytes c;
}

-- and where one that is too long has none
pub older_written : WhereWritten (judge_older 0) canonical_older older_told OlderInRange
older_written = record {
  first_judged = λ p c. (rewriting c).original;
  same_exactly = λ x y _ _ c d. older_rewritten.same_exactly x y c d;
  rewritten = λ p c. older_rewritten.rewritten p c;
}

-- What is known of the calls that ask: each answers, and of two accepted payloads the answers are the same exactly where what is told is
pub record Asked {A Q R : Type 0} (judgement : List ℕ → Judged A) (told : Q → List ℕ → R) (asking : Q → List ℕ → WmAnswer → Type 0) (Same : (x y : List ℕ) (a b : WmAnswer) → Type 0) : Type 0 where
  pub met : (q : Q) (x : List ℕ) → (a : WmAnswer) × asking q x a
  pub compared : (q : Q) (x y : List ℕ) (a b : WmAnswer) → Accepted judgement x → Accepted judgement y → asking q x a → asking q y b → Same x y a b ↔ (told q x ≡ told q y)

-- every allowed question gets the same answer from both
abbrev pub Alike : {Q : Type 0} (asking : Q → List ℕ → WmAnswer → Type 0) (Allows : Q → Type 0) (Same : (x y : List ℕ) (a b : WmAnswer) → Type 0) (x y : List ℕ) → Type 0
Alike {Q} asking Allows Same x y = (q : Q) → Allows q → (c d : WmAnswer) → asking q x c → asking q y d → Same x y c d

pub alike_exactly : {A Q R : Type 0} {judgement : List ℕ → Judged A} {told : Q → List ℕ → R} {Allows : Q → Type 0} {asking : Q → List ℕ → WmAnswer → Type 0} {Same : (x y : List ℕ) (a b : WmAnswer) → Type 0} → Asked judgement told asking Same → {x y : List ℕ} → Accepted judgement x → Accepted judgement y → ((q : Q) → Allows q → told q x ≡ told q y) ↔ Alike asking Allows Same x y
alike_exactly asked {x} {y} ax ay = (
  λ same q allowed c d e e'. (asked.compared q x y c d ax ay e e').1 (same q allowed),
  λ same q allowed. let (c, e) = asked.met q x in let (d, e') = asked.met q y in (asked.compared q x y c d ax ay e e').0 (same q allowed c d e e'),
)

module _ {A Q R : Type 0} {judgement : List ℕ → Judged A} {rewriting : List ℕ → Judged (List ℕ)} {told : Q → List ℕ → R} {Allows : Q → Type 0} (rewrites : WhereWritten judgement rewriting told Allows) {asking : Q → List ℕ → WmAnswer → Type 0} {Same : (x y : List ℕ) (a b : WmAnswer) → Type 0} (asked : Asked judgement told asking Same) where
  was_accepted : (p : List ℕ) {old new : List ℕ} {a : WmAnswer} → Wrote (rewriting p) old new a → Accepted judgement p
  was_accepted p w = rewrites.first_judged p w.wants

  equally_written : {x y old new old' new' : List ℕ} {a b : WmAnswer} (v : Wrote (rewriting x) old new a) (w : Wrote (rewriting y) old' new' b) → (take a.length new ≡ take b.length new') ↔ (v.bytes ≡ w.bytes)
  equally_written v w = (λ e. sym (wrote_first v) ∙ e ∙ wrote_first w, λ e. wrote_first v ∙ e ∙ sym (wrote_first w))

  pub rewritten_same : (x y old new old' new' : List ℕ) (a b : WmAnswer) → Bytes x → Bytes y → WmWrites (rewriting x) old new a → WmWrites (rewriting y) old' new' b → a.kind ≡ 1 → b.kind ≡ 1
      → (take a.length new ≡ take b.length new') ↔ Alike asking Allows Same x y
  rewritten_same x y old new old' new' a b bx by v w k l =
      let v = wrote (rewriting x) v k in
      let w = wrote (rewriting y) w l in
      Iff.trans (equally_written v w) (Iff.trans (rewrites.same_exactly x y bx by v.wants w.wants) (alike_exactly asked (was_accepted x v) (was_accepted y w)))

  module _ (p old new : List ℕ) (a : WmAnswer) (writes : WmWrites (rewriting p) old new a) (k : a.kind ≡ 1) where
    rewriting_wrote : Wrote (rewriting p) old new a
    rewriting_wrote = wrote (rewriting p) writes k

    again_accepted : Accepted judgement (take a.length new)
    again_accepted = rw (wrote_first rewriting_wrote) (rewrites.rewritten p rewriting_wrote.wants).is_accepted

    pub rewritten_accepted : (j : WmAnswer) → Verdict j (judgement (take a.length new)) → j.kind ≡ 1
    rewritten_accepted j says = says.found.1 (again_accepted.value, again_accepted.judged)

    pub rewritten_alike : (q : Q) (c d : WmAnswer) → asking q p c → asking q (take a.length new) d → Same p (take a.length new) c d
    rewritten_alike q c d e e' =
        let w = rewriting_wrote in
        let alike : told q (take a.length new) ≡ told q p = rw (wrote_first w) ((rewrites.rewritten p w.wants).answers_alike q) in
        (asked.compared q p (take a.length new) c d (was_accepted p w) again_accepted e e').1 (sym alike)

    pub rewritten_shorter : a.length ≤ length p
    rewritten_shorter = let w = rewriting_wrote in rw (wrote_long w) (rewrites.rewritten p w.wants).never_longer

    pub rewritten_rests : (old' new' : List ℕ) (b : WmAnswer) → a.length ≤ length old' → WmWrites (rewriting (take a.length new)) old' new' b → (b ≡ a) × (take b.length new' ≡ take a.length new)
    rewritten_rests old' new' b room again =
        let w = rewriting_wrote in
        let rests = (rewrites.rewritten p w.wants).comes_to_rest in
        let same : rewriting (take a.length new) ≡ accepted w.bytes = rw (wrote_first w) rests in
        let v = wrote_there w.bytes (rw (← wrote_long w) room) (rw same at again) in
        let one = sym (accepted_is v.wants) in
        (v.is ∙ ap (λ bs. wm_found 0 0 (length bs)) one ∙ sym w.is, wrote_first v ∙ one ∙ sym (wrote_first w))

  -- where it has one an output as long as the payload is enough
  pub rewritten_fits : (p old new : List ℕ) (a j : WmAnswer) → (Accepted judgement p → (bytes : List ℕ) × (rewriting p ≡ accepted bytes)) → Verdict j (judgement p) → j.kind ≡ 1 → length p ≤ length old → WmWrites (rewriting p) old new a → a.kind ≡ 1
  rewritten_fits p old new a j has says k room writes =
      let (v, e) = says.found.0 k in
      let (bytes, wants) = has (record { value = v; judged = e }) in
      let short = (rewrites.rewritten p wants).never_longer in
      ap (λ (a : WmAnswer). a.kind) (wrote_there bytes (omega (arith, short, room)) (rw wants at writes)).is

pub rewriting_refused : {A : Type 0} {judgement : List ℕ → Judged A} (rewriting : List ℕ → Judged (List ℕ)) → ((p : List ℕ) (n at : ℕ) → judgement p ≡ refused n at → rewriting p ≡ refused n at) → (p old new : List ℕ) (a j : WmAnswer) → Verdict j (judgement p) → WmWrites (rewriting p) old new a → (n at : ℕ) → j ≡ wm_refused n at → a ≡ wm_refused n at
rewriting_refused rewriting refuses p old new a j says w n at e = wrote_refused w (refuses p n at ((says.refusal n at).0 e))

-- What was rewritten was accepted, and the answers of two accepted payloads are compared: names, metadata and hints
pub names_first_judged : (kind_of : ℕ → Kind) (p bytes : List ℕ) → canonical_names kind_of p ≡ accepted bytes → Accepted (judge_names kind_of 0) p
unfolding canonical_names
names_first_judged kind_of p bytes e = mapped rewrite_names (judge_names kind_of 0 p) e λ v is _. record { value = v; judged = is }

items_first_judged : (item : Reader Part) (p bytes : List ℕ) → canonical_of item p ≡ accepted bytes → Accepted (judge_metadata item 0) p
unfolding canonical_of
items_first_judged item p bytes e = mapped rewrite_metadata (judge_metadata item 0 p) e λ v is _. record { value = v; judged = is }

pub metadata_first_judged : (p bytes : List ℕ) → canonical_metadata p ≡ accepted bytes → Accepted (judge_metadata any_item 0) p
unfolding canonical_metadata
metadata_first_judged = items_first_judged any_item

pub hints_first_judged : (p bytes : List ℕ) → canonical_hints p ≡ accepted bytes → Accepted (judge_metadata hint_item 0) p
unfolding canonical_hints
hints_first_judged = items_first_judged hint_item

pub names_refuse : (kind_of : ℕ → Kind) (p : List ℕ) (n at : ℕ) → judge_names kind_of 0 p ≡ refused n at → canonical_names kind_of p ≡ refused n at
unfolding canonical_names
names_refuse kind_of p n at e = rw e

pub metadata_refuse : (p : List ℕ) (n at : ℕ) → judge_metadata any_item 0 p ≡ refused n at → canonical_metadata p ≡ refused n at
unfolding canonical_metadata canonical_of
metadata_refuse p n at e = rw e

pub hints_refuse : (p : List ℕ) (n at : ℕ) → judge_metadata hint_item 0 p ≡ refused n at → canonical_hints p ≡ refused n at
unfolding canonical_hints canonical_of
hints_refuse p n at e = rw e

pub older_refuse : (p : List ℕ) (n at : ℕ) → judge_older 0 p ≡ refused n at → canonical_older p ≡ refused n at
unfolding canonical_older
older_refuse p n at e = rw e

names_compared : (kind_of : ℕ → Kind) (q : Question) (x y : List ℕ) (a b : WmAnswer) → Accepted (judge_names kind_of 0) x → Accepted (judge_names kind_of 0) y → a ≡ wm_place (as_place (ask kind_of q x)) → b ≡ wm_place (as_place (ask kind_of q y)) → SameAnswer x y a b ↔ (as_told (ask kind_of q x) ≡ as_told (ask kind_of q y))
unfolding ask ask_at asked
names_compared kind_of q x y a b ax ay e e' = places_same (answer (id_of q) (query_of q)) (judge_names kind_of 0 x) (judge_names kind_of 0 y) ax.judged ay.judged (λ p h. (questions_answered kind_of).very_bytes q x h) (λ p h. (questions_answered kind_of).very_bytes q y h) e e'

metadata_compared : (q : ItemQuestion) (x y : List ℕ) (a b : WmAnswer) → Accepted (judge_metadata any_item 0) x → Accepted (judge_metadata any_item 0) y → a ≡ wm_place (as_place (ask_metadata any_item q.0 q.1 0 x)) → b ≡ wm_place (as_place (ask_metadata any_item q.0 q.1 0 y)) → SameAnswer x y a b ↔ (item_told any_item q x ≡ item_told any_item q y)
unfolding ask_metadata
metadata_compared q x y a b ax ay e e' = places_same (item_at q.0 q.1) (judge_metadata any_item 0 x) (judge_metadata any_item 0 y) ax.judged ay.judged (λ p h. any_metadata_answered.very_bytes q x h) (λ p h. any_metadata_answered.very_bytes q y h) e e'

-- The calls of each kind
pub names_asked : (kind_of : ℕ → Kind) → Asked (judge_names kind_of 0) (λ q p. as_told (ask kind_of q p)) (λ q p a. a ≡ wm_place (as_place (ask kind_of q p))) SameAnswer
names_asked kind_of = record { met = λ q x. (_, refl); compared = names_compared kind_of }

pub metadata_asked : Asked (judge_metadata any_item 0) (item_told any_item) (λ q. WmMetadata q.0.0 q.1.0) SameAnswer
metadata_asked = record { met = λ q x. (_, refl); compared = metadata_compared }

pub hints_asked : Asked (judge_metadata hint_item 0) hint_told (λ q. WmHint q.0.0 q.1.0) (λ _ _ a b. a ≡ b)
hints_asked = record { met = λ q x. (_, refl); compared = λ q x y a b _ _. hints_same (ask_hint q.0 q.1 0 x) (ask_hint q.0 q.1 0 y) }

pub older_asked : Asked (judge_older 0) older_told (λ q. WmOldHint q.0.0 q.1.0) (λ _ _ a b. a ≡ b)
older_asked = record { met = λ q x. (_, refl); compared = λ q x y a b _ _. hints_same (ask_older q.0 q.1 0 x) (ask_older q.0 q.1 0 y) }

-- and where each kind is written
pub names_written : (edition : Edition) → WhereWritten (judge_names (kind_in edition) 0) (canonical_names (kind_in edition)) (λ q p. as_told (ask (kind_in edition) q p)) (AllowedBy (kind_in edition))
names_written edition = always_written (edition_rewritten edition) (names_first_judged (kind_in edition))

pub metadata_written : WhereWritten (judge_metadata any_item 0) canonical_metadata (item_told any_item) ItemInRange
metadata_written = always_written any_metadata_rewritten metadata_first_judged

pub hints_written : WhereWritten (judge_metadata hint_item 0) canonical_hints hint_told ItemInRange
hints_written = always_written hints_rewritten hints_first_judged
