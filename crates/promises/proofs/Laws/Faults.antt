-- From judgements to faults: a call that refuses as the rules judge refuses exactly at the fault of what was lent.
use Rattle.std.specs.Prelude.{ℕ, ◌+◌, List, ◌↔◌, ◌≢◌, ◌≡◌, refl, length, take, drop}
use Rattle.std.proofs.Math.Logic.Iff
use Rattle.std.proofs.Common.{sym, ◌∙◌, arith, take-append-drop}
use Rattle.format.specs.Bytes.{Bytes, same}
use Rattle.format.specs.Laws.Bytes.{same_true, same_self}
use Rattle.format.specs.Laws.Outcomes.{by_test, false_true}
use Rattle.format.specs.Laws.Tight.{bytes_before, bytes_after}
use Rattle.format.specs.Metadata.{judge_metadata}
use Rattle.format.specs.Reading.{Judged, refused}
use Rattle.format.specs.Through.{item_of}
use Rattle.format.specs.Walk.{branch_hint}
use Rattle.grammar.specs.Numbers.{Grammar}
use Rattle.grammar.specs.Faults.Numbers.{Faults}
use Rattle.grammar.specs.Faults.Metadata.{AnyItemFault, HintFault, MetadataFault}
use Rattle.grammar.specs.Metadata.{Unknown, BranchHint}
use Rattle.grammar.proofs.Refusing.{Refuses, metadata_refused, hints_refused, modules_refused}
use Rattle.wakemiono.specs.declared.WmAnswer.{WmAnswer}
use Rattle.promises.specs.Demands.{Answers, Writing, RefusedThrough, by_the_walk, by_its_payload, FormatFault, of_hints, of_any_other, RefusedOrShort, by_aFault, too_short, OlderRefused, older_fault, older_too_long, older_too_short}
use Rattle.promises.proofs.Laws.Exactly.{RefusedBy, JudgedThrough, walk_refused, payload_refused}

-- what is said of a refusal may be said in another way
pub answers_otherwise : {Forms : WmAnswer → Type 0} {R S : (number offset : ℕ) → Type 0} {a : WmAnswer} → Answers Forms R a → ((n at : ℕ) → R n at ↔ S n at) → Answers Forms S a
answers_otherwise h same = record { answers = h.answers; refuses = λ n at. Iff.trans (h.refuses n at) (same n at); numbered = h.numbered }

pub writes_otherwise : {R S : (room number offset : ℕ) → Type 0} {writing : (old new : List ℕ) → WmAnswer → Type 0} → Writing R writing → ((room n at : ℕ) → R room n at ↔ S room n at) → Writing S writing
writes_otherwise h same = record { answers = λ old new a w. answers_otherwise (h.answers old new a w) (same (length old)); leaves = h.leaves; needs_room = h.needs_room }

-- bytes that begin where what was lent does
module _ {A B : Type 0} {judgement : List ℕ → Judged A} {grammar : Grammar B} {F : Faults} (r : Refuses 0 judgement grammar F) (p : List ℕ) (h : Bytes p) where
  pub faults : (n at : ℕ) → RefusedBy (judgement p) n at ↔ F p n at
  faults n at = (
    λ e. let (place, is, f) = (r.refused_exactly p h n at).0 e in let there : at ≡ place = omega (arith, is) in rw there f,
    λ f. (r.refused_exactly p h n at).1 (at, omega arith, f),
  )

-- and writing
module _ {A : Type 0} {judged : Judged A} {needed : A → ℕ} {room : ℕ} {F G : (number offset : ℕ) → Type 0} where
  from_short : ((n at : ℕ) → F n at → G n at) → {n at : ℕ} → RefusedOrShort F judged needed room n at → RefusedOrShort G judged needed room n at
  from_short same {n} {at} (by_aFault f) = by_aFault (same n at f)
  from_short same (too_short e short) = too_short e short

pub or_short : {A : Type 0} (judged : Judged A) (needed : A → ℕ) {F G : (number offset : ℕ) → Type 0} → ((n at : ℕ) → F n at ↔ G n at) → (room n at : ℕ) → RefusedOrShort F judged needed room n at ↔ RefusedOrShort G judged needed room n at
or_short judged needed same room n at = (from_short (λ n at. (same n at).0), from_short (λ n at. (same n at).1))

from_older : {F G : (number offset : ℕ) → Type 0} {p : List ℕ} {room : ℕ} → ((n at : ℕ) → F n at → G n at) → {n at : ℕ} → OlderRefused F p room n at → OlderRefused G p room n at
from_older same {n} {at} (older_fault f) = older_fault (same n at f)
from_older same (older_too_long e long) = older_too_long e long
from_older same (older_too_short e small short) = older_too_short e small short

pub older_or_short : {F G : (number offset : ℕ) → Type 0} (p : List ℕ) → ((n at : ℕ) → F n at ↔ G n at) → (room n at : ℕ) → OlderRefused F p room n at ↔ OlderRefused G p room n at
older_or_short p same room n at = (from_older (λ n at. (same n at).0), from_older (λ n at. (same n at).1))

-- through a module: a part of bytes is bytes
part_bytes : (n k : ℕ) (m : List ℕ) → Bytes m → Bytes (take n (drop k m))
part_bytes n k m h = bytes_before (take n (drop k m)) (drop n (drop k m)) (rw (take-append-drop n (drop k m)) (bytes_after (take k m) (drop k m) (rw (take-append-drop k m) h)))

-- wherever a payload begins
abbrev pub Faulted : {A : Type 0} → (ℕ → List ℕ → Judged A) → Faults → Type 0
Faulted judgement F = (at : ℕ) (p : List ℕ) → Bytes p → (n k : ℕ) → (judgement at p ≡ refused n k) ↔ ((place : ℕ) × (k ≡ at + place) × F p n place)

module _ {A : Type 0} {judgement : ℕ → List ℕ → Judged A} {F : Faults} (r : Faulted judgement F) (section m : List ℕ) (h : Bytes m) where
  from_through : {n at : ℕ} → JudgedThrough section judgement m n at → RefusedThrough section F m n at
  from_through {n} {at} (walk_refused e) = by_the_walk ((faults modules_refused m h n at).0 e)
  from_through {n} {at} (payload_refused c found k e) =
      let (place, is, f) = (r c.offset (take c.length (drop c.offset m)) (part_bytes c.length c.offset m h) n at).0 e in
      rw is (by_its_payload c found k f)

  to_through : {n at : ℕ} → RefusedThrough section F m n at → JudgedThrough section judgement m n at
  to_through {n} {at} (by_the_walk f) = walk_refused ((faults modules_refused m h n at).1 f)
  to_through {n} (by_its_payload {place = place} c found k f) =
      payload_refused c found k ((r c.offset (take c.length (drop c.offset m)) (part_bytes c.length c.offset m h) n (c.offset + place)).1 (place, refl, f))

  pub through_faults : (n at : ℕ) → JudgedThrough section judgement m n at ↔ RefusedThrough section F m n at
  through_faults n at = (from_through, to_through)

-- metadata of a format
as_hints : {format p : List ℕ} {n place : ℕ} → format ≡ branch_hint → FormatFault format p n place → MetadataFault BranchHint HintFault p n place
as_hints e (of_hints is f) = f
as_hints e (of_any_other other f) = absurd (other e)

as_any : {format p : List ℕ} {n place : ℕ} → format ≢ branch_hint → FormatFault format p n place → MetadataFault Unknown AnyItemFault p n place
as_any e (of_hints is f) = absurd (e is)
as_any e (of_any_other other f) = f

pub format_faults : (format : List ℕ) → Faulted (judge_metadata (item_of format)) (FormatFault format)
unfolding item_of
format_faults format at p h n k =
    by_test (same format branch_hint)
    (λ t.
    let is = same_true format branch_hint t in
    rw t (Iff.trans ((hints_refused at).refused_exactly p h n k) (λ f. (f.0, f.1, of_hints is f.2), λ f. (f.0, f.1, as_hints is f.2))))
    (λ t.
    let other : format ≢ branch_hint = λ e. false_true (sym t ∙ rw e (same_self branch_hint)) in
    rw t (Iff.trans ((metadata_refused at).refused_exactly p h n k) (λ f. (f.0, f.1, of_any_other other f.2), λ f. (f.0, f.1, as_any other f.2))))
