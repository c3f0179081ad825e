-- Demand 3, said of what calls leave in their outputs, over any judgement and its rewriting. A call has kept its promise to write `rewriting p`; `take n new` is what it wrote.
use Rattle.std.specs.Prelude.{ℕ, ◌≤◌, List, ◌++◌, ◌↔◌, ◌≡◌, refl, leb, length, take, drop, Ok, Err}
use Rattle.std.proofs.Math.Logic.Iff
use Rattle.std.proofs.Common.{sym, ap, ◌∙◌, arith, take_at, drop_at}
use Rattle.format.specs.Bytes.{Bytes}
use Rattle.format.specs.Reading.{Judged, accepted, Accepted}
use Rattle.format.specs.Outputs.{fitting, write_answer, output_after, Writes}
use Rattle.format.proofs.Theorems.{Rewrites}
use Rattle.format.specs.Laws.Outcomes.{not_accepted, accepted_is, by_test, mapped, followed, refused_exactly}
use Rattle.format.specs.Laws.Outputs.{writes_all, writes_same}
use Rattle.format.specs.declared.Refusal.{Refusal}
use Rattle.format.specs.Returned.{Written}

module _ {A Q R : Type 0} (judgement : List ℕ → Judged A) (rewriting : List ℕ → Judged (List ℕ)) (answer : Q → List ℕ → R) where
  -- "A rewriting is accepted, answers as its original, is never longer, and rewriting it again changes nothing."
  pub record LeavesCanonical (p new : List ℕ) (n : ℕ) : Type 0 where
    pub is_accepted : Accepted judgement (take n new)
    pub answers_alike : (q : Q) → answer q (take n new) ≡ answer q p
    pub never_longer : n ≤ length p
    pub comes_to_rest : {old' new' : List ℕ} {r : Written} → n ≤ length old' → Writes (rewriting (take n new)) old' new' r → (r ≡ Ok n) × (take n new' ≡ take n new)

  pub record CallsRewrite (Allows : Q → Type 0) : Type 0 where
    -- "Canonical rewritings of two accepted payloads are equal byte by byte exactly when every allowed question gets the same answer from both."
    pub same_exactly : {x y old new old' new' : List ℕ} {n m : ℕ} → Bytes x → Bytes y → Accepted judgement x → Accepted judgement y → Writes (rewriting x) old new (Ok n) → Writes (rewriting y) old' new' (Ok m) → (take n new ≡ take m new') ↔ ((q : Q) → Allows q → answer q x ≡ answer q y)
    pub leaves_canonical : {p old new : List ℕ} {n : ℕ} → Accepted judgement p → Writes (rewriting p) old new (Ok n) → LeavesCanonical p new n
    -- an output as long as the payload is always enough
    pub room_enough : {p old new : List ℕ} {r : Written} → Accepted judgement p → length p ≤ length old → Writes (rewriting p) old new r → (n : ℕ) × (r ≡ Ok n) × (n ≤ length p)

-- THE PROOFS

-- a write that was answered with a length
record Answered (wanted : Judged (List ℕ)) (old new : List ℕ) (n : ℕ) : Type 0 where
  bytes : List ℕ
  wants : wanted ≡ accepted bytes
  long : length bytes ≡ n
  front : take n new ≡ bytes
  others : drop n new ≡ drop n old

answered_so : {wanted : Judged (List ℕ)} {old new : List ℕ} {n : ℕ} → Writes wanted old new (Ok n) → Answered wanted old new n
unfolding fitting write_answer output_after
answered_so {wanted} {old} {new} {n} w =
    mapped length (fitting (length old) wanted) (sym w.says) λ bytes fits long.
    followed wanted _ fits λ wants is tested.
    by_test (leb (length wants) (length old))
    (λ t.
    let same : wants ≡ bytes = accepted_is (rw t at tested) in
    let there : new ≡ bytes ++ drop n old = w.leaves ∙ rw (fits, long) in
    record {
      bytes = bytes;
      wants = is ∙ ap accepted same;
      long = long;
      front = ap (take n) there ∙ take_at bytes (drop n old) n long;
      others = ap (drop n) there ∙ drop_at bytes (drop n old) n long;
    })
    (λ t. absurd (not_accepted (rw t at tested)))

-- After a write the output's other bytes are unchanged.
pub others_unchanged : {wanted : Judged (List ℕ)} {old new : List ℕ} {n : ℕ} → Writes wanted old new (Ok n) → drop n new ≡ drop n old
others_unchanged w = (answered_so w).others

-- After a refusal the whole output is unchanged.
pub refused_unchanged : {wanted : Judged (List ℕ)} {old new : List ℕ} {r : Refusal} → Writes wanted old new (Err r) → new ≡ old
unfolding write_answer output_after
refused_unchanged {wanted} {old} w = w.leaves ∙ rw ((refused_exactly length (fitting (length old) wanted)).0 (sym w.says))

module _ {A Q R : Type 0} {judgement : List ℕ → Judged A} {rewriting : List ℕ → Judged (List ℕ)} {answer : Q → List ℕ → R} {Allows : Q → Type 0} (rewrites : Rewrites judgement rewriting answer Allows) where
  equal_written : {x y old new old' new' : List ℕ} {n m : ℕ} → Writes (rewriting x) old new (Ok n) → Writes (rewriting y) old' new' (Ok m) → (take n new ≡ take m new') ↔ (rewriting x ≡ rewriting y)
  equal_written v w =
      let a = answered_so v in
      let b = answered_so w in
      (λ e. a.wants ∙ ap accepted (sym a.front ∙ e ∙ b.front) ∙ sym b.wants, λ e. a.front ∙ accepted_is (sym a.wants ∙ e ∙ b.wants) ∙ sym b.front)

  written_canonical : {p old new : List ℕ} {n : ℕ} → Accepted judgement p → Writes (rewriting p) old new (Ok n) → LeavesCanonical judgement rewriting answer p new n
  written_canonical {new = new} {n = n} accepts w =
      let a = answered_so w in
      let is = rewrites.rewritten accepts a.bytes a.wants in
      record {
        is_accepted = rw a.front is.is_accepted;
        answers_alike = λ q. rw a.front (is.answers_alike q);
        never_longer = rw (← a.long) is.never_longer;
        comes_to_rest = λ {old'} room again.
            let stays : rewriting (take n new) ≡ accepted a.bytes = rw a.front is.comes_to_rest in
            let same = writes_same again (writes_all stays (rw a.long room) refl) in
            (same.0 ∙ ap Ok a.long, ap (take n) same.1 ∙ take_at a.bytes (drop (length a.bytes) old') n a.long ∙ sym a.front);
      }

  pub calls_rewrite : CallsRewrite judgement rewriting answer Allows
  calls_rewrite = record {
    same_exactly = λ bx by a b v w. Iff.trans (equal_written v w) (rewrites.same_exactly bx by a b);
    leaves_canonical = λ a w. written_canonical a w;
    room_enough = λ a room w.
        let (bytes, is) = rewrites.accepts a in
        let short = (rewrites.rewritten a bytes is).never_longer in
        (length bytes, (writes_same w (writes_all is (omega (arith, short, room)) refl)).0, short);
  }
