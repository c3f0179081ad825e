-- What a C call that writes has left in its output: the bytes wanted and then the old ones after a write, the old ones alone after a refusal.
use Rattle.std.specs.Prelude.{ℕ, ◌≤◌, ◌<◌, List, ◌++◌, ◌≡◌, refl, leb, take}
use Rattle.std.proofs.Common.{sym, ◌∙◌, arith, take_at, drop_at}
use Rattle.std.proofs.Math.Path.{ap}
use borrow.Author.Tests.{leb-true, le-leb, lt-leb}
use Rattle.std.proofs.Math.ListN.{length, drop, length-append, length-drop}
use Rattle.format.specs.Laws.Outcomes.{accepted_is, by_test}
use Rattle.format.specs.Outputs.{fitting, write_answer, output_after}
use Rattle.format.specs.Reading.{Judged, accepted, refused}
use Rattle.wakemiono.specs.Boundary.{wm_found, wm_refused, WmWrites}
use Rattle.wakemiono.specs.declared.WmAnswer.{WmAnswer}
use Rattle.promises.specs.Demands.{Leaves}

pub record Wrote (wanted : Judged (List ℕ)) (old new : List ℕ) (a : WmAnswer) : Type 0 where
  pub bytes : List ℕ
  pub wants : wanted ≡ accepted bytes
  pub is : a ≡ wm_found 0 0 (length bytes)
  pub room : length bytes ≤ length old
  pub leaves : new ≡ bytes ++ drop (length bytes) old

kind_of : {a b : WmAnswer} → a ≡ b → a.kind ≡ b.kind
kind_of e = ap (λ (a : WmAnswer). a.kind) e

module _ {old new : List ℕ} {a : WmAnswer} where
  pub wrote : (wanted : Judged (List ℕ)) → WmWrites wanted old new a → a.kind ≡ 1 → Wrote wanted old new a
  unfolding fitting write_answer output_after
  wrote (accepted bytes) w k =
      by_test (leb (length bytes) (length old))
      (λ t. record { bytes = bytes; wants = refl; is = w.says ∙ rw t; room = leb-true (length bytes) (length old) t; leaves = w.leaves ∙ rw t })
      (λ t. let is : a ≡ wm_refused 13 (length bytes) = w.says ∙ rw t in absurd (omega (arith, k, kind_of is)))
  wrote (refused n at) w k = absurd (omega (arith, k, kind_of w.says))

  pub wrote_nothing : (wanted : Judged (List ℕ)) → WmWrites wanted old new a → a.kind ≡ 2 → new ≡ old
  unfolding fitting write_answer output_after
  wrote_nothing (accepted bytes) w k =
      by_test (leb (length bytes) (length old))
      (λ t. let is : a ≡ wm_found 0 0 (length bytes) = w.says ∙ rw t in absurd (omega (arith, k, kind_of is)))
      (λ t. w.leaves ∙ rw t)
  wrote_nothing (refused n at) w k = w.leaves

  pub wrote_there : (bytes : List ℕ) → length bytes ≤ length old → WmWrites (accepted bytes) old new a → Wrote (accepted bytes) old new a
  unfolding fitting write_answer output_after
  wrote_there bytes room w = let t = le-leb (length bytes) (length old) room in record { bytes = bytes; wants = refl; is = w.says ∙ rw t; room = room; leaves = w.leaves ∙ rw t }

  module _ {wanted : Judged (List ℕ)} (w : Wrote wanted old new a) where
    pub wrote_long : a.length ≡ length w.bytes
    wrote_long = ap (λ (a : WmAnswer). a.length) w.is

    -- what was written stands first
    pub wrote_first : take a.length new ≡ w.bytes
    wrote_first = rw w.leaves (take_at w.bytes (drop (length w.bytes) old) a.length (sym wrote_long))

    -- and the other bytes are as they were
    pub wrote_others : drop a.length new ≡ drop a.length old
    wrote_others = rw w.leaves (drop_at w.bytes (drop (length w.bytes) old) a.length (sym wrote_long) ∙ rw wrote_long)

-- whatever was answered, what was written lies inside, and the output is as long as before
module _ {old new : List ℕ} {a : WmAnswer} where
  pub wrote_room : (wanted : Judged (List ℕ)) → WmWrites wanted old new a → a.length ≤ length old
  unfolding fitting write_answer output_after
  wrote_room (accepted bytes) w =
      by_test (leb (length bytes) (length old))
      (λ t. let is : a ≡ wm_found 0 0 (length bytes) = w.says ∙ rw t in rw is (leb-true (length bytes) (length old) t))
      (λ t. let is : a ≡ wm_refused 13 (length bytes) = w.says ∙ rw t in rw is (omega arith))
  wrote_room (refused n at) w = rw w.says (omega arith)

  pub wrote_as_long : (wanted : Judged (List ℕ)) → WmWrites wanted old new a → length new ≡ length old
  unfolding fitting write_answer output_after
  wrote_as_long (accepted bytes) w =
      by_test (leb (length bytes) (length old))
      (λ t.
      let is : new ≡ bytes ++ drop (length bytes) old = w.leaves ∙ rw t in
      rw is (omega (arith, length-append bytes (drop (length bytes) old), length-drop (length bytes) old, leb-true (length bytes) (length old) t)))
      (λ t. let is : new ≡ old = w.leaves ∙ rw t in ap length is)
  wrote_as_long (refused n at) w = ap length w.leaves

pub wrote_leaves : (wanted : Judged (List ℕ)) (old new : List ℕ) (a : WmAnswer) → WmWrites wanted old new a → Leaves old new a
wrote_leaves wanted old new a w = record {
  refused_unchanged = wrote_nothing wanted w;
  others_unchanged = λ k. wrote_others (wrote wanted w k);
  inside = wrote_room wanted w;
  as_long = wrote_as_long wanted w;
}

-- a refusal of what is wanted is answered as it is
pub wrote_refused : {wanted : Judged (List ℕ)} {old new : List ℕ} {a : WmAnswer} {n at : ℕ} → WmWrites wanted old new a → wanted ≡ refused n at → a ≡ wm_refused n at
unfolding fitting write_answer
wrote_refused w e = w.says ∙ rw e

pub short_there : {old new : List ℕ} {a : WmAnswer} (bytes : List ℕ) → length old < length bytes → WmWrites (accepted bytes) old new a → a ≡ wm_refused 13 (length bytes)
unfolding fitting write_answer
short_there {old} bytes short w = w.says ∙ rw (lt-leb (length bytes) (length old) short)

-- Of what one output took, another that is shorter is refused by 13, with the length that is needed; and any other takes the same
module _ {wanted : Judged (List ℕ)} {old new old' new' : List ℕ} {a b : WmAnswer} (v : WmWrites wanted old new a) (w : WmWrites wanted old' new' b) (k : a.kind ≡ 1) where
  pub wrote_short : length old' < a.length → b ≡ wm_refused 13 a.length
  wrote_short short =
      let one = wrote wanted v k in
      short_there one.bytes (rw (← wrote_long one) short) (rw one.wants at w) ∙ ap (wm_refused 13) (sym (wrote_long one))

  pub wrote_again : a.length ≤ length old' → (b ≡ a) × (take a.length new' ≡ take a.length new)
  wrote_again room =
      let one = wrote wanted v k in
      let two = wrote_there one.bytes (rw (← wrote_long one) room) (rw one.wants at w) in
      let same = sym (accepted_is two.wants) in
      let is = two.is ∙ ap (λ bs. wm_found 0 0 (length bs)) same ∙ sym one.is in
      (is, ap (λ (c : WmAnswer). take c.length new') (sym is) ∙ wrote_first two ∙ same ∙ sym (wrote_first one))
