-- The name payload: judged whole, then rewritten.
use Rattle.std.specs.Prelude.{Err, Ok}
use Prim.Native.Nat.{ℕ}
use mathlib.Core.List.{List}
use mathlib.Core.Path.{◌≡◌, refl}
use borrow.Author.Rules.{rules}
use Rattle.format.specs.Reading.{accepted, verdict, Accepted as IsAccepted}
use Rattle.format.specs.Names.{Kind as AnyKind, payload, judge_names}
use Rattle.format.specs.Canonical.{rewrite_names, canonical_names}
use Rattle.format.specs.Outputs.{Writes}
use Rattle.format.specs.Laws.Outcomes.{judged, refused_exactly}
use Rattle.format.specs.Laws.Outputs.{writes_refused}
use Rattle.format.specs.declared.Refusal.{Refusal}
use Rattle.format.specs.Returned.{Written}
use Rattle.reading.specs.declared.Cursor.{Cursor}
use Rattle.reading.proofs.Laws.{left_all, over_inside}
use Rattle.reading.specs.Cursors.{over_all}
use Rattle.format.specs.Verdicts.{verdict_of}
use Rattle.format.specs.Returned.{Verdict}
use Rattle.format.proofs.Tags.{judged_refused, judged_accepted}
use Rattle.rewrite.specs.Subsections.{PayloadStands, KnownPayload, RewritesNames}

module _ (kind_of : ℕ → AnyKind) (p : List ℕ) (v : Verdict) (says : verdict_of v ≡ verdict (judge_names kind_of 0 p)) where
  pub names_refused : {old : List ℕ} {r : Refusal} → v ≡ Err r → Writes (canonical_names kind_of p) old old (Err r)
  unfolding canonical_names
  names_refused e = writes_refused ((refused_exactly rewrite_names (judge_names kind_of 0 p)).1 (judged_refused v (judge_names kind_of 0 p) says e))

  module _ (h : v ≡ Ok tt) where
    accepts : IsAccepted (judge_names kind_of 0) p
    accepts = let (t, e) = judged_accepted v (judge_names kind_of 0 p) says h in record { value = t; judged = e }

    stands_whole : PayloadStands kind_of p (over_all p) accepts.value
    unfolding judge_names
    stands_whole =
        judged (payload kind_of 0 p) accepts.judged λ o rest e.
        record {
          inside = over_inside refl;
          next = o;
          rest = rest;
          reads = rw (left_all p) e;
        }

    pub names_known : {c : Cursor} → c ≡ over_all p → KnownPayload kind_of p c
    names_known over = rw over (record { value = accepts.value; stands = stands_whole })

    pub names_rewritten : {c : Cursor} → c ≡ over_all p → {old new : List ℕ} {r : Written} → RewritesNames kind_of p c old new r → Writes (canonical_names kind_of p) old new r
    unfolding canonical_names judge_names
    names_rewritten over w =
        let e : judge_names kind_of 0 p ≡ accepted w.value = rw (rw (over, left_all p) at w.stands.reads) in
        rw e w.writes

pub ruleset names_steps = (names_refused, names_known, names_rewritten, rules)
