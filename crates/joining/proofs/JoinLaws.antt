-- The two payloads: each judged whole, then joined.
use Rattle.format.specs.declared.JoinRefusal.TheVariants.{Payload}
use Rattle.std.specs.Prelude.{Ok, Err}
use Prim.Native.Nat.{ℕ, ◌+◌, ◌-◌, ◌<◌}
use mathlib.Core.Bool.{Bool, true, false}
use mathlib.Core.List.{List}
use mathlib.Core.Path.{◌≡◌, refl}
use native.Mathlib.Omega.{arith}
use borrow.Author.Rules.{rules}
use borrow.Author.Tests.{leb-true}
use lib.Dec.{leb}
use lib.ListN.{length}
use Rattle.format.specs.Joined.{joined_contents, write_joined, join_names, JoinWrites}
use Rattle.format.specs.Numbers.{limit32}
use Rattle.format.proofs.Laws.Joined.{contents_length}
use Rattle.format.proofs.Laws.JoiningAll.{short_fits}
use Rattle.format.specs.Names.{Kind, Content, payload, judge_names}
use Rattle.format.specs.Parts.{Part}
use Rattle.format.specs.Reading.{accepted, verdict, Accepted as IsAccepted}
use Rattle.format.specs.Tables.{Table}
use Rattle.format.specs.Verdicts.{verdict_of}
use Rattle.format.specs.Laws.Outcomes.{judged}
use Rattle.format.specs.Laws.PairAnswers.{join_refused}
use Rattle.format.specs.Laws.Pairs.{separate_exactly, own_exactly}
use Rattle.format.specs.Returned.{JoinWritten}
use Rattle.format.specs.declared.Refusal.{Refusal}
use Rattle.format.specs.Returned.{Verdict}
use Rattle.format.specs.declared.Whose.TheVariants.{Separate, Own}
use Rattle.format.proofs.Tags.{judged_refused, judged_accepted}
use Rattle.reading.specs.Cursors.{over_all}
use Rattle.reading.specs.declared.Cursor.{Cursor}
use Rattle.reading.proofs.Laws.{left_all, over_inside}
use Rattle.writing.proofs.Laws.{wrote_length}
use Rattle.joining.specs.Roomy.{Roomy}
use Rattle.rewrite.specs.Subsections.{PayloadStands}
use Rattle.joining.specs.Subsections.{Payloads, FitsJoined, PutsJoined, Joins}
use Rattle.joining.proofs.SubsectionPuts.{both_put}

-- one of them, accepted
module _ (kind_of : ℕ → Kind) (s : List ℕ) where
  stands_whole : (a : IsAccepted (judge_names kind_of 0) s) → PayloadStands kind_of s (over_all s) a.value
  unfolding judge_names
  stands_whole a = judged (payload kind_of 0 s) a.judged λ o rest e. record { inside = over_inside refl; next = o; rest = rest; reads = rw (left_all s) e }

  whole_judged : {c : Cursor} {t : _} → c ≡ over_all s → PayloadStands kind_of s c t → judge_names kind_of 0 s ≡ accepted t
  unfolding judge_names
  whole_judged over w = rw (rw (over, left_all s) at w.reads)

-- the separate one
pub separate_refused : (kind_of : ℕ → Kind) (s o : List ℕ) (v : Verdict) → verdict_of v ≡ verdict (judge_names kind_of 0 s) → {old : List ℕ} {r : Refusal} → v ≡ Err r → JoinWrites (join_names kind_of s o) old old (Err (Payload Separate r))
unfolding join_names
separate_refused kind_of s o v says h = join_refused ((separate_exactly write_joined (judge_names kind_of 0 s) (judge_names kind_of 0 o)).1 (judged_refused v (judge_names kind_of 0 s) says h))

pub is_accepted : (kind_of : ℕ → Kind) (s : List ℕ) (v : Verdict) → verdict_of v ≡ verdict (judge_names kind_of 0 s) → v ≡ Ok tt → IsAccepted (judge_names kind_of 0) s
is_accepted kind_of s v says h = let (t, e) = judged_accepted v (judge_names kind_of 0 s) says h in record { value = t; judged = e }

pub ruleset joins = (separate_refused, is_accepted, wrote_length, rules)

-- then the own one
pub own_refused : (kind_of : ℕ → Kind) (s o : List ℕ) (v : Verdict) → IsAccepted (judge_names kind_of 0) s → verdict_of v ≡ verdict (judge_names kind_of 0 o) → {old : List ℕ} {r : Refusal} → v ≡ Err r → JoinWrites (join_names kind_of s o) old old (Err (Payload Own r))
unfolding join_names
own_refused kind_of s o v a says h = join_refused ((own_exactly write_joined (judge_names kind_of 0 s) (judge_names kind_of 0 o)).1 ((a.value, a.judged), judged_refused v (judge_names kind_of 0 o) says h))

-- both of them
pub record Whole (kind_of : ℕ → Kind) (s : List ℕ) (c : Cursor) : Type 0 where
  pub value : Table (Content Part)
  pub stands : PayloadStands kind_of s c value

pub whole_known : {kind_of : ℕ → Kind} {s : List ℕ} {c : Cursor} → IsAccepted (judge_names kind_of 0) s → c ≡ over_all s → Whole kind_of s c
whole_known {kind_of} {s} a over = rw over (record { value = a.value; stands = stands_whole kind_of s a })

pub both_known : {kind_of : ℕ → Kind} {s : List ℕ} {c : Cursor} {o : List ℕ} {d : Cursor} → Whole kind_of s c → Whole kind_of o d → Payloads kind_of s c o d
both_known a b = record { ours = a.value; theirs = b.value; first_stands = a.stands; second_stands = b.stands }

pub both_joined : {kind_of : ℕ → Kind} {s o : List ℕ} {c d : Cursor} → c ≡ over_all s → d ≡ over_all o → {old new : List ℕ} {r : JoinWritten} → Joins kind_of s c o d old new r → JoinWrites (join_names kind_of s o) old new r
unfolding join_names
both_joined {kind_of} {s} {o} over over' j =
    let e = whole_judged kind_of s over j.both.first_stands in
    let e' = whole_judged kind_of o over' j.both.second_stands in
    rw (e, e') j.writes

-- an output that is long enough anyhow
module _ {first second room : ℕ} where
  pub not_roomy : Roomy first second room false
  not_roomy = record { enough = λ e. absurd (let z : ◌≡◌ {A = ℕ} 0 1 = cc in omega arith) }

  pub roomy_if : first < limit32 → second < limit32 - first → Roomy first second room (leb (first + second) room)
  roomy_if g h = record { enough = λ e. record { small = omega (arith, g, h); room_for_both = leb-true (first + second) room e } }

pub ruleset rooms = (not_roomy, roomy_if, rules)

module _ {kind_of : ℕ → Kind} {s o : List ℕ} {c d : Cursor} (a : IsAccepted (judge_names kind_of 0) s) (b : IsAccepted (judge_names kind_of 0) o) (over : c ≡ over_all s) (over' : d ≡ over_all o) where
  pub roomy_fits : {out : List ℕ} {r : Bool} → Roomy (length s) (length o) (length out) r → r ≡ true → FitsJoined kind_of s c o d out
  roomy_fits w e =
      let h = w.enough e in
      let short = contents_length kind_of a b in
      record {
        both = record { ours = a.value; theirs = b.value; first_stands = rw over (stands_whole kind_of s a); second_stands = rw over' (stands_whole kind_of o b) };
        fit = short_fits (joined_contents a.value b.value) (omega (arith, short, h.small));
        room = omega (arith, short, h.room_for_both);
      }

pub roomy_put : {kind_of : ℕ → Kind} {s o : List ℕ} {c d : Cursor} → c ≡ over_all s → d ≡ over_all o → {old new : List ℕ} {end : ℕ} → PutsJoined kind_of s c o d old new end → JoinWrites (join_names kind_of s o) old new (Ok end)
roomy_put over over' p = both_joined over over' (both_put p)

pub ruleset joins_beside = (roomy_fits, roomy_put, own_refused, is_accepted, whole_known, both_known, both_joined, wrote_length, rules)
