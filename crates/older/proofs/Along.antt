-- The way through a list that was accepted: all of it, and what is still to come. Nothing here is about what is done with it.
use Prim.Native.Nat.{ℕ, suc, ◌-◌, ◌≤◌, ◌<◌}
use mathlib.Core.List.{List, [], ◌∷◌}
use mathlib.Core.Path.{◌≡◌, refl, sym}
use native.Mathlib.Omega.{arith}
use Rattle.format.specs.Reading.{Reader}
use Rattle.format.specs.Older.{times}
use Rattle.reading.specs.Standing.{Stands, Known}
use Rattle.reading.specs.declared.Cursor.{Cursor}
use Rattle.reading.proofs.Standing.{Passable}
use Rattle.older.proofs.ReadAgain.{times_first, times_after, times_none}

-- a list's first, and those behind it
pub record Split {A : Type 0} (read : Reader A) (n : ℕ) (s : List ℕ) (c : Cursor) (vs : List A) (last : Cursor) : Type 0 where
  pub first : A
  pub next : Cursor
  pub more : List A
  pub one : Stands read s c first next
  pub others : Stands (times read n) s next more last
  pub is : vs ≡ first ∷ more

pub split : {A : Type 0} {read : Reader A} → Passable read → (n : ℕ) {s : List ℕ} {c : Cursor} {vs : List A} {last : Cursor} → Stands (times read (suc n)) s c vs last → Split read n s c vs last
split {read = read} passes n w =
    let known = times_first read passes (suc n) (omega arith) w in
    let after = times_after read (suc n) (omega arith) w known.stands in
    let less : suc n - 1 ≡ n = omega arith in
    record { first = known.value; next = known.next; more = after.more; one = known.stands; others = rw less at after.stands; is = sym after.is }

-- on the way, it is all of the list, and what is still to come
pub record Along {A : Type 0} (read : Reader A) (n : ℕ) (s : List ℕ) (c next : Cursor) (more : ℕ) : Type 0 where
  pub all : List A
  pub to_come_lem : List A
  pub last : Cursor
  pub whole : Stands (times read n) s c all last
  pub rest : Stands (times read more) s next to_come_lem last

module _ {A : Type 0} {read : Reader A} {n : ℕ} {s : List ℕ} {c : Cursor} where
  abbrev pub setting_out : {vs : List A} {last : Cursor} → Stands (times read n) s c vs last → Along read n s c c n
  setting_out {vs} {last} w = record { all = vs; to_come_lem = vs; last = last; whole = w; rest = w }

  module _ {next : Cursor} {more : ℕ} (a : Along read n s c next more) where
    pub first_known : Passable read → 0 < more → Known read s next
    first_known passes h = times_first read passes more h a.rest

    -- at the end nothing is to come
    pub record Ended : Type 0 where
      pub nothing : a.to_come_lem ≡ []
      pub stands : Stands (times read n) s c a.all next

    pub ended : more ≤ 0 → Ended
    ended h = let end = times_none read more h a.rest in record { nothing = sym end.0; stands = rw end.1 a.whole }

    -- before it, behind the next it goes on
    pub record Onward (v : A) (behind : Cursor) : Type 0 where
      pub along : Along read n s c behind (more - 1)
      pub same_all : along.all ≡ a.all
      pub split : a.to_come_lem ≡ v ∷ along.to_come_lem

    pub onward : {v : A} {behind : Cursor} → 0 < more → Stands read s next v behind → Onward v behind
    onward h one =
        let after = times_after read more h a.rest one in
        record {
          along = record { all = a.all; to_come_lem = after.more; last = a.last; whole = a.whole; rest = after.stands };
          same_all = refl;
          split = sym after.is;
        }
