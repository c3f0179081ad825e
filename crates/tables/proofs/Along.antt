-- The way through rows that were accepted: all of them, and those that are still to come. Nothing here is about what is done with them.
use Prim.Native.Nat.{ℕ, zero, suc, ◌-◌}
use mathlib.Core.List.{List}
use mathlib.Core.Path.{◌≡◌, refl}
use native.Mathlib.Omega.{arith}
use Rattle.format.specs.Reading.{Reader}
use Rattle.format.specs.Numbers.{number}
use Rattle.format.specs.Tables.{Table, nil, row, rows}
use Rattle.reading.specs.Standing.{Stands, Known}
use Rattle.reading.specs.declared.Cursor.{Cursor}
use Rattle.reading.proofs.Standing.{Passable, one_value, one_end}
use Rattle.tables.specs.Stepping.{behind_at, Splits}
use Rattle.tables.specs.declared.stepping.Rows.{Rows}
use Rattle.tables.proofs.Accepted.{known_index, known_value, rows_after, no_rows_lem, no_way, from_any}

-- A step: where rows are to come, one stands there, and it splits them
module _ {A : Type 0} (read : Reader A) {s : List ℕ} {t : Table A} {next last : Cursor} where
  index_there : (more : ℕ) → Stands (rows read more 0) s next t last → (more ≡ 0 → ⊥) → Known number s next
  index_there zero w h = absurd (h refl)
  index_there (suc more) w h = known_index read more 0 w

  module _ {k : ℕ} {d : Cursor} (i : Stands number s next k d) where
    value_there : Passable read → (more : ℕ) → Stands (rows read more 0) s next t last → (more ≡ 0 → ⊥) → Known read s d
    value_there p zero w h = absurd (h refl)
    value_there p (suc more) w h = known_value read more 0 w i p

    split_there : {v : A} {behind : Cursor} (more : ℕ) → Stands (rows read more 0) s next t last → (more ≡ 0 → ⊥) → Stands read s d v behind → Splits read s (record { next = next; more = more }) k d v behind
    split_there zero w h value = absurd (h refl)
    split_there (suc more) w h value =
        let after = rows_after read more 0 w i value in
        let less : suc more - 1 ≡ more = omega arith in
        record { others = after.more; last = last; to_come_lem = rw after.is w; others_come = rw less after.stands; index = i; value = value; some_left = omega arith }

module _ {A : Type 0} (read : Reader A) {s : List ℕ} (left : Rows) (w : Known (rows read left.more 0) s left.next) (h : left.more ≡ 0 → ⊥) where
  pub index_known : Known number s left.next
  index_known = index_there read left.more w.stands h

  module _ {k : ℕ} {d : Cursor} (i : Stands number s left.next k d) where
    pub value_known : Passable read → Known read s d
    value_known p = value_there read i p left.more w.stands h

    pub splits : {v : A} {behind : Cursor} → Stands read s d v behind → Splits read s left k d v behind
    splits value = split_there read i left.more w.stands h value

-- All of the rows that were set out with, and those to come
pub record Along {A : Type 0} (read : Reader A) (s : List ℕ) (begun left : Rows) : Type 0 where
  pub all : Table A
  pub to_come_lem : Table A
  pub last : Cursor
  pub whole : Stands (rows read begun.more 0) s begun.next all last
  pub rest : Stands (rows read left.more 0) s left.next to_come_lem last

module _ {A : Type 0} {read : Reader A} {s : List ℕ} {begun : Rows} where
  abbrev pub setting_out : {t : Table A} {last : Cursor} → Stands (rows read begun.more 0) s begun.next t last → Along read s begun begun
  setting_out {t} {last} w = record { all = t; to_come_lem = t; last = last; whole = w; rest = w }

  module _ {left : Rows} (a : Along read s begun left) where
    pub still_known : Known (rows read left.more 0) s left.next
    still_known = record { value = a.to_come_lem; next = a.last; stands = a.rest }

    -- at the end nothing is to come
    pub record Ended : Type 0 where
      pub nothing : a.to_come_lem ≡ nil
      pub stands : Stands (rows read begun.more 0) s begun.next a.all left.next

    pub ended : left.more ≡ 0 → Ended
    ended h =
        let none : Stands (rows read 0 0) s left.next a.to_come_lem a.last = rw h at a.rest in
        record { nothing = no_rows_lem read 0 none; stands = rw (← no_way read 0 none) at a.whole }

    -- before it, behind a row it goes on
    pub record Onward (k : ℕ) (v : A) (behind : Rows) : Type 0 where
      pub along : Along read s begun behind
      pub same_all : along.all ≡ a.all
      pub split : a.to_come_lem ≡ row k v along.to_come_lem

    pub onward : {k : ℕ} {place : Cursor} {v : A} {next : Cursor} → Splits read s left k place v next → Onward k v (behind_at left next)
    onward p =
        let same_last = one_end p.to_come_lem a.rest in
        record {
          along = record { all = a.all; to_come_lem = p.others; last = a.last; whole = a.whole; rest = rw same_last at (from_any read _ _ p.others_come) };
          same_all = refl;
          split = one_value a.rest p.to_come_lem;
        }
