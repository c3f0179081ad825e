-- Rules R16.4 to R16.10, R16.13 to R16.18 and R16.22 of docs/RULES.md.
-- What each call leaves of ANY table and store, its refusals in the order of R16.13.
use Rattle.std.specs.Prelude.{ℕ, zero, suc, ◌+◌, ◌-◌, ◌*◌, Bool, cond, List, [], map, ltb, leb, eqb, length, get_or, set, drop}
use Rattle.std.proofs.Math.Option.{Option, none, some}
use Rattle.sharing.specs.Blocks.{need, scatter, gather, are_all_right, join}
use Rattle.format.specs.Refusals.{number_of}
use Rattle.format.specs.declared.Reason.TheVariants.{NoCustomer, NotOpen, NoRoom, Damaged, NotTheStore}
use Rattle.format.specs.Reading.{Judged, refused, accepted}
use Rattle.sharing.specs.Model.{Payloads, Call, opening, asking, closing, tidying, Answer, refusal, granted, closed, tidied, over, desk, first_true, Front, stop, go, front, reply}
use Rattle.sharing.specs.Table.{Mark, mark, blank, Table, table, fits, blocks, rows_right, find, taken, first_run, paste}
use Rattle.sharing.specs.Tidy.{packed_blocks, tidied_table}

pub record After : Type 0 where
  pub table : Table
  pub store : List ℕ
  pub answer : Answer

abbrev pub leaves : Table → List ℕ → Answer → After
leaves t s a = record { table = t; store = s; answer = a }

unfoldable pub unused : ℕ → Bool
unused x = eqb x 0

-- one user more; 255 stays, which no table that stands for a model has
unfoldable pub joined : Mark → Mark
joined m = mark (cond (ltb m.users 255) (suc m.users) m.users) m.size

-- one user less; with none the block is free
unfoldable pub released : Mark → Mark
released m = cond (leb m.users 1) blank (mark (m.users - 1) m.size)

module _ (t : Table) (s : List ℕ) (c : ℕ) where
  -- the hold leads to the row at this block, the mark there becomes this
  unfoldable pub leading : (hold at : ℕ) → Mark → Table
  leading h b m = table t.bytes (set t.holds (c * 8 + h) (suc b)) (set t.marks b m)

  unfoldable pub newly : (q work : List ℕ) (hold : ℕ) → Option ℕ → After
  newly q work h none = leaves t s (refusal (number_of NoRoom) 0 (over q work))
  newly q work h (some b) = leaves (leading h b (mark 1 (length q))) (join (paste b (scatter q) (blocks s))) (granted h (over q work))

  unfoldable pub placed : (q work : List ℕ) (hold : ℕ) → Option ℕ → After
  placed q work h none = newly q work h (first_run (need (length q)) (taken 0 t.marks (blocks s)))
  placed q work h (some b) = leaves (leading h b (joined (get_or t.marks b blank))) s (granted h (over q work))

  unfoldable pub opened_in : (work : List ℕ) → Front → After
  opened_in work (stop n at) = leaves t s (refusal n at work)
  opened_in work (go q h) = cond (rows_right t.marks (blocks s)) (placed q work h (find q t.marks (blocks s))) (leaves t s (refusal (number_of Damaged) 0 (over q work)))

  -- 27 where the payload is no longer accepted
  unfoldable pub judged : Payloads → Judged (List ℕ) → List ℕ → ℕ → List ℕ → Answer
  judged P (refused n at) p index out = refusal (number_of Damaged) 0 out
  judged P (accepted q) p index out = reply P p index out

  unfoldable pub asked_at : Payloads → (hold index : ℕ) → List ℕ → Answer
  asked_at P zero index out = refusal (number_of NotOpen) 0 out
  asked_at P (suc b) index out = cond (are_all_right (need (get_or t.marks b blank).size) (drop b (blocks s)))
      (judged P (P.canonical (gather (get_or t.marks b blank).size (drop b (blocks s)))) (gather (get_or t.marks b blank).size (drop b (blocks s))) index out)
      (refusal (number_of Damaged) 0 out)

  unfoldable pub closed_at : (hold entry : ℕ) → After
  closed_at h zero = leaves t s (refusal (number_of NotOpen) 0 [])
  closed_at h (suc b) = leaves (table t.bytes (set t.holds (c * 8 + h) 0) (set t.marks b (released (get_or t.marks b blank)))) s closed

-- K13
unfoldable pub tidy : Table → List ℕ → After
tidy t s = cond (rows_right t.marks (blocks s))
    (leaves (tidied_table t (taken 0 t.marks (blocks s))) (join (packed_blocks (taken 0 t.marks (blocks s)) (blocks s))) tidied)
    (leaves t s (refusal (number_of Damaged) 0 []))

unfoldable pub fitting : Payloads → Table → List ℕ → Call → After
fitting P t s (opening c payload work) = opened_in t s c work (front P c (first_true (map unused (desk c t.holds))) payload work)
fitting P t s (asking c hold index out) = leaves t s (cond (ltb c 16) (asked_at t s c P (get_or (desk c t.holds) hold 0) index out) (refusal (number_of NoCustomer) 0 out))
fitting P t s (closing c hold) = cond (ltb c 16) (closed_at t s c hold (get_or (desk c t.holds) hold 0)) (leaves t s (refusal (number_of NoCustomer) 0 []))
fitting P t s tidying = tidy t s

unfoldable pub lent : Call → List ℕ
lent (opening c payload work) = work
lent (asking c hold index out) = out
lent (closing c hold) = []
lent tidying = []

unfoldable pub step : Payloads → Table → List ℕ → Call → After
step P t s call = cond (fits t s) (fitting P t s call) (leaves t s (refusal (number_of NotTheStore) 0 (lent call)))
