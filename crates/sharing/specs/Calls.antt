-- What the calls hand back says, with the lent buffer after the call; and the parts of a call that have functions of their own.
use Rattle.std.specs.Prelude.{ℕ, suc, ◌+◌, ◌*◌, ◌≤◌, ◌<◌, cond, List, [], map, ◌≡◌, ltb, length, get_or, set, drop, Ok, Err, Some, None}
use Rattle.std.proofs.Math.Option.{none, some}
use Rattle.format.specs.Canonical.{canonical_names}
use Rattle.format.specs.Names.{known_kind}
use Rattle.format.specs.Refusals.{number_of}
use Rattle.format.specs.declared.Reason.{Reason}
use Rattle.format.specs.declared.Reason.TheVariants.{Damaged}
use Rattle.format.specs.declared.Refusal.{Refusal}
use Rattle.format.specs.Returned.{Verdict, Written}
use Rattle.sharing.specs.Arrays.{table_of}
use Rattle.sharing.specs.Blocks.{need, scatter, join, gather, are_all_right}
use Rattle.sharing.specs.Marks.{SizeFits}
use Rattle.writing.specs.Wrote.{Wrote}
use Rattle.sharing.specs.Model.{Answer, refusal, granted, nothing, found, closed, tidied, replied, desk, first_true, over, stop, go, with_work}
use Rattle.sharing.specs.Step.{judged, unused, joined, released, leaves, newly, opened_in}
use Rattle.sharing.specs.Table.{Mark, mark, blank, Table, table, blocks, taken, first_run}
use Rattle.sharing.specs.declared.Turned.{Turned}
use Rattle.sharing.specs.declared.Opened.{Opened}
use Rattle.sharing.specs.declared.Table.{Table as Arrays}
use Rattle.sharing.specs.Returned.{Told}
use Rattle.sharing.specs.Named.{names}

-- the customer's lowest unused hold, or 8
pub record LowestUnused (holds : List ℕ) (customer hold : ℕ) : Type 0 where
  pub is : first_true (map unused (desk customer holds)) ≡ cond (ltb hold 8) (some hold) none
  pub few : hold ≤ 8

-- a hold leads to a row, whose mark becomes this
abbrev pub leads_to : Table → (at first : ℕ) → Mark → Table
leads_to t at first m = table t.bytes (set t.holds at (suc first)) (set t.marks first m)

-- a hold leads nowhere, and its row has a user less
abbrev pub releases : Table → (at first : ℕ) → Table
releases t at first = table t.bytes (set t.holds at 0) (set t.marks first (released (get_or t.marks first blank)))

abbrev pub closed_as : Verdict → Answer
closed_as (Ok _) = closed
closed_as (Err r) = refusal (number_of r.reason) r.offset.0 []

abbrev pub not_turned : Arrays → Reason → Turned
not_turned t why = record { table = t; verdict = Err (record { reason = why; offset = record { 0 = 0 } }) }

-- The step of K13

abbrev pub tidied_as : Verdict → Answer
tidied_as (Ok _) = tidied
tidied_as (Err r) = refusal (number_of r.reason) r.offset.0 []

-- Opens

-- a customer that there is, and one of their holds
pub record Seat (customer hold : ℕ) : Type 0 where
  pub there : customer < 16
  pub low : hold < 8

abbrev pub opened_as : Written → List ℕ → Answer
opened_as (Ok hold) work = granted hold work
opened_as (Err r) work = refusal (number_of r.reason) r.offset.0 work

abbrev pub opened : Arrays → ℕ → Opened
opened t hold = record { table = t; answer = Ok hold }

abbrev pub unopened : Arrays → Reason → Opened
unopened t why = record { table = t; answer = Err (record { reason = why; offset = record { 0 = 0 } }) }

-- whatever the work buffer was: once it begins with the canonical payload, table, store and answer are what the step says
pub record OpensNew (t : Arrays) (store : List ℕ) (customer hold : ℕ) (payload after : List ℕ) (r : Opened) : Type 0 where
  pub is : (work : List ℕ) → leaves (table_of r.table) after (opened_as r.answer (over payload work)) ≡ newly (table_of t) store customer payload work hold (first_run (need (length payload)) (taken 0 (table_of t).marks (blocks store)))

pub record OpensWith (t : Arrays) (store : List ℕ) (customer hold : ℕ) (payload after : List ℕ) (r : Opened) : Type 0 where
  pub is : (work : List ℕ) → leaves (table_of r.table) after (opened_as r.answer (over payload work)) ≡ opened_in (table_of t) store customer work (go payload hold)

-- room for a payload from a block on
pub record Settling (store : List ℕ) (first : ℕ) (payload : List ℕ) : Type 0 where
  pub fits : SizeFits store first (length payload)
  pub low : first < 128
  pub small : length payload < 4294967296

-- it is stored there, with one user
pub record Settles (t : Arrays) (store : List ℕ) (customer hold first : ℕ) (payload after : List ℕ) (r : Opened) : Type 0 where
  pub table : table_of r.table ≡ leads_to (table_of t) (customer * 8 + hold) first (mark 1 (length payload))
  pub answer : r.answer ≡ Ok hold
  pub wrote : Wrote store after (first * 512) ((first + need (length payload)) * 512) (join (scatter payload))

-- it is there, with a user more
pub record Joins (t : Arrays) (customer hold first : ℕ) (r : Opened) : Type 0 where
  pub table : table_of r.table ≡ leads_to (table_of t) (customer * 8 + hold) first (joined (get_or (table_of t).marks first blank))
  pub answer : r.answer ≡ Ok hold

-- a payload opened with a hold that is unused
pub record OpensUnused (t : Arrays) (store : List ℕ) (customer hold : ℕ) (payload work after left : List ℕ) (r : Opened) : Type 0 where
  pub is : leaves (table_of r.table) after (opened_as r.answer left) ≡ opened_in (table_of t) store customer work (with_work (canonical_names known_kind payload) (some hold) work)

-- the refusal of a payload where no hold is unused, for a work buffer of a length
pub record InUse (payload : List ℕ) (room : ℕ) (r : Refusal) : Type 0 where
  pub is : (work : List ℕ) → length work ≡ room → with_work (canonical_names known_kind payload) none work ≡ stop (number_of r.reason) r.offset.0

-- Questions

abbrev pub asked_as : Told → List ℕ → Answer
asked_as (Ok None) out = nothing out
asked_as (Ok (Some size)) out = found size out
asked_as (Err r) out = refusal (number_of r.reason) r.offset.0 out

-- a name is copied to the output, if it has room
pub record Copies (name old new : List ℕ) (r : Told) : Type 0 where
  pub is : asked_as r new ≡ replied (some name) old

-- a payload answers
pub record Replies (payload : List ℕ) (index : ℕ) (old new : List ℕ) (r : Told) : Type 0 where
  pub is : (t : Table) (store : List ℕ) (customer : ℕ) → asked_as r new ≡ judged t store customer names (canonical_names known_kind payload) payload index old

-- the payload of a size whose first block is this answers, if its blocks are right
pub record RepliesAt (store : List ℕ) (first size index : ℕ) (old new : List ℕ) (r : Told) : Type 0 where
  pub is : (t : Table) (customer : ℕ) → asked_as r new ≡ cond (are_all_right (need size) (drop first (blocks store)))
      (judged t store customer names (canonical_names known_kind (gather size (drop first (blocks store)))) (gather size (drop first (blocks store))) index old)
      (refusal (number_of Damaged) 0 old)
