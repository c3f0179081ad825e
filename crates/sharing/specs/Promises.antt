-- THE PROMISES of the crate `sharing`, each by the name of its function. They stand in the `ensures` of the public functions and nowhere else: what is shown of these names is shown of the functions. A promise relates what is lent to what comes back.
use Rattle.std.specs.Prelude.{ℕ, List, ◌≡◌}
use Rattle.sharing.specs.Arrays.{table_of, Full}
use Rattle.sharing.specs.Calls.{opened_as, asked_as, closed_as, tidied_as}
use Rattle.sharing.specs.Model.{opening, asking, closing, tidying}
use Rattle.sharing.specs.Named.{names}
use Rattle.sharing.specs.Step.{leaves, step}
use Rattle.sharing.specs.Table.{started}
use Rattle.sharing.specs.declared.Turned.{Turned}
use Rattle.sharing.specs.declared.Opened.{Opened}
use Rattle.sharing.specs.Returned.{Told}
use Rattle.sharing.specs.declared.Table.{Table}

-- sharing
abbrev pub SharingStart : (bytes : ℕ) → Table → Type 0
SharingStart bytes r = (table_of r ≡ started bytes) × Full r

-- the answer, and what table, store and work buffer are after the call, are what the step says
abbrev pub SharingOpen : (t : Table) (store : List ℕ) (customer : ℕ) (payload work : List ℕ) → (after left : List ℕ) → Opened → Type 0
SharingOpen t store customer payload work after left r = (leaves (table_of r.table) after (opened_as r.answer left) ≡ step names (table_of t) store (opening customer payload work)) × Full r.table

-- a question leaves table and store as they were
abbrev pub SharingAsk : (t : Table) (store : List ℕ) (customer hold function : ℕ) (out : List ℕ) → (left : List ℕ) → Told → Type 0
SharingAsk t store customer hold function out left r = leaves (table_of t) store (asked_as r left) ≡ step names (table_of t) store (asking customer hold function out)

abbrev pub SharingClose : (t : Table) (store : List ℕ) (customer hold : ℕ) → Turned → Type 0
SharingClose t store customer hold r = (leaves (table_of r.table) store (closed_as r.verdict) ≡ step names (table_of t) store (closing customer hold)) × Full r.table

-- K13: the step, and what table and store are after it
abbrev pub SharingCompact : (t : Table) (store : List ℕ) → (after : List ℕ) → Turned → Type 0
SharingCompact t store after r = (leaves (table_of r.table) after (tidied_as r.verdict) ≡ step names (table_of t) store tidying) × Full r.table
