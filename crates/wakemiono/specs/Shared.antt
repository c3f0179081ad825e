-- K12: what a call on the shared table answers at the C boundary, and all that it leaves. Assumes nothing.
use Rattle.std.specs.Prelude.{ℕ, List, [], ◌≡◌}
use Rattle.sharing.specs.Arrays.{table_of, Full}
use Rattle.sharing.specs.Calls.{asked_as}
use Rattle.sharing.specs.Model.{Call, Answer, refusal, granted, nothing, found, closed, tidied}
use Rattle.sharing.specs.Named.{names}
use Rattle.sharing.specs.Step.{step}
use Rattle.sharing.specs.Table.{Table}
use Rattle.sharing.specs.declared.Table.{Table as Arrays}
use Rattle.sharing.specs.Returned.{Told}
use Rattle.wakemiono.specs.Boundary.{wm_none, wm_found, wm_refused}
use Rattle.wakemiono.specs.declared.WmAnswer.{WmAnswer}

abbrev pub wm_shared : Answer → WmAnswer
wm_shared (refusal number at buffer) = wm_refused number at
wm_shared (granted hold work) = wm_found 0 0 hold
wm_shared (nothing out) = wm_none
wm_shared (found size out) = wm_found 0 0 size
wm_shared closed = wm_found 0 0 0
wm_shared tidied = wm_found 0 0 0

-- the answer to a question, whatever was lent with it
abbrev pub wm_told : Told → WmAnswer
wm_told t = wm_shared (asked_as t [])

-- the buffer that was lent, after the call
abbrev pub buffer_of : Answer → List ℕ
buffer_of (refusal number at buffer) = buffer
buffer_of (granted hold work) = work
buffer_of (nothing out) = out
buffer_of (found size out) = out
buffer_of closed = []
buffer_of tidied = []

-- table, store, lent buffer and answer are what the step says
pub record Shares (t : Table) (store : List ℕ) (call : Call) (after : Table) (left buffer : List ℕ) (a : WmAnswer) : Type 0 where
  pub table : after ≡ (step names t store call).table
  pub stored : left ≡ (step names t store call).store
  pub lent : buffer ≡ buffer_of (step names t store call).answer
  pub says : a ≡ wm_shared (step names t store call).answer

-- the same of tables as they are lent
pub record WmShares (t : Arrays) (store : List ℕ) (call : Call) (after : Arrays) (left buffer : List ℕ) (a : WmAnswer) : Type 0 where
  pub shares : Shares (table_of t) store call (table_of after) left buffer a
  pub full : Full after
