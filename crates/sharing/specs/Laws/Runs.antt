-- The first run of free blocks in one pass: for code, which keeps the length of the run so far.
use Rattle.std.specs.Prelude.{ℕ, zero, suc, ◌+◌, ◌<◌, Bool, true, false, List, ◌∷◌, ◌++◌, ◌≡◌, refl, replicate}
use Rattle.std.proofs.Math.Option.{none, some}
use Rattle.std.proofs.Common.{ap, arith}
use Rattle.sharing.specs.Model.{after}
use Rattle.sharing.specs.Table.{starts_free, first_run}
use Rattle.sharing.specs.Laws.Walks.{later}

starts_stopped : (got k : ℕ) (ts : List Bool) → got < k → starts_free k (replicate got false ++ (true ∷ ts)) ≡ false
unfolding starts_free
starts_stopped got zero ts h = absurd (omega arith)
starts_stopped zero (suc k) ts h = refl
starts_stopped (suc got) (suc k) ts h = starts_stopped got k ts (omega arith)

starts_full : (k : ℕ) (ts : List Bool) → starts_free k (replicate k false ++ ts) ≡ true
unfolding starts_free
starts_full zero ts = refl
starts_full (suc k) ts = starts_full k ts

starts_ended : (got k : ℕ) → got < k → starts_free k (replicate got false) ≡ false
unfolding starts_free
starts_ended got zero h = absurd (omega arith)
starts_ended zero (suc k) h = refl
starts_ended (suc got) (suc k) h = starts_ended got k (omega arith)

-- a taken block ends a run that is too short: the search goes on behind it
pub run_stops : (got k : ℕ) (ts : List Bool) → got < k → first_run k (replicate got false ++ (true ∷ ts)) ≡ later (suc got) (first_run k ts)
unfolding first_run
run_stops zero k ts h = rw (starts_stopped 0 k ts h)
run_stops (suc got) k ts h = rw (starts_stopped (suc got) k ts h) (ap after (run_stops got k ts (omega arith)))

-- a free block makes the run one longer
pub run_grows : (got : ℕ) (ts : List Bool) → replicate got false ++ (false ∷ ts) ≡ replicate (suc got) false ++ ts
run_grows zero ts = refl
run_grows (suc got) ts = ap (λ (l : List Bool). false ∷ l) (run_grows got ts)

-- the run is long enough
pub run_full : (k : ℕ) (ts : List Bool) → first_run (suc k) (replicate (suc k) false ++ ts) ≡ some 0
unfolding first_run
run_full k ts = rw (starts_full (suc k) ts)

-- the blocks end
pub run_ends : (got k : ℕ) → got < k → first_run k (replicate got false) ≡ none
unfolding first_run after
run_ends zero k h = refl
run_ends (suc got) k h = rw (starts_ended (suc got) k h, run_ends got k (omega arith))
