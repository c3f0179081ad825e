-- What users demand of the call, said of what it leaves.
use Rattle.std.specs.Prelude.{ℕ, List, ◌≡◌, take, Ok}
use Rattle.format.proofs.Theorems.{WritesLists, lists_written}
use Rattle.format.specs.Names.{Kind, name_map}
use Rattle.format.specs.Lists.{Indices, function_names}
use Rattle.format.specs.Laws.Outputs.{on_written, writes_same}
use Rattle.format.specs.Outputs.{Writes}
use Rattle.format.specs.Returned.{Written}

-- Demand 2 for lists. "The payload written is canonical: each listed index then gives its own text, every other question gets none."
pub lists_call : (kind_of : ℕ → Kind) → kind_of 1 ≡ name_map → (is ns text old new : List ℕ) (n : ℕ) → Indices is → Writes (function_names is ns text) old new (Ok n) → WritesLists kind_of is ns text (take n new)
lists_call kind_of one is ns text old new n h w = on_written w λ bs e there. rw there (lists_written kind_of one is ns text bs h e)

-- "Two results that meet the promise are equal", the output included.
pub lists_same : (is ns text old : List ℕ) {new new' : List ℕ} {r r' : Written} → Writes (function_names is ns text) old new r → Writes (function_names is ns text) old new' r' → (r ≡ r') × (new ≡ new')
lists_same is ns text old p q = writes_same p q
