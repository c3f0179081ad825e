-- The table as code keeps it: of each mark the users and the size, in two arrays.
use Rattle.std.specs.Prelude.{ℕ, List, [], ◌∷◌, ◌≡◌, length}
use Rattle.sharing.specs.Table.{Mark, mark, Table, table}
use Rattle.sharing.specs.declared.Table.{Table as Arrays}

unfoldable pub marks_from : (users sizes : List ℕ) → List Mark
marks_from [] ns = []
marks_from (u ∷ us) [] = []
marks_from (u ∷ us) (n ∷ ns) = mark u n ∷ marks_from us ns

abbrev pub table_of : Arrays → Table
table_of t = table t.bytes t.holds (marks_from t.users t.sizes)

-- one entry of each array for every block
pub record Full (t : Arrays) : Type 0 where
  pub users : length t.users ≡ 128
  pub sizes : length t.sizes ≡ 128
