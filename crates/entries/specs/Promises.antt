-- THE PROMISES of the crate `entries`, each by the name of its function. They stand in the `ensures` of the public functions and nowhere else: what is shown of these names is shown of the functions. A promise relates what is lent to what comes back: the lists before the call and after it, in the order of the call.
use Rattle.std.specs.Prelude.{ℕ, List}
use Rattle.format.specs.Entries.{name_rows, item_rows, place_columns, hint_columns, Lists}
use Rattle.format.specs.Metadata.{any_item, hint_item}
use Rattle.format.specs.Names.{kind_in}
use Rattle.format.specs.Returned.{Answer}
use Rattle.format.specs.declared.Edition.{Edition}

-- entries::naming
abbrev pub EntriesListNames : (p : List ℕ) (edition : Edition) (id : ℕ) (lists lists' : List (List ℕ)) → Answer → Type 0
EntriesListNames p edition id lists lists' r = Lists place_columns (name_rows (kind_in edition) id p) lists lists' r

-- entries::items
abbrev pub EntriesListMetadata : (p : List ℕ) (lists lists' : List (List ℕ)) → Answer → Type 0
EntriesListMetadata p lists lists' r = Lists place_columns (item_rows any_item p) lists lists' r

abbrev pub EntriesListHints : (p : List ℕ) (lists lists' : List (List ℕ)) → Answer → Type 0
EntriesListHints p lists lists' r = Lists hint_columns (item_rows hint_item p) lists lists' r
