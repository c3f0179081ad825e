-- Each promise of the crate `entries` determines what comes back.
use Rattle.format.proofs.Determined.{DeterminesBoth2, DeterminesBoth4, lists_determined}
use Rattle.entries.specs.Promises.{EntriesListNames, EntriesListMetadata, EntriesListHints}

pub record Entries : Type 0 where
  -- entries::naming
  entries_list_names : DeterminesBoth4 EntriesListNames
  -- entries::items
  entries_list_metadata : DeterminesBoth2 EntriesListMetadata
  entries_list_hints : DeterminesBoth2 EntriesListHints

pub determined : Entries
determined =
    record {
      entries_list_names = λ p edition id lists. lists_determined _ _ _;
      entries_list_metadata = λ p lists. lists_determined _ _ _;
      entries_list_hints = λ p lists. lists_determined _ _ _;
    }
