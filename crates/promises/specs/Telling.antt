-- A program that tells the same of every payload, or of every payload that it accepts, or that overlooks what is padded or empty at one place: ruled out by tables of inputs, each with the answer that every result must be which meets the promise (K10).
use Rattle.std.specs.Prelude.{ℕ, true, false, List, [], ◌∷◌, refl}
use Rattle.format.specs.Bytes.{same}
use Rattle.format.specs.Examples.{digit, hex}
use Rattle.format.specs.Numbers.{number, groups, shortest, fewest}
use Rattle.format.specs.Text.{utf8, characters, character, completes}
use Rattle.format.specs.Parts.{sized, name, remaining}
use Rattle.format.specs.Tables.{lookup, size, map_table, rows, table}
use Rattle.format.specs.Names.{known, known_kind, wider, wider_kind, contents, subsections, payload, judge_names}
use Rattle.format.specs.Metadata.{hint_of, any_item, hint_item, metadata, judge_metadata}
use Rattle.format.specs.Older.{times, vector, zero_byte, older_kind, older_hint, older_entry, judge_older, put_first, amend, with_hints, sorted_from, write_older_hints, write_older, not_too_long, canonical_older}
use Rattle.format.specs.Canonical.{write_part, write_rows, write_table, unless_empty, keep_rows, bare, write_content, write_subsections, rewrite_names, canonical_names, rewrite_metadata, canonical_of}
use Rattle.format.specs.Telling.{is_its_rewriting, names_are_canonical, items_are_canonical, older_is_canonical}
use Rattle.names.specs.Promises.{NamesIsCanonical, NamesIsCanonicalWidely}
use Rattle.metadata.specs.Promises.{MetadataIsCanonical, MetadataAreHintsCanonical}
use Rattle.reordering.specs.Promises.{ReorderingIsCanonical}
use Rattle.wakemiono.specs.Calls as call
use Rattle.promises.specs.RuledOut.{Row, ◌demands◌, Demanded, by_table}

-- canonical; refused; and accepted with a padded size, a padded index, an empty map, an empty group
unfoldable pub names_rows : {B : Type 0} → (good bad : B) → List (Row (List ℕ) B)
names_rows good bad =
    hex "" demands good ∷
    hex "01 04 01 00 01 61" demands good ∷
    hex "01 00" demands bad ∷
    hex "01 84 00 01 00 01 61" demands bad ∷
    hex "01 05 01 80 00 01 61" demands bad ∷
    hex "01 01 00" demands bad ∷
    hex "02 08 02 00 00 03 01 00 01 78" demands bad ∷
    []

-- by the wider edition: an empty map of id 7, which the first keeps; a padded name of a data segment; a function without labels
unfoldable pub wide_rows : {B : Type 0} → (good bad : B) → List (Row (List ℕ) B)
wide_rows good bad =
    hex "07 04 01 00 01 61" demands good ∷
    hex "0C 01 FF" demands good ∷
    hex "07 01 FF" demands bad ∷
    hex "07 01 00" demands bad ∷
    hex "09 05 01 00 81 00 61" demands bad ∷
    hex "03 08 02 00 00 03 01 00 01 78" demands bad ∷
    []

-- the same with a padded count and a function without items
unfoldable pub items_rows : {B : Type 0} → (good bad : B) → List (Row (List ℕ) B)
items_rows good bad =
    hex "00" demands good ∷
    hex "01 02 01 05 01 01" demands good ∷
    hex "01" demands bad ∷
    hex "80 00" demands bad ∷
    hex "01 02 00" demands bad ∷
    []

pub names_is_canonical_told : Demanded NamesIsCanonical (λ r. r) (names_rows true false)
unfolding names_rows hex digit same number groups shortest fewest utf8 characters character completes sized name remaining lookup size map_table rows table known known_kind contents subsections payload judge_names write_part write_rows write_table unless_empty keep_rows bare write_content write_subsections rewrite_names canonical_names is_its_rewriting names_are_canonical
names_is_canonical_told = by_table (λ p r meets. meets) (names_rows true false) refl

pub wm_names_is_canonical_told : Demanded call.WmNamesIsCanonical (λ y. y) (names_rows 1 0)
unfolding names_rows hex digit same number groups shortest fewest utf8 characters character completes sized name remaining lookup size map_table rows table known known_kind contents subsections payload judge_names write_part write_rows write_table unless_empty keep_rows bare write_content write_subsections rewrite_names canonical_names is_its_rewriting names_are_canonical
wm_names_is_canonical_told = by_table (λ p y meets. meets) (names_rows 1 0) refl

pub names_is_canonical_widely_told : Demanded NamesIsCanonicalWidely (λ r. r) (wide_rows true false)
unfolding wide_rows hex digit same number groups shortest fewest utf8 characters character completes sized name remaining lookup size map_table rows table wider wider_kind contents subsections payload judge_names write_part write_rows write_table unless_empty keep_rows bare write_content write_subsections rewrite_names canonical_names is_its_rewriting names_are_canonical
names_is_canonical_widely_told = by_table (λ p r meets. meets) (wide_rows true false) refl

pub wm_wide_names_is_canonical_told : Demanded call.WmWideNamesIsCanonical (λ y. y) (wide_rows 1 0)
unfolding wide_rows hex digit same number groups shortest fewest utf8 characters character completes sized name remaining lookup size map_table rows table wider wider_kind contents subsections payload judge_names write_part write_rows write_table unless_empty keep_rows bare write_content write_subsections rewrite_names canonical_names is_its_rewriting names_are_canonical
wm_wide_names_is_canonical_told = by_table (λ p y meets. meets) (wide_rows 1 0) refl

pub metadata_is_canonical_told : Demanded MetadataIsCanonical (λ r. r) (items_rows true false)
unfolding items_rows hex digit same number groups shortest fewest sized lookup size map_table rows table any_item metadata judge_metadata write_part write_rows write_table unless_empty keep_rows rewrite_metadata canonical_of is_its_rewriting items_are_canonical
metadata_is_canonical_told = by_table (λ p r meets. meets) (items_rows true false) refl

pub wm_metadata_is_canonical_told : Demanded call.WmMetadataIsCanonical (λ y. y) (items_rows 1 0)
unfolding items_rows hex digit same number groups shortest fewest sized lookup size map_table rows table any_item metadata judge_metadata write_part write_rows write_table unless_empty keep_rows rewrite_metadata canonical_of is_its_rewriting items_are_canonical
wm_metadata_is_canonical_told = by_table (λ p y meets. meets) (items_rows 1 0) refl

pub metadata_are_hints_canonical_told : Demanded MetadataAreHintsCanonical (λ r. r) (items_rows true false)
unfolding items_rows hex digit same number groups shortest fewest sized lookup size map_table rows table hint_of hint_item metadata judge_metadata write_part write_rows write_table unless_empty keep_rows rewrite_metadata canonical_of is_its_rewriting items_are_canonical
metadata_are_hints_canonical_told = by_table (λ p r meets. meets) (items_rows true false) refl

pub wm_hints_is_canonical_told : Demanded call.WmHintsIsCanonical (λ y. y) (items_rows 1 0)
unfolding items_rows hex digit same number groups shortest fewest sized lookup size map_table rows table hint_of hint_item metadata judge_metadata write_part write_rows write_table unless_empty keep_rows rewrite_metadata canonical_of is_its_rewriting items_are_canonical
wm_hints_is_canonical_told = by_table (λ p y meets. meets) (items_rows 1 0) refl

-- K2: of the older edition, with functions or offsets that do not rise, a pair twice, a padded kind, an entry without hints
unfoldable pub older_rows : {B : Type 0} → (good bad : B) → List (Row (List ℕ) B)
older_rows good bad =
    hex "00" demands good ∷
    hex "02 01 00 01 00 02 07 00 02 01 05 00 06" demands good ∷
    hex "01" demands bad ∷
    hex "80 00" demands bad ∷
    hex "02 07 00 01 01 05 01 00 01 00 02" demands bad ∷
    hex "01 00 00 02 01 06 01 05" demands bad ∷
    hex "01 00 00 02 01 05 01 05" demands bad ∷
    hex "02 00 00 01 01 05 00 00 01 01 06" demands bad ∷
    hex "01 00 00 01 81 00 05" demands bad ∷
    hex "01 00 00 00" demands bad ∷
    []

pub reordering_is_canonical_told : Demanded ReorderingIsCanonical (λ r. r) (older_rows true false)
unfolding older_rows hex digit same number groups shortest fewest size write_rows write_table times vector zero_byte older_kind older_hint older_entry judge_older put_first amend with_hints sorted_from write_older_hints write_older not_too_long canonical_older is_its_rewriting older_is_canonical
reordering_is_canonical_told = by_table (λ p r meets. meets) (older_rows true false) refl

pub wm_old_hints_is_canonical_told : Demanded call.WmOldHintsIsCanonical (λ y. y) (older_rows 1 0)
unfolding older_rows hex digit same number groups shortest fewest size write_rows write_table times vector zero_byte older_kind older_hint older_entry judge_older put_first amend with_hints sorted_from write_older_hints write_older not_too_long canonical_older is_its_rewriting older_is_canonical
wm_old_hints_is_canonical_told = by_table (λ p y meets. meets) (older_rows 1 0) refl
