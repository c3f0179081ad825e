-- What the library's judgements say when places are forgotten: that is what the grammar speaks of. Assumes nothing.
use Rattle.std.specs.Prelude.{ℕ, List, [], ◌∷◌}
use Rattle.format.specs.Options.{map_some}
use Rattle.format.specs.Reading.{Reader, Judged, map_judged}
use Rattle.format.specs.Parts.{Part}
use Rattle.format.specs.Tables.{Table, map_table}
use Rattle.format.specs.Names.{Kind, Content, judge_names}
use Rattle.format.specs.Metadata.{judge_metadata}
use Rattle.format.specs.Canonical.{bare, bare_items}
use Rattle.format.specs.Older.{OlderEntry, judge_older}
use Rattle.format.specs.Walk.{Custom, Section, walk}
use Rattle.grammar.specs.Modules.{Custom as BareCustom, Section as BareSection}

abbrev pub names_read : (ℕ → Kind) → ℕ → List ℕ → Judged (Table (Content (List ℕ)))
names_read kind_of at p = map_judged (map_table bare) (judge_names kind_of at p)

abbrev pub metadata_read : Reader Part → ℕ → List ℕ → Judged (Table (Table (List ℕ)))
metadata_read item at p = map_judged bare_items (judge_metadata item at p)

-- older hints have no places to forget
abbrev pub older_read : ℕ → List ℕ → Judged (List OlderEntry)
older_read at p = map_judged (λ v. v) (judge_older at p)

abbrev pub bare_custom : Custom → BareCustom
bare_custom c = record { name = c.name.bytes; payload = c.payload.bytes }

abbrev pub bare_section : Section → BareSection
bare_section s = record { id = s.id; contents = s.contents.bytes; custom = map_some bare_custom s.custom }

abbrev pub bare_sections : List Section → List BareSection
bare_sections [] = []
bare_sections (s ∷ ss) = bare_section s ∷ bare_sections ss

abbrev pub sections_read : List ℕ → Judged (List BareSection)
sections_read m = map_judged bare_sections (walk m)
