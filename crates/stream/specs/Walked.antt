-- Rule R14.3 of docs/RULES.md.
-- What the walk says of a whole module, as the finish tells it. Assumes nothing.
use Rattle.std.specs.Prelude.{ℕ, List, length}
use Rattle.format.specs.Reading.{Judged, map_judged}
use Rattle.format.specs.Options.{map_some}
use Rattle.format.specs.Parts.{place_of}
use Rattle.format.specs.Walk.{name_section, hint_section, older_hint_section, Section, payload_in, walk}
use Rattle.stream.specs.Stream.{Summary}

abbrev pub summary : List Section → Summary
summary ss = record {
  count = length ss;
  name = map_some place_of (payload_in name_section ss);
  hints = map_some place_of (payload_in hint_section ss);
  older = map_some place_of (payload_in older_hint_section ss);
}

unfoldable pub walked : List ℕ → Judged Summary
walked m = map_judged summary (walk m)
