-- What the walk will answer once the rest is known, said for each state by the walk's own definitions.
use Rattle.std.specs.Prelude.{ℕ, zero, suc, ◌+◌, List, length, drop}
use Rattle.format.specs.Refusals.{number_of}
use Rattle.format.specs.Reading.{Outcome, got, stop, Judged, refused, judge, judged_then, map_judged}
use Rattle.format.specs.Options.{or_else}
use Rattle.format.specs.Walk.{preamble, begins, sections}
use Rattle.format.specs.declared.Reason.TheVariants.{PastItsPart}
use Rattle.stream.specs.Counting.{fresh}
use Rattle.stream.specs.Contents.{Contents, sizing}
use Rattle.stream.specs.Stream.{Summary, Done, nothing_done, seen_in, plain_done, custom_done, Phase, starting, settled, measuring, skipping, in_custom_lem, State}
use Rattle.stream.specs.Walked.{summary}
use Rattle.stream.specs.Laws.Window.{within}
use Rattle.stream.specs.Laws.Counting.{counting}
use Rattle.stream.specs.Laws.Contents.{content_then}

-- with the sections before them
abbrev pub joined : Summary → Summary → Summary
joined s t = record {
  count = s.count + t.count;
  name = or_else s.name t.name;
  hints = or_else s.hints t.hints;
  older = or_else s.older t.older;
}

unfoldable pub after_done : Done → (o : ℕ) → List ℕ → Judged Summary
after_done d o bs = map_judged (λ ss. joined d.told (summary ss)) (judge (sections (length bs) (seen_in d) o bs))

abbrev pub after_verdict : Judged Done → (o : ℕ) → List ℕ → Judged Summary
after_verdict j o bs = judged_then j (λ d. after_done d o bs)

unfoldable pub after_preamble : Outcome (Unit {0}) → Judged Summary
after_preamble (got v o bs) = after_done nothing_done o bs
after_preamble (stop n at) = refused n at

unfoldable pub skip_then : Done → (at left : ℕ) → (o : ℕ) → List ℕ → Judged Summary
skip_then d at left o bs = within left (λ xs o' rest. after_done d o' rest) (refused (number_of PastItsPart) (suc at)) o bs

unfoldable pub custom_then : Done → (at left : ℕ) → Contents → (o : ℕ) → List ℕ → Judged Summary
custom_then d at left c o bs = within left (λ xs o' rest. after_verdict (custom_done d at (content_then c o xs)) o' rest) (refused (number_of PastItsPart) (suc at)) o bs

unfoldable pub enter_then : Done → (id at left o : ℕ) → List ℕ → Judged Summary
enter_then d zero at left o bs = custom_then d at left (sizing o fresh) o bs
enter_then d (suc id) at left o bs = skip_then (plain_done d (suc id)) at left o bs

unfoldable pub size_then : Done → (id at : ℕ) → Outcome ℕ → Judged Summary
size_then d id at (got n o bs) = enter_then d id at n o bs
size_then d id at (stop n a) = refused n a

unfoldable pub after : Phase → (o : ℕ) → List ℕ → Judged Summary
after starting o bs = after_preamble (begins (drop o preamble) o bs)
after (settled j) o bs = after_verdict j o bs
after (measuring d id at n) o bs = size_then d id at (counting (suc at) n o bs)
after (skipping d at left) o bs = skip_then d at left o bs
after (in_custom_lem d at left c) o bs = custom_then d at left c o bs

unfoldable pub resume : State → List ℕ → Judged Summary
resume s bs = after s.phase s.total bs
