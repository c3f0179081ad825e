-- A custom section's contents, read by the walk at once, come to what they come to byte by byte.
use Rattle.std.specs.Prelude.{ℕ, List, ◌≡◌, leb, length, take}
use Rattle.std.proofs.Math.Option.{some}
use Rattle.format.specs.Reading.{◌>>=◌, Outcome, got, stop, Reader, and_then, return, Judged, accepted, refused}
use Rattle.format.specs.Numbers.{number}
use Rattle.format.specs.Text.{utf8}
use Rattle.format.specs.Parts.{sized, name, remaining}
use Rattle.format.specs.Walk.{Custom, custom}
use Rattle.format.specs.Laws.Outcomes.{by_test, by_outcome}
use Rattle.stream.specs.Counting.{fresh}
use Rattle.stream.specs.Contents.{Called, sizing}
use Rattle.stream.specs.Laws.Window.{within}
use Rattle.stream.specs.Laws.Counting.{counting_first}
use Rattle.stream.specs.Laws.Texts.{text_first}
use Rattle.stream.specs.Laws.Naming.{row_named, meeting_first}
use Rattle.stream.specs.Laws.Contents.{verdict, name_then, size_then, content_then}

-- the custom section's contents, without the option around them
unfoldable pub custom_read : Reader Custom
custom_read = do
  n ← name
  p ← remaining
  return (record { name = n; payload = p })

pub custom_reads : (o : ℕ) (bs : List ℕ) → custom 0 o bs ≡ and_then (custom_read o bs) (λ c. return (some c))
unfolding custom custom_read remaining
custom_reads o bs = by_outcome (name o bs) (λ n o₁ r₁ e. rw e) (λ n at e. rw e)

abbrev pub called_by : Custom → Called
called_by c = record { row = row_named c.name.bytes; at = c.payload.at; length = length c.payload.bytes }

abbrev pub found_in : Outcome Custom → Judged Called
found_in (got c o bs) = accepted (called_by c)
found_in (stop n at) = refused n at

pub custom_found : (o : ℕ) (bs : List ℕ) → found_in (custom_read o bs) ≡ content_then (sizing o fresh) o bs
unfolding custom_read name sized remaining content_then size_then name_then verdict within
custom_found o bs =
    rw (← counting_first o bs)
    (by_outcome (number o bs)
    (λ n o₁ r₁ e. rw e (by_test (leb n (length r₁))
    (λ t. rw (t, ← text_first (take n r₁), ← meeting_first (take n r₁)) (by_test (utf8 (take n r₁)) (λ u. rw u) (λ u. rw u)))
    (λ t. rw t)))
    (λ n at e. rw e))
