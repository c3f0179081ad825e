-- The three laws of what the walk will answer: it begins as the walk, a byte leaves it as it is, and with no byte more it is what the finish says.
use Rattle.std.specs.Prelude.{ℕ, zero, suc, ◌+◌, ◌≤◌, false, List, [], ◌∷◌, ◌++◌, ◌≡◌, refl, eqb, length, drop}
use Rattle.std.proofs.Common.{sym, ap, ◌∙◌, add-one, arith, drop-drop}
use Rattle.format.specs.Refusals.{number_of}
use Rattle.format.specs.Reading.{got, Judged, accepted, refused, judge, map_judged}
use Rattle.format.specs.Walk.{preamble, begins, Section, nothing, sections, framing, walk, payload_in}
use Rattle.format.specs.Laws.Options.{or_none}
use Rattle.format.specs.Laws.Outcomes.{by_test, by_outcome}
use Rattle.format.proofs.Laws.Walk.{begins_passes, sections_enough}
use Rattle.format.specs.declared.Reason.TheVariants.{PastItsPart}
use Rattle.stream.specs.Counting.{fresh, Counted, whole, partly, over, counted}
use Rattle.stream.specs.Contents.{Contents, sizing, content, content_ends}
use Rattle.stream.specs.Stream.{Done, nothing_done, there_in, seen_in, plain_done, custom_done, Phase, starting, settled, measuring, skipping, in_custom_lem, skip, custom, enter, measured, start, start_byte, start_end, byte, tell, end, State, begin, step, finish, steps}
use Rattle.stream.specs.Walked.{summary, walked}
use Rattle.stream.specs.Laws.Window.{within, within_none, within_byte, within_short}
use Rattle.stream.specs.Laws.Counting.{onward, counting_byte, counting_short}
use Rattle.stream.specs.Laws.Contents.{content_then, content_byte, content_ends_lem}
use Rattle.stream.specs.Laws.Resuming.{joined, after_done, after_verdict, after_preamble, skip_then, custom_then, enter_then, size_then, after, resume}
use Rattle.stream.specs.Laws.Sections.{opening_then}

-- It begins as the walk

joined_first : (j : Judged (List Section)) → map_judged summary j ≡ map_judged (λ ss. joined nothing_done.told (summary ss)) j
joined_first (accepted ss) =
    let p : length ss ≡ 0 + length ss = omega arith in
    λ i. accepted (record { count = p i; name = (summary ss).name; hints = (summary ss).hints; older = (summary ss).older })
joined_first (refused n at) = refl

none_there : (row : ℕ) → false ≡ there_in nothing_done.told row
none_there zero = refl
none_there (suc zero) = refl
none_there (suc (suc zero)) = refl
none_there (suc (suc (suc k))) = refl

nothing_seen : nothing ≡ seen_in nothing_done
unfolding nothing
nothing_seen = λ i. record { rank = 0; code = false; there = λ row. none_there row i }

begins_shorter : (m : List ℕ) {v : Unit {0}} {o : ℕ} {rest : List ℕ} → begins preamble 0 m ≡ got v o rest → length rest ≤ length m
begins_shorter m {v} {o} {rest} e = begins_passes (λ _ bs. length bs ≤ length m) (λ _ _ _ h. omega (arith, h)) preamble 0 m v o rest (omega arith) e

pub resume_begins : (m : List ℕ) → walked m ≡ resume begin m
unfolding walked walk framing resume begin after after_preamble after_done
resume_begins m =
    by_outcome (begins preamble 0 m)
    (λ v o rest e. rw (e, ← nothing_seen, sections_enough (length m) (length rest) nothing o rest (begins_shorter m e) (omega arith)) (joined_first (judge (sections (length rest) nothing o rest))))
    (λ n at e. rw e)

-- A byte leaves it as it is

skip_then_lem : (d : Done) (at left o : ℕ) (bs : List ℕ) → skip_then d at left o bs ≡ after (skip d at left) o bs
unfolding skip_then skip after
skip_then_lem d at zero o bs = within_none (λ xs o' rest. after_done d o' rest) (refused (number_of PastItsPart) (suc at)) o bs
skip_then_lem d at (suc left) o bs = refl

-- a custom section's contents that are all there
custom_none : (d : Done) (at : ℕ) (c : Contents) (o : ℕ) (bs : List ℕ) → custom_then d at 0 c o bs ≡ after_verdict (custom_done d at (content_ends c o)) o bs
unfolding custom_then
custom_none d at c o bs =
    within_none (λ xs o' rest. after_verdict (custom_done d at (content_then c o xs)) o' rest) (refused (number_of PastItsPart) (suc at)) o bs
    ∙ ap (λ (j : Judged _). after_verdict (custom_done d at j) o bs) (content_ends_lem c o)

custom_then_lem : (d : Done) (at left : ℕ) (c : Contents) (o : ℕ) (bs : List ℕ) → custom_then d at left c o bs ≡ after (custom d at left c o) o bs
unfolding custom after
custom_then_lem d at zero c o bs = custom_none d at c o bs
custom_then_lem d at (suc left) c o bs = refl

custom_byte : (d : Done) (at left : ℕ) (c : Contents) (o b : ℕ) (bs : List ℕ) → custom_then d at (suc left) c o (b ∷ bs) ≡ custom_then d at left (content c o b) (suc o) bs
unfolding custom_then
custom_byte d at left c o b bs =
    within_byte (λ xs o' rest. after_verdict (custom_done d at (content_then c o xs)) o' rest) (refused (number_of PastItsPart) (suc at)) left o b bs
    ∙ λ i. within left (λ xs o' rest. after_verdict (custom_done d at (content_byte c o b xs i)) o' rest) (refused (number_of PastItsPart) (suc at)) (suc o) bs

enter_then_lem : (d : Done) (id at left o : ℕ) (bs : List ℕ) → enter_then d id at left o bs ≡ after (enter d id at left o) o bs
unfolding enter_then enter
enter_then_lem d zero at left o bs = custom_then_lem d at left (sizing o fresh) o bs
enter_then_lem d (suc id) at left o bs = skip_then_lem (plain_done d (suc id)) at left o bs

measured_then : (d : Done) (id at : ℕ) (c : Counted) (o : ℕ) (bs : List ℕ) → size_then d id at (onward (suc at) c o bs) ≡ after (measured d id at c o) o bs
unfolding size_then onward measured after
measured_then d id at (whole n) o bs = enter_then_lem d id at n o bs
measured_then d id at (partly n) o bs = refl
measured_then d id at over o bs = refl

-- the preamble: `xs` is what it still wants
start_then : (xs : List ℕ) (o : ℕ) (bs : List ℕ) → drop o preamble ≡ xs → after_preamble (begins xs o bs) ≡ after (start xs) o bs
unfolding start after begins after_preamble
start_then [] o bs e = refl
start_then (x ∷ xs) o bs e = rw e

drop_rest : (l : List ℕ) (n : ℕ) {x : ℕ} {xs : List ℕ} → drop n l ≡ x ∷ xs → drop (suc n) l ≡ xs
drop_rest l n e = ap (λ (k : ℕ). drop k l) (sym (add-one n)) ∙ sym (drop-drop 1 n l) ∙ ap (drop 1) e

start_byte_lem : (xs : List ℕ) (o b : ℕ) (bs : List ℕ) → drop o preamble ≡ xs → after_preamble (begins xs o (b ∷ bs)) ≡ after (start_byte xs o b) (suc o) bs
unfolding start_byte after begins after_preamble
start_byte_lem [] o b bs e = opening_then (accepted nothing_done) o b bs
start_byte_lem (x ∷ xs) o b bs e =
    by_test (eqb x b)
    (λ t. rw t (start_then xs (suc o) bs (drop_rest preamble o e)))
    (λ t. rw t)

after_byte : (p : Phase) (o b : ℕ) (bs : List ℕ) → after p o (b ∷ bs) ≡ after (byte p o b) (suc o) bs
unfolding after byte skip_then skip
after_byte starting o b bs = start_byte_lem (drop o preamble) o b bs refl
after_byte (settled j) o b bs = opening_then j o b bs
after_byte (measuring d id at n) o b bs = ap (size_then d id at) (counting_byte (suc at) n o b bs) ∙ measured_then d id at (counted n b) (suc o) bs
after_byte (skipping d at zero) o b bs = skip_then_lem d at 0 o (b ∷ bs) ∙ opening_then (accepted d) o b bs
after_byte (skipping d at (suc left)) o b bs = within_byte (λ xs o' rest. after_done d o' rest) (refused (number_of PastItsPart) (suc at)) left o b bs ∙ skip_then_lem d at left (suc o) bs
after_byte (in_custom_lem d at zero c) o b bs = custom_none d at c o (b ∷ bs) ∙ opening_then (custom_done d at (content_ends c o)) o b bs
after_byte (in_custom_lem d at (suc left) c) o b bs = custom_byte d at left c o b bs ∙ custom_then_lem d at left (content c o b) (suc o) bs

pub resume_byte : (s : State) (b : ℕ) (bs : List ℕ) → resume s (b ∷ bs) ≡ resume (step s b) bs
unfolding resume step
resume_byte s b bs = after_byte s.phase s.total b bs

-- With no byte more it is what the finish says

done_ends : (d : Done) (o : ℕ) → after_done d o [] ≡ accepted d.told
unfolding after_done sections payload_in
done_ends d o =
    let p : d.told.count + 0 ≡ d.told.count = omega arith in
    λ i. accepted (record { count = p i; name = or_none d.told.name i; hints = or_none d.told.hints i; older = or_none d.told.older i })

verdict_ends : (j : Judged Done) (o : ℕ) → after_verdict j o [] ≡ tell j
verdict_ends (accepted d) o = done_ends d o
verdict_ends (refused n at) o = refl

start_ends : (xs : List ℕ) (o : ℕ) → after_preamble (begins xs o []) ≡ start_end xs
unfolding start_end begins after_preamble
start_ends [] o = done_ends nothing_done o
start_ends (x ∷ xs) o = refl

after_ends : (p : Phase) (o : ℕ) → after p o [] ≡ end p o
unfolding after end size_then skip_then custom_then
after_ends starting o = start_ends (drop o preamble) o
after_ends (settled j) o = verdict_ends j o
after_ends (measuring d id at n) o = ap (size_then d id at) (counting_short (suc at) n o)
after_ends (skipping d at zero) o = within_none (λ xs o' rest. after_done d o' rest) (refused (number_of PastItsPart) (suc at)) o [] ∙ done_ends d o
after_ends (skipping d at (suc left)) o = within_short (λ xs o' rest. after_done d o' rest) (refused (number_of PastItsPart) (suc at)) left o
after_ends (in_custom_lem d at zero c) o = custom_none d at c o [] ∙ verdict_ends (custom_done d at (content_ends c o)) o
after_ends (in_custom_lem d at (suc left) c) o = within_short (λ xs o' rest. after_verdict (custom_done d at (content_then c o xs)) o' rest) (refused (number_of PastItsPart) (suc at)) left o

pub resume_ends : (s : State) → resume s [] ≡ finish s
unfolding resume finish
resume_ends s = after_ends s.phase s.total

-- So a module that was stepped through is answered as the walk answers it

resume_steps : (s : State) (bs : List ℕ) → resume s bs ≡ finish (steps s bs)
unfolding steps
resume_steps s [] = resume_ends s
resume_steps s (b ∷ bs) = resume_byte s b bs ∙ resume_steps (step s b) bs

pub read_as_walked : (m : List ℕ) → finish (steps begin m) ≡ walked m
read_as_walked m = sym (resume_begins m ∙ resume_steps begin m)

-- however it is cut
pub steps_append : (s : State) (a b : List ℕ) → steps s (a ++ b) ≡ steps (steps s a) b
unfolding steps
steps_append s [] b = refl
steps_append s (x ∷ a) b = steps_append (step s x) a b
