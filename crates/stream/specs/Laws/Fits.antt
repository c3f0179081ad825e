-- A byte keeps what fits. So the code can count with every state that bytes lead to.
use Rattle.std.specs.Prelude.{ℕ, zero, suc, ◌+◌, ◌*◌, ◌%◌, ◌≤◌, ◌<◌, Bool, true, false, ◌&&◌, List, [], ◌∷◌, ◌≡◌, refl, ltb, leb, eqb, length, drop}
use Rattle.std.proofs.Common.{mul-le-mul_left, arith, lt-ltb, le-leb, ltb-true, leb-true}
use Rattle.format.specs.Reading.{Outcome, got, stop, Judged, accepted, refused}
use Rattle.format.specs.Text.{is_allowed, is_later, with_later}
use Rattle.format.specs.Walk.{preamble, name_section, hint_section, older_hint_section, name_rules, id_rules}
use Rattle.format.specs.Laws.Outcomes.{by_test, on_both}
use Rattle.stream.specs.Counting.{Number, fresh, weight, most_following, Counted, whole, partly, over, counted}
use Rattle.stream.specs.Texts.{Text, none_wanted, leading_byte, wanting, wanted_byte, text_byte, text_bytes, text_ends}
use Rattle.stream.specs.Naming.{Names, none_met, meet, first_of, met, match_ends}
use Rattle.stream.specs.Contents.{Called, Contents, sizing, naming, paying, failing, named, name, sized, content, content_ends}
use Rattle.stream.specs.Stream.{Done, seen_in, called_done, kept, custom_done, Phase, starting, settled, measuring, skipping, in_custom_lem, skip, custom, enter, measured, admit, opening, start, start_byte, byte, State, begin, step, steps}
use Rattle.stream.specs.Fits.{is_number_fitting, point_limit, text_fits, row_fits, contents_fit, done_fits, phase_fits, fits}

pub both : {a b : Bool} → a ≡ true → b ≡ true → (a && b) ≡ true
both p q = rw (p, q)

-- Numbers

number_fits : {come low : ℕ} → come ≤ most_following → low < weight come → is_number_fitting (record { come = come; low = low }) ≡ true
number_fits {come} {low} h k = both (le-leb come most_following h) (lt-ltb low (weight come) k)

abbrev pub counted_fits : Counted → Bool
counted_fits (whole n) = true
counted_fits (partly n) = is_number_fitting n
counted_fits over = true

pub counted_fits_lem : (n : Number) (b : ℕ) → is_number_fitting n ≡ true → counted_fits (counted n b) ≡ true
unfolding counted weight
counted_fits_lem n b f =
    on_both (leb n.come most_following) (ltb n.low (weight n.come)) f λ h k.
    by_test (ltb n.come most_following)
    (λ t. rw t (by_test (ltb b 128) (λ u. rw u) (λ u. rw u
    (let p : weight n.come * (b % 128) ≤ weight n.come * 127 = mul-le-mul_left (weight n.come) (omega arith) in
    let q = ltb-true n.low (weight n.come) k in
    let r = ltb-true n.come most_following t in
    number_fits {come = suc n.come} {low = n.low + weight n.come * (b % 128)} (omega arith) (omega arith)))))
    (λ t. rw t (by_test (leb b 15) (λ u. rw u) (λ u. rw u)))

fresh_fits : is_number_fitting fresh ≡ true
unfolding weight
fresh_fits = refl

-- Text

first_fits : (b : ℕ) → text_fits (leading_byte b) ≡ true
unfolding leading_byte
first_fits b =
    by_test (ltb b 0x80) (λ t. rw t) λ t. rw t
    (by_test (ltb b 0xC0) (λ t. rw t) λ t. rw t
    (by_test (ltb b 0xE0) (λ t. rw t (lt-ltb (b % 32) 0x8000 (omega arith))) λ t. rw t
    (by_test (ltb b 0xF0) (λ t. rw t (lt-ltb (b % 16) 0x200 (omega arith))) λ t. rw t
    (by_test (ltb b 0xF8) (λ t. rw t (lt-ltb (b % 8) 8 (omega arith))) λ t. rw t))))

-- so many are wanted before a later byte
wanting_fits : (more least code b : ℕ) → ltb code (point_limit (suc more)) ≡ true → text_fits (wanting more least (with_later code b)) ≡ true
unfolding wanting
wanting_fits zero least code b f = by_test (is_allowed least (with_later code b)) (λ t. rw t) (λ t. rw t)
wanting_fits (suc zero) least code b f = let k = ltb-true code 0x200 f in lt-ltb (with_later code b) 0x8000 (omega arith)
wanting_fits (suc (suc zero)) least code b f = let k = ltb-true code 8 f in lt-ltb (with_later code b) 0x200 (omega arith)
wanting_fits (suc (suc (suc more))) least code b f = let k = ltb-true code 0 f in absurd (omega arith)

wanted_fits : (wanted least code b : ℕ) → ltb code (point_limit wanted) ≡ true → text_fits (wanted_byte wanted least code b) ≡ true
unfolding wanted_byte
wanted_fits zero least code b f = first_fits b
wanted_fits (suc more) least code b f = by_test (is_later b) (λ t. rw t (wanting_fits more least code b f)) (λ t. rw t)

pub text_fits_lem : (t : Text) (b : ℕ) → text_fits t ≡ true → text_fits (text_byte t b) ≡ true
unfolding text_byte
text_fits_lem t b f = wanted_fits t.wanted t.least t.code b f

pub texts_fit : (t : Text) (bs : List ℕ) → text_fits t ≡ true → text_fits (text_bytes t bs) ≡ true
unfolding text_bytes
texts_fit t [] f = f
texts_fit t (b ∷ bs) f = texts_fit (text_byte t b) bs (text_fits_lem t b f)

-- A custom section's contents

first_of_fits : (a b c : Bool) → row_fits (first_of a b c) ≡ true
first_of_fits true b c = refl
first_of_fits false true c = refl
first_of_fits false false true = refl
first_of_fits false false false = refl

met_fits : (m : Names) → row_fits (met m) ≡ true
met_fits m = first_of_fits (match_ends name_section m.name) (match_ends hint_section m.hints) (match_ends older_hint_section m.older)

named_fits : (text : ℕ) (t : Text) (m : Names) (o o' : ℕ) → o ≤ o' → contents_fit (named text t m o) o' ≡ true
unfolding named
named_fits text t m o o' h = by_test (text_ends t) (λ p. rw p (both (le-leb o o' h) (met_fits m))) (λ p. rw p)

pub name_fits : (begins text left : ℕ) (t : Text) (m : Names) (o : ℕ) → text_fits t ≡ true → contents_fit (name begins text left t m o) o ≡ true
unfolding name
name_fits begins text zero t m o f = named_fits text t m o o (omega arith)
name_fits begins text (suc left) t m o f = both (lt-ltb 0 (suc left) (omega arith)) f

sized_fits : (begins : ℕ) (c : Counted) (o : ℕ) → counted_fits c ≡ true → contents_fit (sized begins c o) o ≡ true
unfolding sized
sized_fits begins (whole n) o f = name_fits begins o n none_wanted none_met o refl
sized_fits begins (partly n) o f = f
sized_fits begins over o f = refl

pub content_fits : (c : Contents) (o b : ℕ) → contents_fit c o ≡ true → contents_fit (content c o b) (suc o) ≡ true
unfolding content
content_fits (sizing begins n) o b f = sized_fits begins (counted n b) (suc o) (counted_fits_lem n b f)
content_fits (naming begins text zero t m) o b f = named_fits text t m o (suc o) (omega arith)
content_fits (naming begins text (suc left) t m) o b f = on_both (ltb 0 (suc left)) (text_fits t) f λ _ g. name_fits begins text left (text_byte t b) (meet m b) (suc o) (text_fits_lem t b g)
content_fits (paying row at) o b f = on_both (leb at o) (row_fits row) f λ h g. both (le-leb at (suc o) (let k = leb-true at o h in omega arith)) g
content_fits (failing n at) o b f = refl

-- Sections

done_later : (d : Done) (o o' : ℕ) → done_fits d o ≡ true → o ≤ o' → done_fits d o' ≡ true
done_later d o o' f h = le-leb d.told.count o' (let k = leb-true d.told.count o f in omega arith)

one_more : (n o : ℕ) → leb n o ≡ true → leb (suc n) (suc o) ≡ true
one_more n o f = le-leb (suc n) (suc o) (let k = leb-true n o f in omega arith)

abbrev judged_fits : Judged Done → ℕ → Bool
judged_fits j o = phase_fits (settled j) o

kept_fits : (r : Outcome (Unit {0})) (d : Done) (o : ℕ) → done_fits d o ≡ true → judged_fits (kept r d) o ≡ true
kept_fits (got v a bs) d o f = f
kept_fits (stop n at) d o f = refl

custom_done_fits : (d : Done) (at : ℕ) (j : Judged Called) (o : ℕ) → done_fits d o ≡ true → judged_fits (custom_done d at j) (suc o) ≡ true
unfolding custom_done
custom_done_fits d at (accepted c) o f = kept_fits (name_rules (seen_in d) at c.row 0 []) (called_done d c) (suc o) (one_more d.told.count o f)
custom_done_fits d at (refused n a) o f = refl

skip_fits : (d : Done) (at left o : ℕ) → done_fits d o ≡ true → at < o → phase_fits (skip d at left) o ≡ true
unfolding skip
skip_fits d at zero o f h = f
skip_fits d at (suc left) o f h = both f (both (lt-ltb at o h) (lt-ltb 0 (suc left) (omega arith)))

custom_fits : (d : Done) (at left : ℕ) (c : Contents) (o : ℕ) → done_fits d o ≡ true → at < suc o → contents_fit c (suc o) ≡ true → phase_fits (custom d at left c (suc o)) (suc o) ≡ true
unfolding custom
custom_fits d at zero c o f h g = custom_done_fits d at (content_ends c (suc o)) o f
custom_fits d at (suc left) c o f h g = both (done_later d o (suc o) f (omega arith)) (both (lt-ltb at (suc o) h) (both (lt-ltb 0 (suc left) (omega arith)) g))

enter_fits : (d : Done) (id at n o : ℕ) → done_fits d o ≡ true → at < suc o → phase_fits (enter d id at n (suc o)) (suc o) ≡ true
unfolding enter
enter_fits d zero at n o f h = custom_fits d at n (sizing (suc o) fresh) o f h fresh_fits
enter_fits d (suc id) at n o f h = skip_fits _ at n (suc o) (one_more d.told.count o f) h

measured_fits : (d : Done) (id at : ℕ) (c : Counted) (o : ℕ) → done_fits d o ≡ true → at < suc o → counted_fits c ≡ true → phase_fits (measured d id at c (suc o)) (suc o) ≡ true
unfolding measured
measured_fits d id at (whole n) o f h g = enter_fits d id at n o f h
measured_fits d id at (partly n) o f h g = both (done_later d o (suc o) f (omega arith)) (both (lt-ltb at (suc o) h) g)
measured_fits d id at over o f h g = refl

admit_fits : (r : Outcome (Unit {0})) (p : Phase) (o : ℕ) → phase_fits p o ≡ true → phase_fits (admit r p) o ≡ true
unfolding admit
admit_fits (got v a bs) p o f = f
admit_fits (stop n at) p o f = refl

opening_fits : (j : Judged Done) (o b : ℕ) → judged_fits j o ≡ true → phase_fits (opening j o b) (suc o) ≡ true
unfolding opening
opening_fits (accepted d) o b f = admit_fits (id_rules (seen_in d) o b 0 []) (measuring d b o fresh) (suc o) (both (done_later d o (suc o) f (omega arith)) (both (lt-ltb o (suc o) (omega arith)) fresh_fits))
opening_fits (refused n at) o b f = refl

start_fits : (xs : List ℕ) (o : ℕ) → phase_fits (start xs) (suc o) ≡ true
unfolding start
start_fits [] o = le-leb 0 (suc o) (omega arith)
start_fits (x ∷ xs) o = refl

start_byte_fits : (xs : List ℕ) (o b : ℕ) → phase_fits (start_byte xs o b) (suc o) ≡ true
unfolding start_byte
start_byte_fits [] o b = opening_fits _ o b (le-leb 0 o (omega arith))
start_byte_fits (x ∷ xs) o b = by_test (eqb x b) (λ t. rw t (start_fits xs o)) (λ t. rw t)

byte_fits : (p : Phase) (o b : ℕ) → phase_fits p o ≡ true → phase_fits (byte p o b) (suc o) ≡ true
unfolding byte
byte_fits starting o b f = start_byte_fits (drop o preamble) o b
byte_fits (settled j) o b f = opening_fits j o b f
byte_fits (measuring d id at n) o b f = on_both (done_fits d o) _ f λ g f'. on_both (ltb at o) (is_number_fitting n) f' λ h k. measured_fits d id at (counted n b) o g (let l = ltb-true at o h in omega arith) (counted_fits_lem n b k)
byte_fits (skipping d at zero) o b f = on_both (done_fits d o) _ f λ g f'. opening_fits (accepted d) o b g
byte_fits (skipping d at (suc left)) o b f = on_both (done_fits d o) _ f λ g f'. on_both (ltb at o) _ f' λ h k. skip_fits d at left (suc o) (done_later d o (suc o) g (omega arith)) (let l = ltb-true at o h in omega arith)
byte_fits (in_custom_lem d at zero c) o b f = on_both (done_fits d o) _ f λ g f'. on_both (ltb at o) _ f' λ h f''. on_both (ltb 0 0) (contents_fit c o) f'' λ k l. let z = ltb-true 0 0 k in absurd (omega arith)
byte_fits (in_custom_lem d at (suc left) c) o b f =
    on_both (done_fits d o) _ f λ g f'. on_both (ltb at o) _ f' λ h f''. on_both (ltb 0 (suc left)) (contents_fit c o) f'' λ k l.
    custom_fits d at left (content c o b) o g (let q = ltb-true at o h in omega arith) (content_fits c o b l)

pub step_fits : (s : State) (b : ℕ) → fits s ≡ true → fits (step s b) ≡ true
unfolding fits step
step_fits s b f = byte_fits s.phase s.total b f

pub steps_fit : (s : State) (bs : List ℕ) → fits s ≡ true → fits (steps s bs) ≡ true
unfolding steps
steps_fit s [] f = f
steps_fit s (b ∷ bs) f = steps_fit (step s b) bs (step_fits s b f)

pub begin_fits : fits begin ≡ true
unfolding fits begin
begin_fits = refl

-- every byte is counted
pub steps_total : (s : State) (bs : List ℕ) → (steps s bs).total ≡ s.total + length bs
unfolding steps step
steps_total s [] = omega arith
steps_total s (b ∷ bs) = let t = steps_total (step s b) bs in omega arith
