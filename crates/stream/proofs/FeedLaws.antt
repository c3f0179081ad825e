-- A part, from its first byte to its last: one law for each way through the code.
use Rattle.std.specs.Prelude.{Some}
use Prim.Native.Nat.{ℕ, zero, suc, ◌+◌, ◌-◌, ◌≤◌, ◌<◌}
use mathlib.Core.Bool.{true}
use mathlib.Core.List.{List, ◌∷◌}
use mathlib.Core.Path.{◌≡◌, refl, sym, ap, ◌∙◌}
use native.Mathlib.Omega.{arith}
use borrow.Author.Rules.{rules}
use borrow.Author.Tests.{le-leb, leb-true, eqb-true, eqb-false}
use lib.Dec.{leb, eqb}
use lib.ListN.{length, get_or, drop, drop_of_length-le}
use lib.Seq.{slice, slice-cons, slice_empty, length-slice}
use Rattle.format.specs.Reading.{accepted, refused}
use Rattle.format.specs.Laws.Outcomes.{on_both, by_test}
use Rattle.stream.specs.Contents.{paying, failing, name, content}
use Rattle.stream.specs.Stream.{settled, skipping, skip, custom, State, standing, steps}
use Rattle.stream.specs.Calls.{most}
use Rattle.stream.specs.Fields.{first_row as row_of, done_from, text_from, names_from, contents_from, held, state_from}
use Rattle.stream.specs.Fits.{row_fits, text_fits, contents_fit, fits}
use Rattle.stream.specs.Phases.{text_of, met_of, Fit, Steps, Closing, Closes, SpelledBy, Spelling, Spells, Passing, Passes, Reaches, Ready, Moves, Feeding, FeedingFrom, InPreamble}
use Rattle.stream.specs.Known.{known_in, skipping_at, stands, Begins, Sectioned, Led, Leads}
use Rattle.stream.specs.Laws.Bulk.{skip_many, contents_many, paying_stays, failing_stays, refused_many, name_some, steps_between}
use Rattle.stream.specs.Laws.Fields.{held_back}
use Rattle.stream.specs.Laws.Fits.{both, texts_fit, steps_fit, steps_total}
use Rattle.stream.specs.declared.Stream.{Stream}
use Rattle.stream.specs.declared.contents.Spelled.{Spelled}
use Rattle.stream.specs.declared.heads.Moved.{Moved}
use Rattle.stream.specs.declared.known.Known.{Known}
use Rattle.stream.specs.Returned.{Lead}
use Rattle.stream.proofs.States.{at, at_same, as_between, as_refused, as_skipping, as_custom, as_naming, as_paying, as_failing, between_count, skipping_left, custom_count, custom_left, custom_contents}
use Rattle.stream.proofs.SectionLaws.{limit64, skip_on, custom_on, blank_opens, opens_late}
use Rattle.stream.proofs.NameLaws.{name_on, name_text, name_rest}

-- CONTENTS THAT NOBODY READS

module _ (f : Stream) (n : ℕ) (k : (f.phase ≡ 4) × (0 < n) × (n ≤ f.left) × (f.total + n ≤ most)) where
  skipped : (bs : List ℕ) → length bs ≡ n → steps (state_from f) bs ≡ standing (f.total + n) (skip (done_from f) f.at (f.left - n))
  skipped bs e =
      let h = k.1 in let l = k.2 in
      ap (λ (s : State). steps s bs) (as_skipping f k.0 ∙ at_same refl (sym (skip_on (done_from f) f.at f.left (λ z. omega arith))))
      ∙ skip_many (done_from f) f.at f.left f.total bs (omega arith)
      ∙ ap (λ x. standing (f.total + x) (skip (done_from f) f.at (f.left - x))) e

  pub skips_all : {r : Stream} → n ≡ f.left → (r.phase ≡ 1) × (r.total ≡ f.total + n) × (done_from r ≡ done_from f) → Passes f n r
  unfolding skip
  skips_all {r} e (p, t, d) =
      let z : f.left - n ≡ 0 = omega arith in
      record { means = λ bs l. as_between r p ∙ at_same t (ap (λ x. settled (accepted x)) d) ∙ sym (skipped bs l ∙ ap (λ x. standing (f.total + n) (skip (done_from f) f.at x)) z) }

  pub skips_on : {r : Stream} → (n ≡ f.left → ⊥) → (r.phase ≡ f.phase) × (r.total ≡ f.total + n) × (done_from r ≡ done_from f) × (r.at ≡ f.at) × (r.left ≡ f.left - n) → Passes f n r
  skips_on {r} e (p, t, d, a, l) =
      let h = k.2 in
      record { means = λ bs q. as_skipping r (p ∙ k.0) ∙ at_same t ((λ j. skipping (d j) (a j) (l j)) ∙ sym (skip_on (done_from f) f.at (f.left - n) (λ z. e (omega arith)))) ∙ sym (skipped bs q) }

pub ruleset skips = (skips_all, skips_on, rules)

-- A PAYLOAD, OR WHAT IS BEHIND A FAULT

module _ {f : Stream} {n : ℕ} (k : Passing f n) where
  inside : 4 < f.phase
  inside = let p = k.phase in omega arith

  -- no byte changes it
  unread : (o b : ℕ) → content (contents_from f) o b ≡ contents_from f
  unread o b =
      by_test (eqb f.phase 7)
      (λ t. let q = as_paying f (eqb-true f.phase 7 t) in ap (λ c. content c o b) q ∙ paying_stays (row_of f.row) f.text o b ∙ sym q)
      (λ t. let p = k.phase in let m = eqb-false f.phase 7 t in let q = as_failing f (omega arith) in ap (λ c. content c o b) q ∙ failing_stays f.refusal f.text o b ∙ sym q)

  passed : (bs : List ℕ) → length bs ≡ n → steps (state_from f) bs ≡ standing (f.total + n) (custom (done_from f) f.at (f.left - n) (contents_from f) (f.total + n))
  passed bs e =
      let h = k.some in let l = k.inside in
      ap (λ (s : State). steps s bs) (as_custom f inside ∙ at_same refl (sym (custom_on (done_from f) f.at f.left (contents_from f) f.total (λ z. omega arith))))
      ∙ contents_many (contents_from f) unread (done_from f) f.at f.left f.total bs (omega arith)
      ∙ ap (λ x. standing (f.total + x) (custom (done_from f) f.at (f.left - x) (contents_from f) (f.total + x))) e

  module _ (h : Stream) (w : (h.phase ≡ f.phase) × (h.total ≡ f.total + n) × (done_from h ≡ done_from f) × (h.at ≡ f.at) × (h.left ≡ f.left - n) × (h.row ≡ f.row) × (h.refusal ≡ f.refusal) × (h.text ≡ f.text)) where
    unchanged : contents_from h ≡ contents_from f
    unchanged =
        by_test (eqb f.phase 7)
        (λ t. let e = eqb-true f.phase 7 t in as_paying h (w.0 ∙ e) ∙ (λ j. paying (row_of (w.5 j)) (w.7 j)) ∙ sym (as_paying f e))
        (λ t. let p = k.phase in let m = eqb-false f.phase 7 t in let q = w.0 in as_failing h (omega arith) ∙ (λ j. failing (w.6 j) (w.7 j)) ∙ sym (as_failing f (omega arith)))

    still_fits : contents_fit (contents_from f) (f.total + n) ≡ true
    still_fits =
        by_test (eqb f.phase 7)
        (λ t. let q = as_paying f (eqb-true f.phase 7 t) in
        on_both (leb f.text f.total) (row_fits (row_of f.row)) (sym (ap (λ c. contents_fit c f.total) q) ∙ custom_contents k.fit inside)
        λ l r. ap (λ c. contents_fit c (f.total + n)) q ∙ both (le-leb f.text (f.total + n) (let m = leb-true f.text f.total l in omega arith)) r)
        (λ t. let p = k.phase in let m = eqb-false f.phase 7 t in ap (λ c. contents_fit c (f.total + n)) (as_failing f (omega arith)))

    pub pass_closing : Closing h
    pass_closing =
        let e : h.count ≡ f.count = ap (λ d. d.told.count) w.2 in
        let c = custom_count k.fit inside in
        let t = w.1 in let p = w.0 in let i = inside in let z = k.some in
        record { inside = omega arith; behind = omega arith; fits = (λ j. contents_fit (unchanged j) (w.1 j)) ∙ still_fits }

    pub passes : {r : Stream} → Closes h r → Passes f n r
    passes u = record { means = λ bs l. u.means ∙ at_same w.1 (λ j. custom (w.2 j) (w.3 j) (w.4 j) (unchanged j) (w.1 j)) ∙ sym (passed bs l) }

pub ruleset passing = (pass_closing, passes, rules)

-- WHERE EACH BYTE COUNTS

pub only_starting : (p : ℕ) → p < 6 → (p ≡ 2 → ⊥) → (p ≡ 4 → ⊥) → (p ≡ 3 → ⊥) → (p ≡ 1 → ⊥) → (p ≡ 5 → ⊥) → p ≡ 0
only_starting zero h a b c d e = refl
only_starting (suc zero) h a b c d e = absurd (d refl)
only_starting (suc (suc zero)) h a b c d e = absurd (a refl)
only_starting (suc (suc (suc zero))) h a b c d e = absurd (c refl)
only_starting (suc (suc (suc (suc zero)))) h a b c d e = absurd (b refl)
only_starting (suc (suc (suc (suc (suc zero))))) h a b c d e = absurd (e refl)
only_starting (suc (suc (suc (suc (suc (suc p)))))) h a b c d e = absurd (omega arith)

pub in_preamble : {f : Stream} → f.phase ≡ 0 → f.total < most → InPreamble f
in_preamble p h = record { phase = p; countable = h }

pub ruleset ones = (only_starting, in_preamble, rules)

pub ruleset preambles = (blank_opens, opens_late, rules)

-- AS FAR AS ONE STEP GOES

module _ {f : Stream} {part : List ℕ} {i : ℕ} (k : Ready f part i) where
  pub here_adds : f.total + (length part - i) < limit64
  here_adds = let r = k.room in omega arith

  pub one_end : i + 1 ≤ length part
  one_end = let h = k.here in omega arith

  pub one_room : f.total < most
  one_room = let r = k.room in let h = k.here in omega arith

  many : {n : ℕ} (x : Stream) → 0 < n → n ≤ length part - i → Passes f n x → Moves f part i (record { stream = x; at = i + n })
  many {n} x s l p =
      let h = k.here in
      record { moves = omega arith; within = omega arith; means = p.means (slice i (i + n) part) (let e = length-slice i (i + n) part (omega arith) in omega arith) }

  pub moves_one : {x : Stream} → Steps f (get_or part i 0) x → Moves f part i (record { stream = x; at = i + 1 })
  unfolding steps
  moves_one p =
      let h = k.here in
      let up : i + 1 ≡ suc i = omega arith in
      record {
        moves = omega arith;
        within = omega arith;
        means = p.means ∙ sym (ap (steps (state_from f)) (ap (λ j. slice i j part) up ∙ slice-cons i (suc i) part 0 (omega arith) (omega arith) ∙ ap (λ l. get_or part i 0 ∷ l) (slice_empty (suc i) part)));
      }

  module _ {n : ℕ} (r : Reaches (length part - i) f.left n) where
    pub reach_end : i + n ≤ length part
    reach_end = let l = r.lent in let h = k.here in omega arith

    pub reach_room : f.total + n ≤ most
    reach_room = let l = r.lent in let m = k.room in omega arith

    pub skip_some : f.phase ≡ 4 → 0 < n
    skip_some p = r.moves (let h = k.here in omega arith) (skipping_left k.fit p)

    pub moves_skipped : {x : Stream} → f.phase ≡ 4 → Passes f n x → Moves f part i (record { stream = x; at = i + n })
    moves_skipped {x} p q = many x (skip_some p) r.lent q

    pub pass_ready : 6 < f.phase → Passing f n
    pass_ready p = record { fit = k.fit; phase = p; some = r.moves (let h = k.here in omega arith) (custom_left k.fit (omega arith)); inside = r.inside; room = reach_room }

    pub moves_passed : {x : Stream} → 6 < f.phase → Passes f n x → Moves f part i (record { stream = x; at = i + n })
    moves_passed {x} p q = many x (pass_ready p).some r.lent q

  pub moves_refused : {x : Stream} → f.phase ≡ 2 → (x.phase ≡ f.phase) × (x.total ≡ f.total + (length part - i)) × (x.refusal ≡ f.refusal) × (x.text ≡ f.text) → Moves f part i (record { stream = x; at = length part })
  moves_refused {x} p (q, t, n, o) =
      let h = k.here in
      let long = length-slice i (length part) part (omega arith) in
      record {
        moves = h;
        within = omega arith;
        means =
            as_refused x (q ∙ p) ∙ at_same t (λ j. settled (refused (n j) (o j)))
            ∙ sym (ap (λ (s : State). steps s (slice i (length part) part)) (as_refused f p) ∙ refused_many f.refusal f.text f.total (slice i (length part) part) ∙ ap (λ n. standing (f.total + n) (settled (refused f.refusal f.text))) long);
      }

  module _ (p : f.phase ≡ 6) {inside n : ℕ} (r : Reaches (length part - i) f.left inside) (s : Reaches inside f.rest n) where
    in_name : 4 < f.phase
    in_name = omega arith

    pub name_some_here : 0 < n
    name_some_here = s.moves (r.moves (let h = k.here in omega arith) (custom_left k.fit in_name)) (name_rest (k.fit, p))

    pub name_end : i + n ≤ length part
    name_end = let l = r.lent in let m = s.lent in let h = k.here in omega arith

    abbrev bytes : List ℕ
    bytes = slice i (i + n) part

    bytes_long : length bytes ≡ n
    bytes_long = let l = length-slice i (i + n) part name_end in omega arith

    module _ {x : Spelled} (b : SpelledBy f bytes x) where
      pub name_spelling : Spelling f n x
      name_spelling =
          let l = r.lent in let m = s.lent in let v = r.inside in let w = k.room in
          record {
            phase = p;
            some = name_some_here;
            room = omega arith;
            left = omega arith;
            rest = s.inside;
            count = custom_count k.fit in_name;
            fits = ap text_fits b.text ∙ texts_fit (text_from f) bytes (name_text (k.fit, p));
          }

      spelt_steps : steps (state_from f) bytes ≡ standing (f.total + n) (custom (done_from f) f.at (f.left - n) (name f.begins f.text (f.rest - n) (text_of x.text) (met_of x.met) (f.total + n)) (f.total + n))
      spelt_steps =
          let g = name_spelling in let l = g.left in let q = g.rest in let e = bytes_long in let t = name_some_here in
          ap (λ (s : State). steps s bytes) (as_custom f in_name ∙ at_same refl (sym (custom_on (done_from f) f.at f.left (contents_from f) f.total (λ z. omega arith)) ∙ ap (λ c. custom (done_from f) f.at f.left c f.total) (as_naming f p ∙ name_on f f.begins f.text f.rest (text_from f) (names_from f) f.total (λ z. omega arith))))
          ∙ name_some f.begins f.text f.rest (done_from f) f.at f.left f.total (text_from f) (names_from f) bytes (omega arith) (omega arith)
          ∙ (λ j. standing (f.total + e j) (custom (done_from f) f.at (f.left - e j) (name f.begins f.text (f.rest - e j) (sym b.text j) (sym b.met j) (f.total + e j)) (f.total + e j)))

      pub moves_named : {r : Stream} → Spells f n x r → Moves f part i (record { stream = r; at = i + n })
      moves_named u = let t = name_some_here in record { moves = omega arith; within = name_end; means = u.means ∙ sym spelt_steps }

pub ruleset moving = (here_adds, one_room, moves_one, reach_end, reach_room, skip_some, moves_skipped, pass_ready, moves_passed, moves_refused, name_some_here, name_end, name_spelling, moves_named, one_end, rules)

-- OVER ALL SECTIONS WHOSE HEADS ARE WHOLE

-- what is held of a state is that state
held_means : {x : Stream} {s : State} → x ≡ held s → state_from x ≡ s
held_means {s = s} e = ap state_from e ∙ held_back s

module _ {f : Stream} {part : List ℕ} {i : ℕ} (base : ℕ) (k : Ready f part i × (f.total ≡ base + i)) (p : f.phase ≡ 1) {g : Known} (e : g ≡ known_in f i) where
  pub between_begins : Begins base part g
  between_begins =
      let h = k.0.here in let r = k.0.room in let t = k.1 in
      let c = between_count k.0.fit p in
      rw e (record { within = omega arith; counted = omega arith; room = omega arith })

  stands_so : stands base g ≡ state_from f
  stands_so = ap (stands base) e ∙ at_same (sym k.1) refl ∙ sym (as_between f p)

  pub between_moves : {r : Moved} → Sectioned base part g r → i < r.at → Moves f part i r
  between_moves {r} s h =
      let a : g.at ≡ i = ap (λ g. g.at) e in
      record { moves = h; within = s.within; means = held_means s.means ∙ (λ j. steps (stands_so j) (slice (a j) r.at part)) }

pub ruleset betweens = (between_begins, between_moves, rules)

-- FROM STEP TO STEP

pub record Turn (f : Stream) (part : List ℕ) (from base : ℕ) (now : Stream) (i : ℕ) : Type 0 where
  pub within : i ≤ length part
  pub fit : Fit now
  pub total : now.total ≡ base + i
  pub same : steps (state_from f) (drop from part) ≡ steps (state_from now) (drop i part)

pub turn_first : {f : Stream} {part : List ℕ} {from base : ℕ} → FeedingFrom f part from base → Turn f part from base f from
turn_first k = record { within = k.within; fit = k.fit; total = k.total; same = refl }

total_from : (f : Stream) → (state_from f).total ≡ f.total
unfolding state_from
total_from f = refl

module _ {f : Stream} {part : List ℕ} {from base : ℕ} {now : Stream} {i : ℕ} (t : Turn f part from base now i) where
  pub turn_ready : FeedingFrom f part from base → i < length part → Ready now part i
  turn_ready k h = let r = k.room in let e = t.total in let w = t.within in record { fit = t.fit; here = h; room = omega arith }

  pub turn_total : now.total ≡ base + i
  turn_total = t.total

  module _ {r : Moved} (m : Moves now part i r) where
    pub turn_on : Turn f part from base r.stream r.at
    turn_on =
        let h = m.moves in let w = m.within in
        let long = length-slice i r.at part m.within in
        let e : r.stream.total ≡ now.total + length (slice i r.at part) = sym (total_from r.stream) ∙ ap (λ s. s.total) m.means ∙ steps_total (state_from now) (slice i r.at part) ∙ ap (λ n. n + length (slice i r.at part)) (total_from now) in
        let u = t.total in
        record {
          within = m.within;
          fit = record { fits = ap fits m.means ∙ steps_fit (state_from now) (slice i r.at part) t.fit.fits };
          total = omega arith;
          same = t.same ∙ steps_between (state_from now) i r.at part (omega arith) ∙ ap (λ s. steps s (drop r.at part)) (sym m.means);
        }

    pub turn_less : length part - r.at < length part - i
    turn_less = let h = m.moves in let w = m.within in omega arith

  pub turn_end : {r : Stream} → length part ≤ i → r ≡ held (state_from now) → r ≡ held (steps (state_from f) (drop from part))
  unfolding steps
  turn_end h e = e ∙ ap held (sym (t.same ∙ ap (steps (state_from now)) (drop_of_length-le part h)))

pub ruleset turns = (turn_first, turn_ready, turn_total, turn_on, turn_less, turn_end, rules)

-- ALL OF A PART

module _ {base : ℕ} {part : List ℕ} {k : Known} (b : Begins base part k) {r : Moved} (s : Sectioned base part k r) where
  behind : steps (stands base k) (drop k.at part) ≡ steps (state_from r.stream) (drop r.at part)
  behind = steps_between (stands base k) k.at r.at part s.onward ∙ ap (λ x. steps x (drop r.at part)) (sym (held_means s.means))

  stands_fit : fits (stands base k) ≡ true
  unfolding fits
  stands_fit = le-leb k.count (base + k.at) b.counted

  pub feeding_on : FeedingFrom r.stream part r.at base
  feeding_on =
      let o = s.onward in let w = s.within in
      let long = length-slice k.at r.at part s.within in
      let t = steps_total (stands base k) (slice k.at r.at part) in
      let e : r.stream.total ≡ (steps (stands base k) (slice k.at r.at part)).total = sym (total_from r.stream) ∙ ap (λ x. x.total) (held_means s.means) in
      record {
        fit = record { fits = ap fits (held_means s.means) ∙ steps_fit (stands base k) (slice k.at r.at part) stands_fit };
        within = s.within;
        total = omega arith;
        room = b.room;
      }

  pub fed_on : {x : Stream} → x ≡ held (steps (state_from r.stream) (drop r.at part)) → x ≡ held (steps (stands base k) (drop k.at part))
  fed_on e = e ∙ ap held (sym behind)

  pub fed_all : length part ≤ r.at → r.stream ≡ held (steps (stands base k) (drop k.at part))
  unfolding steps
  fed_all h = s.means ∙ ap held (sym (behind ∙ ap (steps (state_from r.stream)) (drop_of_length-le part h) ∙ held_means s.means))

pub ruleset sections_fed = (feeding_on, fed_on, fed_all, rules)

module _ {f : Stream} {part : List ℕ} (k : Feeding f part) where
  -- within contents that nobody reads
  module _ {n : ℕ} (r : Reaches (length part) f.left n) where
    pub part_adds : f.total + n < limit64
    part_adds = let m = k.room in let l = r.lent in omega arith

    pub skips_part : {g : Known} {x : Stream} → f.phase ≡ 4 → n < f.left → g ≡ known_in f 0 → x ≡ skipping_at (f.total + n) g f.at (f.left - n) → x ≡ held (steps (state_from f) part)
    unfolding held
    skips_part {g} p h e q =
        let all : n ≡ length part = r.least h in
        q ∙ ap (λ g. skipping_at (f.total + n) g f.at (f.left - n)) e
        ∙ ap (λ n. skipping_at (f.total + n) (known_in f 0) f.at (f.left - n)) all
        ∙ sym (ap held (ap (λ (s : State). steps s part) (as_skipping f p ∙ at_same refl (sym (skip_on (done_from f) f.at f.left (λ z. omega arith))))
        ∙ skip_many (done_from f) f.at f.left f.total part (omega arith)
        ∙ at_same refl (skip_on (done_from f) f.at (f.left - length part) (λ z. omega arith))))

  pub feeding_first : FeedingFrom f part 0 f.total
  feeding_first = record { fit = k.fit; within = omega arith; total = omega arith; room = k.room }

  module _ {x : Lead} (l : Leads f part x) {g : Known} (e : x ≡ Some g) where
    led : Led f part g
    led = rw e at l.says

    pub led_begins : Begins f.total part g
    unfolding fits
    led_begins = record {
      within = led.within;
      counted = leb-true g.count (f.total + g.at) (ap fits led.means ∙ steps_fit (state_from f) (slice 0 g.at part) k.fit.fits);
      room = k.room;
    }

    pub led_fed : {r : Stream} → r ≡ held (steps (stands f.total g) (drop g.at part)) → r ≡ held (steps (state_from f) part)
    led_fed q = q ∙ ap held (ap (λ s. steps s (drop g.at part)) led.means ∙ sym (steps_between (state_from f) 0 g.at part (omega arith)))

pub ruleset feeding = (skips_part, part_adds, feeding_first, led_begins, led_fed, rules)
