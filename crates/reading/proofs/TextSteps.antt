-- The ways through the text reader's functions: what stands at a byte, by the form that it begins.
use Prim.Native.Nat.{ℕ, ◌+◌, ◌-◌, ◌%◌, ◌≤◌, ◌<◌}
use mathlib.Core.Bool.{Bool, true, false, ◌&&◌, ◌||◌}
use mathlib.Core.List.{List}
use mathlib.Core.Path.{◌≡◌, refl, sym, ap, ◌∙◌}
use native.Mathlib.Omega.{arith}
use borrow.Author.Rules.{rules}
use borrow.Author.Tests.{lt-ltb, le-ltb, le-leb, leb-true}
use lib.Dec.{ltb, leb}
use lib.ListN.{length, get_or}
use lib.Seq.{slice, slice_empty}
use Rattle.format.specs.Laws.Outcomes.{by_test, and_true}
use Rattle.format.specs.Laws.Text.{form_one, form_none, form_two, form_three, form_four, form_above, text_end}
use Rattle.format.specs.Text.{is_allowed, is_later, with_later, utf8}
use Rattle.reading.specs.Texts.{Begins, Passes, Stands, two_complete, three_complete, four_complete}
use Rattle.reading.proofs.TextLaws.{completes_one, completes_two, completes_three, stands_some, stands_none, form_short, form_stands, form_fails}

-- Code points: with each later byte they grow by six bits, and stay small
module _ (code b next : ℕ) (e : next ≡ with_later code b) where
  pub still_small : code < 16 → next < 1024
  still_small h = omega arith

  pub still_fits : code < 1024 → next < 0x10000
  still_fits h = omega arith

-- and a form can reach only some of the limits
below_surrogates : (least code : ℕ) → code < 0xD800 → leb least code ≡ is_allowed least code
below_surrogates least code h = by_test (leb least code) (λ t. rw (t, lt-ltb code 0xD800 h, le-leb code 0x10FFFF (omega arith)) refl) (λ t. rw t refl)

below_greatest : (least code : ℕ) → code < 0x10000 → (leb least code && (ltb code 0xD800 || ltb 0xDFFF code)) ≡ is_allowed least code
below_greatest least code h = rw (le-leb code 0x10FFFF (omega arith), and_true (ltb code 0xD800 || ltb 0xDFFF code)) refl

above_surrogates : (least code : ℕ) → 0xE000 ≤ least → (leb least code && leb code 0x10FFFF) ≡ is_allowed least code
above_surrogates least code h =
    by_test (leb least code)
    (λ t. let u = leb-true least code t in rw (t, le-ltb code 0xD800 (omega arith), lt-ltb 0xDFFF code (omega arith)) refl)
    (λ t. rw t refl)

module _ (first b code : ℕ) (later : Bool) (f : later ≡ is_later b) where
  pub two_complete_lem : code ≡ with_later (first % 32) b → (later && leb 0x80 code) ≡ two_complete first b
  two_complete_lem e = rw (f, e) (ap (λ t. is_later b && t) (below_surrogates 0x80 (with_later (first % 32) b) (omega arith)))

module _ (first b c code next : ℕ) (later later' : Bool) (f : later ≡ is_later b) (f' : later' ≡ is_later c) where
  pub three_complete_lem : code ≡ with_later (first % 16) b → next ≡ with_later code c → (later && (later' && (leb 0x800 next && (ltb next 0xD800 || ltb 0xDFFF next)))) ≡ three_complete first b c
  three_complete_lem e e' = rw (f, f', e', e) (ap (λ t. is_later b && (is_later c && t)) (below_greatest 0x800 (with_later (with_later (first % 16) b) c) (omega arith)))

module _ (first b c d code next last : ℕ) (later later' later'' : Bool) (f : later ≡ is_later b) (f' : later' ≡ is_later c) (f'' : later'' ≡ is_later d) where
  pub four_complete_lem : code ≡ with_later (first % 8) b → next ≡ with_later code c → last ≡ with_later next d → (later && (later' && (later'' && (leb 0x10000 last && leb last 0x10FFFF)))) ≡ four_complete first b c d
  four_complete_lem e e' e'' = rw (f, f', f'', e'', e', e) (ap (λ t. is_later b && (is_later c && (is_later d && t))) (above_surrogates 0x10000 (with_later (with_later (with_later (first % 8) b) c) d) (omega arith)))

pub ruleset forms = (two_complete_lem, three_complete_lem, four_complete_lem, still_small, still_fits, rules)

-- One byte, or none
module _ {s : List ℕ} {i end : ℕ} (p : i < end) (q : end ≤ length s) where
  pub ascii_stands : get_or s i 0 < 0x80 → Stands s i end 1
  ascii_stands h = stands_some s q p 0 (omega arith) (form_one _ _ h)

  pub below_stands : 0x80 ≤ get_or s i 0 → get_or s i 0 < 0xC0 → Stands s i end 0
  below_stands h k = stands_none s q p (form_none _ _ h k)

  pub above_stands : 0xF8 ≤ get_or s i 0 → Stands s i end 0
  above_stands h = stands_none s q p (form_above _ _ h)

  pub begins : {low high : ℕ} → low ≤ get_or s i 0 → get_or s i 0 < high → Begins s i end low high
  begins h k = record { before = p; lent = q; at_least = h; below = k }

pub ruleset firsts = (ascii_stands, below_stands, above_stands, begins, rules)

-- Two bytes
module _ {s : List ℕ} {i end : ℕ} (b : Begins s i end 0xC0 0xE0) where
  pub two_short : end - i < 2 → Stands s i end 0
  two_short h = form_short s b.lent b.before 1 0x80 (get_or s i 0 % 32) (form_two _ _ b.at_least b.below) h

  module _ (h : 2 ≤ end - i) {t : Bool} (e : t ≡ two_complete (get_or s i 0) (get_or s (i + 1) 0)) where
    pub two_stand : t ≡ true → Stands s i end 2
    two_stand f = form_stands s b.lent b.before 1 0x80 (get_or s i 0 % 32) (form_two _ _ b.at_least b.below) (e ∙ sym (completes_one s b.lent i 0x80 (get_or s i 0 % 32) h)) f h

    pub two_other : t ≡ false → Stands s i end 0
    two_other f = form_fails s b.lent b.before 1 0x80 (get_or s i 0 % 32) (form_two _ _ b.at_least b.below) (e ∙ sym (completes_one s b.lent i 0x80 (get_or s i 0 % 32) h)) f

pub ruleset twos = (two_short, two_stand, two_other, rules)

-- Three bytes
module _ {s : List ℕ} {i end : ℕ} (b : Begins s i end 0xE0 0xF0) where
  pub three_short : end - i < 3 → Stands s i end 0
  three_short h = form_short s b.lent b.before 2 0x800 (get_or s i 0 % 16) (form_three _ _ b.at_least b.below) h

  module _ (h : 3 ≤ end - i) {t : Bool} (e : t ≡ three_complete (get_or s i 0) (get_or s (i + 1) 0) (get_or s (i + 2) 0)) where
    pub three_stand : t ≡ true → Stands s i end 3
    three_stand f = form_stands s b.lent b.before 2 0x800 (get_or s i 0 % 16) (form_three _ _ b.at_least b.below) (e ∙ sym (completes_two s b.lent i 0x800 (get_or s i 0 % 16) h)) f h

    pub three_other : t ≡ false → Stands s i end 0
    three_other f = form_fails s b.lent b.before 2 0x800 (get_or s i 0 % 16) (form_three _ _ b.at_least b.below) (e ∙ sym (completes_two s b.lent i 0x800 (get_or s i 0 % 16) h)) f

pub ruleset threes = (three_short, three_stand, three_other, rules)

-- Four bytes
module _ {s : List ℕ} {i end : ℕ} (b : Begins s i end 0xF0 0xF8) where
  pub four_short : end - i < 4 → Stands s i end 0
  four_short h = form_short s b.lent b.before 3 0x10000 (get_or s i 0 % 8) (form_four _ _ b.at_least b.below) h

  module _ (h : 4 ≤ end - i) {t : Bool} (e : t ≡ four_complete (get_or s i 0) (get_or s (i + 1) 0) (get_or s (i + 2) 0) (get_or s (i + 3) 0)) where
    pub four_stand : t ≡ true → Stands s i end 4
    four_stand f = form_stands s b.lent b.before 3 0x10000 (get_or s i 0 % 8) (form_four _ _ b.at_least b.below) (e ∙ sym (completes_three s b.lent i 0x10000 (get_or s i 0 % 8) h)) f h

    pub four_other : t ≡ false → Stands s i end 0
    four_other f = form_fails s b.lent b.before 3 0x10000 (get_or s i 0 % 8) (form_four _ _ b.at_least b.below) (e ∙ sym (completes_three s b.lent i 0x10000 (get_or s i 0 % 8) h)) f

pub ruleset fours = (four_short, four_stand, four_other, rules)

-- Where no character can be cut short
near : {i end : ℕ} → i + 4 ≤ end → i < end
near p = omega arith

module _ {s : List ℕ} {i end : ℕ} (p : i + 4 ≤ end) (q : end ≤ length s) where
  pub whole_below : 0x80 ≤ get_or s i 0 → get_or s i 0 < 0xC0 → Stands s i end 0
  whole_below h k = below_stands (near p) q h k

  pub whole_above : 0xF8 ≤ get_or s i 0 → Stands s i end 0
  whole_above h = above_stands (near p) q h

  module _ (h : 0xC0 ≤ get_or s i 0) (k : get_or s i 0 < 0xE0) {t : Bool} (e : t ≡ two_complete (get_or s i 0) (get_or s (i + 1) 0)) where
    pub whole_two : t ≡ true → Stands s i end 2
    whole_two f = two_stand (begins (near p) q h k) (omega arith) e f

    pub no_two : t ≡ false → Stands s i end 0
    no_two f = two_other (begins (near p) q h k) (omega arith) e f

  module _ (h : 0xE0 ≤ get_or s i 0) (k : get_or s i 0 < 0xF0) {t : Bool} (e : t ≡ three_complete (get_or s i 0) (get_or s (i + 1) 0) (get_or s (i + 2) 0)) where
    pub whole_three : t ≡ true → Stands s i end 3
    whole_three f = three_stand (begins (near p) q h k) (omega arith) e f

    pub no_three : t ≡ false → Stands s i end 0
    no_three f = three_other (begins (near p) q h k) (omega arith) e f

  module _ (h : 0xF0 ≤ get_or s i 0) (k : get_or s i 0 < 0xF8) {t : Bool} (e : t ≡ four_complete (get_or s i 0) (get_or s (i + 1) 0) (get_or s (i + 2) 0) (get_or s (i + 3) 0)) where
    pub whole_four : t ≡ true → Stands s i end 4
    whole_four f = four_stand (begins (near p) q h k) (omega arith) e f

    pub no_four : t ≡ false → Stands s i end 0
    no_four f = four_other (begins (near p) q h k) (omega arith) e f

pub ruleset wholes = (whole_below, whole_above, whole_two, no_two, whole_three, no_three, whole_four, no_four, rules)

-- From character to character
pub passes_none : {s : List ℕ} {i end : ℕ} → i ≤ end → Passes s i end i
passes_none h = record { forward = omega arith; within = h; same = refl }

pub passes_join : {s : List ℕ} {i end j k : ℕ} → Passes s i end j → Passes s j end k → Passes s i end k
passes_join a b = record { forward = omega (arith, a.forward, b.forward); within = b.within; same = a.same ∙ b.same }

module _ {s : List ℕ} {from end i : ℕ} (u : Passes s from end i) where
  pub passed : i ≤ end
  passed = u.within

  -- an ASCII byte, and what was passed behind it
  pub passes_run : {last next : ℕ} → last ≡ end - 4 → 16 ≤ end → i ≤ last → end ≤ length s → get_or s i 0 < 0x80 → Passes s (i + 1) end next → Passes s from end next
  passes_run e k p q h v = passes_join u (passes_join ((ascii_stands (omega arith) q h).one (λ z. absurd (omega arith))) v)

  module _ {n : ℕ} (c : Stands s i end n) where
    pub passes_character : (n ≡ 0 → ⊥) → Passes s from end (i + n)
    passes_character p = passes_join u (c.one p)

    pub no_text : n ≡ 0 → false ≡ utf8 (slice from end s)
    no_text p = sym (u.same ∙ c.none p)

  pub all_text : end ≤ i → true ≡ utf8 (slice from end s)
  all_text h = let e : i ≡ end = omega (arith, u.within) in sym (u.same ∙ rw (e, slice_empty) text_end)

pub ruleset turns = (passes_none, passes_join, passed, passes_run, passes_character, no_text, all_text, rules)
