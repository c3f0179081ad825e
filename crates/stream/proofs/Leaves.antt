-- A number, a text and the tracked names, byte by byte: one law for each way through the code.
use Prim.Native.Nat.{ℕ, zero, suc, ◌+◌, ◌*◌, ◌-◌, ◌%◌, ◌≤◌, ◌<◌}
use mathlib.Core.Bool.{Bool, true, false, cond}
use mathlib.Core.List.{List, [], ◌∷◌}
use mathlib.Core.Path.{◌≡◌, refl, sym, ap, ◌∙◌}
use native.Mathlib.Nat.{mul-le-mul_left, mod-lt}
use native.Mathlib.Omega.{arith}
use borrow.Author.Rules.{rules}
use borrow.Author.Tests.{lt-ltb, le-ltb, le-leb, lt-leb, leb-true, ltb-true, eq-eqb, ne_eqb}
use lib.Dec.{ltb, leb}
use lib.ListN.{length, get_or}
use Rattle.format.specs.Bytes.{ascii}
use Rattle.format.specs.Numbers.{limit32}
use Rattle.format.specs.Text.{is_allowed, is_later, with_later}
use Rattle.format.specs.Walk.{name_section, hint_section, older_hint_section}
use Rattle.format.specs.Laws.Outcomes.{on_both}
use Rattle.stream.specs.Counting.{weight, most_following, counted}
use Rattle.stream.specs.Texts.{leading_byte, wanting, wanted_byte, text_byte}
use Rattle.stream.specs.Naming.{match_byte, match_ends, meet, met}
use Rattle.stream.specs.Fields.{row_number}
use Rattle.stream.specs.Fits.{point_limit}
use Rattle.stream.specs.Phases.{number_of, Countable, counted_of, text_of, Spellable, met_of}
use Rattle.stream.specs.declared.Met.{Met}
use Rattle.stream.specs.declared.numbers.Counted.TheVariants.{Whole, Partly, Over}
use Rattle.stream.specs.declared.texts.Text.{Text}

-- NUMBERS

pub weight_read : (come : ℕ) → come ≤ most_following → get_or (1 ∷ 128 ∷ 16384 ∷ 2097152 ∷ 268435456 ∷ []) come 0 ≡ weight come
unfolding weight
weight_read zero h = refl
weight_read (suc zero) h = refl
weight_read (suc (suc zero)) h = refl
weight_read (suc (suc (suc zero))) h = refl
weight_read (suc (suc (suc (suc zero)))) h = refl
weight_read (suc (suc (suc (suc (suc come))))) h = absurd (omega arith)

light : (come : ℕ) → come < most_following → weight come ≤ 2097152
unfolding weight
light zero h = omega arith
light (suc zero) h = omega arith
light (suc (suc zero)) h = omega arith
light (suc (suc (suc zero))) h = omega arith
light (suc (suc (suc (suc come)))) h = absurd (omega arith)

heavy : (come : ℕ) → come ≤ most_following → weight come ≤ 268435456
unfolding weight
heavy zero h = omega arith
heavy (suc zero) h = omega arith
heavy (suc (suc zero)) h = omega arith
heavy (suc (suc (suc zero))) h = omega arith
heavy (suc (suc (suc (suc zero)))) h = omega arith
heavy (suc (suc (suc (suc (suc come))))) h = absurd (omega arith)

module _ {come low : ℕ} (f : Countable come low) where
  pub come_most : come ≤ most_following
  come_most = on_both (leb come most_following) (ltb low (weight come)) f.fits λ h k. leb-true come most_following h

  low_small : low < weight come
  low_small = on_both (leb come most_following) (ltb low (weight come)) f.fits λ h k. ltb-true low (weight come) k

  -- no product or sum wraps
  module _ {w d : ℕ} (e : w ≡ weight come) where
    pub group_sum : come < most_following → d < 128 → low + w * d < limit32
    group_sum h k =
        let p : w * d ≤ w * 127 = mul-le-mul_left w (omega arith) in
        let q = light come h in let l = low_small in
        omega arith

    pub group_product : come < most_following → d < 128 → w * d < limit32
    group_product h k = let s = group_sum h k in omega arith

    pub fifth_sum : d ≤ 15 → low + w * d < limit32
    fifth_sum k =
        let p : w * d ≤ w * 15 = mul-le-mul_left w k in
        let q = heavy come come_most in let l = low_small in
        omega arith

    pub fifth_product : d ≤ 15 → w * d < limit32
    fifth_product k = let s = fifth_sum k in omega arith

  module _ {w : ℕ} (d : ℕ) (e : w ≡ weight come) where
    pub followed_sum : come < most_following → low + w * (d % 128) < limit32
    followed_sum h = group_sum e h (mod-lt d {m = 128} (omega arith))

    pub followed_product : come < most_following → w * (d % 128) < limit32
    followed_product h = group_product e h (mod-lt d {m = 128} (omega arith))

module _ (come low b : ℕ) {w d : ℕ} (e : w ≡ weight come) (s : d ≡ b) where
  pub counts_group : come < most_following → d < 128 → counted_of come (Whole (low + w * d)) ≡ counted (number_of come low) b
  unfolding counted
  counts_group h k = rw (lt-ltb come most_following h, ← s, lt-ltb d 128 k, e)

  pub counts_on : come < most_following → 128 ≤ d → counted_of come (Partly (low + w * (d % 128))) ≡ counted (number_of come low) b
  unfolding counted
  counts_on h k = rw (lt-ltb come most_following h, ← s, le-ltb d 128 k, e)

  pub counts_fifth : most_following ≤ come → d ≤ 15 → counted_of come (Whole (low + w * d)) ≡ counted (number_of come low) b
  unfolding counted
  counts_fifth h k = rw (le-ltb come most_following h, ← s, le-leb d 15 k, e)

pub counts_over : (come low b : ℕ) {d : ℕ} → d ≡ b → most_following ≤ come → 15 < d → counted_of come Over ≡ counted (number_of come low) b
unfolding counted
counts_over come low b {d} s h k = rw (le-ltb come most_following h, ← s, lt-leb d 15 k)

pub ruleset counting = (weight_read, come_most, group_sum, group_product, fifth_sum, fifth_product, followed_sum, followed_product, counts_group, counts_on, counts_fifth, counts_over, rules)

-- TEXT

abbrev none_so : Text
none_so = record { wanted = 0; least = 0; point = 0 }

abbrev bad_so : Text
bad_so = record { wanted = 1; least = 0x110000; point = 0 }

module _ (b : ℕ) where
  pub first_one : b < 0x80 → text_of none_so ≡ leading_byte b
  unfolding leading_byte
  first_one h = rw (lt-ltb b 0x80 h)

  pub first_none : 0x80 ≤ b → b < 0xC0 → text_of bad_so ≡ leading_byte b
  unfolding leading_byte
  first_none l h = rw (le-ltb b 0x80 l, lt-ltb b 0xC0 h)

  module _ {point : ℕ} where
    pub first_two : 0xC0 ≤ b → b < 0xE0 → point ≡ b % 32 → text_of (record { wanted = 1; least = 0x80; point = point }) ≡ leading_byte b
    unfolding leading_byte
    first_two l h e = rw (le-ltb b 0x80 (omega arith), le-ltb b 0xC0 l, lt-ltb b 0xE0 h, e)

    pub first_three : 0xE0 ≤ b → b < 0xF0 → point ≡ b % 16 → text_of (record { wanted = 2; least = 0x800; point = point }) ≡ leading_byte b
    unfolding leading_byte
    first_three l h e = rw (le-ltb b 0x80 (omega arith), le-ltb b 0xC0 (omega arith), le-ltb b 0xE0 l, lt-ltb b 0xF0 h, e)

    pub first_four : 0xF0 ≤ b → b < 0xF8 → point ≡ b % 8 → text_of (record { wanted = 3; least = 0x10000; point = point }) ≡ leading_byte b
    unfolding leading_byte
    first_four l h e = rw (le-ltb b 0x80 (omega arith), le-ltb b 0xC0 (omega arith), le-ltb b 0xE0 (omega arith), le-ltb b 0xF0 l, lt-ltb b 0xF8 h, e)

  pub first_above : 0xF8 ≤ b → text_of bad_so ≡ leading_byte b
  unfolding leading_byte
  first_above l = rw (le-ltb b 0x80 (omega arith), le-ltb b 0xC0 (omega arith), le-ltb b 0xE0 (omega arith), le-ltb b 0xF0 (omega arith), le-ltb b 0xF8 l)

limit_most : (wanted : ℕ) → 0 < wanted → point_limit wanted ≤ 0x8000
limit_most zero h = absurd (omega arith)
limit_most (suc zero) h = omega arith
limit_most (suc (suc zero)) h = omega arith
limit_most (suc (suc (suc zero))) h = omega arith
limit_most (suc (suc (suc (suc wanted)))) h = omega arith

module _ (t : Text) where
  point_small : 0 < t.wanted → Spellable t → t.point < 0x8000
  point_small h f = let k = ltb-true t.point (point_limit t.wanted) f.fits in omega (arith, limit_most t.wanted h)

  pub point_product : 0 < t.wanted → Spellable t → t.point * 64 < limit32
  point_product h f = let k = point_small h f in omega arith

  pub point_sum : (d : ℕ) → 0 < t.wanted → Spellable t → t.point * 64 + d % 64 < limit32
  point_sum d h f = let k = point_small h f in omega arith

  pub at_first : (b : ℕ) {r : Text} → t.wanted ≡ 0 → text_of r ≡ leading_byte b → text_of r ≡ text_byte (text_of t) b
  unfolding text_byte wanted_byte
  at_first b z e = rw z e

  module _ (b : ℕ) where
    later_none : (wanted : ℕ) → 0 < wanted → is_later b ≡ false → text_of bad_so ≡ wanted_byte wanted t.least t.point b
    unfolding wanted_byte
    later_none zero h e = absurd (omega arith)
    later_none (suc more) h e = rw e

    pub later_below : 0 < t.wanted → b < 0x80 → text_of bad_so ≡ text_byte (text_of t) b
    unfolding text_byte
    later_below h k = later_none t.wanted h (rw (lt-leb 0x80 b k))

    pub later_above : 0 < t.wanted → 0x80 ≤ b → 0xBF < b → text_of bad_so ≡ text_byte (text_of t) b
    unfolding text_byte
    later_above h l k = later_none t.wanted h (rw (le-leb 0x80 b l, le-ltb b 0xC0 (omega arith)))

    module _ {point d : ℕ} (s : d ≡ b) (p : point ≡ t.point * 64 + d % 64) (l : 0x80 ≤ b) (h : b ≤ 0xBF) where
      later_is : is_later b ≡ true
      later_is = rw (le-leb 0x80 b l, lt-ltb b 0xC0 (omega arith))

      point_is : point ≡ with_later t.point b
      point_is = p ∙ ap (λ d. t.point * 64 + d % 64) s

      wants : (wanted : ℕ) → 1 < wanted → text_of (record { wanted = wanted - 1; least = t.least; point = point }) ≡ wanted_byte wanted t.least t.point b
      unfolding wanted_byte wanting
      wants zero k = absurd (omega arith)
      wants (suc zero) k = absurd (omega arith)
      wants (suc (suc more)) k = let one : suc (suc more) - 1 ≡ suc more = omega arith in rw (later_is, one, point_is)

      pub later_more : 1 < t.wanted → text_of (record { wanted = t.wanted - 1; least = t.least; point = point }) ≡ text_byte (text_of t) b
      unfolding text_byte
      later_more k = wants t.wanted k

      last_so : (wanted : ℕ) → 0 < wanted → wanted ≤ 1 → wanted_byte wanted t.least t.point b ≡ cond (is_allowed t.least point) (text_of none_so) (text_of bad_so)
      unfolding wanted_byte wanting
      last_so zero z k = absurd (omega arith)
      last_so (suc zero) z k = rw (later_is, point_is)
      last_so (suc (suc more)) z k = absurd (omega arith)

      module _ {a : Bool} (q : a ≡ is_allowed t.least point) (z : 0 < t.wanted) (k : t.wanted ≤ 1) where
        pub later_allowed : a ≡ true → text_of none_so ≡ text_byte (text_of t) b
        unfolding text_byte
        later_allowed u = sym (last_so t.wanted z k ∙ rw (← q, u))

        pub later_refused : a ≡ false → text_of bad_so ≡ text_byte (text_of t) b
        unfolding text_byte
        later_refused u = sym (last_so t.wanted z k ∙ rw (← q, u))

pub ruleset spelling = (first_one, first_none, first_two, first_three, first_four, first_above, at_first, later_below, later_above, later_more, later_allowed, later_refused, point_product, point_sum, rules)

-- NAMES

module _ (x : List ℕ) (at b : ℕ) where
  pub matches_on : at < length x → get_or x at 0 ≡ b → at + 1 ≡ match_byte x at b
  unfolding match_byte
  matches_on h e = let one : at + 1 ≡ suc at = omega arith in rw (lt-ltb at (length x) h, eq-eqb (get_or x at 0) b e, one)

  pub matches_not : at < length x → (get_or x at 0 ≡ b → ⊥) → length x + 1 ≡ match_byte x at b
  unfolding match_byte
  matches_not h n = let one : length x + 1 ≡ suc (length x) = omega arith in rw (lt-ltb at (length x) h, ne_eqb (get_or x at 0) b n, one)

  pub matches_past : length x ≤ at → length x + 1 ≡ match_byte x at b
  unfolding match_byte
  matches_past h = let one : length x + 1 ≡ suc (length x) = omega arith in rw (le-ltb at (length x) h, one)

pub meets : (m : Met) (b : ℕ) {x y z : List ℕ} {p q r : ℕ} → x ≡ name_section → y ≡ hint_section → z ≡ older_hint_section → p ≡ match_byte x m.name b → q ≡ match_byte y m.hints b → r ≡ match_byte z m.older b → met_of (record { name = p; hints = q; older = r }) ≡ meet (met_of m) b
meets m b ex ey ez ep eq er = rw (ep, eq, er, ex, ey, ez)

module _ (m : Met) where
  pub row_name : m.name ≡ 4 → 1 ≡ row_number (met (met_of m))
  unfolding match_ends name_section ascii
  row_name e = rw e

  module _ (n : m.name ≡ 4 → ⊥) where
    pub row_hints : m.hints ≡ 25 → 2 ≡ row_number (met (met_of m))
    unfolding match_ends name_section hint_section ascii
    row_hints e = rw (ne_eqb m.name 4 n, e)

    module _ (k : m.hints ≡ 25 → ⊥) where
      pub row_older : m.older ≡ 11 → 3 ≡ row_number (met (met_of m))
      unfolding match_ends name_section hint_section ascii
      row_older e = rw (ne_eqb m.name 4 n, ne_eqb m.hints 25 k, e)

      pub row_none : (m.older ≡ 11 → ⊥) → 0 ≡ row_number (met (met_of m))
      unfolding match_ends name_section hint_section ascii
      row_none l = rw (ne_eqb m.name 4 n, ne_eqb m.hints 25 k, ne_eqb m.older 11 l)

pub ruleset matching = (matches_on, matches_not, matches_past, meets, row_name, row_hints, row_older, row_none, rules)
