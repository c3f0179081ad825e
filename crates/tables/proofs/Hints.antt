-- A hint's bytes: whether a part is one, and the hint in its fewest bytes, which is taken without its size being read as a number.
use Rattle.std.specs.Prelude.{Ok}
use Prim.Native.Nat.{ℕ, zero, suc, ◌+◌, ◌-◌, ◌≤◌, ◌<◌}
use mathlib.Core.Bool.{Bool, true, false}
use mathlib.Core.List.{List, [], ◌∷◌}
use mathlib.Core.Path.{◌≡◌, refl, sym, ap, ◌∙◌}
use native.Mathlib.Omega.{arith}
use borrow.Author.Rules.{rules}
use borrow.Author.Tests.{le-leb, le-ltb, ne_eqb, eqb-true, ltb-true, ltb-false}
use lib.Dec.{eqb, ltb}
use lib.ListN.{length, get_or}
use lib.Seq.{slice, slice-cons, slice_empty, length-slice}
use Rattle.format.specs.Reading.{got}
use Rattle.format.specs.Canonical.{write_part}
use Rattle.format.specs.Numbers.{number, groups, fewest, shortest}
use Rattle.format.specs.Options.{is_some}
use Rattle.format.specs.Parts.{sized}
use Rattle.format.specs.Metadata.{hint_of, hint_item}
use Rattle.format.specs.Laws.Outcomes.{by_test, false_true, on_both}
use Rattle.format.proofs.Laws.Padding.{as_few_lem}
use Rattle.reading.specs.Cursors.{Inside, left, PartReads}
use Rattle.reading.specs.declared.Cursor.{Cursor}
use Rattle.reading.specs.Returned.{PartRead}
use Rattle.tables.specs.Seeking.{reader_of}
use Rattle.tables.specs.Steps.{is_short_hint, is_short}
use Rattle.tables.specs.declared.Item.{Item}
use Rattle.tables.specs.declared.Item.TheVariants.{Name, Data, Hint}

-- Whether a part is one
small_hint : (b : ℕ) → ltb b 2 ≡ is_some (hint_of (b ∷ []))
unfolding hint_of
small_hint zero = refl
small_hint (suc zero) = refl
small_hint (suc (suc b)) = le-ltb (suc (suc b)) 2 (omega arith)

no_hint : (x : List ℕ) → (length x ≡ 1 → ⊥) → false ≡ is_some (hint_of x)
unfolding hint_of
no_hint [] h = refl
no_hint (b ∷ []) h = absurd (h refl)
no_hint (b ∷ c ∷ x) h = refl

module _ {s : List ℕ} {part : Cursor} (i : Inside s part) where
  pub hint_one : part.end - part.at ≡ 1 → ltb (get_or s part.at 0) 2 ≡ is_some (hint_of (left s part))
  hint_one h =
      let q : part.end ≡ suc part.at = omega (arith, i.ahead) in
      let one : left s part ≡ get_or s part.at 0 ∷ [] = slice-cons part.at part.end s 0 (omega arith) i.within ∙ rw (q, slice_empty) in
      small_hint (get_or s part.at 0) ∙ sym (rw one)

  pub hint_other : (part.end - part.at ≡ 1 → ⊥) → false ≡ is_some (hint_of (left s part))
  hint_other h = no_hint (left s part) (λ e. h (sym (length-slice part.at part.end s i.within) ∙ e))

pub ruleset is_hint_steps = (hint_one, hint_other, rules)

-- In its fewest bytes
few_bytes : (x : List ℕ) → length x < 2 → false ≡ is_short_hint x
few_bytes [] h = refl
few_bytes (size ∷ []) h = refl
few_bytes (size ∷ byte ∷ x) h = absurd (omega arith)

one_byte : (o b : ℕ) (bs : List ℕ) → sized o (1 ∷ b ∷ bs) ≡ got (record { at = suc o; bytes = b ∷ [] }) (suc (suc o)) bs
unfolding sized number groups
one_byte o b bs = let j : suc o + 1 ≡ suc (suc o) = omega arith in rw (le-leb 1 (length (b ∷ bs)) (omega arith), j)

hint_read : (o b : ℕ) (bs : List ℕ) → ltb b 2 ≡ true → hint_item o (1 ∷ b ∷ bs) ≡ got (record { at = suc o; bytes = b ∷ [] }) (suc (suc o)) bs
unfolding hint_item
hint_read o b bs h = rw (one_byte o b bs, ← small_hint b, h)

module _ {s : List ℕ} {c : Cursor} (i : Inside s c) where
  pub short_few : c.end - c.at < 2 → false ≡ is_short_hint (left s c)
  short_few h = few_bytes (left s c) (let q : length (left s c) ≡ c.end - c.at = length-slice c.at c.end s i.within in omega arith)

  two_bytes : 2 ≤ c.end - c.at → left s c ≡ get_or s c.at 0 ∷ get_or s (suc c.at) 0 ∷ slice (suc (suc c.at)) c.end s
  two_bytes h = slice-cons c.at c.end s 0 (omega arith) i.within ∙ rw (slice-cons (suc c.at) c.end s 0 (omega arith) i.within)

  module _ (h : 2 ≤ c.end - c.at) where
    pub short_data : get_or s c.at 0 ≡ 1 → ltb (get_or s (c.at + 1) 0) 2 ≡ is_short_hint (left s c)
    short_data e = let j : c.at + 1 ≡ suc c.at = omega arith in rw (two_bytes h, e, j)

    pub short_other : (get_or s c.at 0 ≡ 1 → ⊥) → false ≡ is_short_hint (left s c)
    short_other e = rw (two_bytes h, ne_eqb (get_or s c.at 0) 1 e)

pub ruleset short_hint_steps = (short_few, short_data, short_other, rules)

module _ (item : Item) (bs : List ℕ) where
  pub hint_short : {b : Bool} → item ≡ Hint → b ≡ is_short_hint bs → b ≡ is_short item bs
  hint_short e f = rw e f

pub ruleset short_steps = (hint_short, rules)

-- the part of one byte behind the size, and what follows it
abbrev behind_size : Cursor → PartRead
behind_size c = Ok ((record { at = c.at + 1; end = c.at + 1 + 1 }), (record { at = c.at + 1 + 1; end = c.end }), true)

-- a part of one byte takes two
two_long : (x : List ℕ) → length x ≡ 1 → length (write_part x) ≡ 2
unfolding write_part shortest fewest
two_long x h = rw h (ap suc h)

module _ {s : List ℕ} {c : Cursor} (i : Inside s c) where
  hint_taken : is_short_hint (left s c) ≡ true → PartReads hint_item s c (behind_size c)
  hint_taken t =
      by_test (ltb (c.end - c.at) 2)
      (λ l. false_true (short_few i (ltb-true (c.end - c.at) 2 l) ∙ t))
      (λ l. at_least (ltb-false (c.end - c.at) 2 l))
    where
      at_least : 2 ≤ c.end - c.at → PartReads hint_item s c (behind_size c)
      at_least h =
          let q : left s c ≡ get_or s c.at 0 ∷ get_or s (suc c.at) 0 ∷ slice (suc (suc c.at)) c.end s = two_bytes i h in
          on_both (eqb (get_or s c.at 0) 1) (ltb (get_or s (suc c.at) 0) 2) (rw q at t) λ one small.
          let j : c.at + 1 ≡ suc c.at = omega arith in
          let k : c.at + 1 + 1 ≡ suc (suc c.at) = omega arith in
          record { means = rw (k, j, slice-cons (suc c.at) (suc (suc c.at)) s 0 (omega arith) (omega (arith, i.within)), slice_empty (suc (suc c.at)) s, q, eqb-true (get_or s c.at 0) 1 one, hint_read c.at (get_or s (suc c.at) 0) (slice (suc (suc c.at)) c.end s) small); same_part = (refl, refl); tells = sym (as_few_lem (write_part (slice (c.at + 1) (c.at + 1 + 1) s)) (slice (c.at + 1 + 1) c.end s) (left s c) (omega (arith, i.within, two_long (slice (c.at + 1) (c.at + 1 + 1) s) (length-slice (c.at + 1) (c.at + 1 + 1) s (omega (arith, i.within)) ∙ omega arith), length-slice (c.at + 1 + 1) c.end s i.within, length-slice c.at c.end s i.within))) }

  pub value_short : (item : Item) {b : Bool} → b ≡ is_short item (left s c) → b ≡ true → PartReads (reader_of item) s c (behind_size c)
  value_short Name q t = false_true (sym q ∙ t)
  value_short Data q t = false_true (sym q ∙ t)
  value_short Hint q t = hint_taken (sym q ∙ t)
