-- What was read, or refused, gives to what is read behind it.
use Rattle.std.specs.Prelude.{Ok, Err}
use Prim.Native.Nat.{ℕ, ◌+◌, ◌≤◌, ◌<◌}
use mathlib.Core.Bool.{Bool}
use mathlib.Core.List.{List}
use mathlib.Core.Path.{◌≡◌, refl, sym, ◌∙◌}
use native.Mathlib.Numerals.{add-one}
use native.Mathlib.Omega.{arith}
use borrow.Author.Rules.{rules}
use lib.ListN.{length, get_or}
use Rattle.format.specs.Numbers.{number}
use Rattle.format.specs.Reading.{got, Reader, and_then}
use Rattle.format.specs.declared.Reason.TheVariants.{PastItsPart}
use Rattle.format.specs.declared.Refusal.{Refusal}
use Rattle.reading.specs.Cursors.{Inside, left, NumberReads}
use Rattle.reading.specs.declared.Cursor.{Cursor}
use Rattle.reading.proofs.Laws.{number_inside, number_end, nothing_left, something_left}
use Rattle.branches.specs.Imports.{byte}
use Rattle.branches.specs.Reads.{refusal_with, Reads}
use Rattle.branches.specs.Returned.{Read}

-- a number
module _ {s : List ℕ} {c : Cursor} where
  pub number_refused : {r : Refusal} → NumberReads s c (Err r) → Reads number s c (Err r)
  number_refused n = record { means = n.means; same_part = tt }

  pub number_got : {v : ℕ} {next : Cursor} {told : Bool} → Inside s c → NumberReads s c (Ok (v, next, told)) → Reads number s c (Ok (v, next))
  number_got i n =
      let far = number_end n refl in
      record { means = n.means; same_part = (omega (arith, (number_inside i n refl).ahead, far), far) }

pub ruleset number_reads = (number_refused, number_got, rules)

-- a byte
module _ {s : List ℕ} {c : Cursor} (i : Inside s c) where
  pub byte_missing : {r : Refusal} → c.end ≤ c.at → r ≡ refusal_with PastItsPart c.at → Reads byte s c (Err r)
  unfolding byte
  byte_missing h e = rw e (record { means = rw (nothing_left i h); same_part = tt })

  pub byte_got : {v : ℕ} → c.at < c.end → v ≡ get_or s c.at 0 → Reads byte s c (Ok (v, record { at = c.at + 1; end = c.end }))
  unfolding byte
  byte_got h is = record { means = rw (something_left i h, is, add-one); same_part = (omega arith, refl) }

  pub byte_there : c.at < c.end → c.at < length s
  byte_there h = omega (arith, i.within)

pub ruleset byte_reads = (byte_missing, byte_got, byte_there, rules)

module _ {read : Reader ℕ} {s : List ℕ} {c : Cursor} where
  module _ {v : ℕ} {next : Cursor} (g : Reads read s c (Ok (v, next))) where
    pub value_means : read c.at (left s c) ≡ got v next.at (left s next)
    value_means = sym g.means

    pub value_end : (next.at ≤ c.end) × (next.end ≡ c.end)
    value_end = g.same_part

    pub value_inside : Inside s c → Inside s next
    value_inside i = let far = value_end in record { ahead = omega (arith, far.0, far.1); within = omega (arith, far.1, i.within) }

    -- what is read behind it
    pub value_then : (second : ℕ → Reader ℕ) {y : Read} → Reads (second v) s next y → Reads (λ o bs. and_then (read o bs) second) s c y
    value_then second h = record { means = h.means ∙ rw value_means; same_part = let far = value_end in rw (← far.1) h.same_part }

  pub read_refused : {r : Refusal} (second : ℕ → Reader ℕ) → Reads read s c (Err r) → Reads (λ o bs. and_then (read o bs) second) s c (Err r)
  read_refused second g = record { means = rw (← g.means); same_part = tt }
