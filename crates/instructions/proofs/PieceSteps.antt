-- What the pieces of immediates do with what they read.
use Rattle.std.specs.Prelude.{Ok, Err, Some, None}
use Prim.Native.Nat.{ℕ, zero, suc, ◌+◌, ◌-◌, ◌≤◌, ◌<◌}
use mathlib.Core.Bool.{Bool, true, false}
use mathlib.Core.List.{List}
use mathlib.Core.Path.{◌≡◌, refl, sym, ◌∙◌}
use native.Mathlib.Numerals.{add-one}
use native.Mathlib.Omega.{arith}
use borrow.Author.Rules.{rules}
use borrow.Author.Tests.{le-leb, lt-leb, le-ltb, lt-ltb}
use lib.ListN.{length, get_or}
use lib.Seq.{slice}
use Rattle.format.specs.Reading.{got, Reader, and_then}
use Rattle.format.specs.declared.Refusal.{Refusal}
use Rattle.reading.specs.Cursors.{Inside, left, NumberReads}
use Rattle.reading.specs.declared.Cursor.{Cursor}
use Rattle.reading.specs.Returned.{NumberRead}
use Rattle.reading.proofs.Laws.{number_means, number_end, number_inside, number_moves, nothing_left, something_left}
use Rattle.instructions.specs.Immediates.{is_of, byte_of, index, indices, signed}
use Rattle.instructions.specs.Ways.{passing, Goes, bytes_on}
use Rattle.instructions.specs.declared.pieces.ByteKind.{ByteKind}
use Rattle.instructions.specs.Returned.{Way}
use Rattle.instructions.proofs.WayLaws.{no_number, went, halted, goes_far, goes_inside, end_joined}

abbrev pub one_on : Cursor → Cursor
one_on c = record { at = c.at + 1; end = c.end }

-- one byte
module _ {s : List ℕ} {c : Cursor} (kind : ByteKind) (i : Inside s c) where
  pub byte_missing : c.end ≤ c.at → Goes (byte_of kind) s c None
  unfolding byte_of
  byte_missing h = record { means = rw (nothing_left i h); same_part = tt }

  module _ (h : c.at < c.end) {b : Bool} (is : b ≡ is_of kind (get_or s c.at 0)) where
    pub byte_right : b ≡ true → Goes (byte_of kind) s c (Some (one_on c))
    unfolding byte_of
    byte_right t = record { means = rw (something_left i h, ← is, t, add-one); same_part = (omega arith, omega arith, refl) }

    pub byte_wrong : b ≡ false → Goes (byte_of kind) s c None
    unfolding byte_of
    byte_wrong t = record { means = rw (something_left i h, ← is, t); same_part = tt }

pub byte_there : {s : List ℕ} {c : Cursor} → Inside s c → c.at < c.end → c.at < length s
byte_there i h = omega (arith, i.within)

pub ruleset byte_steps = (byte_missing, byte_right, byte_wrong, byte_there, rules)

-- so many bytes
module _ (c : Cursor) (n : ℕ) where
  pub bytes_few : c.end - c.at < n → None ≡ bytes_on c n
  bytes_few h = rw (lt-leb n (c.end - c.at) h)

  pub bytes_enough : n ≤ c.end - c.at → Some (record { at = c.at + n; end = c.end }) ≡ bytes_on c n
  bytes_enough h = rw (le-leb n (c.end - c.at) h)

pub ruleset byte_counts = (bytes_few, bytes_enough, rules)

-- an index
module _ {s : List ℕ} {c : Cursor} {x : NumberRead} (n : NumberReads s c x) where
  pub index_refused : {r : Refusal} → x ≡ Err r → Goes index s c None
  index_refused e = let (m, at, is) = no_number n e in record { means = rw is; same_part = tt }

  pub index_read : {v : ℕ} {next : Cursor} {told : Bool} → Inside s c → x ≡ Ok (v, next, told) → Goes index s c (Some next)
  index_read i e =
      let moves = number_moves i n e in
      let ahead = (number_inside i n e).ahead in
      let far = number_end n e in
      record { means = rw (number_means n e); same_part = (omega arith, omega (arith, far), far) }

pub ruleset index_steps = (index_refused, index_read, rules)

-- Of a reading, what is still to be read: whenever a loop's test is reached
pub record Still {A B : Type 0} (all : Reader A) (rest : Reader B) (s : List ℕ) (c next : Cursor) : Type 0 where
  pub inside : Inside s next
  pub forward : c.at ≤ next.at
  pub same_end : next.end ≡ c.end
  pub same : passing (all c.at (left s c)) ≡ passing (rest next.at (left s next))

module _ {A : Type 0} {all : Reader A} {s : List ℕ} {c : Cursor} where
  pub still_begins : Inside s c → Still all all s c c
  still_begins i = record { inside = i; forward = omega arith; same_end = refl; same = refl }

  module _ {B : Type 0} {rest : Reader B} {next : Cursor} (t : Still all rest s c next) where
    pub still_inside : Inside s next
    still_inside = t.inside

    -- what the rest comes to, all comes to
    pub still_ends : {y : Way} → Goes rest s next y → Goes all s c y
    still_ends {y} g = record { means = g.means ∙ sym t.same; same_part = end_joined y t.forward t.same_end g.same_part }

-- so many of them
indices_next : (n : ℕ) → 0 < n → (o : ℕ) (bs : List ℕ) → indices n o bs ≡ and_then (index o bs) (λ _. indices (n - 1))
unfolding indices
indices_next zero h o bs = absurd (omega arith)
indices_next (suc n) h o bs = let d : suc n - 1 ≡ n = omega arith in rw d

indices_none : (n : ℕ) → n ≤ 0 → (o : ℕ) (bs : List ℕ) → indices n o bs ≡ got tt o bs
unfolding indices
indices_none zero h o bs = refl
indices_none (suc n) h o bs = absurd (omega arith)

module _ (n more : ℕ) {s : List ℕ} {c next : Cursor} (t : Still (indices n) (indices more) s c next) where
  pub indices_ended : more ≤ 0 → Goes (indices n) s c (Some next)
  indices_ended h =
      let ahead = t.inside.ahead in
      let far = t.same_end in
      record { means = sym (t.same ∙ rw (indices_none more h next.at (left s next))); same_part = (t.forward, omega (arith, ahead, far), far) }

  module _ (h : 0 < more) where
    pub indices_stop : Goes index s next None → Goes (indices n) s c None
    indices_stop g =
        let (m, at, is) = halted (index next.at (left s next)) g.means in
        record { means = sym (t.same ∙ rw (indices_next more h next.at (left s next), is)); same_part = tt }

    pub indices_go : {after : Cursor} → Goes index s next (Some after) → Still (indices n) (indices (more - 1)) s c after
    indices_go g =
        let (v, is) = went (index next.at (left s next)) g.means in
        let far = goes_far g in
        record {
          inside = goes_inside g t.inside;
          forward = omega (arith, far.0, t.forward);
          same_end = far.2 ∙ t.same_end;
          same = t.same ∙ rw (indices_next more h next.at (left s next), is);
        }

pub ruleset indices_turns = (still_begins, still_inside, indices_ended, indices_stop, indices_go, rules)

-- a signed number
signed_next : (more : ℕ) (last : ByteKind) {s : List ℕ} {c : Cursor} → 0 < more → Inside s c → c.at < c.end → 0x80 ≤ get_or s c.at 0 → signed more last c.at (left s c) ≡ signed (more - 1) last (c.at + 1) (slice (c.at + 1) c.end s)
unfolding signed
signed_next zero last l i h b = absurd (omega arith)
signed_next (suc more) last {s} {c} l i h b = let d : suc more - 1 ≡ more = omega arith in rw (something_left i h, le-ltb (get_or s c.at 0) 0x80 b, d, add-one)

module _ (following more : ℕ) (last : ByteKind) {s : List ℕ} {c : Cursor} where
  module _ {i : ℕ} (t : Still (signed following last) (signed more last) s c (record { at = i; end = c.end })) where
    pub signed_missing : 0 < more → c.end ≤ i → Goes (signed following last) s c None
    unfolding signed
    signed_missing = missing more t
      where
        missing : (more : ℕ) → Still (signed following last) (signed more last) s c (record { at = i; end = c.end }) → 0 < more → c.end ≤ i → Goes (signed following last) s c None
        missing zero t l h = absurd (omega arith)
        missing (suc more) t l h = record { means = sym (t.same ∙ rw (nothing_left t.inside h)); same_part = tt }

    module _ (l : 0 < more) (h : i < c.end) where
      pub signed_there : i < length s
      signed_there = omega (arith, t.inside.within)

      pub signed_ends : get_or s i 0 < 0x80 → Goes (signed following last) s c (Some (record { at = i + 1; end = c.end }))
      unfolding signed
      signed_ends = ends more t l
        where
          ends : (more : ℕ) → Still (signed following last) (signed more last) s c (record { at = i; end = c.end }) → 0 < more → get_or s i 0 < 0x80 → Goes (signed following last) s c (Some (record { at = i + 1; end = c.end }))
          ends zero t l b = absurd (omega arith)
          ends (suc more) t l b = record { means = sym (t.same ∙ rw (something_left t.inside h, lt-ltb (get_or s i 0) 0x80 b, add-one)); same_part = (omega (arith, t.forward), omega arith, refl) }

      pub signed_goes : 0x80 ≤ get_or s i 0 → Still (signed following last) (signed (more - 1) last) s c (record { at = i + 1; end = c.end })
      signed_goes b = record {
        inside = record { ahead = omega arith; within = t.inside.within };
        forward = omega (arith, t.forward);
        same_end = refl;
        same = t.same ∙ rw (signed_next more last l t.inside h b);
      }

    pub signed_last : {y : Way} → more ≤ 0 → Goes (byte_of last) s (record { at = i; end = c.end }) y → Goes (signed following last) s c y
    unfolding signed
    signed_last = last_byte more t
      where
        last_byte : (more : ℕ) → Still (signed following last) (signed more last) s c (record { at = i; end = c.end }) → {y : Way} → more ≤ 0 → Goes (byte_of last) s (record { at = i; end = c.end }) y → Goes (signed following last) s c y
        last_byte zero t h g = still_ends t (record { means = g.means; same_part = g.same_part })
        last_byte (suc more) t h g = absurd (omega arith)

    pub signed_inside : Inside s (record { at = i; end = c.end })
    signed_inside = t.inside

pub ruleset signed_turns = (still_begins, signed_missing, signed_there, signed_ends, signed_goes, signed_last, signed_inside, rules)
