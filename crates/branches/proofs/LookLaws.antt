-- The bodies of an accepted list, passed over by their sizes up to a function's own.
use Rattle.std.specs.Prelude.{Some, None}
use Prim.Native.Nat.{ℕ, zero, suc, ◌+◌, ◌-◌, ◌≤◌, ◌<◌}
use mathlib.Core.List.{List, [], ◌∷◌}
use mathlib.Core.Option.{none, some}
use mathlib.Core.Path.{◌≡◌, refl, sym, ap, ◌∙◌}
use native.Mathlib.Numerals.{add-one}
use native.Mathlib.Omega.{arith}
use borrow.Author.Rules.{rules}
use borrow.Author.Tests.{lt-ltb, le-ltb}
use Rattle.format.specs.Parts.{Part, sized}
use Rattle.reading.specs.Cursors.{part_of}
use Rattle.reading.specs.Standing.{Known, TakesPart}
use Rattle.reading.specs.declared.Cursor.{Cursor}
use Rattle.reading.specs.declared.again.Piece.{Piece}
use Rattle.older.proofs.ReadAgain.{times_first, times_after, times_none}
use Rattle.branches.specs.Bodies.{body_of}
use Rattle.branches.specs.Lists.{Kept, SameFrom, PassesTo, Looks}
use Rattle.branches.specs.declared.bodies.Bodies.{Bodies}
use Rattle.branches.proofs.RowLaws.{sized_passable}

pub some_more : (n : ℕ) → (n ≡ 0 → ⊥) → 0 < n
some_more zero h = absurd (h refl)
some_more (suc n) h = omega arith

-- where a body is found
body_before : (first : ℕ) (parts : List Part) (f : ℕ) → f < first → body_of first parts f ≡ none
unfolding body_of
body_before first parts f h = rw (lt-ltb f first h)

body_none : (first f : ℕ) → first ≤ f → body_of first [] f ≡ none
unfolding body_of
body_none first f h = rw (le-ltb f first h)

body_here : (first : ℕ) (p : Part) (ps : List Part) (f : ℕ) → first ≡ f → body_of first (p ∷ ps) f ≡ some p
unfolding body_of
body_here first p ps f e = let z : f - first ≡ 0 = omega (arith, e) in rw (le-ltb f first (omega (arith, e)), z)

body_behind : (first : ℕ) (p : Part) (ps : List Part) (f : ℕ) → first < f → body_of first (p ∷ ps) f ≡ body_of (suc first) ps f
unfolding body_of
body_behind first p ps f h = let z : f - first ≡ suc (f - suc first) = omega arith in rw (le-ltb f first (omega arith), le-ltb f (suc first) h, z)

-- one body further
record Further (s : List ℕ) (all : Bodies) (kept : Kept s all) (piece : Piece) (left : Bodies) : Type 0 where
  left_kept : Kept s left
  is : kept.parts ≡ part_of s piece.part ∷ left_kept.parts

module _ {s : List ℕ} {all : Bodies} (k : Kept s all) (h : 0 < all.more) where
  first_known : Known sized s all.next
  first_known = times_first sized sized_passable all.more h k.stand

  further : {piece : Piece} → TakesPart s all.next piece → Further s all k piece (record { first = all.first + 1; next = piece.next; more = all.more - 1 })
  further b =
      let after = times_after sized all.more h k.stand b.stands in
      record {
        left_kept = record { parts = after.more; last = k.last; stand = after.stands; few = omega (arith, k.few, h) };
        is = sym after.is;
      }

-- Whenever the loop's test is reached
pub record Passing (s : List ℕ) (all : Bodies) (function first : ℕ) (next : Cursor) (more : ℕ) : Type 0 where
  pub kept : Kept s all
  pub left : Kept s (record { first = first; next = next; more = more })
  pub same : SameFrom function all.first kept.parts first left.parts
  pub not_past : all.first ≤ function → first ≤ function

pub passing_begins : {s : List ℕ} {all : Bodies} {function : ℕ} → Kept s all → Passing s all function all.first all.next all.more
passing_begins k = record { kept = k; left = k; same = λ f l. refl; not_past = λ l. l }

module _ {s : List ℕ} {all : Bodies} {function first : ℕ} {next : Cursor} {more : ℕ} (t : Passing s all function first next more) where
  pub passing_ended : function ≤ first → PassesTo s all function (record { first = first; next = next; more = more })
  passing_ended h = record { kept = t.kept; left = t.left; same = t.same; arrives = λ l. h; not_past = t.not_past }

  pub passing_none : more ≡ 0 → PassesTo s all function (record { first = first; next = next; more = more })
  passing_none z = record { kept = t.kept; left = t.left; same = t.same; arrives = λ l. absurd (omega (arith, l, z)); not_past = t.not_past }

  pub passing_room : more ≤ 4_294_967_295 → first + 1 < 18_446_744_073_709_551_616
  passing_room h = omega (arith, t.left.few)

  module _ (z : more ≡ 0 → ⊥) where
    pub passing_known : Known sized s next
    passing_known = first_known t.left (some_more more z)

    pub passing_goes : {piece : Piece} → first < function → TakesPart s next piece → Passing s all function (first + 1) piece.next (more - 1)
    passing_goes {piece} l b =
        let on = further t.left (some_more more z) b in
        record {
          kept = t.kept;
          left = on.left_kept;
          same = λ f h. t.same f h ∙ ap (λ ps. body_of first ps f) on.is ∙ body_behind first (part_of s piece.part) on.left_kept.parts f (omega (arith, l, h)) ∙ ap (λ n. body_of n on.left_kept.parts f) (sym (add-one first));
          not_past = λ h. omega (arith, l);
        }

pub ruleset passing = (passing_begins, passing_ended, passing_none, passing_room, passing_known, passing_goes, rules)

-- and the body that is looked for
pub look_before : {s : List ℕ} {all : Bodies} {function : ℕ} → Kept s all → function < all.first → Looks s all function None
look_before {all = all} {function} k h = record { kept = k; says = body_before all.first k.parts function h }

module _ {s : List ℕ} {all : Bodies} {function : ℕ} {left : Bodies} (p : PassesTo s all function left) where
  pub look_none : left.more ≡ 0 → all.first ≤ function → Looks s all function None
  look_none z h =
      let end = times_none sized left.more (omega (arith, z)) p.left.stand in
      record { kept = p.kept; says = p.same function (omega arith) ∙ ap (λ ps. body_of left.first ps function) (sym end.0) ∙ body_none left.first function (p.not_past h) }

  module _ (z : left.more ≡ 0 → ⊥) where
    pub look_known : Known sized s left.next
    look_known = first_known p.left (some_more left.more z)

    pub look_found : {piece : Piece} → all.first ≤ function → TakesPart s left.next piece → Looks s all function (Some (piece.part, record { first = left.first + 1; next = piece.next; more = left.more - 1 }))
    look_found {piece} h b =
        let on = further p.left (some_more left.more z) b in
        let there : left.first ≡ function = omega (arith, p.not_past h, p.arrives (some_more left.more z)) in
        let part = part_of s piece.part in
        record {
          kept = p.kept;
          says = record {
            is = p.same function (omega arith) ∙ ap (λ ps. body_of left.first ps function) on.is ∙ body_here left.first part on.left_kept.parts function there;
            inside = b.in_part;
            left = on.left_kept;
            same = λ f l. p.same f (omega (arith, l)) ∙ ap (λ ps. body_of left.first ps f) on.is ∙ body_behind left.first part on.left_kept.parts f (omega (arith, l, there)) ∙ ap (λ n. body_of n on.left_kept.parts f) (sym (add-one left.first));
          };
        }

  pub look_room : left.more ≤ 4_294_967_295 → left.first + 1 < 18_446_744_073_709_551_616
  look_room h = omega (arith, p.left.few)

pub ruleset looking = (look_before, look_none, look_known, look_found, look_room, some_more, rules)
