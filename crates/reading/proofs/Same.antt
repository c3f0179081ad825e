-- Two results that meet one promise of the cursor are equal.
use Rattle.std.specs.Prelude.{Ok, Err}
use Prim.Native.Nat.{ℕ, ◌-◌}
use mathlib.Core.List.{List}
use mathlib.Core.Path.{◌≡◌, sym, ap, ◌∙◌}
use native.Mathlib.Omega.{arith}
use lib.ListN.{length}
use lib.Seq.{length-slice}
use Rattle.format.specs.Reading.{Reader}
use Rattle.format.specs.Parts.{Part}
use Rattle.format.specs.Laws.Outcomes.{not_got, got_value, got_next, got_rest}
use Rattle.format.specs.Laws.Refusals.{same_stop}
use Rattle.reading.specs.Cursors.{Inside, part_of, NumberReads, PartReads}
use Rattle.reading.specs.declared.Cursor.{Cursor}
use Rattle.reading.specs.Returned.{NumberRead}
use Rattle.reading.specs.Returned.{PartRead}

pub same_cursor : (c d : Cursor) → c.at ≡ d.at → c.end ≡ d.end → c ≡ d
same_cursor c d p q = λ i. record { at = p i; end = q i }

pub number_same : {s : List ℕ} {c : Cursor} (r r' : NumberRead) → NumberReads s c r → NumberReads s c r' → r ≡ r'
number_same {s} {c} (Ok (v, d, t)) (Ok (w, e, u)) p q =
    let one = p.means ∙ sym q.means in
    let cursors = same_cursor d e (got_next one) (p.same_part ∙ sym q.same_part) in
    let value = got_value one in
    let rest = got_rest one in
    let told : t ≡ u = p.tells ∙ rw (value, rest) (sym q.tells) in
    λ i. Ok ((value i), (cursors i), (told i))
number_same (Ok (v, d, t)) (Err r) p q = absurd (not_got (sym (p.means ∙ sym q.means)))
number_same (Err r) (Ok (v, d, t)) p q = absurd (not_got (p.means ∙ sym q.means))
number_same (Err r) (Err t) p q = ap Err (same_stop (p.means ∙ sym q.means))

pub part_same : {read : Reader Part} {s : List ℕ} {c : Cursor} (r r' : PartRead) → PartReads read s c r → PartReads read s c r' → r ≡ r'
part_same (Ok (part, d, t)) (Ok (part', e, u)) p q =
    let one = p.means ∙ sym q.means in
    let behind = same_cursor d e (got_next one) (p.same_part.1 ∙ sym q.same_part.1) in
    let parts = same_cursor part part' (ap (λ (x : Part). x.at) (got_value one)) (p.same_part.0 ∙ got_next one ∙ sym q.same_part.0) in
    let bytes = ap (λ (x : Part). x.bytes) (got_value one) in
    let rest = got_rest one in
    let told : t ≡ u = p.tells ∙ rw (bytes, rest) (sym q.tells) in
    λ i. Ok ((parts i), (behind i), (told i))
part_same (Ok (part, d, t)) (Err r) p q = absurd (not_got (sym (p.means ∙ sym q.means)))
part_same (Err r) (Ok (part, d, t)) p q = absurd (not_got (p.means ∙ sym q.means))
part_same (Err r) (Err t) p q = ap Err (same_stop (p.means ∙ sym q.means))

-- cursors inside what was lent that stand for one part are one
pub same_part : {s : List ℕ} (c d : Cursor) → Inside s c → Inside s d → part_of s c ≡ part_of s d → c ≡ d
same_part {s} c d i j e =
    let ats = ap (λ (p : Part). p.at) e in
    let lengths : c.end - c.at ≡ d.end - d.at = sym (length-slice c.at c.end s i.within) ∙ ap (λ (p : Part). length p.bytes) e ∙ length-slice d.at d.end s j.within in
    same_cursor c d ats (omega (arith, i.ahead, j.ahead))
