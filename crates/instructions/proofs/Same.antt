-- Two results that meet one promise of a way are equal.
use Rattle.std.specs.Prelude.{Some, None}
use Prim.Native.Nat.{ℕ}
use mathlib.Core.List.{List}
use mathlib.Core.Path.{◌≡◌, refl, sym, ap, ◌∙◌}
use Rattle.format.specs.Reading.{Reader}
use Rattle.reading.specs.declared.Cursor.{Cursor}
use Rattle.reading.proofs.Same.{same_cursor}
use Rattle.instructions.specs.Ways.{behind, Goes}
use Rattle.instructions.specs.Returned.{Way}
use Rattle.instructions.proofs.WayLaws.{not_behind}

same_offset : {o o' : ℕ} {bs bs' : List ℕ} → behind o bs ≡ behind o' bs' → o ≡ o'
same_offset e = cc

pub way_same : {A : Type 0} {read : Reader A} {s : List ℕ} {c : Cursor} (r r' : Way) → Goes read s c r → Goes read s c r' → r ≡ r'
way_same (Some d) (Some e) p q = ap Some (same_cursor d e (same_offset (p.means ∙ sym q.means)) (p.same_part.2 ∙ sym q.same_part.2))
way_same (Some d) None p q = absurd (not_behind (q.means ∙ sym p.means))
way_same None (Some e) p q = absurd (not_behind (p.means ∙ sym q.means))
way_same None None p q = refl
