-- Two results that meet one promise are equal, the output included.
use Prim.Native.Nat.{ℕ}
use mathlib.Core.List.{List}
use mathlib.Core.Path.{◌≡◌, sym, ap, ◌∙◌}
use lib.ListN.{length}
use Rattle.format.specs.Reading.{Reader}
use Rattle.format.specs.Parts.{Part}
use Rattle.format.specs.Tables.{Table, size}
use Rattle.reading.specs.declared.Cursor.{Cursor}
use Rattle.reading.proofs.Standing.{one_value, one_end}
use Rattle.writing.proofs.Laws.{wrote_same}
use Rattle.copying.specs.Bytes.{kept_groups, groups_of}
use Rattle.copying.specs.Standing.{Measures, MeasuresGroups, Puts}
use Rattle.copying.specs.declared.Measured.{Measured}
use Rattle.copying.specs.declared.Groups.{Groups}
use Rattle.copying.specs.declared.Put.{Put}

module _ {A : Type 0} (read : Reader A) (write : A → List ℕ) {s : List ℕ} {c : Cursor} where
  pub measured_same : (r r' : Measured) → Measures read write s c r → Measures read write s c r' → r ≡ r'
  measured_same r r' p q =
      let long = p.long ∙ ap (λ v. length (write v)) (one_value p.stands q.stands) ∙ sym q.long in
      let next = one_end p.stands q.stands in
      λ i. record { length = long i; next = next i }

  pub put_same : {old new new' : List ℕ} {at : ℕ} (r r' : Put) → Puts read write s c old new at r → Puts read write s c old new' at r' → (r ≡ r') × (new ≡ new')
  put_same r r' p q =
      let same = wrote_same p.wrote (rw (← one_value p.stands q.stands) at q.wrote) in
      let next = one_end p.stands q.stands in
      (λ i. record { at = same.1 i; next = next i }, same.0)

pub groups_same : {n : ℕ} {s : List ℕ} {c : Cursor} (r r' : Groups) → MeasuresGroups n s c r → MeasuresGroups n s c r' → r ≡ r'
groups_same r r' p q =
    let value = one_value p.stands q.stands in
    let many = p.many ∙ ap (λ (t : Table (Table Part)). size (kept_groups t)) value ∙ sym q.many in
    let long = p.long ∙ ap (λ (t : Table (Table Part)). length (groups_of t)) value ∙ sym q.long in
    let next = one_end p.stands q.stands in
    λ i. record { kept = many i; length = long i; next = next i }
