-- The canonical form of a name payload is accepted, and is its own.
use Rattle.std.specs.Prelude.{ℕ, List, ◌≡◌, refl}
use Rattle.std.proofs.Common.{arith}
use Rattle.format.specs.Canonical.{canonical_names, rewrite_names}
use Rattle.format.proofs.Laws.CanonicalNames.{canonical_stays, rewriting_canonical}
use Rattle.format.specs.Names.{Content, known_kind, judge_names}
use Rattle.format.specs.Parts.{Part}
use Rattle.format.specs.Reading.{Judged, accepted, refused, map_judged}
use Rattle.format.specs.Tables.{Table}

accepted_by : (p : List ℕ) (j : Judged (Table (Content Part))) {q : List ℕ} → judge_names known_kind 0 p ≡ j → map_judged rewrite_names j ≡ accepted q → canonical_names known_kind q ≡ accepted q
accepted_by p (accepted v) {q} e f =
    let z : rewrite_names v ≡ q = cc in
    let c = canonical_stays known_kind (rewriting_canonical known_kind (record { value = v; judged = e })) in
    rw z at c
accepted_by p (refused n at) e f = absurd (let z : ◌≡◌ {A = ℕ} 0 1 = cc in omega arith)

pub still : (p q : List ℕ) → canonical_names known_kind p ≡ accepted q → (r : List ℕ) × (canonical_names known_kind q ≡ accepted r)
still p q e = (q, accepted_by p (judge_names known_kind 0 p) refl (unfold canonical_names in e))
