-- K9. Two tables of ids, where one keeps what the other looks into: what the other accepts is accepted, and what both know is read alike.
use Prim.Native.Nat.{ℕ, zero, suc, ◌≤◌, ◌<◌}
use mathlib.Core.List.{List, [], ◌∷◌}
use Rattle.std.specs.Prelude.{false, ◌≢◌, ◌≡◌, eqb, length}
use Rattle.std.proofs.Math.Option.{none}
use Rattle.std.proofs.Math.Path.{refl, ap}
use Rattle.std.proofs.Common.{sym, ◌∙◌, arith, eqb-true, ne_eqb}
use Rattle.std.proofs.lemmas.Bool.{eqb-false}
use Rattle.format.specs.Options.{some_then}
use Rattle.format.specs.Parts.{Part, name, remaining}
use Rattle.format.specs.Reading.{got, filling, accepted}
use Rattle.format.specs.Tables.{Table, nil, row, lookup, table}
use Rattle.format.specs.Names.{Kind, one_name, name_map, indirect_map, kept, known, known_kind, wider, wider_kind, Content, whole, contents, subsections, payload, judge_names}
use Rattle.format.specs.Questions.{answer_in, answer, asked}
use Rattle.format.specs.declared.Query.{Query}
use Rattle.format.specs.declared.Query.TheVariants.{ItsContents}
use Rattle.format.specs.Laws.Outcomes.{got_value, got_next, got_rest, by_test, in_turn, judged}
use Rattle.format.specs.Laws.Turns.{in_subsection, a_subsection}

-- What is known is not kept
pub name_known : one_name ≡ kept → ⊥
name_known e = let z : ◌≡◌ {A = ℕ} 0 1 = cc in omega arith

pub map_known : name_map ≡ kept → ⊥
map_known e = let z : ◌≡◌ {A = ℕ} 0 1 = cc in omega arith

pub indirect_known : indirect_map ≡ kept → ⊥
indirect_known e = let z : ◌≡◌ {A = ℕ} 0 1 = cc in omega arith

-- An id is kept or it is known
pub by_kind {ℓ} : {C : Type ℓ} (kind : Kind) → (kind ≡ kept → C) → ((kind ≡ kept → ⊥) → C) → C
by_kind one_name k n = n name_known
by_kind name_map k n = n map_known
by_kind indirect_map k n = n indirect_known
by_kind kept k n = k refl

-- a number that is none of those below it, one by one
above_none : (id : ℕ) → id ≢ 0 → 1 ≤ id
above_none id n = omega arith

above : (j id : ℕ) → j ≤ id → id ≢ j → suc j ≤ id
above j id h n = omega arith

pub beyond_eleven : (id : ℕ) → id ≢ 0 → id ≢ 1 → id ≢ 2 → id ≢ 3 → id ≢ 4 → id ≢ 5 → id ≢ 6 → id ≢ 7 → id ≢ 8 → id ≢ 9 → id ≢ 10 → id ≢ 11 → 12 ≤ id
beyond_eleven id n0 n1 n2 n3 n4 n5 n6 n7 n8 n9 n10 n11 = above 11 id (above 10 id (above 9 id (above 8 id (above 7 id (above 6 id (above 5 id (above 4 id (above 3 id (above 2 id (above 1 id (above_none id n0) n1) n2) n3) n4) n5) n6) n7) n8) n9) n10) n11

-- the wider edition knows exactly the ids below 12
pub below_known : (id : ℕ) → id < 12 → wider_kind id ≡ kept → ⊥
unfolding wider_kind wider lookup
below_known id h e =
    by_test (eqb id 0) (λ t. name_known (rw (eqb-true id 0 t) at e)) λ t0.
    by_test (eqb id 1) (λ t. map_known (rw (eqb-true id 1 t) at e)) λ t1.
    by_test (eqb id 2) (λ t. indirect_known (rw (eqb-true id 2 t) at e)) λ t2.
    by_test (eqb id 3) (λ t. indirect_known (rw (eqb-true id 3 t) at e)) λ t3.
    by_test (eqb id 4) (λ t. map_known (rw (eqb-true id 4 t) at e)) λ t4.
    by_test (eqb id 5) (λ t. map_known (rw (eqb-true id 5 t) at e)) λ t5.
    by_test (eqb id 6) (λ t. map_known (rw (eqb-true id 6 t) at e)) λ t6.
    by_test (eqb id 7) (λ t. map_known (rw (eqb-true id 7 t) at e)) λ t7.
    by_test (eqb id 8) (λ t. map_known (rw (eqb-true id 8 t) at e)) λ t8.
    by_test (eqb id 9) (λ t. map_known (rw (eqb-true id 9 t) at e)) λ t9.
    by_test (eqb id 10) (λ t. indirect_known (rw (eqb-true id 10 t) at e)) λ t10.
    by_test (eqb id 11) (λ t. map_known (rw (eqb-true id 11 t) at e)) λ t11.
    absurd (omega (arith, h, beyond_eleven id (eqb-false id 0 t0) (eqb-false id 1 t1) (eqb-false id 2 t2) (eqb-false id 3 t3) (eqb-false id 4 t4) (eqb-false id 5 t5) (eqb-false id 6 t6) (eqb-false id 7 t7) (eqb-false id 8 t8) (eqb-false id 9 t9) (eqb-false id 10 t10) (eqb-false id 11 t11)))

pub beyond_kept : (id : ℕ) → 12 ≤ id → wider_kind id ≡ kept
unfolding wider_kind wider lookup
beyond_kept id h = rw (not 0 (omega arith), not 1 (omega arith), not 2 (omega arith), not 3 (omega arith), not 4 (omega arith), not 5 (omega arith), not 6 (omega arith), not 7 (omega arith), not 8 (omega arith), not 9 (omega arith), not 10 (omega arith), not 11 (omega arith))
  where
    not : (j : ℕ) → j < 12 → eqb id j ≡ false
    not j l = ne_eqb id j (λ e. omega (arith, e, h, l))

-- what the first edition knows is in the wider one what it was
pub same_known : (id : ℕ) → (known_kind id ≡ kept → ⊥) → wider_kind id ≡ known_kind id
unfolding known_kind known wider_kind wider lookup
same_known id n =
    by_test (eqb id 0) (λ t. rw (eqb-true id 0 t)) λ t₀.
    by_test (eqb id 1) (λ t. rw (eqb-true id 1 t)) λ t₁.
    by_test (eqb id 2) (λ t. rw (eqb-true id 2 t)) λ t₂.
    by_test (eqb id 4) (λ t. rw (eqb-true id 4 t)) λ t₄.
    by_test (eqb id 10) (λ t. rw (eqb-true id 10 t)) λ t₁₀.
    by_test (eqb id 11) (λ t. rw (eqb-true id 11 t)) λ t₁₁.
    absurd (n (rw (t₀, t₁, t₂, t₄, t₁₀, t₁₁)))

pub known_alike : (id : ℕ) {kind : Kind} → known_kind id ≡ kind → (kind ≡ kept → ⊥) → wider_kind id ≡ kind
known_alike id e n = same_known id (λ k. n (sym e ∙ k)) ∙ e

-- Over two such tables
module _ {kind_of other : ℕ → Kind} (same : (id : ℕ) → (kind_of id ≡ kept → ⊥) → other id ≡ kind_of id) where
  -- read by one and by the other, what both know is the same
  abbrev Alike : Table (Content Part) → Table (Content Part) → Type 0
  Alike t u = (id : ℕ) → (kind_of id ≡ kept → ⊥) → lookup id u ≡ lookup id t

  alike_row : (id : ℕ) {c d : Content Part} (t u : Table (Content Part)) → ((kind_of id ≡ kept → ⊥) → d ≡ c) → Alike t u → Alike (row id c t) (row id d u)
  unfolding lookup
  alike_row id t u here more j n = by_test (eqb j id) (λ e. rw (e, here (rw (eqb-true j id e) at n))) (λ e. rw e (more j n))

  -- one subsection is looked into by the one, and kept by the other or looked into as well
  record Narrowed (most least o : ℕ) (bs : List ℕ) (t : Table (Content Part)) (o' : ℕ) (rest : List ℕ) : Type 0 where
    value : Table (Content Part)
    reads : subsections kind_of most least o bs ≡ got value o' rest
    alike : Alike t value

  narrowed : (most least o : ℕ) (bs : List ℕ) {t : Table (Content Part)} {o' : ℕ} {rest : List ℕ} → subsections other most least o bs ≡ got t o' rest → Narrowed most least o bs t o' rest
  unfolding subsections contents remaining
  narrowed zero least o bs e = record { value = nil; reads = rw (got_next e, got_rest e); alike = λ id n. ap (lookup id) (got_value e) }
  narrowed (suc most) least o [] e = record { value = nil; reads = rw (got_next e, got_rest e); alike = λ id n. ap (lookup id) (got_value e) }
  narrowed (suc most) least o (id ∷ bs) e =
      in_subsection other most least o id bs e λ p o₁ r₁ c o₂ r₂ more above e₁ e₂ e₃ is.
      let ih = narrowed most (suc id) o₁ r₁ e₃ in
      rw (← is) (by_kind (kind_of id)
      (λ k. record {
        value = row id (whole p) ih.value;
        reads = a_subsection kind_of most least o id bs above e₁ (ap (λ kind. contents kind p.at p.bytes) k) ih.reads;
        alike = alike_row id more ih.value (λ n. absurd (n k)) ih.alike;
      })
      (λ n. record {
        value = row id c ih.value;
        reads = a_subsection kind_of most least o id bs above e₁ (ap (λ kind. contents kind p.at p.bytes) (sym (same id n)) ∙ e₂) ih.reads;
        alike = alike_row id more ih.value (λ _. refl) ih.alike;
      }))

  -- What the one accepts the other accepts
  pub narrower_accepts : (at : ℕ) (bs : List ℕ) {t : Table (Content Part)} → judge_names other at bs ≡ accepted t → (u : Table (Content Part)) × (judge_names kind_of at bs ≡ accepted u) × ((id : ℕ) → (kind_of id ≡ kept → ⊥) → lookup id u ≡ lookup id t)
  unfolding judge_names payload
  narrower_accepts at bs e =
      judged (subsections other (length bs) 0 at bs) e λ o rest r.
      let n = narrowed (length bs) 0 at bs r in
      (n.value, rw n.reads refl, n.alike)

  -- and what both know is answered alike
  pub narrower_answers : (id : ℕ) (q : Query) (at : ℕ) (bs : List ℕ) {t : Table (Content Part)} → (kind_of id ≡ kept → ⊥) → judge_names other at bs ≡ accepted t → asked kind_of id q at bs ≡ asked other id q at bs
  unfolding asked answer
  narrower_answers id q at bs n e =
      let (u, e₁, alike) = narrower_accepts at bs e in
      rw (e, e₁, alike id n) refl

-- What is known is not kept
module _ (kind_of : ℕ → Kind) where
  contents_silent : (kind : Kind) (o : ℕ) (bs : List ℕ) {c : Content Part} {o' : ℕ} {rest : List ℕ} → (kind ≡ kept → ⊥) → contents kind o bs ≡ got c o' rest → answer_in ItsContents c ≡ none
  unfolding contents
  contents_silent one_name o bs n e = in_turn (filling name o bs) _ e λ x o₁ r₁ e₁ e₂. rw (← got_value e₂)
  contents_silent name_map o bs n e = in_turn (filling (table name) o bs) _ e λ t o₁ r₁ e₁ e₂. rw (← got_value e₂)
  contents_silent indirect_map o bs n e = in_turn (filling (table (table name)) o bs) _ e λ t o₁ r₁ e₁ e₂. rw (← got_value e₂)
  contents_silent kept o bs n e = absurd (n refl)

  subsections_silent : (id most least o : ℕ) (bs : List ℕ) {t : Table (Content Part)} {o' : ℕ} {rest : List ℕ} → (kind_of id ≡ kept → ⊥) → subsections kind_of most least o bs ≡ got t o' rest → some_then (lookup id t) (answer_in ItsContents) ≡ none
  unfolding subsections lookup
  subsections_silent id zero least o bs n e = rw (← got_value e)
  subsections_silent id (suc most) least o [] n e = rw (← got_value e)
  subsections_silent id (suc most) least o (j ∷ bs) n e =
      in_subsection kind_of most least o j bs e λ p o₁ r₁ c o₂ r₂ more above e₁ e₂ e₃ is.
      rw (← is) (by_test (eqb id j)
      (λ t. let here : kind_of j ≡ kept → ⊥ = rw (eqb-true id j t) at n in rw t (contents_silent (kind_of j) p.at p.bytes here e₂))
      (λ t. rw t (subsections_silent id most (suc j) o₁ r₁ n e₃)))

  pub known_silent : (id at : ℕ) (bs : List ℕ) {t : Table (Content Part)} → (kind_of id ≡ kept → ⊥) → judge_names kind_of at bs ≡ accepted t → asked kind_of id ItsContents at bs ≡ accepted none
  unfolding judge_names payload asked answer
  known_silent id at bs n e =
      judged (subsections kind_of (length bs) 0 at bs) e λ o rest r.
      rw (e, subsections_silent id (length bs) 0 at bs n r)
