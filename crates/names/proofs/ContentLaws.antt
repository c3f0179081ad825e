-- A subsection's contents: its kind by its id, and what a search over them answers.
use Rattle.std.specs.Prelude.{Ok, Err, Some, None}
use Prim.Native.Nat.{ℕ, ◌≤◌, ◌<◌}
use mathlib.Core.Bool.{Bool, true, false}
use mathlib.Core.List.{List, [], ◌∷◌}
use mathlib.Core.Logic.{◌⊎◌, inl, inr, ⊎_elim}
use mathlib.Core.Option.{Option, none, some}
use mathlib.Core.Path.{◌≡◌, refl, sym, ap, ◌∙◌}
use native.Mathlib.Omega.{arith}
use borrow.Author.Rules.{rules}
use borrow.Author.Tests.{lt-ltb, le-ltb, ltb-true, ltb-false, eqb-true, eqb-false, ne_eqb}
use denote.Enum.Declared.{tag_of}
use lib.Dec.{ltb, eqb}
use lib.Seq.{slice_empty, slice-cons, length-slice}
use Rattle.format.specs.Reading.{Outcome, got, stop, Reader, and_then, return, at_end, filling, Judged as AnyJudged, accepted, refused, judge, map_judged, verdict}
use Rattle.format.specs.Parts.{Part, sized, name, remaining}
use Rattle.format.specs.Tables.{lookup, table}
use Rattle.format.specs.Names.{Kind as AnyKind, one_name, name_map, indirect_map, known, known_kind, wider, wider_kind, kind_in, Content, single, names, names_by, contents}
use Rattle.format.specs.Questions.{answer_in, answered, as_place}
use Rattle.format.specs.declared.Query.{Query}
use Rattle.format.specs.declared.Query.TheVariants.{ItsName, NameOf, NameWithin}
use Rattle.format.specs.Laws.Outcomes.{by_test, by_outcome, accepted_is, not_accepted}
use Rattle.format.specs.Laws.Laxer.{Laxer, name_laxer, table_laxer, filled_laxer}
use Rattle.format.proofs.Laws.Passing.{sized_passes}
use Rattle.format.specs.declared.Edition.{Edition}
use Rattle.format.specs.declared.Edition.TheVariants.{First, Wider}
use Rattle.format.specs.Returned.{Answer}
use Rattle.format.specs.declared.Refusal.{Refusal}
use Rattle.format.specs.declared.Reason.TheVariants.{LeftOver}
use Rattle.reading.specs.Cursors.{Inside, left, part_of, PartReads}
use Rattle.reading.specs.declared.Cursor.{Cursor}
use Rattle.reading.specs.declared.again.Piece.{Piece}
use Rattle.reading.specs.Returned.{PartRead}
use Rattle.reading.proofs.Laws.{name_means, name_behind}
use Rattle.reading.specs.Standing.{Stands, Known, TakesPart}
use Rattle.reading.proofs.Standing.{Passable, stand, one_value}
use Rattle.tables.specs.Finding.{within, HeldOrdered, answer_of, Finds}
use Rattle.tables.specs.Returned.{Held}
use Rattle.tables.proofs.Accepted.{table_passable}
use Rattle.tables.proofs.FindLaws.{held_ordered_lem, held_means}
use Rattle.tables.specs.Judging.{name_map_read, Judges}
use Rattle.tables.specs.Returned.{Judged}
use Rattle.names.specs.Contents.{kind_meant, map_kind, is_nested, Asks, Rules, place_at, filled_by}
use Rattle.names.specs.Places.{KnownAt, AsksAt}
use Rattle.names.specs.declared.kinds.Kind.{Kind}
use Rattle.names.specs.declared.kinds.Kind.TheVariants.{OneName, NameMap, IndirectMap, Kept}
use Rattle.format.specs.contracts.Edition as edition_type
use Rattle.names.specs.contracts.kinds.Kind as kind_type

-- what is none of the wider edition's six is in it what it is in the first
same_else : (id : ℕ) → eqb id 3 ≡ false → eqb id 5 ≡ false → eqb id 6 ≡ false → eqb id 7 ≡ false → eqb id 8 ≡ false → eqb id 9 ≡ false → wider_kind id ≡ known_kind id
unfolding known_kind known wider_kind wider lookup
same_else id n3 n5 n6 n7 n8 n9 = rw (n3, n5, n6, n7, n8, n9)

-- The first edition's table of ids
module _ {id : ℕ} where
  pub kind_one : id ≡ 0 → kind_meant OneName ≡ known_kind id
  unfolding known_kind known lookup
  kind_one e = rw e

  pub kind_map : (id ≡ 1) ⊎ ((id ≡ 4) ⊎ (id ≡ 11)) → kind_meant NameMap ≡ known_kind id
  unfolding known_kind known lookup
  kind_map (inl e) = rw e
  kind_map (inr (inl e)) = rw e
  kind_map (inr (inr e)) = rw e

  pub kind_indirect : (id ≡ 2) ⊎ (id ≡ 10) → kind_meant IndirectMap ≡ known_kind id
  unfolding known_kind known lookup
  kind_indirect (inl e) = rw e
  kind_indirect (inr e) = rw e

  pub kind_kept : (id ≡ 0 → ⊥) → ((id ≡ 1) ⊎ ((id ≡ 4) ⊎ (id ≡ 11)) → ⊥) → ((id ≡ 2) ⊎ (id ≡ 10) → ⊥) → kind_meant Kept ≡ known_kind id
  unfolding known_kind known lookup
  kind_kept n m i = rw (ne_eqb id 0 n, ne_eqb id 1 (λ e. m (inl e)), ne_eqb id 2 (λ e. i (inl e)), ne_eqb id 4 (λ e. m (inr (inl e))), ne_eqb id 10 (λ e. i (inr e)), ne_eqb id 11 (λ e. m (inr (inr e))))

  -- the wider one's six: numbers that follow one another come as a range
  pub kind_labels : id ≡ 3 → kind_meant IndirectMap ≡ wider_kind id
  unfolding wider_kind wider lookup
  kind_labels e = rw e

  pub kind_wider_map : 5 ≤ id → id < 10 → kind_meant NameMap ≡ wider_kind id
  unfolding wider_kind wider lookup
  kind_wider_map l h =
      by_test (eqb id 5) (λ t. rw (eqb-true id 5 t)) λ n5.
      by_test (eqb id 6) (λ t. rw (eqb-true id 6 t)) λ n6.
      by_test (eqb id 7) (λ t. rw (eqb-true id 7 t)) λ n7.
      by_test (eqb id 8) (λ t. rw (eqb-true id 8 t)) λ n8.
      by_test (eqb id 9) (λ t. rw (eqb-true id 9 t)) λ n9.
      absurd (omega (arith, l, h, eqb-false id 5 n5, eqb-false id 6 n6, eqb-false id 7 n7, eqb-false id 8 n8, eqb-false id 9 n9))

  -- and else what the first one has
  pub kind_else : (k : Kind) → kind_meant k ≡ known_kind id → (id ≡ 3 → ⊥) → (id < 5) ⊎ (10 ≤ id) → kind_meant k ≡ wider_kind id
  kind_else k e n far = e ∙ sym (same_else id (ne_eqb id 3 n) (apart 5 (omega arith) (omega arith)) (apart 6 (omega arith) (omega arith)) (apart 7 (omega arith) (omega arith)) (apart 8 (omega arith) (omega arith)) (apart 9 (omega arith) (omega arith)))
    where
      apart : (j : ℕ) → 5 ≤ j → j < 10 → eqb id j ≡ false
      apart j l h = ne_eqb id j (λ q. ⊎_elim (λ below. omega (arith, below, q, l)) (λ above. omega (arith, above, q, h)) far)

pub ruleset kind_steps = (kind_one, kind_map, kind_indirect, kind_kept, kind_labels, kind_wider_map, kind_else, rules)

-- The table of an edition. An arm that binds nothing gives the tag alone
as_first : (x : Edition) → tag_of edition_type.the_type x ≡ 0 → x ≡ First
as_first First h = refl
as_first Wider h = absurd (omega arith)

as_wider : (x : Edition) → tag_of edition_type.the_type x ≡ 1 → x ≡ Wider
as_wider First h = absurd (omega arith)
as_wider Wider h = refl

module _ (edition : Edition) (id : ℕ) (k : Kind) where
  pub kind_first : tag_of edition_type.the_type edition ≡ 0 → kind_meant k ≡ known_kind id → kind_meant k ≡ kind_in edition id
  kind_first h e = rw (as_first edition h) e

  pub kind_wider : tag_of edition_type.the_type edition ≡ 1 → kind_meant k ≡ wider_kind id → kind_meant k ≡ kind_in edition id
  kind_wider h e = rw (as_wider edition h) e

pub ruleset kinds_in = (kind_first, kind_wider, rules)

-- The end of a search, as the code makes it
module _ {next : Cursor} (answer : Answer) where
  pub filled_not : next.at < next.end → Err (record { reason = LeftOver; offset = record { 0 = next.at } }) ≡ filled_by next answer
  filled_not h = rw (lt-ltb next.at next.end h)

  pub filled_is : next.end ≤ next.at → answer ≡ filled_by next answer
  filled_is h = rw (le-ltb next.at next.end h)

pub ruleset filled_steps = (filled_not, filled_is, rules)

-- what is asked of contents that fill their part can be asked before their end is looked at
fill_asked : {A : Type 0} (r : Outcome A) (wrap : A → Content Part) (q : Query) → map_judged (answer_in q) (judge (and_then (and_then r at_end) (λ x. return (wrap x)))) ≡ judge (and_then (and_then r (λ x. return (answer_in q (wrap x)))) at_end)
fill_asked (stop n at) wrap q = refl
fill_asked (got v o []) wrap q = refl
fill_asked (got v o (b ∷ bs)) wrap q = refl

-- and whether they are accepted does not hang on what was read
abbrev dropped : {A : Type 0} → Outcome A → Outcome (Unit {0})
dropped r = and_then r (λ v. return tt)

fill_judged : {A : Type 0} (r : Outcome A) (wrap : A → Content Part) → verdict (judge (and_then (dropped r) at_end)) ≡ verdict (judge (and_then (and_then r at_end) (λ x. return (wrap x))))
fill_judged (stop n at) wrap = refl
fill_judged (got v o []) wrap = refl
fill_judged (got v o (b ∷ bs)) wrap = refl

end_judged : (o : ℕ) (bs : List ℕ) → verdict (as_place (judge (at_end none o bs))) ≡ verdict (judge (at_end {A = Unit {0}} tt o bs))
unfolding as_place
end_judged o [] = refl
end_judged o (b ∷ bs) = refl

module _ {s : List ℕ} where
  at_the_end : (next : Cursor) (v : Option Part) (a : Answer) → Inside s next → answered a ≡ as_place (accepted v) → answered (filled_by next a) ≡ as_place (judge (at_end v next.at (left s next)))
  unfolding as_place
  at_the_end next v a i e =
      by_test (ltb next.at next.end)
      (λ t. rw (t, slice-cons next.at next.end s 0 (ltb-true next.at next.end t) i.within))
      (λ t. let q : next.end ≡ next.at = omega (arith, ltb-false next.at next.end t, i.ahead) in
      let nothing : left s next ≡ [] = rw (q, slice_empty) in
      rw (t, nothing) e)

  place_is : (part : Cursor) → Inside s part → answered (place_at part) ≡ as_place (accepted (some (part_of s part)))
  unfolding as_place
  place_is part i = rw (length-slice part.at part.end s i.within)

  -- a map
  map_ruled : (nested : Bool) {part : Cursor} {y : Answer} → verdict (answered y) ≡ verdict (judge (and_then (name_map_read nested part.at (left s part)) at_end)) → Rules (map_kind nested) s part y
  unfolding contents
  map_ruled true {part} e = record { says = e ∙ fill_judged (table (table name) part.at (left s part)) names_by }
  map_ruled false {part} e = record { says = e ∙ fill_judged (table name part.at (left s part)) names }

  module _ (nested : Bool) {part : Cursor} {x : Judged} (k : Judges (name_map_read nested) s part x) where
    pub map_refused : {r : Refusal} → x ≡ Err r → Rules (map_kind nested) s part (Err r)
    map_refused e = map_ruled nested (rw (← rw e at k.means))

    pub map_filled : {next : Cursor} {y : Answer} → Inside s part → x ≡ Ok next → y ≡ filled_by next (Ok None) → Rules (map_kind nested) s part y
    unfolding as_place
    map_filled {next} i e q =
        let far = rw e at k.same_part in
        let there : Inside s next = record { ahead = omega (arith, far.0, far.1); within = omega (arith, far.1, i.within) } in
        map_ruled nested (rw (q, ← rw e at k.means) (ap verdict (at_the_end next none (Ok None) there refl) ∙ end_judged next.at (left s next)))

-- one name
module _ {s : List ℕ} {part : Cursor} {x : PartRead} (p : PartReads name s part x) where
  pub one_refused : {r : Refusal} → x ≡ Err r → Asks one_name ItsName s part (Err r)
  unfolding contents as_place
  one_refused e = record { says = rw (← rw e at p.means) }

  module _ {text next : Cursor} {told : Bool} (i : Inside s part) (e : x ≡ Ok (text, next, told)) where
    pub one_asks : {y : Answer} → y ≡ filled_by next (place_at text) → Asks one_name ItsName s part y
    unfolding contents
    one_asks q =
        let b = name_behind i p e in
        record { says = rw (q, at_the_end next (some (part_of s text)) (place_at text) b.in_rest (place_is text b.in_part), fill_asked (name part.at (left s part)) single ItsName, name_means p e) }

    pub one_ordered : text.at ≤ text.end
    one_ordered = (name_behind i p e).in_part.ahead

pub ruleset one_steps = (one_refused, one_asks, one_ordered, rules)

pub ruleset map_steps = (map_refused, map_filled, rules)

-- contents of a kind: only whether they are refused matters
verdict_stays : {A : Type 0} (f : A → Option Part) (j : AnyJudged A) → verdict (as_place (map_judged f j)) ≡ verdict j
unfolding as_place
verdict_stays f (accepted v) = refl
verdict_stays f (refused n at) = refl

asked_rules : {kind : AnyKind} {q : Query} {s : List ℕ} {part : Cursor} {y : Answer} → Asks kind q s part y → Rules kind s part y
asked_rules {kind} {q} {s} {part} a = record { says = ap verdict a.says ∙ verdict_stays (answer_in q) (judge (contents kind part.at (left s part))) }

module _ {s : List ℕ} {part : Cursor} {kind : Kind} {y : Answer} where
  pub rules_one : kind ≡ OneName → Asks one_name ItsName s part y → Rules (kind_meant kind) s part y
  rules_one e a = rw e (asked_rules a)

-- the kinds that are left where an arm names none
pub nested_not : (kind : Kind) → (tag_of kind_type.the_type kind ≡ 0) ⊎ ((tag_of kind_type.the_type kind ≡ 1) ⊎ (tag_of kind_type.the_type kind ≡ 3)) → false ≡ is_nested kind
nested_not OneName h = refl
nested_not NameMap h = refl
nested_not IndirectMap h = absurd (⊎_elim (λ t. omega arith) (λ h'. ⊎_elim (λ t. omega arith) (λ t. omega arith) h') h)
nested_not Kept h = refl

pub ruleset nested_steps = (nested_not, rules)

pub rules_map : (kind : Kind) {s : List ℕ} {part : Cursor} {b : Bool} {y : Answer} → (tag_of kind_type.the_type kind ≡ 1) ⊎ (tag_of kind_type.the_type kind ≡ 2) → b ≡ is_nested kind → Rules (map_kind b) s part y → Rules (kind_meant kind) s part y
rules_map OneName h e a = absurd (⊎_elim (λ t. omega arith) (λ t. omega arith) h)
rules_map NameMap h e a = rw e at a
rules_map IndirectMap h e a = rw e at a
rules_map Kept h e a = absurd (⊎_elim (λ t. omega arith) (λ t. omega arith) h)

pub rules_kept : {s : List ℕ} {part : Cursor} {kind : Kind} → kind ≡ Kept → Rules (kind_meant kind) s part (Ok None)
unfolding contents remaining
rules_kept e = record { says = rw e }

pub ruleset content_steps = (rules_one, rules_map, rules_kept, rules)

-- What was accepted stands there for a reader without the checks that it passed
pub record Lax {A : Type 0} (lax : Reader A) (wrap : A → Content Part) (s : List ℕ) (part : Cursor) (held : Content Part) : Type 0 where
  pub value : A
  pub next : Cursor
  pub stands : Stands lax s part value next
  pub is : wrap value ≡ held

lax_stands : {A : Type 0} {strict lax : Reader A} → Laxer strict lax → Passable lax → (wrap : A → Content Part) {s : List ℕ} {part : Cursor} {held : Content Part} → Inside s part → judge (and_then (filling strict part.at (left s part)) (λ x. return (wrap x))) ≡ accepted held → Lax lax wrap s part held
lax_stands {strict = strict} l passes wrap {s} {part} i e =
    by_outcome (filling strict part.at (left s part))
    (λ v o' rest r.
    let (o₁, reads) = filled_laxer l part.at (left s part) r in
    record { value = v; next = _; stands = stand passes i reads; is = accepted_is (rw r at e) })
    (λ n at r. absurd (not_accepted (rw r at e)))

module _ {s : List ℕ} {part : Cursor} {held : Content Part} (i : Inside s part) where
  pub one_stands : judge (contents one_name part.at (left s part)) ≡ accepted held → Lax sized single s part held
  unfolding contents
  one_stands e = lax_stands name_laxer sized_passes single i e

  pub map_stands : judge (contents name_map part.at (left s part)) ≡ accepted held → Lax (table sized) names s part held
  unfolding contents
  map_stands e = lax_stands (table_laxer name_laxer) (table_passable sized_passes) names i e

  pub indirect_stands : judge (contents indirect_map part.at (left s part)) ≡ accepted held → Lax (table (table sized)) names_by s part held
  unfolding contents
  indirect_stands e = lax_stands (table_laxer (table_laxer name_laxer)) (table_passable (table_passable sized_passes)) names_by i e

module _ {s : List ℕ} {place : Held} {part : Cursor} (at_part : place ≡ Some part) where
  known_inside : {kind : AnyKind} → KnownAt kind s place → Inside s part
  known_inside h = rw at_part at h.inside

  module _ (h : KnownAt one_name s place) where
    one_lax : Lax sized single s part (rw at_part at h.known).value
    one_lax = one_stands (known_inside h) (rw at_part at h.known).judged

    pub one_known : Known sized s part
    one_known = let l = one_lax in record { value = l.value; next = l.next; stands = l.stands }

    pub one_asked : {r : Piece} {y : Answer} → TakesPart s part r → y ≡ answer_of (Some r.part) → AsksAt one_name ItsName s place y
    one_asked {r} w e =
        let l = one_lax in
        let same : part_of s r.part ≡ l.value = one_value w.stands l.stands in
        record { says = rw (e, held_means s (Some r.part) w.in_part, at_part, (rw at_part at h.known).judged, same, ← l.is) }

  module _ (h : KnownAt name_map s place) where
    map_lax : Lax (table sized) names s part (rw at_part at h.known).value
    map_lax = map_stands (known_inside h) (rw at_part at h.known).judged

    pub map_known : Known (table sized) s part
    map_known = let l = map_lax in record { value = l.value; next = l.next; stands = l.stands }

    pub map_asked : {key : ℕ} {held : Held} {y : Answer} → Finds (table sized) (lookup key) s part held → y ≡ answer_of held → AsksAt name_map (NameOf key) s place y
    map_asked {key} {held} f e =
        let l = map_lax in
        let same : f.value ≡ l.value = one_value f.stands l.stands in
        record { says = rw (e, held_means s held f.inside, f.found, at_part, (rw at_part at h.known).judged, same, ← l.is) }

  module _ (h : KnownAt indirect_map s place) where
    indirect_lax : Lax (table (table sized)) names_by s part (rw at_part at h.known).value
    indirect_lax = indirect_stands (known_inside h) (rw at_part at h.known).judged

    pub indirect_known : Known (table (table sized)) s part
    indirect_known = let l = indirect_lax in record { value = l.value; next = l.next; stands = l.stands }

    pub indirect_asked : {key inner : ℕ} {held : Held} {y : Answer} → Finds (table (table sized)) (within key inner) s part held → y ≡ answer_of held → AsksAt indirect_map (NameWithin key inner) s place y
    indirect_asked {key} {inner} {held} f e =
        let l = indirect_lax in
        let same : f.value ≡ l.value = one_value f.stands l.stands in
        record { says = rw (e, held_means s held f.inside, f.found, at_part, (rw at_part at h.known).judged, same, ← l.is) }

-- what was found is in order
pub found_ordered : {A : Type 0} {read : Reader A} {answer : A → Option Part} {s : List ℕ} {c : Cursor} (held : Held) → Finds read answer s c held → HeldOrdered held
found_ordered {s = s} held f = held_ordered_lem s held f.inside
