-- The reader of name payloads is exact.
use Prim.Native.Nat.{ℕ, zero, suc, ◌+◌, ◌≤◌}
use Rattle.std.specs.Prelude.{true, ◌≢◌, ◌≡◌, eqb, length}
use mathlib.Core.List.{List, [], ◌∷◌}
use Rattle.std.proofs.Math.Path.{refl, ap₂}
use Rattle.std.proofs.Common.{sym, ap, arith, le-leb, eqb-true, ne_eqb}
use Rattle.std.proofs.lemmas.Bool.{eqb-false}
use Rattle.std.proofs.Math.ListN.{length-append}
use Rattle.format.specs.Bytes.{Bytes}
use Rattle.format.specs.Reading.{got, filling, accepted}
use Rattle.format.specs.Parts.{Part, name, remaining}
use Rattle.format.specs.Text.{utf8}
use Rattle.format.specs.Tables.{Table, nil, row, lookup, map_table, table}
use Rattle.format.specs.Names.{Kind, one_name, name_map, indirect_map, kept, known, known_kind, wider, wider_kind, Content, single, names, names_by, whole, contents, subsections, payload, judge_names}
use Rattle.format.specs.Canonical.{bare}
use Rattle.format.proofs.Laws.Editions.{name_known, map_known, indirect_known, known_alike, beyond_eleven, beyond_kept}
use Rattle.format.specs.Laws.Outcomes.{got_value, by_test, in_turn, judged}
use Rattle.format.specs.Laws.Turns.{in_subsection}
use Rattle.format.specs.declared.Reason.TheVariants.{NotText}
use Rattle.grammar.specs.Lists.{Sized}
use Rattle.grammar.specs.Names.{Name, name as named, NameMap, IndirectNameMap, SourceIds, module_name, function_names, local_names, type_names, field_names, tag_names, any_other, WiderIds, of_the_source, label_names, table_names, memory_names, global_names, element_names, data_names, any_other_still, Contents, a_name, a_name_map, an_indirect_name_map, any_bytes, Subsections, no_subsection, subsection, NamePayload, payload as a_payload}
use Rattle.grammar.specs.Laws.Exact.{read_bytes, left_bytes, no_longer, Exact, fills_sound, fills_complete}
use Rattle.grammar.proofs.Laws.CodePoints.{utf8_text, text_utf8}
use Rattle.grammar.proofs.Laws.Lists.{sized_exact, contents_bytes, tested_exact, table_exact, From, from_nil, from_row, from_increasing, increasing_from}

name_from : (bs x : List ℕ) → Name bs x → Sized bs x × (utf8 x ≡ true)
name_from bs x (named s t) = (s, text_utf8 t)

pub name_exact : Exact name (λ p. p.bytes) Name
unfolding name
name_exact = tested_exact utf8 NotText (λ o p. p.at) (λ bs x s t. named s (utf8_text x t).1) name_from

map_exact : Exact (table name) (map_table (λ p. p.bytes)) NameMap
map_exact = table_exact name_exact

indirect_exact : Exact (table (table name)) (map_table (map_table (λ p. p.bytes))) IndirectNameMap
indirect_exact = table_exact map_exact

-- The source's table of ids is the definitions' own
kept_id : (id : ℕ) → id ≢ 0 → id ≢ 1 → id ≢ 2 → id ≢ 4 → id ≢ 10 → id ≢ 11 → known_kind id ≡ kept
unfolding known_kind known lookup
kept_id id n0 n1 n2 n4 n10 n11 = rw (ne_eqb id 0 n0, ne_eqb id 1 n1, ne_eqb id 2 n2, ne_eqb id 4 n4, ne_eqb id 10 n10, ne_eqb id 11 n11)

-- A table of ids says what a kind for each id says
pub record SameIds (Ids : ℕ → Kind → Type 0) (kind_of : ℕ → Kind) : Type 0 where
  pub has : (id : ℕ) → Ids id (kind_of id)
  pub only : {id : ℕ} {kind : Kind} → Ids id kind → kind ≡ kind_of id

source_has : (id : ℕ) → SourceIds id (known_kind id)
unfolding known_kind known lookup
source_has id =
    by_test (eqb id 0) (λ t. rw (eqb-true id 0 t) module_name) λ n0.
    by_test (eqb id 1) (λ t. rw (eqb-true id 1 t) function_names) λ n1.
    by_test (eqb id 2) (λ t. rw (eqb-true id 2 t) local_names) λ n2.
    by_test (eqb id 4) (λ t. rw (eqb-true id 4 t) type_names) λ n4.
    by_test (eqb id 10) (λ t. rw (eqb-true id 10 t) field_names) λ n10.
    by_test (eqb id 11) (λ t. rw (eqb-true id 11 t) tag_names) λ n11.
    rw (n0, n1, n2, n4, n10, n11) (any_other (eqb-false id 0 n0) (eqb-false id 1 n1) (eqb-false id 2 n2) (eqb-false id 4 n4) (eqb-false id 10 n10) (eqb-false id 11 n11))

source_only : {id : ℕ} {kind : Kind} → SourceIds id kind → kind ≡ known_kind id
unfolding known_kind known lookup
source_only module_name = refl
source_only function_names = refl
source_only local_names = refl
source_only type_names = refl
source_only field_names = refl
source_only tag_names = refl
source_only (any_other {id = id} n0 n1 n2 n4 n10 n11) = sym (kept_id id n0 n1 n2 n4 n10 n11)

pub source_ids : SameIds SourceIds known_kind
source_ids = record { has = source_has; only = source_only }

-- and the proposal's is the wider edition's
wider_has : (id : ℕ) → WiderIds id (wider_kind id)
unfolding wider_kind wider lookup
wider_has id =
    by_test (eqb id 0) (λ t. rw (eqb-true id 0 t) (of_the_source module_name name_known)) λ n0.
    by_test (eqb id 1) (λ t. rw (eqb-true id 1 t) (of_the_source function_names map_known)) λ n1.
    by_test (eqb id 2) (λ t. rw (eqb-true id 2 t) (of_the_source local_names indirect_known)) λ n2.
    by_test (eqb id 3) (λ t. rw (eqb-true id 3 t) label_names) λ n3.
    by_test (eqb id 4) (λ t. rw (eqb-true id 4 t) (of_the_source type_names map_known)) λ n4.
    by_test (eqb id 5) (λ t. rw (eqb-true id 5 t) table_names) λ n5.
    by_test (eqb id 6) (λ t. rw (eqb-true id 6 t) memory_names) λ n6.
    by_test (eqb id 7) (λ t. rw (eqb-true id 7 t) global_names) λ n7.
    by_test (eqb id 8) (λ t. rw (eqb-true id 8 t) element_names) λ n8.
    by_test (eqb id 9) (λ t. rw (eqb-true id 9 t) data_names) λ n9.
    by_test (eqb id 10) (λ t. rw (eqb-true id 10 t) (of_the_source field_names indirect_known)) λ n10.
    by_test (eqb id 11) (λ t. rw (eqb-true id 11 t) (of_the_source tag_names map_known)) λ n11.
    rw (n0, n1, n2, n3, n4, n5, n6, n7, n8, n9, n10, n11) (any_other_still (beyond_eleven id (eqb-false id 0 n0) (eqb-false id 1 n1) (eqb-false id 2 n2) (eqb-false id 3 n3) (eqb-false id 4 n4) (eqb-false id 5 n5) (eqb-false id 6 n6) (eqb-false id 7 n7) (eqb-false id 8 n8) (eqb-false id 9 n9) (eqb-false id 10 n10) (eqb-false id 11 n11)))

wider_only : {id : ℕ} {kind : Kind} → WiderIds id kind → kind ≡ wider_kind id
unfolding wider_kind wider lookup
wider_only (of_the_source {id = id} i n) = sym (known_alike id (sym (source_only i)) n)
wider_only label_names = refl
wider_only table_names = refl
wider_only memory_names = refl
wider_only global_names = refl
wider_only element_names = refl
wider_only data_names = refl
wider_only (any_other_still {id = id} h) = sym (beyond_kept id h)

pub wider_ids : SameIds WiderIds wider_kind
wider_ids = record { has = wider_has; only = wider_only }

-- contents by kind
map_sound {ℓ} : {C : Type ℓ} (o : ℕ) (bs : List ℕ) {c : Content Part} {o' : ℕ} {rest : List ℕ} → Bytes bs → contents name_map o bs ≡ got c o' rest → ((t : Table (List ℕ)) → NameMap bs t → names t ≡ bare c → C) → C
unfolding contents bare
map_sound o bs h e k = in_turn (filling (table name) o bs) _ e λ t o₁ r₁ e₁ e₂. k _ (fills_sound map_exact o bs h e₁) (rw (← got_value e₂))

indirect_sound {ℓ} : {C : Type ℓ} (o : ℕ) (bs : List ℕ) {c : Content Part} {o' : ℕ} {rest : List ℕ} → Bytes bs → contents indirect_map o bs ≡ got c o' rest → ((t : Table (Table (List ℕ))) → IndirectNameMap bs t → names_by t ≡ bare c → C) → C
unfolding contents bare
indirect_sound o bs h e k = in_turn (filling (table (table name)) o bs) _ e λ t o₁ r₁ e₁ e₂. k _ (fills_sound indirect_exact o bs h e₁) (rw (← got_value e₂))

pub contents_sound : (kind : Kind) (o : ℕ) (bs : List ℕ) {c : Content Part} {o' : ℕ} {rest : List ℕ} → Bytes bs → contents kind o bs ≡ got c o' rest → Contents kind bs (bare c)
unfolding contents bare remaining
contents_sound one_name o bs h e = in_turn (filling name o bs) _ e λ x o₁ r₁ e₁ e₂. rw (← got_value e₂) (a_name (fills_sound name_exact o bs h e₁))
contents_sound name_map o bs h e = map_sound o bs h e λ t m q. rw (← q) (a_name_map m)
contents_sound indirect_map o bs h e = indirect_sound o bs h e λ t m q. rw (← q) (an_indirect_name_map m)
contents_sound kept o bs h e = rw (← got_value e) any_bytes

pub record ContentsRead (k : Kind) (bs : List ℕ) (c : Content (List ℕ)) (o : ℕ) : Type 0 where
  pub value : Content Part
  pub next : ℕ
  pub reads : contents k o bs ≡ got value next []
  pub same : bare value ≡ c

map_complete : {bs : List ℕ} {t : Table (List ℕ)} → NameMap bs t → (o : ℕ) → ContentsRead name_map bs (names t) o
unfolding contents bare
map_complete m o = let (v, o', e, q) = fills_complete map_exact m o in record { value = names v; next = o'; reads = rw e; same = ap names q }

indirect_complete : {bs : List ℕ} {t : Table (Table (List ℕ))} → IndirectNameMap bs t → (o : ℕ) → ContentsRead indirect_map bs (names_by t) o
unfolding contents bare
indirect_complete m o = let (v, o', e, q) = fills_complete indirect_exact m o in record { value = names_by v; next = o'; reads = rw e; same = ap names_by q }

pub contents_complete : {kind : Kind} {bs : List ℕ} {c : Content (List ℕ)} → Contents kind bs c → (o : ℕ) → ContentsRead kind bs c o
unfolding contents bare remaining
contents_complete (a_name g) o = let (v, o', e, q) = fills_complete name_exact g o in record { value = single v; next = o'; reads = rw e; same = ap single q }
contents_complete (a_name_map m) o = map_complete m o
contents_complete (an_indirect_name_map m) o = indirect_complete m o
contents_complete (any_bytes {bs = bs}) o = record { value = whole (record { at = o; bytes = bs }); next = o + length bs; reads = refl; same = refl }

module _ {Ids : ℕ → Kind → Type 0} {kind_of : ℕ → Kind} (ids : SameIds Ids kind_of) where
  -- subsections up to the end
  subsections_sound : (most least o : ℕ) (bs : List ℕ) {t : Table (Content Part)} {o' : ℕ} {rest : List ℕ} → length bs ≤ most → Bytes bs → subsections kind_of most least o bs ≡ got t o' rest → Subsections Ids bs (map_table bare t) × From least (map_table bare t)
  unfolding subsections map_table
  subsections_sound zero least o [] f h e = rw (← got_value e) (no_subsection, from_nil)
  subsections_sound zero least o (b ∷ bs) f h e = absurd (omega arith)
  subsections_sound (suc most) least o [] f h e = rw (← got_value e) (no_subsection, from_nil)
  subsections_sound (suc most) least o (id ∷ bs) f h e =
      in_subsection kind_of most least o id bs e λ p o₁ r₁ c o₂ r₂ more above e₁ e₂ e₃ is.
      let h₁ : Bytes bs = λ i. h (suc i) in
      let s = sized_exact.sound (suc o) bs h₁ e₁ in
      let cs = contents_sound (kind_of id) p.at p.bytes (contents_bytes s.means (read_bytes s h₁)) e₂ in
      let (others, rising) = subsections_sound most (suc id) o₁ r₁ (omega (arith, no_longer s)) (left_bytes s h₁) e₃ in
      rw (← is, s.is) (subsection s.means (ids.has id) cs others, from_row above rising)

  record SubsectionsRead (most least : ℕ) (bs : List ℕ) (t : Table (Content (List ℕ))) (o : ℕ) : Type 0 where
    value : Table (Content Part)
    next : ℕ
    reads : subsections kind_of most least o bs ≡ got value next []
    same : map_table bare value ≡ t

  subsections_complete : {bs : List ℕ} {t : Table (Content (List ℕ))} → Subsections Ids bs t → (most least : ℕ) → length bs ≤ most → From least t → (o : ℕ) → SubsectionsRead most least bs t o
  unfolding subsections map_table
  subsections_complete no_subsection zero least n f o = record { value = nil; next = o; reads = refl; same = refl }
  subsections_complete no_subsection (suc most) least n f o = record { value = nil; next = o; reads = refl; same = refl }
  subsections_complete (subsection s i c m) zero least n f o = absurd (omega arith)
  subsections_complete (subsection {id = id} {part = part} {others = others} s i c m) (suc most) least n (from_row l f) o =
      let a = sized_exact.complete s (suc o) others in
      let b = contents_complete c a.value.at in
      let ih = subsections_complete m most (suc id) (omega (arith, length-append part others)) f a.next in
      record {
        value = row id b.value ih.value;
        next = ih.next;
        reads = rw (le-leb least id l, a.reads, a.same, ← ids.only i, b.reads, ih.reads);
        same = ap₂ (row id) b.same ih.same;
      }

  -- THE PAYLOAD, wherever it begins in what was lent
  pub names_sound : (at : ℕ) (p : List ℕ) (t : Table (Content Part)) → Bytes p → judge_names kind_of at p ≡ accepted t → NamePayload Ids p (map_table bare t)
  unfolding judge_names payload
  names_sound at p t h e =
      judged (payload kind_of at p) e λ o rest e₁.
      let (ss, f) = subsections_sound (length p) 0 at p (omega arith) h e₁ in
      a_payload ss (from_increasing f)

  pub names_complete : (at : ℕ) (p : List ℕ) (m : Table (Content (List ℕ))) → NamePayload Ids p m → (t : Table (Content Part)) × (judge_names kind_of at p ≡ accepted t) × (map_table bare t ≡ m)
  unfolding judge_names payload
  names_complete at p m (a_payload ss i) =
      let r = subsections_complete ss (length p) 0 (omega arith) (increasing_from i) at in
      (r.value, rw r.reads, r.same)
