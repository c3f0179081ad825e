-- The name payload: what is read is well formed and no shorter than its shortest writing, and as long only where it is that writing; what is well formed is read back from its writing; an accepted payload is read to its end.
use Prim.Native.Nat.{ℕ, zero, suc, ◌+◌, ◌≤◌}
use Rattle.std.specs.Prelude.{true, ◌≡◌}
use mathlib.Core.List.{List, [], ◌∷◌}
use Rattle.std.proofs.Math.Path.{refl, sym, ap₂}
use Rattle.std.proofs.Common.{ap, le-leb}
use native.Mathlib.Omega.{arith}
use Rattle.std.proofs.Math.ListN.{length, length-append}
use Rattle.format.specs.Reading.{got, filling}
use Rattle.format.specs.Parts.{Part, name, remaining}
use Rattle.format.specs.Text.{utf8}
use Rattle.format.specs.Tables.{Table, nil, row, size, map_table, table}
use Rattle.format.specs.Names.{Kind, one_name, name_map, indirect_map, kept, Content, single, names, names_by, whole, contents, subsections, payload}
use Rattle.format.specs.Canonical.{bare, write_part, write_content, write_subsections}
use Rattle.format.specs.Laws.Outcomes.{got_value, got_rest, in_turn}
use Rattle.format.specs.Laws.Turns.{in_subsection}
use Rattle.format.specs.Laws.Tight.{Tight, tight_none, tight_all, tight_byte, tight_join}
use Rattle.format.proofs.Laws.Codecs.{Fits32, sized_codec, name_codec, Sorted, end, next, TableFine, table_codec, write_part_mono, part_tight, fill_sound, fill_back}

abbrev pub NameFine : List ℕ → Type 0
NameFine x = Fits32 (length x) × (utf8 x ≡ true)

pub data ContentFine : Kind → Content (List ℕ) → Type 0 where
  single_fine : {x : List ℕ} → NameFine x → ContentFine one_name (single x)
  names_fine_lem : {t : Table (List ℕ)} → TableFine NameFine t → ContentFine name_map (names t)
  names_by_fine : {t : Table (Table (List ℕ))} → TableFine (TableFine NameFine) t → ContentFine indirect_map (names_by t)
  whole_fine : {x : List ℕ} → ContentFine kept (whole x)

pub record ContentRead (k : Kind) (c : Content (List ℕ)) (bs : List ℕ) : Type 0 where
  pub fine : ContentFine k c
  pub shorter : length (write_content c) ≤ length bs
  pub tight : Tight (write_content c) [] bs

pub contents_sound : (k : Kind) (o : ℕ) (bs : List ℕ) {c : Content Part} {o' : ℕ} {rest : List ℕ} → contents k o bs ≡ got c o' rest → ContentRead k (bare c) bs
unfolding contents write_content bare remaining
contents_sound one_name o bs e =
    in_turn (filling name o bs) _ e λ x o₁ r₁ e₁ e₂.
    let s = fill_sound name_codec o bs e₁ in
    rw (← got_value e₂) (record { fine = single_fine s.fine; shorter = omega (arith, s.shorter); tight = s.tight })
contents_sound name_map o bs e =
    in_turn (filling (table name) o bs) _ e λ x o₁ r₁ e₁ e₂.
    let s = fill_sound (table_codec name_codec) o bs e₁ in
    rw (← got_value e₂) (record { fine = names_fine_lem s.fine; shorter = omega (arith, s.shorter); tight = s.tight })
contents_sound indirect_map o bs e =
    in_turn (filling (table (table name)) o bs) _ e λ x o₁ r₁ e₁ e₂.
    let s = fill_sound (table_codec (table_codec name_codec)) o bs e₁ in
    rw (← got_value e₂) (record { fine = names_by_fine s.fine; shorter = omega (arith, s.shorter); tight = s.tight })
contents_sound kept o bs e = rw (← got_value e) (record { fine = whole_fine; shorter = omega arith; tight = tight_all bs })

record ContentBack (k : Kind) (c : Content (List ℕ)) (o : ℕ) : Type 0 where
  value : Content Part
  next : ℕ
  reads : contents k o (write_content c) ≡ got value next []
  same : bare value ≡ c

contents_back : {k : Kind} {c : Content (List ℕ)} → ContentFine k c → (o : ℕ) → ContentBack k c o
unfolding contents write_content bare remaining
contents_back (single_fine h) o = let (v, o', e, q) = fill_back name_codec _ h o in record { value = single v; next = o'; reads = rw e; same = ap single q }
contents_back (names_fine_lem h) o = let (v, o', e, q) = fill_back (table_codec name_codec) _ h o in record { value = names v; next = o'; reads = rw e; same = ap names q }
contents_back (names_by_fine h) o = let (v, o', e, q) = fill_back (table_codec (table_codec name_codec)) _ h o in record { value = names_by v; next = o'; reads = rw e; same = ap names_by q }
contents_back (whole_fine {x = x}) o = record { value = whole (record { at = o; bytes = x }); next = o + length x; reads = refl; same = refl }

module _ (kind_of : ℕ → Kind) where
  abbrev pub SubFine : ℕ → Content (List ℕ) → Type 0
  SubFine id c = ContentFine (kind_of id) c × Fits32 (length (write_content c))

  pub record SubsectionsRead (least : ℕ) (t : Table (Content (List ℕ))) (rest bs : List ℕ) : Type 0 where
    pub sorted : Sorted SubFine least t
    pub shorter : length (write_subsections t) + length rest ≤ length bs
    pub tight : Tight (write_subsections t) rest bs

  pub subsections_sound : (most least o : ℕ) (bs : List ℕ) {t : Table (Content Part)} {o' : ℕ} {rest : List ℕ} → subsections kind_of most least o bs ≡ got t o' rest → SubsectionsRead least (map_table bare t) rest bs
  unfolding subsections map_table write_subsections
  subsections_sound zero least o bs e = rw (← got_value e, ← got_rest e) (record { sorted = end; shorter = omega arith; tight = tight_none _ })
  subsections_sound (suc most) least o [] e = rw (← got_value e, ← got_rest e) (record { sorted = end; shorter = omega arith; tight = tight_none _ })
  subsections_sound (suc most) least o (id ∷ bs) e =
      in_subsection kind_of most least o id bs e λ p o₁ r₁ c o₂ r₂ more above e₁ e₂ e₃ is.
      let s = sized_codec.sound (suc o) bs e₁ in
      let cs = contents_sound (kind_of id) p.at p.bytes e₂ in
      let ih = subsections_sound most (suc id) o₁ r₁ e₃ in
      let part : length (write_part (write_content (bare c))) + length r₁ ≤ length bs = omega (arith, s.shorter, write_part_mono (write_content (bare c)) p.bytes cs.shorter) in
      rw (← is) (record {
        sorted = next above (cs.fine, omega (arith, cs.shorter, s.fine)) ih.sorted;
        shorter = simp length-append (omega (arith, s.shorter, write_part_mono (write_content (bare c)) p.bytes cs.shorter, ih.shorter));
        tight = tight_byte id (tight_join part (part_tight cs.shorter cs.tight s.shorter s.tight) ih.shorter ih.tight);
      })

  record SubsectionsBack (most least : ℕ) (t : Table (Content (List ℕ))) (o : ℕ) : Type 0 where
    value : Table (Content Part)
    next : ℕ
    reads : subsections kind_of most least o (write_subsections t) ≡ got value next []
    same : map_table bare value ≡ t

  subsections_back : {t : Table (Content (List ℕ))} (most : ℕ) {least : ℕ} → Sorted SubFine least t → size t ≤ most → (o : ℕ) → SubsectionsBack most least t o
  unfolding subsections map_table write_subsections size
  subsections_back zero end n o = record { value = nil; next = o; reads = refl; same = refl }
  subsections_back (suc most) end n o = record { value = nil; next = o; reads = refl; same = refl }
  subsections_back zero (next l h r) n o = absurd (omega arith)
  subsections_back (suc most) (next {least = least} {k = id} {v = c} {t = t} l h r) n o =
      let s = sized_codec.back (write_content c) h.1 (suc o) (write_subsections t) in
      let b = contents_back h.0 s.value.at in
      let ih = subsections_back most r (omega arith) s.next in
      record {
        value = row id b.value ih.value;
        next = ih.next;
        reads = rw (le-leb least id l, s.reads, s.same, b.reads, ih.reads);
        same = ap₂ (row id) b.same ih.same;
      }

  -- the whole payload
  pub payload_sound : (o : ℕ) (bs : List ℕ) {t : Table (Content Part)} {o' : ℕ} {rest : List ℕ} → payload kind_of o bs ≡ got t o' rest → SubsectionsRead 0 (map_table bare t) rest bs
  unfolding payload
  payload_sound o bs e = subsections_sound (length bs) 0 o bs e

  size_bounded : (t : Table (Content (List ℕ))) → size t ≤ length (write_subsections t)
  unfolding size write_subsections
  size_bounded nil = omega arith
  size_bounded (row id c t) = simp length-append (omega (arith, size_bounded t))

  pub payload_back : {t : Table (Content (List ℕ))} → Sorted SubFine 0 t → (o : ℕ) → (v : Table (Content Part)) × (o' : ℕ) × (payload kind_of o (write_subsections t) ≡ got v o' []) × (map_table bare v ≡ t)
  unfolding payload
  payload_back {t} h o = let b = subsections_back (length (write_subsections t)) h (size_bounded t) o in (b.value, b.next, b.reads, b.same)

  -- the bound on the subsections' number is never met: an accepted payload is read to its end
  subsections_end : (most least o : ℕ) (bs : List ℕ) {t : Table (Content Part)} {o' : ℕ} {rest : List ℕ} → length bs ≤ most → subsections kind_of most least o bs ≡ got t o' rest → rest ≡ []
  unfolding subsections
  subsections_end zero least o [] h e = sym (got_rest e)
  subsections_end zero least o (b ∷ bs) h e = absurd (omega arith)
  subsections_end (suc most) least o [] h e = sym (got_rest e)
  subsections_end (suc most) least o (id ∷ bs) h e =
      in_subsection kind_of most least o id bs e λ p o₁ r₁ c o₂ r₂ more above e₁ e₂ e₃ is.
      subsections_end most (suc id) o₁ r₁ (omega (arith, (sized_codec.sound (suc o) bs e₁).shorter)) e₃

  pub payload_end : (o : ℕ) (bs : List ℕ) {t : Table (Content Part)} {o' : ℕ} {rest : List ℕ} → payload kind_of o bs ≡ got t o' rest → rest ≡ []
  unfolding payload
  payload_end o bs e = subsections_end (length bs) 0 o bs (omega arith) e
