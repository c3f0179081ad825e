-- K8: the function names of a payload, by the grammar: where they stand is what the readers make of it, so that every sixteenth entry is a marker.
use Rattle.std.specs.Prelude.{ℕ, zero, suc, ◌+◌, ◌≤◌, ◌<◌, List, [], ◌∷◌, ◌++◌, map, ◌≢◌, ◌≡◌, refl, eqb, length}
use Rattle.std.proofs.Common.{append_assoc, append-nil, sym, ap, ◌∙◌, arith, le-leb, eqb-true, length-append}
use Rattle.std.proofs.Math.Option.{some}
use Rattle.std.proofs.lemmas.Bool.{eqb-false}
use Rattle.std.proofs.Math.ListN.{get_elem?}
use Rattle.std.proofs.Math.Seq.{take-append_seam, drop-append_seam}
use Rattle.format.specs.Canonical.{bare}
use Rattle.format.specs.Holding.{Has, first, later}
use Rattle.format.proofs.Laws.Holding.{lookup_has}
use Rattle.format.proofs.Laws.MarkerParts.{payload_kept, MarkersIn, no_functions, of_functions, markers_stand}
use Rattle.format.specs.Laws.Outcomes.{got_value, got_next, got_rest, by_test, judged}
use Rattle.format.proofs.Laws.Tables.{lookup_here, lookup_there, lookup_map}
use Rattle.format.specs.Laws.Turns.{in_subsection}
use Rattle.format.specs.Markers.{Entry, entry, entries, all_entries, thinned, Markers, unknown, functions_part, markers_of}
use Rattle.format.specs.Names.{Kind, name_map, known, known_kind, Content, names, whole, contents, subsections, payload, judge_names}
use Rattle.format.specs.Parts.{Part, sized, remaining}
use Rattle.format.specs.Questions.{answer, asked}
use Rattle.format.specs.Reading.{got, accepted}
use Rattle.format.specs.Tables.{Table, nil, row, lookup, map_table}
use Rattle.grammar.proofs.Laws.Names.{source_ids, names_complete}
use Rattle.grammar.proofs.Laws.Numbers.{number_complete}
use Rattle.grammar.specs.Lists.{Sized, sized as a_part, Entries, no_entry, entry as an_entry, listed}
use Rattle.grammar.specs.Names.{Name, name as a_name, SourceIds, Contents, a_name_map, Subsections, no_subsection, subsection, NamePayload, payload as a_payload}
use Rattle.grammar.specs.Numbers.{U32}
use Rattle.promises.specs.Demands.{FunctionMap, FunctionNames, a_map, no_map, EntryAt}

-- what has a size is read where it stands
sized_at : (size x rest : List ℕ) → U32 size (length x) → (o : ℕ) → sized o (size ++ (x ++ rest)) ≡ got (record { at = o + length size; bytes = x }) (o + length size + length x) rest
unfolding sized
sized_at size x rest u o = rw (number_complete u o (x ++ rest), length-append x rest, le-leb (length x) (length x + length rest) (omega arith), take-append_seam, drop-append_seam)

sized_there : {part x : List ℕ} → Sized part x → (o : ℕ) (rest : List ℕ) → (at : ℕ) × (sized o (part ++ rest) ≡ got (record { at = at; bytes = x }) (o + length part) rest)
sized_there (a_part {size = size} {contents = x} u) o rest =
    let far : o + length size + length x ≡ o + length (size ++ x) = omega (arith, length-append size x) in
    (o + length size, rw (append_assoc size x rest, sized_at size x rest u o, far))

-- the entries of a map are read, each where it stands
abbrev EachStands : (all : List Entry) (bytes : List ℕ) (n o : ℕ) → Type 0
EachStands all bytes n o = (i : ℕ) → i < n → (k at : ℕ) × (get_elem? (map (λ (e : Entry). e.index) all) i ≡ some k) × (get_elem? (map (λ (e : Entry). e.offset) all) i ≡ some at) × EntryAt bytes o i k at

record Placed (n : ℕ) (bytes : List ℕ) (o : ℕ) (rest : List ℕ) : Type 0 where
  all : List Entry
  count : length all ≡ n
  reads : entries n o (bytes ++ rest) ≡ got all (o + length bytes) rest
  each : EachStands all bytes n o

entry_there : {number value x : List ℕ} {k : ℕ} → U32 number k → Name value x → (o : ℕ) (rest : List ℕ) → (text : Part) × (entry o (number ++ value ++ rest) ≡ got (record { index = k; offset = o; text = text }) (o + length (number ++ value)) rest)
unfolding entry
entry_there {number = a} {value = b} {x = x} u (a_name s t) o rest =
    let (at, e) = sized_there s (o + length a) rest in
    let far : o + length a + length b ≡ o + length (a ++ b) = omega (arith, length-append a b) in
    (record { at = at; bytes = x }, rw (append_assoc a b rest, number_complete u o (b ++ rest), e, far))

entries_there : {n : ℕ} {bytes : List ℕ} {t : Table (List ℕ)} → Entries Name n bytes t → (o : ℕ) (rest : List ℕ) → Placed n bytes o rest
unfolding entries
entries_there no_entry o rest =
    let same : o ≡ o + 0 = omega arith in
    record { all = []; count = refl; reads = ap (λ (n : ℕ). got [] n rest) same; each = λ i l. absurd (omega arith) }
entries_there (an_entry {number = a} {value = b} {others = c} {n = n} {k = k} u g m) o rest =
    let (text, e) = entry_there u g o (c ++ rest) in
    let ih = entries_there m (o + length (a ++ b)) rest in
    let far : o + length (a ++ b) + length c ≡ o + length (a ++ b ++ c) = omega (arith, length-append (a ++ b) c) in
    record {
      all = record { index = k; offset = o; text = text } ∷ ih.all;
      count = ap suc ih.count;
      reads = rw (append_assoc (a ++ b) c rest, e, ih.reads, far);
      each = at_each ih.all text ih.each;
    }
  where
    at_each : (es : List Entry) (text : Part) → EachStands es c n (o + length (a ++ b)) → EachStands (record { index = k; offset = o; text = text } ∷ es) (a ++ b ++ c) (suc n) o
    at_each es text more zero l = (k, o, refl, refl, ([], a, b ++ c, nil, append_assoc a b c, no_entry, u, omega arith))
    at_each es text more (suc i) l =
        let (j, at, is, lies, stands) = more i (omega arith) in
        let (before, number, others, t, q, ms, v, far) = stands in
        (j, at, is, lies, (a ++ b ++ before, number, others, row k _ t, ap (λ x. a ++ b ++ x) q ∙ sym (append_assoc (a ++ b) before (number ++ others)), an_entry u g ms, v, omega (arith, far, length-append (a ++ b) before)))

-- Behind other subsections the one with the id 1 is found, where it stands
kept_there : (size x rest : List ℕ) → U32 size (length x) → (o : ℕ) (p : Part) (c : Content Part) (more : Table (Content Part)) {u : Table (Content Part)} {o₁ o₂ : ℕ} {r₁ r₂ : List ℕ} → sized o (size ++ (x ++ rest)) ≡ got p o₁ r₁ → contents (unknown 1) p.at p.bytes ≡ got c o₂ r₂ → row 1 c more ≡ u → lookup 1 u ≡ some (whole (record { at = o + length size; bytes = x }))
unfolding contents remaining
kept_there size x rest v o p c more e₁ e₂ is = rw (← is, ← got_value e₂, got_value (sym e₁ ∙ sized_at size x rest v o)) (lookup_here 1 _ more)

part_there : {front : List ℕ} {others : Table (Content (List ℕ))} → Subsections SourceIds front others → (size x rest : List ℕ) → U32 size (length x) → (most least o : ℕ) {u : Table (Content Part)} {o' : ℕ} {left : List ℕ} → subsections unknown most least o (front ++ (1 ∷ (size ++ (x ++ rest)))) ≡ got u o' left → length (front ++ (1 ∷ (size ++ (x ++ rest)))) ≤ most → (least ≤ 1) × (lookup 1 u ≡ some (whole (record { at = o + length front + 1 + length size; bytes = x })))
part_there no_subsection size x rest v zero least o e f = absurd (omega arith)
part_there no_subsection size x rest v (suc most) least o e f =
    in_subsection unknown most least o 1 (size ++ (x ++ rest)) e λ p o₁ r₁ c o₂ r₂ more above e₁ e₂ e₃ is.
    let far : o + 0 + 1 + length size ≡ suc o + length size = omega arith in
    (above, rw far (kept_there size x rest v (suc o) p c more e₁ e₂ is))
part_there (subsection s i c m) size x rest v zero least o e f = absurd (omega arith)
part_there (subsection {id = id} {part = part} {others = others} s i c m) size x rest v (suc most) least o e f =
    in_subsection unknown most least o id _ e λ p o₁ r₁ d o₂ r₂ more above e₁ e₂ e₃ is.
    let (at, there) = sized_there s (suc o) (others ++ (1 ∷ (size ++ (x ++ rest)))) in
    let same = sym there ∙ ap (sized (suc o)) (sym (append_assoc part others (1 ∷ (size ++ (x ++ rest))))) ∙ e₁ in
    let (below, found) = part_there m size x rest v most (suc id) (suc o + length part) (rw (← got_next same, ← got_rest same) at e₃) (omega (arith, length-append part others, length-append (part ++ others) (1 ∷ (size ++ (x ++ rest))), length-append others (1 ∷ (size ++ (x ++ rest))))) in
    let far : suc o + length part + length others + 1 + length size ≡ o + suc (length (part ++ others)) + 1 + length size = omega (arith, length-append part others) in
    (omega arith, rw (← is, ← far) (lookup_there 1 id d more (λ q. omega arith) ∙ found))

-- So the markers of a payload are every sixteenth of its entries, each of them where it stands
pub record MarksOf (p bytes : List ℕ) (n begin end : ℕ) : Type 0 where
  pub all : List Entry
  pub count : length all ≡ n
  pub own : markers_of p ≡ accepted (record { marked = thinned 0 all; end = end })
  pub each : EachStands all bytes n begin

marked_none : {p : List ℕ} {m : Table (Content (List ℕ))} → NamePayload SourceIds p m → ((c : Content (List ℕ)) → Has 1 c m → ⊥) → markers_of p ≡ accepted (record { marked = []; end = 0 })
marked_none {p} {m} g empty =
    let (t, e, same) = names_complete source_ids 0 p m g in
    let (marks, is, stand) = markers_stand p e in
    is ∙ ap accepted (by_stand same stand)
  where
    by_stand : {t : Table (Content Part)} {marks : Markers} → map_table bare t ≡ m → MarkersIn p t marks → marks ≡ record { marked = []; end = 0 }
    by_stand same (no_functions part nothing) = refl
    by_stand {t} same (of_functions {rows = rows} f) = absurd (empty (bare (names rows)) (rw (← same) (lookup_has 1 (map_table bare t) (lookup_map bare 1 t ∙ rw f.held))))

part_in : {p : List ℕ} {u : Table (Content Part)} {others : Table (Content (List ℕ))} (front size x rest : List ℕ) → judge_names unknown 0 p ≡ accepted u → p ≡ front ++ (1 ∷ (size ++ (x ++ rest))) → Subsections SourceIds front others → U32 size (length x) → functions_part p ≡ accepted (some (record { at = length front + 1 + length size; bytes = x }))
unfolding functions_part asked answer judge_names payload
part_in {p} front size x rest e is ss v =
    judged (subsections unknown (length p) 0 0 p) e λ o left r.
    let (below, found) = part_there ss size x rest v _ 0 0 (rw is at r) (omega arith) in
    let q : 0 + length front ≡ length front = omega arith in
    rw (e, found, q)

marked_map : {p bytes : List ℕ} {m : Table (Content (List ℕ))} {n begin end : ℕ} → NamePayload SourceIds p m → FunctionMap p bytes n begin end → MarksOf p bytes n begin end
unfolding markers_of all_entries
marked_map {p} {bytes} {m} {n} {begin} {end} g lies =
    let (front, size, count, rest, others, t, is, ss, v, c, es, from, to) = lies in
    let (rows, e, same) = names_complete source_ids 0 p m g in
    let (u, e₁, each) = payload_kept known_kind 0 p e in
    let part = part_in front size (count ++ bytes) rest e₁ (is ∙ rw (append_assoc count bytes rest)) ss (rw (length-append count bytes) v) in
    let placed = entries_there es begin [] in
    let reads : entries n begin bytes ≡ got placed.all (begin + length bytes) [] = rw append-nil at placed.reads in
    let far : length front + 1 + length size + length (count ++ bytes) ≡ end = omega (arith, length-append count bytes) in
    record {
      all = placed.all;
      count = placed.count;
      own = rw (e, part, number_complete c (length front + 1 + length size) bytes, from, reads, far);
      each = placed.each;
    }

pub function_markers : {p bytes : List ℕ} {n begin end : ℕ} → FunctionNames p bytes n begin end → MarksOf p bytes n begin end
unfolding thinned
function_markers (no_map g empty) = record { all = []; count = refl; own = marked_none g empty; each = λ i l. absurd (omega arith) }
function_markers (a_map g lies) = marked_map g lies

-- Every payload with a meaning has a map of function names, or none
data Found (bs : List ℕ) (m : Table (Content (List ℕ))) : Type 0 where
  nowhere : ((c : Content (List ℕ)) → Has 1 c m → ⊥) → Found bs m
  somewhere : (bytes : List ℕ) (n begin end : ℕ) → FunctionMap bs bytes n begin end → Found bs m

not_here : {id : ℕ} {c d : Content (List ℕ)} {m : Table (Content (List ℕ))} → id ≢ 1 → ((d : Content (List ℕ)) → Has 1 d m → ⊥) → Has 1 d (row id c m) → ⊥
not_here apart empty first = apart refl
not_here {d = d} apart empty (later h) = empty d h

behind : {id : ℕ} {part contents : List ℕ} {c : Content (List ℕ)} {m : Table (Content (List ℕ))} {kind : Kind} (bs : List ℕ) → id ≢ 1 → Sized part contents → SourceIds id kind → Contents kind contents c → Found bs m → Found (id ∷ part ++ bs) (row id c m)
behind bs apart s i c (nowhere empty) = nowhere (λ d h. not_here apart empty h)
behind {id} {part} bs apart s i c (somewhere bytes n begin end lies) =
    let (front, size, count, rest, others, t, is, ss, v, k, es, from, to) = lies in
    somewhere bytes n (suc (length part) + begin) (suc (length part) + end)
    (id ∷ part ++ front, size, count, rest, row id _ others, t, ap (λ x. id ∷ part ++ x) is ∙ ap (λ x. id ∷ x) (sym (append_assoc part front (1 ∷ (size ++ (count ++ (bytes ++ rest)))))), subsection s i c ss, v, k, es, omega (arith, length-append part front), omega arith)

here : {part contents : List ℕ} {c : Content (List ℕ)} {m : Table (Content (List ℕ))} (bs : List ℕ) → Sized part contents → Contents name_map contents c → Found (1 ∷ part ++ bs) (row 1 c m)
here bs (a_part {size = size} v) (a_name_map (listed {count = count} {entries = es} {n = n} {t = t} k e rising)) =
    somewhere es n _ _ ([], size, count, bs, nil, t, ap (λ x. 1 ∷ x) (append_assoc size (count ++ es) bs ∙ ap (λ x. size ++ x) (append_assoc count es bs)), no_subsection, rw (length-append count es) at v, k, e, refl, refl)

map_kind : {kind : Kind} → SourceIds 1 kind → kind ≡ name_map
unfolding known_kind known lookup
map_kind i = source_ids.only i

look : {bs : List ℕ} {m : Table (Content (List ℕ))} → Subsections SourceIds bs m → Found bs m
look no_subsection = nowhere (λ c h. elim h [ ])
look (subsection {id = id} {others = others} s i c ss) =
    by_test (eqb id 1)
    (λ q. let one = eqb-true id 1 q in rw one (here others s (rw (map_kind (rw one at i)) at c)))
    (λ q. behind others (eqb-false id 1 q) s i c (look ss))

pub function_names_lem : (p : List ℕ) (m : Table (Content (List ℕ))) → NamePayload SourceIds p m → (entries : List ℕ) × (n begin end : ℕ) × FunctionNames p entries n begin end
function_names_lem p m (a_payload ss rising) = by_found (look ss)
  where
    by_found : Found p m → (entries : List ℕ) × (n begin end : ℕ) × FunctionNames p entries n begin end
    by_found (nowhere empty) = ([], 0, 0, 0, no_map (a_payload ss rising) empty)
    by_found (somewhere bytes n begin end lies) = (bytes, n, begin, end, a_map (a_payload ss rising) lies)
