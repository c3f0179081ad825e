-- What is found lies where the answer says, in the payload that was asked or in the module it was asked through.
use Rattle.std.specs.Prelude.{ℕ, zero, suc, List, [], ◌∷◌, ◌≡◌, refl, length}
use Rattle.std.proofs.Math.Option.{Option, none, some}
use Rattle.std.proofs.Common.{sym, ap, ◌∙◌}
use Rattle.format.specs.Bytes.{same}
use Rattle.format.specs.Reading.{got, Reader, filling, Judged, accepted, refused, judged_then, map_judged}
use Rattle.format.specs.Parts.{Part, name, remaining}
use Rattle.format.specs.Tables.{Table, lookup, table}
use Rattle.format.specs.Names.{Kind, one_name, name_map, indirect_map, kept, Content, single, names, names_by, whole, contents, subsections, payload, judge_names}
use Rattle.format.specs.Questions.{answer_in, answer, asked, id_of, query_of, ask_at}
use Rattle.format.specs.declared.Question.{Question}
use Rattle.format.specs.declared.Query.{Query}
use Rattle.format.specs.declared.Query.TheVariants.{ItsName, ItsContents, NameOf, NameWithin}
use Rattle.format.specs.Metadata.{metadata, judge_metadata, item_at, ask_metadata}
use Rattle.format.specs.Walk.{preamble, begins, Custom, custom, Section, Seen, nothing, seeing, sections, framing, walk, payload_of, payload_in, name_section, branch_hint, custom_payload}
use Rattle.format.specs.Through.{or_none, through, ask_through, metadata_section, item_of, ask_metadata_through}
use Rattle.format.specs.Laws.Outcomes.{got_value, accepted_is, by_test, in_turn, judged, mapped, followed}
use Rattle.format.specs.Laws.Options.{not_some, some_is, by_option, in_then}
use Rattle.format.specs.Laws.Turns.{in_subsection, in_section, in_sections}
use Rattle.format.proofs.Laws.Places.{Lies, lies_all, lies_step, PartIn, Located, sized_located, name_located, any_located, hint_located, remaining_in, Rows, no_rows, one_row, rows_found, table_located, filling_in}
use Rattle.format.proofs.Laws.Walk.{begins_passes}
use Rattle.format.specs.declared.FunctionIndex.{FunctionIndex}
use Rattle.format.specs.declared.CodeOffset.{CodeOffset}

-- Names
pub data ContentIn (all : List ℕ) : Content Part → Type 0 where
  single_in : {p : Part} → PartIn all p → ContentIn all (single p)
  names_in : {t : Table Part} → Rows (PartIn all) t → ContentIn all (names t)
  names_by_in : {t : Table (Table Part)} → Rows (Rows (PartIn all)) t → ContentIn all (names_by t)
  whole_in : {p : Part} → PartIn all p → ContentIn all (whole p)

contents_in_lem : (k : Kind) (all : List ℕ) (o : ℕ) (bs : List ℕ) {c : Content Part} {o' : ℕ} {rest : List ℕ} → Lies all o bs → contents k o bs ≡ got c o' rest → ContentIn all c
unfolding contents
contents_in_lem one_name all o bs l e = in_turn (filling name o bs) _ e λ x o₁ r₁ e₁ e₂. rw (← got_value e₂) (single_in (filling_in name_located all o bs l e₁))
contents_in_lem name_map all o bs l e = in_turn (filling (table name) o bs) _ e λ x o₁ r₁ e₁ e₂. rw (← got_value e₂) (names_in (filling_in (table_located name_located) all o bs l e₁))
contents_in_lem indirect_map all o bs l e = in_turn (filling (table (table name)) o bs) _ e λ x o₁ r₁ e₁ e₂. rw (← got_value e₂) (names_by_in (filling_in (table_located (table_located name_located)) all o bs l e₁))
contents_in_lem kept all o bs l e = in_turn (remaining o bs) _ e λ x o₁ r₁ e₁ e₂. rw (← got_value e₂) (whole_in (remaining_in all o bs l e₁))

subsections_in : (kind_of : ℕ → Kind) (most least : ℕ) (all : List ℕ) (o : ℕ) (bs : List ℕ) {t : Table (Content Part)} {o' : ℕ} {rest : List ℕ} → Lies all o bs → subsections kind_of most least o bs ≡ got t o' rest → Rows (ContentIn all) t
unfolding subsections
subsections_in kind_of zero least all o bs l e = rw (← got_value e) no_rows
subsections_in kind_of (suc most) least all o [] l e = rw (← got_value e) no_rows
subsections_in kind_of (suc most) least all o (id ∷ bs) l e =
    in_subsection kind_of most least o id bs e λ p o₁ r₁ c o₂ r₂ more above e₁ e₂ e₃ is.
    let l₁ = lies_step all o id bs l in
    rw (← is) (one_row
    (contents_in_lem (kind_of id) all p.at p.bytes (sized_located.value all (suc o) bs l₁ e₁) e₂)
    (subsections_in kind_of most (suc id) all o₁ r₁ (sized_located.after all (suc o) bs p o₁ r₁ l₁ e₁) e₃))

-- what an accepted payload holds under an id lies in it
pub content_lies : (kind_of : ℕ → Kind) (id : ℕ) (all : List ℕ) (o : ℕ) (bs : List ℕ) {t : Table (Content Part)} {c : Content Part} → Lies all o bs → judge_names kind_of o bs ≡ accepted t → lookup id t ≡ some c → ContentIn all c
unfolding judge_names payload
content_lies kind_of id all o bs l e f = judged (payload kind_of o bs) e λ o' rest e₁. rows_found id (subsections_in kind_of (length bs) 0 all o bs l e₁) f

answer_in_lem : {all : List ℕ} {c : Content Part} (q : Query) → ContentIn all c → {p : Part} → answer_in q c ≡ some p → PartIn all p
answer_in_lem ItsName (single_in h) e = rw (← some_is e) h
answer_in_lem ItsName (names_in h) e = absurd (not_some e)
answer_in_lem ItsName (names_by_in h) e = absurd (not_some e)
answer_in_lem ItsName (whole_in h) e = absurd (not_some e)
answer_in_lem ItsContents (single_in h) e = absurd (not_some e)
answer_in_lem ItsContents (names_in h) e = absurd (not_some e)
answer_in_lem ItsContents (names_by_in h) e = absurd (not_some e)
answer_in_lem ItsContents (whole_in h) e = rw (← some_is e) h
answer_in_lem (NameOf k) (single_in h) e = absurd (not_some e)
answer_in_lem (NameOf k) (names_in h) e = rows_found k h e
answer_in_lem (NameOf k) (names_by_in h) e = absurd (not_some e)
answer_in_lem (NameOf k) (whole_in h) e = absurd (not_some e)
answer_in_lem (NameWithin k j) (single_in h) e = absurd (not_some e)
answer_in_lem (NameWithin k j) (names_in h) e = absurd (not_some e)
answer_in_lem (NameWithin k j) (names_by_in {t = t} h) e = in_then (lookup k t) _ e λ u e₁ e₂. rows_found j (rows_found k h e₁) e₂
answer_in_lem (NameWithin k j) (whole_in h) e = absurd (not_some e)

pub name_lies : (kind_of : ℕ → Kind) (id : ℕ) (q : Query) (all : List ℕ) (o : ℕ) (bs : List ℕ) {p : Part} → Lies all o bs → asked kind_of id q o bs ≡ accepted (some p) → PartIn all p
unfolding asked answer
name_lies kind_of id q all o bs l e =
    mapped (answer id q) (judge_names kind_of o bs) e λ t e₁ e₂.
    in_then (lookup id t) _ e₂ λ c e₃ e₄. answer_in_lem q (content_lies kind_of id all o bs l e₁ e₃) e₄

-- Metadata
pub items_lie : {item : Reader Part} → Located item PartIn → (all : List ℕ) (o : ℕ) (bs : List ℕ) {t : Table (Table Part)} → Lies all o bs → judge_metadata item o bs ≡ accepted t → Rows (Rows (PartIn all)) t
unfolding judge_metadata metadata
items_lie {item} located all o bs l e = judged (metadata item o bs) e λ o' rest e₁. filling_in (table_located (table_located located)) all o bs l e₁

pub item_lies : {item : Reader Part} → Located item PartIn → (f : FunctionIndex) (at : CodeOffset) (all : List ℕ) (o : ℕ) (bs : List ℕ) {p : Part} → Lies all o bs → ask_metadata item f at o bs ≡ accepted (some p) → PartIn all p
unfolding ask_metadata item_at
item_lies {item} located f at all o bs l e =
    mapped (item_at f at) (judge_metadata item o bs) e λ t e₁ e₂.
    in_then (lookup f.0 t) _ e₂ λ u e₃ e₄. rows_found at.0 (rows_found f.0 (items_lie located all o bs l e₁) e₃) e₄

-- Sections of a module, and their payloads
pub record SectionIn (all : List ℕ) (s : Section) : Type 0 where
  pub contents : PartIn all s.contents
  pub payload : {c : Custom} → s.custom ≡ some c → PartIn all c.payload

pub data Each {A : Type 0} (In : A → Type 0) : List A → Type 0 where
  no_more : Each In []
  one_more : {v : A} {vs : List A} → In v → Each In vs → Each In (v ∷ vs)

custom_in : (id : ℕ) (all : List ℕ) (o : ℕ) (bs : List ℕ) {x : Option Custom} {o' : ℕ} {rest : List ℕ} {c : Custom} → Lies all o bs → custom id o bs ≡ got x o' rest → x ≡ some c → PartIn all c.payload
unfolding custom
custom_in zero all o bs l e is =
    in_turn (name o bs) _ e λ n o₁ r₁ e₁ e₂. in_turn (remaining o₁ r₁) _ e₂ λ p o₂ r₂ e₃ e₄.
    rw (← some_is (got_value e₄ ∙ is)) (remaining_in all o₁ r₁ (name_located.after all o bs n o₁ r₁ l e₁) e₃)
custom_in (suc id) all o bs l e is = absurd (not_some (got_value e ∙ is))

sections_in : (most : ℕ) (seen : Seen) (all : List ℕ) (o : ℕ) (bs : List ℕ) {ss : List Section} {o' : ℕ} {rest : List ℕ} → Lies all o bs → sections most seen o bs ≡ got ss o' rest → Each (SectionIn all) ss
unfolding sections
sections_in zero seen all o bs l e = rw (← got_value e) no_more
sections_in (suc most) seen all o [] l e = rw (← got_value e) no_more
sections_in (suc most) seen all o (id ∷ bs) l e =
    in_sections most seen o id bs e λ s o₁ r₁ more e₀ e₃ is. in_section seen o id bs e₀ λ o₂ r₂ _ _ e₁ e₂.
    let l₁ = lies_step all o id bs l in
    let c = sized_located.value all (suc o) bs l₁ e₁ in
    rw (← is) (one_more
    (record { contents = c; payload = λ q. custom_in id all s.contents.at s.contents.bytes c e₂ q })
    (sections_in most (seeing seen s) all o₁ r₁ (sized_located.after all (suc o) bs s.contents o₁ r₁ l₁ e₁) e₃))

-- every section of an accepted module lies in it
pub walk_in : (m : List ℕ) {ss : List Section} → walk m ≡ accepted ss → Each (SectionIn m) ss
unfolding walk framing
walk_in m e =
    judged (framing 0 m) e λ o rest e₁. in_turn (begins preamble 0 m) _ e₁ λ v o₁ r₁ e₂ e₃.
    sections_in (length m) nothing m o₁ r₁ (begins_passes (Lies m) (lies_step m) preamble 0 m v o₁ r₁ (lies_all m) e₂) e₃

payload_is : (x : List ℕ) (c : Option Custom) {p : Part} → payload_of x c ≡ some p → (d : Custom) × (c ≡ some d) × (d.payload ≡ p)
unfolding payload_of
payload_is x none e = absurd (not_some e)
payload_is x (some d) e = by_test (same x d.name.bytes) (λ t. (d, refl, some_is (rw t at e))) (λ t. absurd (not_some (rw t at e)))

payload_in_lem : {all : List ℕ} (x : List ℕ) {ss : List Section} {p : Part} → Each (SectionIn all) ss → payload_in x ss ≡ some p → PartIn all p
unfolding payload_in
payload_in_lem x no_more e = absurd (not_some e)
payload_in_lem x (one_more {v = s} h r) e =
    by_option (payload_of x s.custom)
    (λ n. payload_in_lem x r (rw n at e))
    (λ q n. let (d, is, there) = payload_is x s.custom n in rw (← some_is (rw n at e), ← there) (h.payload is))

pub payload_lies : (x m : List ℕ) {p : Part} → custom_payload x m ≡ accepted (some p) → PartIn m p
unfolding custom_payload
payload_lies x m e = mapped (payload_in x) (walk m) e λ ss e₁ e₂. payload_in_lem x (walk_in m e₁) e₂

-- Through a module
through_lies : (x : List ℕ) (question : ℕ → List ℕ → Judged (Option Part)) (m : List ℕ) {p : Part} → ((o : ℕ) (bs : List ℕ) → Lies m o bs → question o bs ≡ accepted (some p) → PartIn m p) → through x question m ≡ accepted (some p) → PartIn m p
unfolding through
through_lies x question m h e =
    followed (custom_payload x m) _ e λ found e₁ e₂. by_option found
    (λ n. absurd (not_some (accepted_is (rw n at e₂))))
    (λ q n. h q.at q.bytes (payload_lies x m (rw n at e₁)) (rw n at e₂))

pub name_lies_through : (kind_of : ℕ → Kind) (q : Question) (m : List ℕ) {p : Part} → ask_through kind_of q m ≡ accepted (some p) → PartIn m p
unfolding ask_through ask_at
name_lies_through kind_of q m e = through_lies name_section (ask_at kind_of q) m (λ o bs l e₁. name_lies kind_of (id_of q) (query_of q) m o bs l e₁) e

item_of_located : (format : List ℕ) → Located (item_of format) PartIn
unfolding item_of
item_of_located format = by_test (same format branch_hint) (λ t. rw t hint_located) (λ t. rw t any_located)

pub item_lies_through : (format : List ℕ) (f : FunctionIndex) (at : CodeOffset) (m : List ℕ) {p : Part} → ask_metadata_through format f at m ≡ accepted (some p) → PartIn m p
unfolding ask_metadata_through
item_lies_through format f at m e = through_lies (metadata_section format) (ask_metadata (item_of format) f at) m (λ o bs l e₁. item_lies (item_of_located format) f at m o bs l e₁) e

-- what is made of an answer can be made before or after
pub through_map : {A B : Type 0} (x : List ℕ) (make : Option A → Option B) (question : ℕ → List ℕ → Judged (Option A)) (m : List ℕ) → make none ≡ none → through x (λ o bs. map_judged make (question o bs)) m ≡ map_judged make (through x question m)
unfolding through
through_map x make question m none_stays = after (custom_payload x m)
  where
    after : (j : Judged (Option Part)) → judged_then j (λ found. or_none found (λ o bs. map_judged make (question o bs))) ≡ map_judged make (judged_then j (λ found. or_none found question))
    after (accepted none) = ap accepted (sym none_stays)
    after (accepted (some p)) = refl
    after (refused n at) = refl
