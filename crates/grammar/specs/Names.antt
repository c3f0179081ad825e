-- Rules R1.9 and R4.1 to R4.8 of docs/RULES.md.
-- The name payload (WebAssembly specification, appendix on custom sections, Name Section). What is said of a text is its bytes. Assumes nothing.
use Rattle.std.specs.Prelude.{ℕ, ◌≤◌, List, [], ◌∷◌, ◌++◌, ◌≢◌}
use Rattle.format.specs.Tables.{Table, nil, row}
use Rattle.format.specs.Names.{Kind, one_name, name_map, indirect_map, kept, Content, single, names, names_by, whole}
use Rattle.grammar.specs.Numbers.{Grammar}
use Rattle.grammar.specs.Texts.{Text}
use Rattle.grammar.specs.Lists.{Sized, Increasing, Listed}

-- name ::= b*:list(byte) ⇒ name (if utf8(name) = b*), where list(byte) is a count and so many bytes
pub data Name : List ℕ → List ℕ → Type 0 where
  name : {bs text characters : List ℕ} → Sized bs text → Text text characters → Name bs text

-- namemap ::= list(nameassoc), nameassoc ::= idx name
abbrev pub NameMap : Grammar (Table (List ℕ))
NameMap = Listed Name

-- indirectnamemap ::= list(indirectnameassoc), indirectnameassoc ::= idx namemap
abbrev pub IndirectNameMap : Grammar (Table (Table (List ℕ)))
IndirectNameMap = Listed NameMap

-- The source's table of ids: modulenamesubsec ::= namesubsection_0(name), funcnamesubsec ::= namesubsection_1(namemap), and so on. Tag names stand there under 11, and the table decides over the production that prints 1. The source has no others; under any other id the contents may be any bytes, since the rules keep them: "any other | kept"
pub data SourceIds : ℕ → Kind → Type 0 where
  module_name : SourceIds 0 one_name
  function_names : SourceIds 1 name_map
  local_names : SourceIds 2 indirect_map
  type_names : SourceIds 4 name_map
  field_names : SourceIds 10 indirect_map
  tag_names : SourceIds 11 name_map
  any_other : {id : ℕ} → id ≢ 0 → id ≢ 1 → id ≢ 2 → id ≢ 4 → id ≢ 10 → id ≢ 11 → SourceIds id kept

-- K9. The source's ids and the proposal's, as the request gives them: "ids 3 labels (indirect, by function), 5 tables, 6 memories, 7 globals, 8 element segments, 9 data segments (name maps)". Any other is kept
pub data WiderIds : ℕ → Kind → Type 0 where
  of_the_source : {id : ℕ} {kind : Kind} → SourceIds id kind → kind ≢ kept → WiderIds id kind
  label_names : WiderIds 3 indirect_map
  table_names : WiderIds 5 name_map
  memory_names : WiderIds 6 name_map
  global_names : WiderIds 7 name_map
  element_names : WiderIds 8 name_map
  data_names : WiderIds 9 name_map
  any_other_still : {id : ℕ} → 12 ≤ id → WiderIds id kept

-- the contents B of the subsection namesubsection_N(B), by what the table says of N
pub data Contents : Kind → List ℕ → Content (List ℕ) → Type 0 where
  a_name : {bs text : List ℕ} → Name bs text → Contents one_name bs (single text)
  a_name_map : {bs : List ℕ} {t : Table (List ℕ)} → NameMap bs t → Contents name_map bs (names t)
  an_indirect_name_map : {bs : List ℕ} {t : Table (Table (List ℕ))} → IndirectNameMap bs t → Contents indirect_map bs (names_by t)
  any_bytes : {bs : List ℕ} → Contents kept bs (whole bs)

-- Everything from here on is said over any table of ids
module _ (Ids : ℕ → Kind → Type 0) where
  -- namesubsection_N(B) ::= N:byte size:u32 B (if size = ||B||), one after another
  pub data Subsections : List ℕ → Table (Content (List ℕ)) → Type 0 where
    no_subsection : Subsections [] nil
    subsection : {id : ℕ} {kind : Kind} {part contents others : List ℕ} {c : Content (List ℕ)} {t : Table (Content (List ℕ))} → Sized part contents → Ids id kind → Contents kind contents c → Subsections others t → Subsections (id ∷ part ++ others) (row id c t)

  -- "Each subsection may occur at most once, and in order of increasing id."
  pub data NamePayload : List ℕ → Table (Content (List ℕ)) → Type 0 where
    payload : {bs : List ℕ} {t : Table (Content (List ℕ))} → Subsections bs t → Increasing t → NamePayload bs t
