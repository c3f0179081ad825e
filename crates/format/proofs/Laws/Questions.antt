-- All that a table of ids allows is asked by one of the questions.
use Rattle.std.specs.Prelude.{ℕ, List, ◌≡◌, refl, eqb}
use Rattle.std.proofs.Math.Option.{some}
use Rattle.std.proofs.Common.{sym, eqb-true}
use Rattle.format.specs.Tables.{lookup}
use Rattle.format.specs.Names.{Kind, one_name, name_map, indirect_map, kept, known_kind, wider, wider_kind, kind_in}
use Rattle.format.specs.Questions.{Allowed, an_id, an_index, two_indices, any_id, id_of, query_of, AllowedBy, asked, ask_at, ask, as_told}
use Rattle.format.specs.declared.Edition.{Edition}
use Rattle.format.specs.declared.Edition.TheVariants.{First, Wider}
use Rattle.format.specs.declared.Question.{Question}
use Rattle.format.specs.declared.Question.TheVariants.{ModuleName, FunctionName, LocalName, LabelName, TypeName, TableName, MemoryName, GlobalName, ElementName, DataName, FieldName, TagName, KeptContents}
use Rattle.format.specs.declared.Query.{Query}
use Rattle.format.specs.declared.Query.TheVariants.{ItsName, NameOf, NameWithin}
use Rattle.format.proofs.Laws.Editions.{name_known, map_known, indirect_known, known_alike}
use Rattle.format.specs.Laws.Outcomes.{by_test}
use Rattle.format.specs.Laws.Options.{not_some, some_is, by_option}

-- the rows of the wider edition's table
data Known : ℕ → Kind → Type 0 where
  modules : Known 0 one_name
  functions : Known 1 name_map
  locals : Known 2 indirect_map
  labels : Known 3 indirect_map
  types : Known 4 name_map
  tables : Known 5 name_map
  memories : Known 6 name_map
  globals : Known 7 name_map
  elements : Known 8 name_map
  data_segments : Known 9 name_map
  fields : Known 10 indirect_map
  tags : Known 11 name_map

known_row : (id : ℕ) {k : Kind} → lookup id wider ≡ some k → Known id k
unfolding wider lookup
known_row id {k} e =
    by_test (eqb id 0) (λ t. rw (eqb-true id 0 t, ← some_is (rw t at e)) modules) λ t₀.
    by_test (eqb id 1) (λ t. rw (eqb-true id 1 t, ← some_is (rw (t₀, t) at e)) functions) λ t₁.
    by_test (eqb id 2) (λ t. rw (eqb-true id 2 t, ← some_is (rw (t₀, t₁, t) at e)) locals) λ t₂.
    by_test (eqb id 3) (λ t. rw (eqb-true id 3 t, ← some_is (rw (t₀, t₁, t₂, t) at e)) labels) λ t₃.
    by_test (eqb id 4) (λ t. rw (eqb-true id 4 t, ← some_is (rw (t₀, t₁, t₂, t₃, t) at e)) types) λ t₄.
    by_test (eqb id 5) (λ t. rw (eqb-true id 5 t, ← some_is (rw (t₀, t₁, t₂, t₃, t₄, t) at e)) tables) λ t₅.
    by_test (eqb id 6) (λ t. rw (eqb-true id 6 t, ← some_is (rw (t₀, t₁, t₂, t₃, t₄, t₅, t) at e)) memories) λ t₆.
    by_test (eqb id 7) (λ t. rw (eqb-true id 7 t, ← some_is (rw (t₀, t₁, t₂, t₃, t₄, t₅, t₆, t) at e)) globals) λ t₇.
    by_test (eqb id 8) (λ t. rw (eqb-true id 8 t, ← some_is (rw (t₀, t₁, t₂, t₃, t₄, t₅, t₆, t₇, t) at e)) elements) λ t₈.
    by_test (eqb id 9) (λ t. rw (eqb-true id 9 t, ← some_is (rw (t₀, t₁, t₂, t₃, t₄, t₅, t₆, t₇, t₈, t) at e)) data_segments) λ t₉.
    by_test (eqb id 10) (λ t. rw (eqb-true id 10 t, ← some_is (rw (t₀, t₁, t₂, t₃, t₄, t₅, t₆, t₇, t₈, t₉, t) at e)) fields) λ t₁₀.
    by_test (eqb id 11) (λ t. rw (eqb-true id 11 t, ← some_is (rw (t₀, t₁, t₂, t₃, t₄, t₅, t₆, t₇, t₈, t₉, t₁₀, t) at e)) tags) λ t₁₁.
    absurd (not_some (rw (t₀, t₁, t₂, t₃, t₄, t₅, t₆, t₇, t₈, t₉, t₁₀, t₁₁) at e))

-- a kind that is not kept stands in a row
known_kind_lem : (id : ℕ) (k : Kind) → wider_kind id ≡ k → (k ≡ kept → ⊥) → Known id k
unfolding wider_kind
known_kind_lem id k e n = by_option (lookup id wider) (λ q. absurd (n (sym (rw q at e)))) (λ j q. known_row id (rw (rw q at e) at q))

-- what is allowed is one of the questions
pub record Posed (id : ℕ) (q : Query) : Type 0 where
  pub question : Question
  pub its_id : id_of question ≡ id
  pub its_query : query_of question ≡ q

abbrev posed : (a : Question) → Posed (id_of a) (query_of a)
posed a = record { question = a; its_id = refl; its_query = refl }

one_posed : {id : ℕ} → Known id one_name → Posed id ItsName
one_posed modules = posed ModuleName

map_posed : {id k : ℕ} → Known id name_map → Posed id (NameOf k)
map_posed {k = k} functions = posed (FunctionName (record { 0 = k }))
map_posed {k = k} types = posed (TypeName (record { 0 = k }))
map_posed {k = k} tables = posed (TableName (record { 0 = k }))
map_posed {k = k} memories = posed (MemoryName (record { 0 = k }))
map_posed {k = k} globals = posed (GlobalName (record { 0 = k }))
map_posed {k = k} elements = posed (ElementName (record { 0 = k }))
map_posed {k = k} data_segments = posed (DataName (record { 0 = k }))
map_posed {k = k} tags = posed (TagName (record { 0 = k }))

indirect_posed : {id k j : ℕ} → Known id indirect_map → Posed id (NameWithin k j)
indirect_posed {k = k} {j = j} locals = posed (LocalName (record { 0 = k }) (record { 0 = j }))
indirect_posed {k = k} {j = j} labels = posed (LabelName (record { 0 = k }) (record { 0 = j }))
indirect_posed {k = k} {j = j} fields = posed (FieldName (record { 0 = k }) (record { 0 = j }))

abbrev pub AllPosed : (ℕ → Kind) → Type 0
AllPosed kind_of = (id : ℕ) (q : Query) → Allowed kind_of id q → Posed id q

wider_posed : AllPosed wider_kind
wider_posed id q (an_id e) = one_posed (known_kind_lem id one_name e name_known)
wider_posed id q (an_index e h) = map_posed (known_kind_lem id name_map e map_known)
wider_posed id q (two_indices e h g) = indirect_posed (known_kind_lem id indirect_map e indirect_known)
wider_posed id q (any_id h) = posed (KeptContents id)

-- what the first edition allows the wider one allows as well
allowed_wider : {id : ℕ} {q : Query} → Allowed known_kind id q → Allowed wider_kind id q
allowed_wider {id} (an_id e) = an_id (known_alike id e name_known)
allowed_wider {id} (an_index e h) = an_index (known_alike id e map_known) h
allowed_wider {id} (two_indices e h g) = two_indices (known_alike id e indirect_known) h g
allowed_wider (any_id h) = any_id h

pub all_posed : (edition : Edition) → AllPosed (kind_in edition)
all_posed First id q a = wider_posed id q (allowed_wider a)
all_posed Wider id q a = wider_posed id q a

-- so what holds of all questions that are allowed holds of all that is allowed
pub posed_told : (kind_of : ℕ → Kind) {id : ℕ} {q : Query} → Posed id q → Allowed kind_of id q → (x y : List ℕ) → ((a : Question) → AllowedBy kind_of a → as_told (ask kind_of a x) ≡ as_told (ask kind_of a y)) → as_told (asked kind_of id q 0 x) ≡ as_told (asked kind_of id q 0 y)
unfolding ask ask_at
posed_told kind_of p l x y h = let told = h p.question (rw (p.its_id, p.its_query) l) in rw (p.its_id, p.its_query) at told
