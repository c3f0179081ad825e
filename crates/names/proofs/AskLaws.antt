-- The questions: what the contents at a place answer is the answer.
use Rattle.std.specs.Prelude.{Ok, Err, Some, None}
use Prim.Native.Nat.{ℕ, ◌≤◌}
use mathlib.Core.List.{List}
use mathlib.Core.Logic.{◌⊎◌, ⊎_elim}
use mathlib.Core.Option.{Option, none, some}
use mathlib.Core.Path.{◌≡◌, refl, sym, ap, ◌∙◌}
use native.Mathlib.Omega.{arith}
use borrow.Author.Rules.{rules}
use denote.Enum.Declared.{tag_of}
use lib.Seq.{length-slice}
use Rattle.format.specs.Reading.{Outcome, got, stop, and_then, return, filling, accepted, judge, verdict}
use Rattle.format.specs.Parts.{Part, name, remaining}
use Rattle.format.specs.Tables.{lookup, table}
use Rattle.format.specs.Names.{Kind as AnyKind, one_name, name_map, indirect_map, kept, Content, single, names, names_by, whole, contents, judge_names}
use Rattle.format.specs.Questions.{answer_in, answer, asked, ask_at, ask, as_place, answered, id_of, query_of}
use Rattle.format.specs.declared.Question.{Question}
use Rattle.format.specs.declared.Query.{Query}
use Rattle.format.specs.declared.Query.TheVariants.{ItsName, ItsContents, NameOf, NameWithin}
use Rattle.format.specs.Verdicts.{verdict_of}
use Rattle.format.specs.Laws.Outcomes.{not_accepted, accepted_is, mapped}
use Rattle.format.specs.Returned.{Answer}
use Rattle.format.specs.declared.Refusal.{Refusal}
use Rattle.format.specs.Returned.{Verdict}
use Rattle.reading.proofs.Laws.{left_all, over_inside}
use Rattle.reading.specs.Cursors.{Inside, left, over_all}
use Rattle.reading.specs.declared.Cursor.{Cursor}
use Rattle.names.specs.Contents.{kind_meant, asks_in, place_at}
use Rattle.names.specs.Places.{sub_of, SubInside, KnownNames, KnownFrames, KnownAt, Stands, Finds, AsksAt}
use Rattle.names.specs.declared.kinds.Kind.{Kind}
use Rattle.names.specs.declared.kinds.Kind.TheVariants.{OneName, NameMap, IndirectMap, Kept}
use Rattle.tables.specs.Returned.{Held}
use Rattle.format.proofs.Tags.{judged_refused, judged_accepted}
use Rattle.format.specs.contracts.Query as query_type
use Rattle.names.specs.contracts.kinds.Kind as kind_type
use Rattle.names.proofs.ContentLaws.{one_known, one_asked, map_known, map_asked, indirect_known, indirect_asked, found_ordered}
use Rattle.names.proofs.FrameLaws.{frames_accepted, asked_lies}

-- The contents at a place
module _ {s : List ℕ} {place : Held} where
  pub nothing_asked : {kind : AnyKind} {q : Query} → place ≡ None → AsksAt kind q s place (Ok None)
  unfolding as_place
  nothing_asked e = record { says = rw e }

  module _ {part : Cursor} (e : place ≡ Some part) where
    pub kept_asked : SubInside s place → AsksAt kept ItsContents s place (place_at part)
    unfolding contents remaining as_place
    kept_asked i = let h : Inside s part = rw e at i in record { says = rw (e, length-slice part.at part.end s h.within) }

pub place_ahead : (s : List ℕ) {place : Held} {part : Cursor} → place ≡ Some part → SubInside s place → part.at ≤ part.end
place_ahead s {part = part} e i = let h : Inside s part = rw e at i in h.ahead

pub ruleset place_steps = (nothing_asked, place_ahead, kept_asked, rules)

pub ruleset map_steps = (nothing_asked, one_known, one_asked, map_known, map_asked, indirect_known, indirect_asked, found_ordered, rules)

-- What an accepted payload answers: what the contents under the id do
module _ {kind_of : ℕ → AnyKind} {s : List ℕ} {c : Cursor} (a : KnownNames kind_of s c) where
  pub names_framed : KnownFrames s c
  names_framed = record { inside = a.inside; known = frames_accepted kind_of c.at (left s c) a.known }

  under : (id : ℕ) (x : Query) → asked kind_of id x c.at (left s c) ≡ asks_in (kind_of id) x (lookup id names_framed.known.value)
  under id x = asked_lies kind_of id x c.at (left s c) a.known.judged names_framed.known.judged

  told : (id : ℕ) (x : Query) → asked kind_of id x c.at (left s c) ≡ accepted (answer id x a.known.value)
  unfolding asked
  told id x = rw a.known.judged refl

  module _ {id : ℕ} {place : Held} (finds : Finds s c.at (left s c) id place) where
    lies : Stands s place (lookup id names_framed.known.value)
    lies = finds.stands names_framed.known.value names_framed.known.judged

    known_stands : (place : Held) → Stands s place (lookup id names_framed.known.value) → KnownAt (kind_of id) s place
    known_stands None st = record { inside = tt; known = tt }
    known_stands (Some d) st =
        let there : asks_in (kind_of id) ItsName (sub_of s (Some d)) ≡ accepted (answer id ItsName a.known.value) = ap (asks_in (kind_of id) ItsName) st.is ∙ sym (under id ItsName) ∙ told id ItsName in
        record { inside = st.inside; known = mapped (answer_in ItsName) (judge (contents (kind_of id) d.at (left _ d))) there λ v e q. record { value = v; judged = e } }

    module _ (k : Kind) (is : kind_meant k ≡ kind_of id) where
      known_there : KnownAt (kind_meant k) s place
      known_there = rw is (known_stands place lies)

      there_answers : (x : Query) {y : Answer} → AsksAt (kind_meant k) x s place y → answered y ≡ as_place (asked kind_of id x c.at (left s c))
      there_answers x {y} asks =
          let asks_it : AsksAt (kind_of id) x s place y = rw is at asks in
          asks_it.says ∙ ap as_place (rw lies.is (sym (under id x)))

-- A query is for one kind, and contents of another have no answer to it
abbrev kind_for : Query → AnyKind
kind_for ItsName = one_name
kind_for (NameOf k) = name_map
kind_for (NameWithin k j) = indirect_map
kind_for ItsContents = kept

abbrev kind_held : Content Part → AnyKind
kind_held (single x) = one_name
kind_held (names t) = name_map
kind_held (names_by t) = indirect_map
kind_held (whole x) = kept

silent : (x : Query) (held : Content Part) → (kind_for x ≡ kind_held held → ⊥) → answer_in x held ≡ none
silent ItsName (single v) n = absurd (n refl)
silent ItsName (names t) n = refl
silent ItsName (names_by t) n = refl
silent ItsName (whole v) n = refl
silent (NameOf k) (single v) n = refl
silent (NameOf k) (names t) n = absurd (n refl)
silent (NameOf k) (names_by t) n = refl
silent (NameOf k) (whole v) n = refl
silent (NameWithin k j) (single v) n = refl
silent (NameWithin k j) (names t) n = refl
silent (NameWithin k j) (names_by t) n = absurd (n refl)
silent (NameWithin k j) (whole v) n = refl
silent ItsContents (single v) n = refl
silent ItsContents (names t) n = refl
silent ItsContents (names_by t) n = refl
silent ItsContents (whole v) n = absurd (n refl)

wrapped : {A : Type 0} (r : Outcome A) (wrap : A → Content Part) (kind : AnyKind) {held : Content Part} → ((v : A) → kind_held (wrap v) ≡ kind) → judge (and_then r (λ v. return (wrap v))) ≡ accepted held → kind_held held ≡ kind
wrapped (got v o rest) wrap kind h e = rw (← accepted_is e) (h v)
wrapped (stop n at) wrap kind h e = absurd (not_accepted e)

held_kind : (kind : AnyKind) (o : ℕ) (bs : List ℕ) {held : Content Part} → judge (contents kind o bs) ≡ accepted held → kind_held held ≡ kind
unfolding contents
held_kind one_name o bs e = wrapped (filling name o bs) single one_name (λ v. refl) e
held_kind name_map o bs e = wrapped (filling (table name) o bs) names name_map (λ v. refl) e
held_kind indirect_map o bs e = wrapped (filling (table (table name)) o bs) names_by indirect_map (λ v. refl) e
held_kind kept o bs e = wrapped (remaining o bs) whole kept (λ v. refl) e

silent_in : (kind : AnyKind) (x : Query) (found : Option Part) {y : Option Part} → (kind_for x ≡ kind → ⊥) → asks_in kind x found ≡ accepted y → none ≡ y
silent_in kind x none n e = accepted_is e
silent_in kind x (some p) n e =
    mapped (answer_in x) (judge (contents kind p.at p.bytes)) e λ held e₁ e₂.
    sym (silent x held (λ q. n (q ∙ held_kind kind p.at p.bytes e₁))) ∙ e₂

-- an arm that binds nothing gives the tag alone
as_name : (x : Query) → tag_of query_type.the_type x ≡ 0 → x ≡ ItsName
as_name ItsName h = refl
as_name (NameOf k) h = absurd (omega arith)
as_name (NameWithin k j) h = absurd (omega arith)
as_name ItsContents h = absurd (omega arith)

as_contents : (x : Query) → tag_of query_type.the_type x ≡ 3 → x ≡ ItsContents
as_contents ItsName h = absurd (omega arith)
as_contents (NameOf k) h = absurd (omega arith)
as_contents (NameWithin k j) h = absurd (omega arith)
as_contents ItsContents h = refl

-- both have the number of their kind
number : AnyKind → ℕ
number one_name = 0
number name_map = 1
number indirect_map = 2
number kept = 3

kind_number : (k : Kind) → tag_of kind_type.the_type k ≡ number (kind_meant k)
unfolding number
kind_number OneName = refl
kind_number NameMap = refl
kind_number IndirectMap = refl
kind_number Kept = refl

query_number : (x : Query) → tag_of query_type.the_type x ≡ number (kind_for x)
unfolding number
query_number ItsName = refl
query_number (NameOf k) = refl
query_number (NameWithin k j) = refl
query_number ItsContents = refl

-- a kind by its tag
as_one_name : (k : Kind) → tag_of kind_type.the_type k ≡ 0 → k ≡ OneName
as_one_name OneName h = refl
as_one_name NameMap h = absurd (omega arith)
as_one_name IndirectMap h = absurd (omega arith)
as_one_name Kept h = absurd (omega arith)

as_name_map : (k : Kind) → tag_of kind_type.the_type k ≡ 1 → k ≡ NameMap
as_name_map OneName h = absurd (omega arith)
as_name_map NameMap h = refl
as_name_map IndirectMap h = absurd (omega arith)
as_name_map Kept h = absurd (omega arith)

as_indirect_map : (k : Kind) → tag_of kind_type.the_type k ≡ 2 → k ≡ IndirectMap
as_indirect_map OneName h = absurd (omega arith)
as_indirect_map NameMap h = absurd (omega arith)
as_indirect_map IndirectMap h = refl
as_indirect_map Kept h = absurd (omega arith)

as_kept : (k : Kind) → tag_of kind_type.the_type k ≡ 3 → k ≡ Kept
as_kept OneName h = absurd (omega arith)
as_kept NameMap h = absurd (omega arith)
as_kept IndirectMap h = absurd (omega arith)
as_kept Kept h = refl

module _ {kind_of : ℕ → AnyKind} {s : List ℕ} {c : Cursor} (a : KnownNames kind_of s c) (q : Question) {x : Query} {id : ℕ} (k : Kind) (asks : x ≡ query_of q) (of : id ≡ id_of q) (is : kind_meant k ≡ kind_of id) where
  -- no such answer
  none_said : (tag_of kind_type.the_type k ≡ tag_of query_type.the_type x → ⊥) → answered (Ok None) ≡ as_place (ask_at kind_of q c.at (left s c))
  unfolding ask_at as_place
  none_said n =
      let other : kind_for x ≡ kind_of id → ⊥ = λ e. n (kind_number k ∙ ap number (is ∙ sym e) ∙ sym (query_number x)) in
      let nothing = silent_in (kind_of id) x (lookup id (names_framed a).known.value) other (sym (under a id x) ∙ told a id x) in
      rw (← asks, ← of, told a id x, ← nothing)

  pub name_none : tag_of query_type.the_type x ≡ 0 → (k ≡ OneName → ⊥) → answered (Ok None) ≡ as_place (ask_at kind_of q c.at (left s c))
  name_none h n = none_said (λ e. n (as_one_name k (e ∙ h)))

  pub map_none : {key : ℕ} → x ≡ NameOf key → (k ≡ NameMap → ⊥) → answered (Ok None) ≡ as_place (ask_at kind_of q c.at (left s c))
  map_none q n = none_said (λ e. n (as_name_map k (e ∙ rw q)))

  pub indirect_none : {key inner : ℕ} → x ≡ NameWithin key inner → (k ≡ IndirectMap → ⊥) → answered (Ok None) ≡ as_place (ask_at kind_of q c.at (left s c))
  indirect_none q n = none_said (λ e. n (as_indirect_map k (e ∙ rw q)))

  pub kept_none : tag_of query_type.the_type x ≡ 3 → (k ≡ Kept → ⊥) → answered (Ok None) ≡ as_place (ask_at kind_of q c.at (left s c))
  kept_none h n = none_said (λ e. n (as_kept k (e ∙ h)))

  -- what stands under the id
  module _ {place : Held} (finds : Finds s c.at (left s c) id place) where
    answers : {y : Answer} → AsksAt (kind_meant k) x s place y → answered y ≡ as_place (ask_at kind_of q c.at (left s c))
    unfolding ask_at
    answers asks_it = rw (← asks, ← of) (there_answers a finds k is x asks_it)

    pub name_there : k ≡ OneName → KnownAt one_name s place
    name_there e = rw e at (known_there a finds k is)

    pub name_answers : {y : Answer} → tag_of query_type.the_type x ≡ 0 → k ≡ OneName → AsksAt one_name ItsName s place y → answered y ≡ as_place (ask_at kind_of q c.at (left s c))
    name_answers {y} h e asks_it = answers {y = y} (rw (e, as_name x h) asks_it)

    pub map_there : k ≡ NameMap → KnownAt name_map s place
    map_there e = rw e at (known_there a finds k is)

    pub map_answers : {key : ℕ} {y : Answer} → x ≡ NameOf key → k ≡ NameMap → AsksAt name_map (NameOf key) s place y → answered y ≡ as_place (ask_at kind_of q c.at (left s c))
    map_answers {y = y} h e asks_it = answers {y = y} (rw (e, h) asks_it)

    pub indirect_there : k ≡ IndirectMap → KnownAt indirect_map s place
    indirect_there e = rw e at (known_there a finds k is)

    pub indirect_answers : {key inner : ℕ} {y : Answer} → x ≡ NameWithin key inner → k ≡ IndirectMap → AsksAt indirect_map (NameWithin key inner) s place y → answered y ≡ as_place (ask_at kind_of q c.at (left s c))
    indirect_answers {y = y} h e asks_it = answers {y = y} (rw (e, h) asks_it)

    pub kept_there : k ≡ Kept → SubInside s place
    kept_there e = (known_there a finds k is).inside

    pub kept_answers : {y : Answer} → tag_of query_type.the_type x ≡ 3 → k ≡ Kept → AsksAt kept ItsContents s place y → answered y ≡ as_place (ask_at kind_of q c.at (left s c))
    kept_answers {y} h e asks_it = answers {y = y} (rw (e, as_contents x h) asks_it)

pub ruleset answering = (names_framed, name_none, map_none, indirect_none, kept_none, name_there, name_answers, map_there, map_answers, indirect_there, indirect_answers, kept_there, kept_answers, rules)

-- A payload that is not accepted, and one that is
module _ (kind_of : ℕ → AnyKind) (s : List ℕ) (c : Cursor) (v : Verdict) (says : verdict_of v ≡ verdict (judge_names kind_of c.at (left s c))) where
  pub question_refused : (q : Question) (r : Refusal) → v ≡ Err r → answered (Err r) ≡ as_place (ask_at kind_of q c.at (left s c))
  unfolding ask_at asked as_place
  question_refused q r e = rw (judged_refused v (judge_names kind_of c.at (left s c)) says e)

  pub accepts : Inside s c → v ≡ Ok tt → KnownNames kind_of s c
  accepts i h = let (t, e) = judged_accepted v (judge_names kind_of c.at (left s c)) says h in record { inside = i; known = record { value = t; judged = e } }

pub ruleset questions = (question_refused, accepts, rules)

-- for callers that look for a subsection once all that was lent is accepted
pub all_framed : (kind_of : ℕ → AnyKind) (p : List ℕ) (v : Verdict) {c : Cursor} → verdict_of v ≡ verdict (judge_names kind_of 0 p) → v ≡ Ok tt → c ≡ over_all p → KnownFrames p c
all_framed kind_of p v {c} says h over = names_framed (accepts kind_of p c v (rw (over, left_all p) says) (over_inside over) h)

-- asked of all that was lent
pub asks_all : (kind_of : ℕ → AnyKind) (y : Answer) (q : Question) (s : List ℕ) {c : Cursor} → c ≡ over_all s → answered y ≡ as_place (ask_at kind_of q c.at (left s c)) → answered y ≡ as_place (ask kind_of q s)
unfolding ask
asks_all kind_of y q s over e = rw (over, left_all s) at e

pub ruleset asked_all = (question_refused, accepts, asks_all, over_inside, rules)
