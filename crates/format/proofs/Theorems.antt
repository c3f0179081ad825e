-- Rules R8.9 and R8.11 of docs/RULES.md.
-- What users of the library demand, as types, each under the sentence that it comes from; below each stands its proof, by the laws that it rests on. Here they are said of the definitions; the crates above say them again of their calls.
use Rattle.std.specs.Prelude.{ℕ, ◌+◌, ◌≤◌, ◌<◌, true, List, ◌++◌, ◌↔◌, ◌≡◌, refl, eqb, length, take, drop}
use Rattle.std.proofs.Math.Logic.Iff
use Rattle.std.proofs.Math.Option.{Option, none, some}
use Rattle.std.proofs.Common.{sym, ◌∙◌, arith, eqb-true, length-append}
use Rattle.std.proofs.lemmas.Bool.{eqb-false}
use Rattle.format.specs.Bytes.{Bytes, ascii, same}
use Rattle.format.specs.Reading.{got, Reader, Judged, accepted, refused, map_judged, Accepted}
use Rattle.format.specs.Numbers.{number, shortest, limit32}
use Rattle.format.specs.Parts.{Part}
use Rattle.format.specs.Tables.{Table, map_table}
use Rattle.format.specs.Names.{Kind, name_map, known_kind, kind_in, Content, judge_names}
use Rattle.format.specs.declared.Edition.{Edition}
use Rattle.format.specs.Questions.{answer, Allowed, asked, id_of, query_of, AllowedBy, ask_at, ask, as_told}
use Rattle.format.specs.declared.Question.{Question}
use Rattle.format.specs.declared.Question.TheVariants.{FunctionName, LocalName}
use Rattle.format.specs.declared.Query.{Query}
use Rattle.format.specs.Holding.{HasWithin, Holds, Lists, Covers}
use Rattle.format.specs.Why.{Why, named, TrueOfFunction, TrueOfLocal, why_function, why_local}
use Rattle.format.specs.Walk.{preamble, Section, walk, name_section, branch_hint, hint_section, custom_payload}
use Rattle.format.specs.Metadata.{data_of, any_item, hint_item, judge_metadata, item_at, ask_metadata, hint_in, ask_hint}
use Rattle.format.specs.Through.{through, ask_through, metadata_section, item_of, ask_metadata_through, ask_hint_through}
use Rattle.format.specs.Canonical.{bare, bare_items, rewrite_names, canonical_names, rewrite_metadata, canonical_of, canonical_metadata, canonical_hints, write_part}
use Rattle.format.specs.Older.{judge_older, ask_older, write_older, canonical_older}
use Rattle.format.specs.OlderInOrder.{rising_entries}
use Rattle.format.specs.Lists.{Indices, function_names}
use Rattle.format.specs.Laws.Outcomes.{by_test, accepted_exactly, refused_exactly}
use Rattle.format.proofs.Laws.Codecs.{Codec, number_sound, number_back, any_codec, hint_codec}
use Rattle.format.proofs.Laws.Passing.{number_passes, Reaches, reach, reach_step}
use Rattle.format.proofs.Laws.Walk.{walk_covers}
use Rattle.format.proofs.Laws.Places.{PartIn, Located, any_located, hint_located, lies_there, lies_inside, lies_all}
use Rattle.format.proofs.Laws.Found.{name_lies, item_lies, name_lies_through, item_lies_through, through_map}
use Rattle.format.proofs.Laws.Holding.{none_exactly, within_exactly, answer_exactly}
use Rattle.format.proofs.Laws.Why.{function_exactly, local_exactly, function_told, local_told, function_named, local_named, function_refused, local_refused}
use Rattle.format.proofs.Laws.Answers.{told_none}
use Rattle.format.proofs.Laws.Questions.{AllPosed, all_posed, posed_told}
use Rattle.format.proofs.Laws.CanonicalNames.{told_is, canonical_is, canonical_accepted, canonical_stays, rewriting_canonical, rewriting_told, rewriting_shorter, same_answers, same_rewriting}
use Rattle.format.proofs.Laws.CanonicalMetadata.{items_whole, item_told_lem, items_canonical_is, items_accepted, items_told, items_again, items_shorter, same_items}
use Rattle.format.proofs.Laws.Unchanged.{names_unchanged, items_unchanged}
use Rattle.format.proofs.Laws.Hints.{hint_exactly, no_hint_exactly, same_hints, hints_told}
use Rattle.format.proofs.Laws.CanonicalOlder.{in_order_table, order_shorter, older_canonical_is, rewriting, older_least, older_accepted, older_told_lem, older_shorter, older_again, same_older}
use Rattle.format.proofs.Laws.UnchangedOlder.{older_rises}
use Rattle.format.proofs.Laws.Lists.{written, listed_told, other_told, lists_stay}
use Rattle.format.specs.declared.FunctionIndex.{FunctionIndex}
use Rattle.format.specs.declared.LocalIndex.{LocalIndex}
use Rattle.format.specs.declared.CodeOffset.{CodeOffset}
use Rattle.format.specs.declared.InstructionOffset.{InstructionOffset}
use Rattle.format.specs.declared.Hint.{Hint}

-- Numbers. "Each number in its fewest bytes": they read back, and nothing shorter does.
pub record Shortest : Type 0 where
  pub reads_back : (v o : ℕ) (rest : List ℕ) → v < limit32 → number o (shortest v ++ rest) ≡ got v (o + length (shortest v)) rest
  pub nothing_shorter : (o : ℕ) (bs : List ℕ) {v o' : ℕ} {rest : List ℕ} → number o bs ≡ got v o' rest → length (shortest v) + length rest ≤ length bs

-- Demand 2 for the walk. "Then sections to the end: id byte, size number, that many bytes of contents." The count of sections and every length come from the bytes.
abbrev pub WalksWhole : Type 0
WalksWhole = (m : List ℕ) (ss : List Section) → walk m ≡ accepted ss → Covers m (length preamble) ss

-- Demand 2. "A lookup gives the mapped name as the very bytes of the section, or none exactly when the index has no name."
pub record VeryBytes (lent : List ℕ) (x : Part) : Type 0 where
  pub inside : x.at + length x.bytes ≤ length lent
  pub bytes : take (length x.bytes) (drop x.at lent) ≡ x.bytes

module _ {A Q : Type 0} (judgement : List ℕ → Judged A) (answer : Q → List ℕ → Judged (Option Part)) (Held : A → Q → List ℕ → Type 0) where
  pub record Answers : Type 0 where
    -- what is found lies in what was lent, and is those very bytes
    pub very_bytes : (q : Q) (p : List ℕ) {x : Part} → answer q p ≡ accepted (some x) → VeryBytes p x
    -- of an accepted payload exactly what it holds is found, an empty name too
    pub found : {p : List ℕ} (a : Accepted judgement p) (q : Q) (x : List ℕ) → (as_told (answer q p) ≡ accepted (some x)) ↔ Held a.value q x
    -- and none exactly where it holds nothing: no such index, or no such map, group or subsection
    pub none_found : {p : List ℕ} (a : Accepted judgement p) (q : Q) → (answer q p ≡ accepted none) ↔ ((x : List ℕ) → Held a.value q x → ⊥)
    -- a refusal is the judgement's, whatever was asked
    pub refuses : (q : Q) (p : List ℕ) (n at : ℕ) → (answer q p ≡ refused n at) ↔ (judgement p ≡ refused n at)

-- Demand 3. "Canonical rewritings of two accepted payloads are equal byte by byte exactly when every allowed question gets the same answer from both. A rewriting is accepted, answers as its original, is never longer, and rewriting it again changes nothing."
module _ {A Q R : Type 0} (judgement : List ℕ → Judged A) (rewriting : List ℕ → Judged (List ℕ)) (answer : Q → List ℕ → R) (Allows : Q → Type 0) where
  pub record Rewritten (p x : List ℕ) : Type 0 where
    pub is_accepted : Accepted judgement x
    pub answers_alike : (q : Q) → answer q x ≡ answer q p
    pub never_longer : length x ≤ length p
    pub comes_to_rest : rewriting x ≡ accepted x

  pub record Rewrites : Type 0 where
    pub same_exactly : {x y : List ℕ} → Bytes x → Bytes y → Accepted judgement x → Accepted judgement y → (rewriting x ≡ rewriting y) ↔ ((q : Q) → Allows q → answer q x ≡ answer q y)
    pub accepts : {p : List ℕ} → Accepted judgement p → (x : List ℕ) × (rewriting p ≡ accepted x)
    pub rewritten : {p : List ℕ} (a : Accepted judgement p) (x : List ℕ) → rewriting p ≡ accepted x → Rewritten p x

  -- Demand 3 for hints of the older edition. "A canonical rewriting, also sorted by function and offset, shadowed hints dropped, one entry per function. Demand 3 holds for it, with its own rule and questions; a payload whose rewriting is refused 15 has none, and demand 3 leaves it out." Only a payload of more than 4,294,967,295 bytes can have none.
  pub record RewritesUnlessLong : Type 0 where
    pub same_exactly : (x y : List ℕ) {v w : List ℕ} → rewriting x ≡ accepted v → rewriting y ≡ accepted w → (v ≡ w) ↔ ((q : Q) → Allows q → answer q x ≡ answer q y)
    pub accepts : {p : List ℕ} → Accepted judgement p → length p < limit32 → (x : List ℕ) × (rewriting p ≡ accepted x)
    pub rewritten : (p : List ℕ) {x : List ℕ} → rewriting p ≡ accepted x → Rewritten p x

  -- K11. "Every other accepted payload giving the same answers to every question is strictly longer than the canonical one": x is what p is rewritten to, and y any bytes that are accepted.
  abbrev pub OthersLonger : Type 0
  OthersLonger = (p x y : List ℕ) → Bytes p → Bytes y → Accepted judgement p → rewriting p ≡ accepted x → Accepted judgement y → ((q : Q) → Allows q → answer q p ≡ answer q y) → (y ≡ x → ⊥) → length x < length y

  -- "For `branchHints`, whose order is free, show that none is shorter."
  abbrev pub NoneShorter : Type 0
  NoneShorter = (p x y : List ℕ) → rewriting p ≡ accepted x → Accepted judgement y → ((q : Q) → Allows q → answer q p ≡ answer q y) → length x ≤ length y

-- Demand 2 for hints. "For hints it is none, likely, unlikely or a refusal."
pub record AnswersHints : Type 0 where
  pub found : {p : List ℕ} (a : Accepted (judge_metadata hint_item 0) p) (f : FunctionIndex) (at : CodeOffset) (h : Hint) → (ask_hint f at 0 p ≡ accepted (some h)) ↔ HasWithin f.0 at.0 (data_of h) (bare_items a.value)
  pub none_found : {p : List ℕ} (a : Accepted (judge_metadata hint_item 0) p) (f : FunctionIndex) (at : CodeOffset) → (ask_hint f at 0 p ≡ accepted none) ↔ ((x : List ℕ) → HasWithin f.0 at.0 x (bare_items a.value) → ⊥)
  pub refuses : (f : FunctionIndex) (at : CodeOffset) (p : List ℕ) (n o : ℕ) → (ask_hint f at 0 p ≡ refused n o) ↔ (judge_metadata hint_item 0 p ≡ refused n o)

-- K7. "For an accepted payload and a function or local question answered none, a tool names one reason: no such subsection; a subsection without a group for that function; or a map without that index, with the nearest mapped index below and above, if any. For a name found it gives the subsection and the entry's position in its map, from 0. Exactly one reason is true of each such question, and it is the one given." What is true of an accepted payload is said without any search (specs/Why.antt).
module _ {Q : Type 0} (id : ℕ) (question : Q → Question) (why : Q → List ℕ → Judged Why) (True : Q → Table (Content (List ℕ)) → Why → Type 0) where
  pub record AnswersWhy : Type 0 where
    -- something is given, and exactly that is true
    pub gives : {p : List ℕ} → Accepted (judge_names known_kind 0) p → (q : Q) → (w : Why) × (why q p ≡ accepted w)
    pub true_exactly : {p : List ℕ} (a : Accepted (judge_names known_kind 0) p) (q : Q) (w : Why) → (why q p ≡ accepted w) ↔ True q (map_table bare a.value) w
    -- it is a place exactly where the lookup finds a name
    pub named_exactly : {p : List ℕ} → Accepted (judge_names known_kind 0) p → (q : Q) → ((n : ℕ) × (why q p ≡ accepted (named id n))) ↔ ((x : Part) × (ask known_kind (question q) p ≡ accepted (some x)))
    -- a refusal is the judgement's, whatever was asked
    pub refuses : (q : Q) (p : List ℕ) (n at : ℕ) → (why q p ≡ refused n at) ↔ (judge_names known_kind 0 p ≡ refused n at)

-- Demand 2 through a module. "Asked through an accepted module without the section, each gets none." "A payload asked through its module is judged after the walk and counts from the module's start."
module _ {Q : Type 0} (section : Q → List ℕ) (question : Q → ℕ → List ℕ → Judged (Option Part)) (answer : Q → List ℕ → Judged (Option Part)) where
  pub record AnswersThrough : Type 0 where
    pub very_bytes : (q : Q) (m : List ℕ) {x : Part} → answer q m ≡ accepted (some x) → VeryBytes m x
    pub without : (q : Q) (m : List ℕ) → custom_payload (section q) m ≡ accepted none → answer q m ≡ accepted none
    pub walk_first : (q : Q) (m : List ℕ) {n at : ℕ} → walk m ≡ refused n at → answer q m ≡ refused n at
    -- with the section, the answer is that of its payload where it lies
    pub then_asked : (q : Q) (m : List ℕ) {p : Part} → custom_payload (section q) m ≡ accepted (some p) → answer q m ≡ question q p.at p.bytes

-- Demand 2 for lists. "The payload written is canonical: each listed index then gives its own text, every other question gets none."
module _ (kind_of : ℕ → Kind) (is ns text bs : List ℕ) where
  pub record WritesLists : Type 0 where
    pub is_canonical : canonical_names kind_of bs ≡ accepted bs
    pub own_text : (k : FunctionIndex) (x : List ℕ) → Lists k.0 x is ns text → as_told (ask kind_of (FunctionName k) bs) ≡ accepted (some x)
    pub others_none : (q : Question) → ((k : FunctionIndex) (x : List ℕ) → q ≡ FunctionName k → Lists k.0 x is ns text → ⊥) → as_told (ask kind_of q bs) ≡ accepted none

-- THE PROOFS

pub numbers_shortest : Shortest
numbers_shortest = record {
  reads_back = λ v o rest h.
      let (o', e) = number_back v o rest h in
      let far = reach (λ end. number_passes (Reaches end) (reach_step end)) o (shortest v ++ rest) e in
      let there : o' ≡ o + length (shortest v) = omega (arith, far, length-append (shortest v) rest) in
      rw there at e;
  nothing_shorter = λ o bs e. (number_sound o bs e).shorter;
}

pub sections_cover : WalksWhole
sections_cover m ss e = walk_covers m e

very : {lent : List ℕ} {x : Part} → PartIn lent x → VeryBytes lent x
very l = record { inside = lies_inside l; bytes = lies_there l }

-- Names, over any table of ids; what is asked is an id and a query
module _ (kind_of : ℕ → Kind) where
  pub names_answered : Answers {Q = ℕ × Query} (judge_names kind_of 0) (λ q p. asked kind_of q.0 q.1 0 p) (λ t q x. Holds q.0 q.1 (map_table bare t) x)
  unfolding asked
  names_answered = record {
    very_bytes = λ q p e. very (name_lies kind_of q.0 q.1 p 0 p (lies_all p) e);
    found = λ a q x. Iff.trans (accepted_exactly (told_is kind_of a q.0 q.1)) (answer_exactly kind_of a q.0 q.1 x);
    none_found = λ a q. Iff.trans (told_none _) (Iff.trans (accepted_exactly (told_is kind_of a q.0 q.1)) (none_exactly _ (answer_exactly kind_of a q.0 q.1)));
    refuses = λ q p n at. refused_exactly (answer q.0 q.1) (judge_names kind_of 0 p);
  }

  pub names_rewritten : Rewrites {Q = ℕ × Query} (judge_names kind_of 0) (canonical_names kind_of) (λ q p. as_told (asked kind_of q.0 q.1 0 p)) (λ q. Allowed kind_of q.0 q.1)
  names_rewritten = record {
    same_exactly = λ bx by a b. let h = same_rewriting kind_of bx by a b in (λ e q l. h.0 e q.0 q.1 l, λ k. h.1 (λ id q l. k (id, q) l));
    accepts = λ a. (rewrite_names a.value, canonical_is kind_of a);
    rewritten = λ a x e. let is = (accepted_exactly (canonical_is kind_of a)).0 e in
        let c = rewriting_canonical kind_of a in
        rw (← is) (record {
          is_accepted = canonical_accepted kind_of c;
          answers_alike = λ q. rewriting_told kind_of a q.0 q.1;
          never_longer = rewriting_shorter kind_of a;
          comes_to_rest = canonical_stays kind_of c;
        });
  }

  -- as the questions of R5.2 to R5.4 ask for them
  pub questions_answered : Answers (judge_names kind_of 0) (ask kind_of) (λ t q x. Holds (id_of q) (query_of q) (map_table bare t) x)
  unfolding ask ask_at
  questions_answered = record {
    very_bytes = λ q p e. names_answered.very_bytes (id_of q, query_of q) p e;
    found = λ a q x. names_answered.found a (id_of q, query_of q) x;
    none_found = λ a q. names_answered.none_found a (id_of q, query_of q);
    refuses = λ q p n at. names_answered.refuses (id_of q, query_of q) p n at;
  }

  pub questions_rewritten : AllPosed kind_of → Rewrites (judge_names kind_of 0) (canonical_names kind_of) (λ q p. as_told (ask kind_of q p)) (AllowedBy kind_of)
  unfolding ask ask_at
  questions_rewritten posed = record {
    same_exactly = λ {x} {y} bx by a b. (
      λ e q l. same_answers kind_of a b e (id_of q) (query_of q),
      λ k. (names_rewritten.same_exactly bx by a b).1 (λ q l. posed_told kind_of (posed q.0 q.1 l) l x y k),
    );
    accepts = λ a. names_rewritten.accepts a;
    rewritten = λ a x e. let r = names_rewritten.rewritten a x e in record {
      is_accepted = r.is_accepted;
      answers_alike = λ q. r.answers_alike (id_of q, query_of q);
      never_longer = r.never_longer;
      comes_to_rest = r.comes_to_rest;
    };
  }

-- Where a rewriting that is as long as its payload is the payload, another that answers alike is longer: it has the same rewriting, which is not longer, and as long only where it is the payload itself
others_longer : {A Q R : Type 0} {judgement : List ℕ → Judged A} {rewriting : List ℕ → Judged (List ℕ)} {answer : Q → List ℕ → R} {Allows : Q → Type 0} → Rewrites judgement rewriting answer Allows → ((p x : List ℕ) → Bytes p → rewriting p ≡ accepted x → length x ≡ length p → x ≡ p) → OthersLonger judgement rewriting answer Allows
others_longer rewrites unchanged p x y bp by a e b alike other =
    let same = sym ((rewrites.same_exactly bp by a b).1 alike) ∙ e in
    let shorter = (rewrites.rewritten b x same).never_longer in
    by_test (eqb (length x) (length y)) (λ t. absurd (other (sym (unchanged y x by same (eqb-true (length x) (length y) t))))) (λ t. let less = eqb-false (length x) (length y) t in omega arith)

-- of an edition
pub edition_rewritten : (edition : Edition) → Rewrites (judge_names (kind_in edition) 0) (canonical_names (kind_in edition)) (λ q p. as_told (ask (kind_in edition) q p)) (AllowedBy (kind_in edition))
edition_rewritten edition = questions_rewritten (kind_in edition) (all_posed edition)

pub edition_shortest : (edition : Edition) → OthersLonger (judge_names (kind_in edition) 0) (canonical_names (kind_in edition)) (λ q p. as_told (ask (kind_in edition) q p)) (AllowedBy (kind_in edition))
edition_shortest edition = others_longer (edition_rewritten edition) (names_unchanged (kind_in edition))

-- Why there is no name, or where it stands; what is asked is a function, or a function and a local
pub functions_why : AnswersWhy 1 FunctionName why_function (λ f. TrueOfFunction f.0)
functions_why = record {
  gives = λ a f. (_, (function_told a f _).1 ((function_exactly a f.0).1 refl));
  true_exactly = λ a f w. function_told a f w;
  named_exactly = λ a f. function_named a f;
  refuses = λ f p n at. function_refused p f;
}

pub locals_why : AnswersWhy {Q = FunctionIndex × LocalIndex} 2 (λ q. LocalName q.0 q.1) (λ q. why_local q.0 q.1) (λ q. TrueOfLocal q.0.0 q.1.0)
locals_why = record {
  gives = λ a q. (_, (local_told a q.0 q.1 _).1 ((local_exactly a q.0.0 q.1.0).1 refl));
  true_exactly = λ a q w. local_told a q.0 q.1 w;
  named_exactly = λ a q. local_named a q.0 q.1;
  refuses = λ q p n at. local_refused p q.0 q.1;
}

-- Code metadata, over any item; what is asked is a function and an offset
abbrev pub ItemQuestion : Type 0
ItemQuestion = FunctionIndex × CodeOffset

abbrev pub ItemInRange : ItemQuestion → Type 0
ItemInRange q = (q.0.0 < limit32) × (q.1.0 < limit32)

abbrev pub item_told : Reader Part → ItemQuestion → List ℕ → Judged (Option (List ℕ))
item_told item q p = as_told (ask_metadata item q.0 q.1 0 p)

abbrev pub hint_told : ItemQuestion → List ℕ → Judged (Option Hint)
hint_told q p = ask_hint q.0 q.1 0 p

abbrev pub AnswersItems : Reader Part → Type 0
AnswersItems item = Answers {Q = ItemQuestion} (judge_metadata item 0) (λ q p. ask_metadata item q.0 q.1 0 p) (λ t q x. HasWithin q.0.0 q.1.0 x (bare_items t))

module _ {item : Reader Part} {Fine : List ℕ → Type 0} (codec : Codec item (λ p. p.bytes) write_part Fine) where
  items_exactly : {p : List ℕ} (a : Accepted (judge_metadata item 0) p) (f : FunctionIndex) (at : CodeOffset) (x : List ℕ) → (item_at f at (bare_items a.value) ≡ some x) ↔ HasWithin f.0 at.0 x (bare_items a.value)
  unfolding item_at
  items_exactly a f at x = within_exactly (λ _ u p. p.1.sorted) f.0 at.0 (items_whole codec a).fine.sorted x

  pub metadata_answered : Located item PartIn → AnswersItems item
  unfolding ask_metadata
  metadata_answered located = record {
    very_bytes = λ q p e. very (item_lies located q.0 q.1 p 0 p (lies_all p) e);
    found = λ a q x. Iff.trans (accepted_exactly (item_told_lem codec a q.0 q.1)) (items_exactly a q.0 q.1 x);
    none_found = λ a q. Iff.trans (told_none _) (Iff.trans (accepted_exactly (item_told_lem codec a q.0 q.1)) (none_exactly _ (items_exactly a q.0 q.1)));
    refuses = λ q p n at. refused_exactly (item_at q.0 q.1) (judge_metadata item 0 p);
  }

  pub metadata_rewritten : Rewrites (judge_metadata item 0) (canonical_of item) (item_told item) ItemInRange
  metadata_rewritten = record {
    same_exactly = λ bx by a b. let h = same_items codec a b in (λ e q l. h.0 e q.0 q.1 l.0 l.1, λ k. h.1 (λ f at l m. k (f, at) (l, m)));
    accepts = λ a. (rewrite_metadata a.value, items_canonical_is codec a);
    rewritten = λ a x e. let is = (accepted_exactly (items_canonical_is codec a)).0 e in
        rw (← is) (record {
          is_accepted = items_accepted codec a;
          answers_alike = λ q. items_told codec a q.0 q.1;
          never_longer = items_shorter codec a;
          comes_to_rest = items_again codec a;
        });
  }

pub any_metadata_answered : AnswersItems any_item
any_metadata_answered = metadata_answered any_codec any_located

pub any_metadata_rewritten : Rewrites (judge_metadata any_item 0) canonical_metadata (item_told any_item) ItemInRange
unfolding canonical_metadata
any_metadata_rewritten = metadata_rewritten any_codec

pub any_metadata_shortest : OthersLonger (judge_metadata any_item 0) canonical_metadata (item_told any_item) ItemInRange
unfolding canonical_metadata
any_metadata_shortest = others_longer any_metadata_rewritten (items_unchanged any_codec)

-- Hints: by their data as any metadata, and by likelihood
pub hint_data_answered : AnswersItems hint_item
hint_data_answered = metadata_answered hint_codec hint_located

pub hints_answered : AnswersHints
unfolding ask_hint ask_metadata
hints_answered = record {
  found = λ a f at h. Iff.trans (hint_exactly a f at h) (items_exactly hint_codec a f at (data_of h));
  none_found = λ a f at. Iff.trans (no_hint_exactly a f at) (none_exactly _ (items_exactly hint_codec a f at));
  refuses = λ f at p n o. Iff.trans (refused_exactly hint_in (ask_metadata hint_item f at 0 p)) (refused_exactly (item_at f at) (judge_metadata hint_item 0 p));
}

pub hints_rewritten : Rewrites (judge_metadata hint_item 0) canonical_hints hint_told ItemInRange
unfolding canonical_hints
hints_rewritten = let any = metadata_rewritten hint_codec in record {
  same_exactly = λ bx by a b. let h = same_hints a b in (λ e q l. h.0 e q.0 q.1 l.0 l.1, λ k. h.1 (λ f at l m. k (f, at) (l, m)));
  accepts = λ a. any.accepts a;
  rewritten = λ a x e. let r = any.rewritten a x e in record {
    is_accepted = r.is_accepted;
    answers_alike = λ q. rw (← (accepted_exactly (items_canonical_is hint_codec a)).0 e) (hints_told a q.0 q.1);
    never_longer = r.never_longer;
    comes_to_rest = r.comes_to_rest;
  };
}

pub hints_shortest : OthersLonger (judge_metadata hint_item 0) canonical_hints hint_told ItemInRange
unfolding canonical_hints
hints_shortest = others_longer hints_rewritten (items_unchanged hint_codec)

-- Hints of the older edition; what is asked is a function and an instruction's offset
abbrev pub OlderQuestion : Type 0
OlderQuestion = FunctionIndex × InstructionOffset

abbrev pub OlderInRange : OlderQuestion → Type 0
OlderInRange q = (q.0.0 < limit32) × (q.1.0 < limit32)

abbrev pub older_told : OlderQuestion → List ℕ → Judged (Option Hint)
older_told q p = ask_older q.0 q.1 0 p

pub older_rewritten : RewritesUnlessLong (judge_older 0) canonical_older older_told OlderInRange
older_rewritten = record {
  same_exactly = λ x y c d. let h = same_older (rewriting c) (rewriting d) in (λ e q l. h.0 e q.0 q.1 l.0 l.1, λ k. h.1 (λ f at l m. k (f, at) (l, m)));
  accepts = λ a l. (write_older (in_order_table a), older_canonical_is a (omega (arith, order_shorter a)));
  rewritten = λ p c. let r = rewriting c in record {
    is_accepted = older_accepted r;
    answers_alike = λ q. older_told_lem r q.0 q.1;
    never_longer = older_shorter r;
    comes_to_rest = older_again r;
  };
}

pub older_shortest : NoneShorter (judge_older 0) canonical_older older_told OlderInRange
older_shortest p x y c b alike = older_least (rewriting c) b (λ f at l m. alike (f, at) (l, m))

-- "sorted by function and offset, shadowed hints dropped, one entry per function": in what is written each function is above the one before, and so is each of its offsets
pub older_in_order : (p : List ℕ) {x : List ℕ} → canonical_older p ≡ accepted x → (a : Accepted (judge_older 0) x) → rising_entries 0 a.value ≡ true
older_in_order p c a = older_rises a (older_again (rewriting c))

-- Through a module; for metadata what is asked is a format, a function and an offset
pub names_through : (kind_of : ℕ → Kind) → AnswersThrough (λ _. name_section) (ask_at kind_of) (ask_through kind_of)
unfolding ask_through through custom_payload
names_through kind_of = record {
  very_bytes = λ q m e. very (name_lies_through kind_of q m e);
  without = λ q m e. rw e;
  walk_first = λ q m e. rw e;
  then_asked = λ q m e. rw e;
}

pub metadata_through : AnswersThrough {Q = List ℕ × FunctionIndex × CodeOffset} (λ q. metadata_section q.0) (λ q. ask_metadata (item_of q.0) q.1 q.2) (λ q m. ask_metadata_through q.0 q.1 q.2 m)
unfolding ask_metadata_through through custom_payload
metadata_through = record {
  very_bytes = λ q m e. very (item_lies_through q.0 q.1 q.2 m e);
  without = λ q m e. rw e;
  walk_first = λ q m e. rw e;
  then_asked = λ q m e. rw e;
}

-- hints through a module are the data of `metadata.code.branch_hint`, seen as hints
pub hints_through : (f : FunctionIndex) (at : CodeOffset) (m : List ℕ) → ask_hint_through f at m ≡ map_judged hint_in (ask_metadata_through branch_hint f at m)
unfolding ask_hint_through ask_metadata_through metadata_section item_of hint_section ascii same ask_hint hint_in
hints_through f at m = through_map hint_section hint_in (ask_metadata hint_item f at) m refl

-- Lists
pub lists_written : (kind_of : ℕ → Kind) → kind_of 1 ≡ name_map → (is ns text bs : List ℕ) → Indices is → function_names is ns text ≡ accepted bs → WritesLists kind_of is ns text bs
lists_written kind_of one is ns text bs h e = let w = written is ns text h e in record { is_canonical = lists_stay kind_of one w; own_text = listed_told kind_of one w; others_none = other_told kind_of one w }
