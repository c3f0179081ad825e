-- Rule R21.2 of docs/RULES.md.
-- What is accepted, said a second way: the files beside this one write the sources' grammar down, apart from the readers, and here stands that the library accepts exactly what that grammar has a meaning for, with that meaning. A reader that accepts too little or too much by a mistaken definition would differ from the grammar, which can be held against the sources line by line.
use Rattle.std.specs.Prelude.{ℕ, ◌+◌, true, List, ◌++◌, ◌↔◌, ◌≡◌, length}
use Rattle.format.specs.Bytes.{Bytes}
use Rattle.format.specs.Reading.{got, Judged, accepted, refused, map_judged}
use Rattle.format.specs.Numbers.{number}
use Rattle.format.specs.Names.{Kind, known_kind, wider_kind}
use Rattle.format.specs.Text.{utf8}
use Rattle.format.specs.Metadata.{any_item, hint_item}
use Rattle.grammar.specs.Numbers.{Grammar, U32}
use Rattle.grammar.specs.Texts.{Text}
use Rattle.grammar.specs.Names.{SourceIds, WiderIds, NamePayload}
use Rattle.grammar.specs.Metadata.{CodeMetadata, Unknown, BranchHint}
use Rattle.grammar.specs.Modules.{Module}
use Rattle.grammar.specs.Older.{OlderHints}
use Rattle.grammar.specs.Forgetting.{names_read, metadata_read, older_read, sections_read}
use Rattle.grammar.specs.Laws.Judgements.{means_exactly, meaningless_exactly, means_one}
use Rattle.grammar.proofs.Laws.Numbers.{number_exactly, number_one_value}
use Rattle.grammar.proofs.Laws.CodePoints.{utf8_text, text_utf8, same_text}
use Rattle.grammar.proofs.Laws.Ranges.{text_ranges}
use Rattle.grammar.proofs.Laws.Texts.{ranges_text}
use Rattle.grammar.specs.Ranges.{by_ranges}
use Rattle.grammar.specs.Laws.Encodings.{text_one_reading}
use Rattle.grammar.proofs.Laws.Names.{SameIds, source_ids, wider_ids, names_sound, names_complete}
use Rattle.grammar.proofs.Laws.Metadata.{any_exact, hint_exact, metadata_sound, metadata_complete}
use Rattle.grammar.proofs.Laws.Older.{older_sound, older_complete}
use Rattle.grammar.proofs.Laws.Modules.{walk_sound, walk_complete}

-- "Unsigned 32-bit numbers are LEB128": a number is read exactly where the bytes begin with one, and it ends where the reading goes on.
pub record ReadsNumbers : Type 0 where
  pub read_exactly : (o : ℕ) (bs : List ℕ) → Bytes bs → (v o' : ℕ) (rest : List ℕ) → (number o bs ≡ got v o' rest) ↔ ((front : List ℕ) × U32 front v × (bs ≡ front ++ rest) × (o' ≡ o + length front))
  pub one_value : (bs : List ℕ) (v w : ℕ) → U32 bs v → U32 bs w → v ≡ w

-- "That many bytes of valid UTF-8": what is worked out code point by code point holds exactly of the encodings of characters; and by the byte ranges of the Unicode Standard's table the same bytes are text, so that a reader may believe whichever they know.
pub record ReadsTexts : Type 0 where
  pub valid_exactly : (bs : List ℕ) → (utf8 bs ≡ true) ↔ ((characters : List ℕ) × Text bs characters)
  pub same_by_ranges : (bs : List ℕ) → utf8 bs ≡ by_ranges bs
  pub ranges_exactly : (bs : List ℕ) → (by_ranges bs ≡ true) ↔ ((characters : List ℕ) × Text bs characters)
  pub one_reading : (bs cs ds : List ℕ) → Text bs cs → Text bs ds → cs ≡ ds

-- Payloads and modules: accepted is exactly what the grammar has a meaning for, and with that meaning; refused is exactly what it has none for; and no bytes have two meanings.
module _ {A : Type 0} (judgement : List ℕ → Judged A) (grammar : Grammar A) where
  pub record Accepts : Type 0 where
    pub accepted_exactly : (p : List ℕ) → Bytes p → (m : A) → (judgement p ≡ accepted m) ↔ grammar p m
    pub refused_exactly : (p : List ℕ) → Bytes p → ((n at : ℕ) × (judgement p ≡ refused n at)) ↔ ((m : A) → grammar p m → ⊥)
    pub one_meaning : (p : List ℕ) (m n : A) → grammar p m → grammar p n → m ≡ n

-- THE PROOFS

pub numbers_exact : ReadsNumbers
numbers_exact = record { read_exactly = number_exactly; one_value = number_one_value }

pub texts_exact : ReadsTexts
texts_exact = record { valid_exactly = λ bs. (utf8_text bs, λ t. text_utf8 t.1); same_by_ranges = same_text; ranges_exactly = λ bs. (ranges_text bs, λ t. text_ranges t.1); one_reading = text_one_reading }

module _ {A B : Type 0} {judgement : List ℕ → Judged A} {plain : A → B} {grammar : Grammar B}
    (sound : (p : List ℕ) (v : A) → Bytes p → judgement p ≡ accepted v → grammar p (plain v))
    (complete : (p : List ℕ) (m : B) → grammar p m → (v : A) × (judgement p ≡ accepted v) × (plain v ≡ m)) where
  exact : Accepts (λ p. map_judged plain (judgement p)) grammar
  exact = record { accepted_exactly = means_exactly sound complete; refused_exactly = meaningless_exactly sound complete; one_meaning = means_one sound complete }

-- a name payload, wherever it begins in what was lent, over any table of ids
pub ids_exact : {Ids : ℕ → Kind → Type 0} {kind_of : ℕ → Kind} → SameIds Ids kind_of → (at : ℕ) → Accepts (names_read kind_of at) (NamePayload Ids)
ids_exact ids at = exact (names_sound ids at) (names_complete ids at)

pub names_exact : (at : ℕ) → Accepts (names_read known_kind at) (NamePayload SourceIds)
names_exact at = ids_exact source_ids at

-- K9: and the wider edition exactly the proposal's
pub wider_names_exact : (at : ℕ) → Accepts (names_read wider_kind at) (NamePayload WiderIds)
wider_names_exact at = ids_exact wider_ids at

-- code metadata of any format, and branch hints
pub metadata_exact : (at : ℕ) → Accepts (metadata_read any_item at) (CodeMetadata Unknown)
metadata_exact at = exact (metadata_sound any_exact at) (metadata_complete any_exact at)

pub hints_exact : (at : ℕ) → Accepts (metadata_read hint_item at) (CodeMetadata BranchHint)
hints_exact at = exact (metadata_sound hint_exact at) (metadata_complete hint_exact at)

-- K2: hints of the older edition
pub older_exact : (at : ℕ) → Accepts (older_read at) OlderHints
older_exact at = exact (older_sound at) (older_complete at)

-- the frame of a module
pub modules_exact : Accepts sections_read Module
modules_exact = exact walk_sound walk_complete
