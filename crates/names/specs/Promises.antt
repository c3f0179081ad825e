-- THE PROMISES of the crate `names`, each by the name of its function. They stand in the `ensures` of the public functions and nowhere else: what is shown of these names is shown of the functions. A promise relates what is lent to what comes back.
use Rattle.std.specs.Prelude.{ℕ, ◌+◌, Bool, List, ◌≡◌}
use Rattle.format.specs.Forms.{part_form}
use Rattle.format.specs.Names.{one_name, name_map, indirect_map, kept, known_kind, wider_kind, kind_in, judge_names}
use Rattle.format.specs.Parts.{name}
use Rattle.format.specs.Questions.{ask_at, ask, as_place, as_bytes, start_of, answered}
use Rattle.format.specs.Reading.{verdict}
use Rattle.format.specs.Telling.{names_are_canonical}
use Rattle.format.specs.Verdicts.{verdict_of}
use Rattle.format.specs.declared.Edition.{Edition}
use Rattle.format.specs.declared.Question.{Question}
use Rattle.format.specs.declared.Query.TheVariants.{ItsName, ItsContents, NameOf, NameWithin}
use Rattle.format.specs.Returned.{Answer}
use Rattle.format.specs.Returned.{Verdict}
use Rattle.names.specs.Contents.{kind_meant, Asks, Rules}
use Rattle.names.specs.Frames.{FrameReads, FrameStands}
use Rattle.names.specs.Places.{AsksAt, Finds}
use Rattle.names.specs.Returned.{FrameRead}
use Rattle.names.specs.declared.frames.Framed.{Framed}
use Rattle.names.specs.declared.kinds.Kind.{Kind}
use Rattle.tables.specs.Telling.{Tells}
use Rattle.tables.specs.Returned.{Held}
use Rattle.tables.specs.Returned.{Tidy}
use Rattle.reading.specs.Cursors.{left}
use Rattle.reading.specs.declared.Cursor.{Cursor}

-- names
abbrev pub NamesAsk : (p : List ℕ) (edition : Edition) (q : Question) → Answer → Type 0
NamesAsk p edition q r = answered r ≡ as_place (ask (kind_in edition) q p)

abbrev pub NamesAskBytes : (p : List ℕ) (lent_at_lem : ℕ × ℕ) (edition : Edition) (q : Question) → (ℕ × ℕ) → List ℕ → Type 0
NamesAskBytes p lent_at_lem edition q begins bytes = (bytes ≡ as_bytes (ask (kind_in edition) q p)) × (begins ≡ (lent_at_lem.0, start_of (ask (kind_in edition) q p) + lent_at_lem.1))

-- names::asking
abbrev pub NamesTheName : (s : List ℕ) (place : Held) → Answer → Type 0
NamesTheName s place r = AsksAt one_name ItsName s place r

abbrev pub NamesNamed : (s : List ℕ) (place : Held) (key : ℕ) → Answer → Type 0
NamesNamed s place key r = AsksAt name_map (NameOf key) s place r

abbrev pub NamesNamedWithin : (s : List ℕ) (place : Held) (key inner : ℕ) → Answer → Type 0
NamesNamedWithin s place key inner r = AsksAt indirect_map (NameWithin key inner) s place r

abbrev pub NamesAllKept : (s : List ℕ) (place : Held) → Answer → Type 0
NamesAllKept s place r = AsksAt kept ItsContents s place r

-- names::contents
abbrev pub NamesOneName : (s : List ℕ) (part : Cursor) → Answer → Type 0
NamesOneName s part r = Asks one_name ItsName s part r

abbrev pub NamesContent : (s : List ℕ) (part : Cursor) (kind : Kind) → Answer → Type 0
NamesContent s part kind r = Rules (kind_meant kind) s part r

-- names::frames
abbrev pub NamesFrame : (s : List ℕ) (c : Cursor) (least : ℕ) → FrameRead → Type 0
NamesFrame s c least r = FrameReads least s c r

abbrev pub NamesFrameHere : (s : List ℕ) (c : Cursor) → Framed → Type 0
NamesFrameHere s c r = FrameStands s c r

-- names::judging
abbrev pub NamesJudge : (p : List ℕ) (edition : Edition) → Verdict → Type 0
NamesJudge p edition r = verdict_of r ≡ verdict (judge_names (kind_in edition) 0 p)

abbrev pub NamesFind : (s : List ℕ) (c : Cursor) (id : ℕ) → Held → Type 0
NamesFind s c id r = Finds s c.at (left s c) id r

-- names::kinds
abbrev pub NamesKindOf : (edition : Edition) (id : ℕ) → Kind → Type 0
NamesKindOf edition id r = kind_meant r ≡ kind_in edition id

-- names::telling
abbrev pub NamesTidyName : (s : List ℕ) (part : Cursor) → Tidy → Type 0
NamesTidyName s part r = Tells name part_form s part r

abbrev pub NamesIsCanonical : (p : List ℕ) → Bool → Type 0
NamesIsCanonical p r = r ≡ names_are_canonical known_kind p

-- names::telling_widely
abbrev pub NamesIsCanonicalWidely : (p : List ℕ) → Bool → Type 0
NamesIsCanonicalWidely p r = r ≡ names_are_canonical wider_kind p

-- names::within
abbrev pub NamesAskIn : (s : List ℕ) (c : Cursor) (edition : Edition) (q : Question) → Answer → Type 0
NamesAskIn s c edition q r = answered r ≡ as_place (ask_at (kind_in edition) q c.at (left s c))
