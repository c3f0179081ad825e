-- Rules R10.1 to R10.4 of docs/RULES.md.
-- K3. Names that travel beside a stripped module. "We are sent a name payload apart. One question goes over the two lent payloads: the separate one answers unless it gives none, else the module's; a name found says which, and is handed back as a part of the payload that supplied it. .. Refusals: the separate payload's first, the answer saying whose". Assumes nothing.
use Rattle.std.specs.Prelude.{ℕ, ◌+◌, List, [], Ok, Err, Some, None}
use Rattle.std.proofs.Math.Option.{Option, none, some}
use Rattle.format.specs.Refusals.{number_of}
use Rattle.format.specs.Reading.{Judged, accepted, refused}
use Rattle.format.specs.Options.{map_some}
use Rattle.format.specs.Parts.{Part, place_of}
use Rattle.format.specs.Names.{Kind}
use Rattle.format.specs.Questions.{ask}
use Rattle.format.specs.Returned.{PairAnswer}
use Rattle.format.specs.declared.Place.{Place}
use Rattle.format.specs.declared.Question.{Question}
use Rattle.format.specs.declared.Whose.{Whose}
use Rattle.format.specs.declared.Whose.TheVariants.{Separate, Own}

-- what two payloads come to: both are accepted, or one is refused, and whose it is
pub data Paired (A : Type 0) : Type 0 where
  agreed : A → Paired A
  refused_by : Whose → (number offset : ℕ) → Paired A

-- both are judged whole, the separate one first
abbrev pub both_judged : {A B C : Type 0} → (A → B → C) → Judged A → Judged B → Paired C
both_judged f (refused n at) y = refused_by Separate n at
both_judged f (accepted v) (refused n at) = refused_by Own n at
both_judged f (accepted v) (accepted w) = agreed (f v w)

abbrev pub map_paired : {A B : Type 0} → (A → B) → Paired A → Paired B
map_paired f (agreed v) = agreed (f v)
map_paired f (refused_by w n at) = refused_by w n at

-- what was found, and whose it is
pub record Supplied (A : Type 0) : Type 0 where
  pub whose : Whose
  pub value : A

-- "the separate one answers unless it gives none, else the module's"
abbrev pub first_of : {A : Type 0} → Option A → Option A → Option (Supplied A)
first_of (some v) y = some (record { whose = Separate; value = v })
first_of none (some w) = some (record { whose = Own; value = w })
first_of none none = none

unfoldable pub ask_pair : (ℕ → Kind) → Question → (separate own : List ℕ) → Paired (Option (Supplied Part))
ask_pair kind_of q separate own = both_judged first_of (ask kind_of q separate) (ask kind_of q own)

-- the payload that supplied it
abbrev pub lent_by : {A : Type 0} → Whose → (separate own : A) → A
lent_by Separate separate own = separate
lent_by Own separate own = own

-- The answer as a place in the payload that supplied it; as bytes, which are no bytes for none and for a refusal; and without its offset and whose it is, as answers are compared
abbrev pub supplied_at : Supplied Part → Supplied Place
supplied_at x = record { whose = x.whose; value = place_of x.value }

unfoldable pub as_places : Paired (Option (Supplied Part)) → Paired (Option (Supplied Place))
as_places j = map_paired (map_some supplied_at) j

unfoldable pub supplied_bytes : Paired (Option (Supplied Part)) → List ℕ
supplied_bytes (agreed none) = []
supplied_bytes (agreed (some x)) = x.value.bytes
supplied_bytes (refused_by w n at) = []

unfoldable pub pair_told : Paired (Option (Supplied Part)) → Paired (Option (List ℕ))
pair_told j = map_paired (map_some (λ x. x.value.bytes)) j

-- where in memory its bytes begin, of two payloads that begin at these places; where the separate one does for none and for a refusal
unfoldable pub supplied_from : Paired (Option (Supplied Part)) → (separate own : ℕ × ℕ) → ℕ × ℕ
supplied_from (agreed none) a b = a
supplied_from (agreed (some x)) a b = (lent_by x.whose a.0 b.0, x.value.at + lent_by x.whose a.1 b.1)
supplied_from (refused_by w n at) a b = a

-- What an answer says
abbrev pub pair_answered : PairAnswer → Paired (Option (Supplied Place))
pair_answered (Ok None) = agreed none
pair_answered (Ok (Some (w, p))) = agreed (some (record { whose = w; value = p }))
pair_answered (Err (w, r)) = refused_by w (number_of r.reason) r.offset.0
