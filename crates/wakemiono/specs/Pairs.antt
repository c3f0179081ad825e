-- K3: the five fields of an answer over two payloads. Assumes nothing.
use Rattle.std.specs.Prelude.{ℕ, List, ◌≡◌, length}
use Rattle.std.proofs.Math.Option.{Option, none, some}
use Rattle.format.specs.Joined.{join_answer, joined_over}
use Rattle.format.specs.Pairs.{Paired, agreed, refused_by, Supplied}
use Rattle.format.specs.Reading.{Judged, accepted, refused}
use Rattle.format.specs.declared.Place.{Place}
use Rattle.format.specs.declared.Whose.{Whose}
use Rattle.format.specs.declared.Whose.TheVariants.{Separate, Own}
use Rattle.wakemiono.specs.declared.beside.WmPairAnswer.{WmPairAnswer}

-- whose it is; 0 is nobody's
abbrev pub wm_whose : Whose → ℕ
wm_whose Separate = 1
wm_whose Own = 2

-- by kind
abbrev pub wm_pair_none : WmPairAnswer
wm_pair_none = record { kind = 0; code = 0; offset = 0; length = 0; whose = 0 }

abbrev pub wm_pair_found : (whose offset length : ℕ) → WmPairAnswer
wm_pair_found whose offset length = record { kind = 1; code = 0; offset = offset; length = length; whose = whose }

abbrev pub wm_pair_refused : (whose number offset : ℕ) → WmPairAnswer
wm_pair_refused whose number offset = record { kind = 2; code = number; offset = offset; length = 0; whose = whose }

-- what a question answers, from what it means; and what a join does
abbrev pub wm_pair : Paired (Option (Supplied Place)) → WmPairAnswer
wm_pair (agreed none) = wm_pair_none
wm_pair (agreed (some x)) = wm_pair_found (wm_whose x.whose) x.value.offset.0 x.value.length
wm_pair (refused_by w n at) = wm_pair_refused (wm_whose w) n at

abbrev pub wm_join : Paired (Judged ℕ) → WmPairAnswer
wm_join (agreed (accepted n)) = wm_pair_found 0 0 n
wm_join (agreed (refused n at)) = wm_pair_refused 0 n at
wm_join (refused_by w n at) = wm_pair_refused (wm_whose w) n at

-- the answer to a join, and the output's whole end state
pub record WmJoins (wanted : Paired (Judged (List ℕ))) (old new : List ℕ) (a : WmPairAnswer) : Type 0 where
  pub says : a ≡ wm_join (join_answer (length old) wanted)
  pub leaves : new ≡ joined_over wanted old
