-- THE PROMISES of the crate `pairs`, each by the name of its function. They stand in the `ensures` of the public functions and nowhere else: what is shown of these names is shown of the functions. A promise relates what is lent to what comes back.
use Rattle.std.specs.Prelude.{ℕ, List, ◌≡◌}
use Rattle.format.specs.Names.{kind_in}
use Rattle.format.specs.Pairs.{ask_pair, as_places, supplied_bytes, supplied_from, pair_answered}
use Rattle.format.specs.declared.Edition.{Edition}
use Rattle.format.specs.Returned.{PairAnswer}
use Rattle.format.specs.declared.Question.{Question}

-- pairs
abbrev pub PairsAsk : (separate own : List ℕ) (edition : Edition) (q : Question) → PairAnswer → Type 0
PairsAsk separate own edition q r = pair_answered r ≡ as_places (ask_pair (kind_in edition) q separate own)

abbrev pub PairsAskBytes : (separate own : List ℕ) (separate_at own_at : ℕ × ℕ) (edition : Edition) (q : Question) → (ℕ × ℕ) → List ℕ → Type 0
PairsAskBytes separate own separate_at own_at edition q begins bytes = (bytes ≡ supplied_bytes (ask_pair (kind_in edition) q separate own)) × (begins ≡ supplied_from (ask_pair (kind_in edition) q separate own) separate_at own_at)
