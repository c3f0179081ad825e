-- The names of the tracked sections compared byte by byte: the row that they come to is the walk's.
use Rattle.std.specs.Prelude.{ℕ, List, [], ◌∷◌, ◌≡◌}
use Rattle.std.proofs.Math.Option.{Option}
use Rattle.format.specs.Bytes.{same}
use Rattle.format.specs.Walk.{name_section, hint_section, older_hint_section, tracked, first_row}
use Rattle.stream.specs.Naming.{Names, none_met, meet, first_of, met}
use Rattle.stream.specs.Laws.Matching.{is_match, match_first, match_byte_lem, match_ends_lem}

-- the row that a name's bytes have in the walk's table
abbrev pub row_named : List ℕ → Option ℕ
row_named bs = first_row 0 tracked (λ x. same x bs)

-- the row, once the rest is known
abbrev pub meeting : Names → List ℕ → Option ℕ
meeting m bs = first_of (is_match name_section m.name bs) (is_match hint_section m.hints bs) (is_match older_hint_section m.older bs)

pub meeting_first : (bs : List ℕ) → row_named bs ≡ meeting none_met bs
meeting_first bs = λ i. first_of (match_first name_section bs i) (match_first hint_section bs i) (match_first older_hint_section bs i)

pub meeting_byte : (m : Names) (b : ℕ) (bs : List ℕ) → meeting m (b ∷ bs) ≡ meeting (meet m b) bs
meeting_byte m b bs = λ i. first_of (match_byte_lem name_section m.name b bs i) (match_byte_lem hint_section m.hints b bs i) (match_byte_lem older_hint_section m.older b bs i)

pub meeting_ends : (m : Names) → meeting m [] ≡ met m
meeting_ends m = λ i. first_of (match_ends_lem name_section m.name i) (match_ends_lem hint_section m.hints i) (match_ends_lem older_hint_section m.older i)
