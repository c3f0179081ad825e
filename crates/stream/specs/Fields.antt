-- Rules R14.2 and R14.5 of docs/RULES.md.
-- The state as a caller holds it: one struct of numbers, with a number for the phase. What a phase has no use for is 0, so that the struct is a function of the bytes that have come. Assumes nothing.
use Rattle.std.specs.Prelude.{ℕ, zero, suc, ◌+◌, ◌*◌, Bool, true, false, cond, eqb}
use Rattle.std.proofs.Math.Option.{Option, none, some}
use Rattle.format.specs.Reading.{accepted, refused}
use Rattle.format.specs.Options.{is_some}
use Rattle.format.specs.declared.Place.{Place}
use Rattle.walk.specs.Sections.{bit}
use Rattle.stream.specs.Counting.{Number, fresh}
use Rattle.stream.specs.Texts.{Text, none_wanted}
use Rattle.stream.specs.Naming.{Names, none_met}
use Rattle.stream.specs.Contents.{Contents, sizing, naming, paying, failing}
use Rattle.stream.specs.Stream.{Summary, Done, nothing_done, place, Phase, starting, settled, measuring, skipping, in_custom_lem, State}
use Rattle.stream.specs.declared.Spot.{Spot}
use Rattle.stream.specs.declared.Stream.{Stream}

-- INTO THE STRUCT

abbrev pub flag : Bool → ℕ
flag true = 1
flag false = 0

abbrev pub spot_of : Option Place → Spot
spot_of none = record { offset = 0; length = 0 }
spot_of (some p) = record { offset = p.offset.0; length = p.length }

-- which rows of the walk's table were there: a bit each, the lowest the first row's
abbrev pub rows_there : Summary → ℕ
rows_there s = flag (is_some s.name) + 2 * flag (is_some s.hints) + 4 * flag (is_some s.older)

-- a row, counted from 1
abbrev pub row_number : Option ℕ → ℕ
row_number none = 0
row_number (some row) = suc row

abbrev pub fields : (total phase : ℕ) → Done → (id at left : ℕ) → Number → (begins text rest : ℕ) → Text → Names → (row refusal : ℕ) → Stream
fields total phase d id at left n begins text rest t m row refusal = record {
  total = total;
  count = d.told.count;
  name = spot_of d.told.name;
  hints = spot_of d.told.hints;
  older = spot_of d.told.older;
  at = at;
  begins = begins;
  text = text;
  left = left;
  rest = rest;
  low = n.low;
  least = t.least;
  point = t.code;
  phase = phase;
  refusal = refusal;
  rank = d.rank;
  code = flag d.code;
  there = rows_there d.told;
  id = id;
  come = n.come;
  wanted = t.wanted;
  met = record { name = m.name; hints = m.hints; older = m.older };
  row = row;
}

abbrev pub in_contents : (total : ℕ) → Done → (at left : ℕ) → Contents → Stream
in_contents total d at left (sizing begins n) = fields total 5 d 0 at left n begins 0 0 none_wanted none_met 0 0
in_contents total d at left (naming begins text rest t m) = fields total 6 d 0 at left fresh begins text rest t m 0 0
in_contents total d at left (paying row payload) = fields total 7 d 0 at left fresh 0 payload 0 none_wanted none_met (row_number row) 0
in_contents total d at left (failing number offset) = fields total 8 d 0 at left fresh 0 offset 0 none_wanted none_met 0 number

abbrev pub in_phase : (total : ℕ) → Phase → Stream
in_phase total starting = fields total 0 nothing_done 0 0 0 fresh 0 0 0 none_wanted none_met 0 0
in_phase total (settled (accepted d)) = fields total 1 d 0 0 0 fresh 0 0 0 none_wanted none_met 0 0
in_phase total (settled (refused number offset)) = fields total 2 nothing_done 0 0 0 fresh 0 offset 0 none_wanted none_met 0 number
in_phase total (measuring d id at n) = fields total 3 d id at 0 n 0 0 0 none_wanted none_met 0 0
in_phase total (skipping d at left) = fields total 4 d 0 at left fresh 0 0 0 none_wanted none_met 0 0
in_phase total (in_custom_lem d at left c) = in_contents total d at left c

unfoldable pub held : State → Stream
held s = in_phase s.total s.phase

-- after the finish nothing but the total is kept
abbrev pub over : ℕ
over = 9

abbrev pub over_at : (total : ℕ) → Stream
over_at total = fields total over nothing_done 0 0 0 fresh 0 0 0 none_wanted none_met 0 0

-- OUT OF THE STRUCT: every struct is some state, one that a caller made up too

abbrev pub place_from : Bool → Spot → Option Place
place_from there p = cond there (some (place p.offset p.length)) none

abbrev pub first_row : ℕ → Option ℕ
first_row zero = none
first_row (suc row) = some row

abbrev pub done_from : Stream → Done
done_from f = record {
  rank = f.rank;
  code = eqb f.code 1;
  told = record {
    count = f.count;
    name = place_from (bit f.there 0) f.name;
    hints = place_from (bit f.there 1) f.hints;
    older = place_from (bit f.there 2) f.older;
  };
}

abbrev pub number_from : Stream → Number
number_from f = record { come = f.come; low = f.low }

abbrev pub text_from : Stream → Text
text_from f = record { wanted = f.wanted; least = f.least; code = f.point }

abbrev pub names_from : Stream → Names
names_from f = record { name = f.met.name; hints = f.met.hints; older = f.met.older }

-- in the middle of a custom section's contents
unfoldable pub contents_from : Stream → Contents
contents_from f =
    cond (eqb f.phase 5) (sizing f.begins (number_from f))
    (cond (eqb f.phase 6) (naming f.begins f.text f.rest (text_from f) (names_from f))
    (cond (eqb f.phase 7) (paying (first_row f.row) f.text)
    (failing f.refusal f.text)))

unfoldable pub phase_from : Stream → Phase
phase_from f =
    cond (eqb f.phase 0) starting
    (cond (eqb f.phase 1) (settled (accepted (done_from f)))
    (cond (eqb f.phase 2) (settled (refused f.refusal f.text))
    (cond (eqb f.phase 3) (measuring (done_from f) f.id f.at (number_from f))
    (cond (eqb f.phase 4) (skipping (done_from f) f.at f.left)
    (in_custom_lem (done_from f) f.at f.left (contents_from f))))))

unfoldable pub state_from : Stream → State
state_from f = record { total = f.total; phase = phase_from f }
