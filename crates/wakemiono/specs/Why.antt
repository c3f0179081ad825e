-- K7: the eight fields of an answer that says why. Assumes nothing.
use Rattle.std.specs.Prelude.{ℕ}
use Rattle.std.proofs.Math.Option.{Option, none, some}
use Rattle.format.specs.Reading.{Judged, accepted, refused}
use Rattle.format.specs.Why.{Why, named, no_subsection, no_group, no_entry}
use Rattle.wakemiono.specs.declared.why.Side.{Side}
use Rattle.wakemiono.specs.declared.why.WmWhy.{WmWhy}

-- whether there is a neighbour, and its index, 0 without one
abbrev pub wm_side : Option ℕ → Side
wm_side none = record { has = 0; index = 0 }
wm_side (some k) = record { has = 1; index = k }

-- by kind
abbrev pub wm_alone : (kind : ℕ) → WmWhy
wm_alone kind = record { kind = kind; code = 0; offset = 0; position = 0; has_below = 0; below = 0; has_above = 0; above = 0 }

abbrev pub wm_named : (id position : ℕ) → WmWhy
wm_named id position = record { kind = 1; code = id; offset = 0; position = position; has_below = 0; below = 0; has_above = 0; above = 0 }

abbrev pub wm_no_entry : (below above : Option ℕ) → WmWhy
wm_no_entry below above = record { kind = 7; code = 0; offset = 0; position = 0; has_below = (wm_side below).has; below = (wm_side below).index; has_above = (wm_side above).has; above = (wm_side above).index }

abbrev pub wm_why_refused : (number offset : ℕ) → WmWhy
wm_why_refused number offset = record { kind = 2; code = number; offset = offset; position = 0; has_below = 0; below = 0; has_above = 0; above = 0 }

-- what a call answers, from what it means
abbrev pub wm_reason : Why → WmWhy
wm_reason (named id position) = wm_named id position
wm_reason no_subsection = wm_alone 5
wm_reason no_group = wm_alone 6
wm_reason (no_entry below above) = wm_no_entry below above

abbrev pub wm_why : Judged Why → WmWhy
wm_why (accepted why) = wm_reason why
wm_why (refused number offset) = wm_why_refused number offset
