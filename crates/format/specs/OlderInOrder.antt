-- Rule R8.5 of docs/RULES.md.
-- K2. Hints of the older edition that stand in order already, each entry's by offset and the entries by function, and the bytes that such entries are rewritten to. Assumes nothing.
use Rattle.std.specs.Prelude.{ℕ, suc, Bool, true, false, cond, List, [], ◌∷◌, ◌++◌, leb, length}
use Rattle.format.specs.Numbers.{shortest}
use Rattle.format.specs.Older.{OlderHint, OlderEntry, kind_number}

-- each offset is at least the least that is allowed, and the next is above it
unfoldable pub rising_hints : ℕ → List OlderHint → Bool
rising_hints least [] = true
rising_hints least (h ∷ hs) = cond (leb least h.offset) (rising_hints (suc h.offset) hs) false

-- functions likewise, and each entry's hints
unfoldable pub rising_entries : ℕ → List OlderEntry → Bool
rising_entries least [] = true
rising_entries least (e ∷ es) = cond (leb least e.function) (cond (rising_hints 0 e.hints) (rising_entries (suc e.function) es) false) false

unfoldable pub hints_bytes : List OlderHint → List ℕ
hints_bytes [] = []
hints_bytes (h ∷ hs) = shortest (kind_number h.kind) ++ (shortest h.offset ++ hints_bytes hs)

-- an entry without hints is not written
abbrev pub if_hints : {A : Type 0} → List OlderHint → A → A → A
if_hints [] there without = without
if_hints (h ∷ hs) there without = there

unfoldable pub kept_entries : List OlderEntry → ℕ
kept_entries [] = 0
kept_entries (e ∷ es) = if_hints e.hints (suc (kept_entries es)) (kept_entries es)

unfoldable pub entries_bytes : List OlderEntry → List ℕ
entries_bytes [] = []
entries_bytes (e ∷ es) = if_hints e.hints (shortest e.function ++ ((0 ∷ (shortest (length e.hints) ++ hints_bytes e.hints)) ++ entries_bytes es)) (entries_bytes es)
