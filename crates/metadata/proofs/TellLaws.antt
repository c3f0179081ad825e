-- Telling whether a payload of items is canonical: of one byte, and of others.
use Prim.Native.Nat.{ℕ}
use mathlib.Core.Bool.{Bool}
use mathlib.Core.List.{List, [], ◌∷◌}
use mathlib.Core.Path.{◌≡◌, sym, ◌∙◌}
use native.Mathlib.Omega.{arith}
use borrow.Author.Rules.{rules}
use lib.Dec.{eqb}
use lib.ListN.{length, get_or}
use Rattle.format.specs.Bytes.{Bytes}
use Rattle.format.specs.Tables.{table}
use Rattle.format.specs.Forms.{told, told_end, is_yes, part_form, table_form}
use Rattle.format.specs.Telling.{items_are_canonical}
use Rattle.format.proofs.Laws.Codecs.{name_codec, any_codec, hint_codec}
use Rattle.format.proofs.Laws.TellingItems.{one_byte_told, lists_told}
use Rattle.reading.specs.Cursors.{over_all}
use Rattle.reading.specs.declared.Cursor.{Cursor}
use Rattle.reading.proofs.Laws.{over_inside, left_all}
use Rattle.tables.specs.Seeking.{reader_of}
use Rattle.tables.specs.Telling.{is_filled, Tells}
use Rattle.tables.specs.declared.Item.{Item}
use Rattle.tables.specs.declared.Item.TheVariants.{Name, Data, Hint}
use Rattle.tables.specs.Returned.{Tidy}
use Rattle.tables.proofs.TidySteps.{at_end}

-- one byte
pub one_told : (item : Item) (s : List ℕ) → length s ≡ 1 → eqb (get_or s 0 0) 0 ≡ items_are_canonical (reader_of item) s
one_told item [] h = absurd (omega arith)
one_told item (b ∷ []) h = sym (one_byte_told (reader_of item) b)
one_told item (b ∷ d ∷ bs) h = absurd (omega arith)

-- others: the codec of an item is of no interest
lists_are : (item : Item) (s : List ℕ) → Bytes s → (length s ≡ 1 → ⊥) → items_are_canonical (reader_of item) s ≡ is_yes (told_end (told (table_form (table_form part_form)) s (table (table (reader_of item)) 0 s)))
lists_are Name s h n = lists_told name_codec s h n
lists_are Data s h n = lists_told any_codec s h n
lists_are Hint s h n = lists_told hint_codec s h n

pub all_told : (item : Item) (s : List ℕ) {c : Cursor} {y : Tidy} {b : Bool} → Bytes s → (length s ≡ 1 → ⊥) → c ≡ over_all s → Tells (table (table (reader_of item))) (table_form (table_form part_form)) s c y → b ≡ is_filled y → b ≡ items_are_canonical (reader_of item) s
all_told item s {y = y} h n over t q = q ∙ at_end (over_inside over) y t ∙ rw (over, left_all s) (sym (lists_are item s h n))

pub ruleset tell_steps = (one_told, all_told, over_inside, rules)
