-- Laws for callers: what an item or a search gives lies inside, and one result alone meets a promise.
use Rattle.std.specs.Prelude.{Ok, Err, Some, None}
use Prim.Native.Nat.{ℕ, ◌≤◌}
use mathlib.Core.Bool.{Bool}
use mathlib.Core.List.{List}
use mathlib.Core.Option.{Option, none, some}
use mathlib.Core.Path.{◌≡◌, refl, sym, ap, ap₂, ◌∙◌}
use native.Mathlib.Omega.{arith}
use Rattle.format.specs.Reading.{got, Reader}
use Rattle.format.specs.Parts.{Part}
use Rattle.format.specs.Metadata.{hint_of, any_item, hint_item}
use Rattle.format.specs.Options.{is_some}
use Rattle.format.specs.Laws.Outcomes.{not_got, got_value, got_next}
use Rattle.format.specs.Laws.Options.{not_some, some_is}
use Rattle.format.specs.Laws.Turns.{in_tested}
use Rattle.format.specs.Laws.Refusals.{same_stop}
use Rattle.format.specs.declared.Refusal.{Refusal}
use Rattle.format.specs.declared.Reason.TheVariants.{NotHint}
use Rattle.reading.specs.Cursors.{Inside, left, refusal_of, PartReads, part_of}
use Rattle.reading.specs.declared.Cursor.{Cursor}
use Rattle.reading.specs.Returned.{PartRead}
use Rattle.reading.proofs.Laws.{Behind, part_behind, name_behind}
use Rattle.reading.proofs.Same.{same_cursor, same_part}
use Rattle.tables.specs.Seeking.{reader_of, Seeks}
use Rattle.tables.specs.declared.Item.{Item}
use Rattle.tables.specs.declared.Item.TheVariants.{Name, Data, Hint}
use Rattle.tables.specs.Returned.{Seek}

-- An item
module _ {s : List ℕ} {c part next : Cursor} {told : Bool} where
  hint_behind : Inside s c → PartReads hint_item s c (Ok (part, next, told)) → Behind s c part next
  unfolding hint_item
  hint_behind i r =
      in_tested (λ x. is_some (hint_of x)) NotHint (λ o p. o) c.at (left s c) (sym r.means) λ e t.
      let sized_part : PartReads _ s c (Ok (part, next, told)) = record { means = sym e; same_part = r.same_part; tells = r.tells } in
      part_behind i sized_part refl

  pub item_means : {value : Reader Part} {x : PartRead} → PartReads value s c x → x ≡ Ok (part, next, told) → value c.at (left s c) ≡ got (part_of s part) next.at (left s next)
  item_means r e = sym (rw e at r.means)

  pub item_behind : {x : PartRead} (item : Item) → Inside s c → PartReads (reader_of item) s c x → x ≡ Ok (part, next, told) → Behind s c part next
  unfolding any_item
  item_behind Name i r e = name_behind i r e
  item_behind Data i r e = part_behind i r e
  item_behind Hint i r e = hint_behind i (rw e at r)

-- A search
module _ {read : Reader (Option Part)} {s : List ℕ} {c : Cursor} {x : Seek} where
  pub refused_means : {r : Refusal} → Seeks read s c x → x ≡ Err r → read c.at (left s c) ≡ refusal_of r
  refused_means r e = sym (rw e at r.means)

module _ {read : Reader (Option Part)} {s : List ℕ} {c next : Cursor} {x : Seek} where
  pub none_means : Seeks read s c x → x ≡ Ok (None, next) → read c.at (left s c) ≡ got none next.at (left s next)
  none_means r e = sym (rw e at r.means)

  pub none_end : Seeks read s c x → x ≡ Ok (None, next) → next.end ≡ c.end
  none_end r e = rw e at r.same_part

  pub none_inside : Inside s c → Seeks read s c x → x ≡ Ok (None, next) → Inside s next
  none_inside i r e =
      let far = none_end r e in
      let near : next.at ≤ c.end = rw e at r.ahead in
      record { ahead = omega arith; within = omega (arith, i.within) }

  module _ {part : Cursor} where
    pub found_means : Seeks read s c x → x ≡ Ok (Some part, next) → read c.at (left s c) ≡ got (some (part_of s part)) next.at (left s next)
    found_means r e = sym (rw e at r.means)

    pub found_end : Seeks read s c x → x ≡ Ok (Some part, next) → next.end ≡ c.end
    found_end r e = let same = rw e at r.same_part in same.2

    pub found_inside : Inside s c → Seeks read s c x → x ≡ Ok (Some part, next) → Inside s next
    found_inside i r e =
        let far = found_end r e in
        let near : next.at ≤ c.end = rw e at r.ahead in
        record { ahead = omega arith; within = omega (arith, i.within) }

    pub found_part : Inside s c → Seeks read s c x → x ≡ Ok (Some part, next) → Inside s part
    found_part i r e = let same = rw e at r.same_part in record { ahead = same.0; within = omega (arith, same.1, i.within) }

-- One result alone meets a promise
pub seeks_same : {read : Reader (Option Part)} {s : List ℕ} {c : Cursor} {r r' : Seek} → Seeks read s c r → Seeks read s c r' → Inside s c → r ≡ r'
seeks_same {r = Ok (None, next)} {r' = Ok (None, next')} a b i = let e = a.means ∙ sym b.means in ap (λ x. Ok (None, x)) (same_cursor next next' (got_next e) (a.same_part ∙ sym b.same_part))
seeks_same {r = Ok (Some part, next)} {r' = Ok (Some part', next')} a b i =
    let e = a.means ∙ sym b.means in
    ap₂ (λ x y. Ok (Some x, y))
    (same_part part part' (found_part i a refl) (found_part i b refl) (some_is (got_value e)))
    (same_cursor next next' (got_next e) (found_end a refl ∙ sym (found_end b refl)))
seeks_same {r = Err r} {r' = Err r'} a b i = ap Err (same_stop (a.means ∙ sym b.means))
seeks_same {r = Ok (None, next)} {r' = Ok (Some part, next')} a b i = absurd (not_some (got_value (a.means ∙ sym b.means)))
seeks_same {r = Ok (Some part, next)} {r' = Ok (None, next')} a b i = absurd (not_some (got_value (b.means ∙ sym a.means)))
seeks_same {r = Err r} {r' = Ok (None, next')} a b i = absurd (not_got (a.means ∙ sym b.means))
seeks_same {r = Err r} {r' = Ok (Some part, next')} a b i = absurd (not_got (a.means ∙ sym b.means))
seeks_same {r = Ok (None, next)} {r' = Err r'} a b i = absurd (not_got (b.means ∙ sym a.means))
seeks_same {r = Ok (Some part, next)} {r' = Err r'} a b i = absurd (not_got (b.means ∙ sym a.means))
