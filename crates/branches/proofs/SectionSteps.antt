-- The contents of a section, found from id byte to id byte.
use Rattle.std.specs.Prelude.{Some, None}
use Prim.Native.Nat.{ℕ, suc, ◌+◌, ◌-◌, ◌≤◌, ◌<◌}
use mathlib.Core.List.{List, [], ◌∷◌}
use mathlib.Core.Path.{◌≡◌, refl, sym, ap, ◌∙◌}
use native.Mathlib.Numerals.{add-one}
use native.Mathlib.Omega.{arith}
use borrow.Author.Rules.{rules}
use borrow.Author.Tests.{le-leb, eq-eqb, ne_eqb}
use lib.ListN.{length, drop, get_or, length-take, length-drop}
use lib.Seq.{slice, take-length, drop-cons, length-slice}
use Rattle.format.specs.Holding.{Framed, Covers, at_the_end_lem, a_section}
use Rattle.format.specs.Parts.{sized}
use Rattle.format.specs.Reading.{got, accepted}
use Rattle.format.specs.Walk.{preamble, Section}
use Rattle.format.proofs.Laws.Codecs.{sized_codec}
use Rattle.format.proofs.Laws.Walk.{walk_covers}
use Rattle.reading.specs.Cursors.{Inside, left}
use Rattle.reading.specs.Standing.{Stands, Known, TakesPart}
use Rattle.reading.specs.declared.Cursor.{Cursor}
use Rattle.reading.specs.declared.again.Piece.{Piece}
use Rattle.reading.proofs.Standing.{stand, one_value, one_end}
use Rattle.branches.specs.Branches.{contents_in, contents_of}
use Rattle.branches.specs.Sections.{Walked, Finds}
use Rattle.branches.proofs.RowLaws.{sized_passable}

-- the cursor behind an id byte
abbrev behind_id : List ℕ → ℕ → Cursor
behind_id m at = record { at = at + 1; end = length m }

-- where a section ends
abbrev end_of : Section → ℕ
end_of s = s.contents.at + length s.contents.bytes

left_all : (m : List ℕ) (o : ℕ) → slice o (length m) m ≡ drop o m
left_all m o = ap (drop o) (take-length m)

-- a section of a module that is covered: its id byte, and its contents behind that
module _ {m : List ℕ} {s : Section} (f : Framed m s) where
  framed_within : s.at < length m
  framed_within = omega (arith, ap length f.id_byte, length-take 1 (drop s.at m), length-drop s.at m)

  framed_id : get_or m s.at 0 ≡ s.id
  framed_id = let e : get_or m s.at 0 ∷ [] ≡ s.id ∷ [] = rw (drop-cons m s.at 0 framed_within) at f.id_byte in cc

  framed_reads : sized (suc s.at) (drop (suc s.at) m) ≡ got s.contents (end_of s) (drop (length s.contents.bytes) (drop s.contents.at m))
  unfolding sized
  framed_reads =
      let fits = le-leb (length s.contents.bytes) (length (drop s.contents.at m)) (omega (arith, f.inside, length-drop s.contents.at m)) in
      rw (f.size_number, fits, f.contents)

  framed_stands : Stands sized m (behind_id m s.at) s.contents (record { at = end_of s; end = length m })
  framed_stands =
      let here : Inside m (behind_id m s.at) = record { ahead = omega (arith, framed_within); within = omega arith } in
      let same : sized (s.at + 1) (left m (behind_id m s.at)) ≡ sized (suc s.at) (drop (suc s.at) m) = rw (left_all m (s.at + 1), add-one) in
      stand sized_passable here (same ∙ framed_reads)

-- the sections that are still to come: the next one, and those behind it
record Next (m : List ℕ) (at : ℕ) (ss : List Section) : Type 0 where
  first : Section
  more : List Section
  id_there : get_or m at 0 ≡ first.id
  stands : Stands sized m (behind_id m at) first.contents (record { at = end_of first; end = length m })
  covers : Covers m (end_of first) more
  are : ss ≡ first ∷ more

next_there : {m : List ℕ} {at : ℕ} {ss : List Section} → at < length m → Covers m at ss → Next m at ss
next_there h at_the_end_lem = absurd (omega arith)
next_there h (a_section {s} {ss} f behind) = record { first = s; more = ss; id_there = framed_id f; stands = framed_stands f; covers = behind; are = refl }

none_there : {m : List ℕ} {at : ℕ} {ss : List Section} → length m ≤ at → Covers m at ss → ss ≡ []
none_there h at_the_end_lem = refl
none_there h (a_section f behind) = absurd (omega (arith, framed_within f))

-- the loop: the contents are those that the sections to come have
pub record Turn (m : List ℕ) (id at : ℕ) : Type 0 where
  pub to_come_lem : List Section
  pub covers : Covers m at to_come_lem
  pub same : contents_of id m ≡ accepted (contents_in id to_come_lem)

pub turn_first : {m : List ℕ} {id : ℕ} → Walked m → Turn m id 8
unfolding contents_of preamble
turn_first {m} w = record { to_come_lem = w.sections; covers = walk_covers m w.are; same = rw w.are }

module _ {m : List ℕ} {id at : ℕ} (t : Turn m id at) where
  pub turn_done : length m ≤ at → Finds m id None
  unfolding contents_in
  turn_done h = record { says = sym (t.same ∙ rw (none_there h t.covers)); inside = tt }

  module _ (h : at < length m) where
    pub turn_known : Known sized m (behind_id m at)
    turn_known = let n = next_there h t.covers in record { value = _; next = _; stands = n.stands }

    module _ {p : Piece} (k : TakesPart m (behind_id m at) p) where
      pub turn_found : get_or m at 0 ≡ id → Finds m id (Some p.part)
      unfolding contents_in
      turn_found e =
          let n = next_there h t.covers in
          let here = eq-eqb n.first.id id (sym n.id_there ∙ e) in
          record { says = sym (t.same ∙ rw (n.are, here, one_value n.stands k.stands)); inside = k.in_part }

      pub turn_next : (get_or m at 0 ≡ id → ⊥) → Turn m id p.next.at
      unfolding contents_in
      turn_next other =
          let n = next_there h t.covers in
          let behind = one_end n.stands k.stands in
          let elsewhere = ne_eqb n.first.id id (λ e. other (n.id_there ∙ e)) in
          record { to_come_lem = n.more; covers = rw (← behind) n.covers; same = t.same ∙ ap (λ ss. accepted (contents_in id ss)) n.are ∙ rw elsewhere }

      pub turn_shorter : length m - p.next.at < length m - at
      turn_shorter =
          let w = k.stands in
          omega (arith, (sized_codec.sound (at + 1) (left m (behind_id m at)) w.reads).shorter, length-slice (at + 1) (length m) m w.inside.within, length-slice p.next.at p.next.end m w.behind.within, w.same_end, w.behind.ahead)

pub ruleset section_turns = (turn_first, turn_done, turn_known, turn_found, turn_next, turn_shorter, rules)
