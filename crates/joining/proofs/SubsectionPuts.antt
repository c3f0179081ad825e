-- The subsections of two payloads that were accepted, written as one; and the whole of both.
use Rattle.format.specs.declared.JoinRefusal.TheVariants.{Output}
use Rattle.std.specs.Prelude.{Option as Found, Ok, Err, Some, None}
use Prim.Native.Nat.{ℕ, ◌+◌, ◌-◌, ◌≤◌, ◌<◌}
use mathlib.Core.Bool.{true, false}
use mathlib.Core.List.{List, [], ◌∷◌, ◌++◌, append_assoc, append-nil}
use mathlib.Core.Option.{Option, none, some}
use mathlib.Core.Path.{◌≡◌, refl, sym, ap, ◌∙◌}
use native.Mathlib.Omega.{arith}
use borrow.Author.Rules.{rules}
use borrow.Author.Tests.{ltb-true}
use lib.Dec.{ltb}
use lib.ListN.{length, length-append}
use Rattle.format.specs.Canonical.{row_if, write_part, write_content, write_subsections}
use Rattle.format.specs.Joined.{all_fit, write_joined}
use Rattle.format.specs.Names.{Kind as AnyKind, Content}
use Rattle.format.specs.Numbers.{shortest, limit32}
use Rattle.format.specs.Options.{map_some}
use Rattle.format.specs.Reading.{accepted}
use Rattle.format.specs.Tables.{Table}
use Rattle.format.specs.Laws.Options.{some_is, not_some}
use Rattle.format.specs.Laws.Outcomes.{by_test, on_both}
use Rattle.format.specs.Laws.Outputs.{writes_refused, writes_short}
use Rattle.format.specs.Laws.PairAnswers.{join_writes}
use Rattle.format.specs.declared.Reason.TheVariants.{OutputTooShort, SubsectionTooLarge}
use Rattle.names.specs.Contents.{kind_meant}
use Rattle.names.specs.declared.kinds.Kind.{Kind}
use Rattle.reading.specs.declared.Cursor.{Cursor}
use Rattle.tables.specs.Returned.{Held}
use Rattle.writing.specs.Wrote.{Wrote}
use Rattle.writing.proofs.Laws.{wrote_nothing, wrote_join, wrote_length, writes_wrote}
use Rattle.rewrite.specs.Contents.{count_of}
use Rattle.rewrite.specs.Subsections.{sub_bytes}
use Rattle.joining.specs.Contents.{HeldContents, both_left, sizes_of, left_of, LeftOfBoth, FitsBoth, CountsBoth, PutsBothContents}
use Rattle.joining.specs.Subsections.{KnownFrames, SubsectionNext, total_of, SmallLeft, RoomForHead, PutsHead, FitsSubsection, PutsSubsection, Payloads, MeasuresJoined, FitsJoined, PutsJoined, Joins}
use Rattle.joining.specs.Returned.{Left, Total}
use Rattle.joining.specs.declared.contents.Sizes.{Sizes}
use Rattle.joining.specs.declared.subsections.NextSubsection.{NextSubsection}
use Rattle.joining.proofs.ContentLaws.{one_left}
use Rattle.joining.proofs.PutLaws.{one_remains}
use Rattle.joining.proofs.FrameLaws.{frames_known}
use Rattle.joining.proofs.SubsectionLaws.{length_is, not_large, joined_of, Goes, goes, none_to_come, no_next, a_next, joined_less}

-- A subsection's id and size
module _ {size : ℕ} {old : List ℕ} {at : ℕ} (f : RoomForHead size old at) where
  pub head_id_room : at < length old
  head_id_room = omega (arith, f.room)

  pub head_small : size < limit32
  head_small = f.small

  module _ {id : ℕ} {mid : List ℕ} {from : ℕ} (v : Wrote old mid at from (id ∷ [])) where
    pub head_size_room : from + length (shortest size) ≤ length mid
    head_size_room = omega (arith, f.room, v.next_is, wrote_length v)

    pub head_put : {new : List ℕ} {next : ℕ} → Wrote mid new from next (shortest size) → PutsHead id size old new at next
    head_put w = record { wrote = wrote_join v w }

pub ruleset head_written = (head_id_room, head_small, head_size_room, head_put, wrote_length, rules)

-- What a measure says of contents: nothing is left, or something of these sizes
record Remains (b : Option (Content (List ℕ))) (z : Sizes) : Type 0 where
  remains : Content (List ℕ)
  is : b ≡ some remains
  count_is : z.count ≡ count_of remains
  length_is : z.length ≡ length (write_content remains)

nothing_left : (x : Left) (b : Option (Content (List ℕ))) → left_of x ≡ map_some sizes_of b → x ≡ None → b ≡ none
nothing_left x none told e = refl
nothing_left x (some d) told e = absurd (not_some (rw e at told))

something_left : (x : Left) (b : Option (Content (List ℕ))) {z : Sizes} → left_of x ≡ map_some sizes_of b → x ≡ Some z → Remains b z
something_left x none told e = absurd (not_some (sym (rw e at told)))
something_left x (some d) {z} told e =
    let q : z ≡ sizes_of d = some_is (rw e at told) in
    record { remains = d; is = refl; count_is = ap (λ (y : Sizes). y.count) q; length_is = ap (λ (y : Sizes). y.length) q }

-- One subsection
pub sub_put_known : {kind_of : ℕ → AnyKind} {id : ℕ} {s : List ℕ} {first : Held} {o : List ℕ} {second : Held} {old : List ℕ} {at : ℕ} (kind : Kind) → FitsSubsection kind_of id s first o second old at → kind_meant kind ≡ kind_of id → HeldContents (kind_meant kind) s first o second
sub_put_known kind f is = rw is f.held

module _ {kind_of : ℕ → AnyKind} {id : ℕ} {s : List ℕ} {first : Held} {o : List ℕ} {second : Held} {old : List ℕ} {at : ℕ} (f : FitsSubsection kind_of id s first o second old at) (kind : Kind) (kind_is : kind_meant kind ≡ kind_of id) (x : Left) (t : LeftOfBoth (kind_meant kind) s first o second x) where
  there : LeftOfBoth (kind_of id) s first o second x
  there = rw kind_is at t

  abbrev what : Option (Content (List ℕ))
  what = both_left f.held.ours f.held.theirs

  told : left_of x ≡ map_some sizes_of what
  told = there.is ∙ ap (map_some sizes_of) (one_left there.held f.held)

  pub sub_nothing : x ≡ None → PutsSubsection kind_of id s first o second old old at at
  sub_nothing e = record { held = f.held; wrote = rw (nothing_left x what told e) (wrote_nothing (omega (arith, f.room))) }

  module _ {z : Sizes} (e : x ≡ Some z) where
    left_here : Remains what z
    left_here = something_left x what told e

    bytes : sub_bytes id what ≡ id ∷ (shortest z.length ++ write_content left_here.remains)
    unfolding write_part
    bytes = rw (left_here.is, ← left_here.length_is)

    long : at + (1 + (length (shortest z.length) + length (write_content left_here.remains))) ≤ length old
    long = let sizes : length (sub_bytes id what) ≡ 1 + (length (shortest z.length) + length (write_content left_here.remains)) = ap length bytes ∙ simp length-append (omega arith) in omega (arith, f.room, sizes)

    remains_small : length (write_content left_here.remains) < limit32
    remains_small = let l = left_here in let small : SmallLeft (some l.remains) = rw l.is at f.small in small

    pub sub_head_room : RoomForHead z.length old at
    sub_head_room = let l = left_here in record { small = omega (arith, remains_small, l.length_is); room = omega (arith, long) }

    pub sub_counted : CountsBoth (kind_meant kind) s first o second z.count
    sub_counted = let l = left_here in rw kind_is (record { held = f.held; remains = l.remains; is = l.is; counted = l.count_is })

    module _ {mid : List ℕ} {from : ℕ} (v : PutsHead id z.length old mid at from) where
      pub sub_contents_room : FitsBoth (kind_meant kind) s first o second mid from
      sub_contents_room = let l = left_here in let w = v.wrote in rw kind_is (record { held = f.held; remains = l.remains; is = l.is; small = remains_small; room = omega (arith, long, w.next_is, wrote_length w) })

      pub sub_put : {new : List ℕ} {next : ℕ} → PutsBothContents (kind_meant kind) s first o second mid new from next → PutsSubsection kind_of id s first o second old new at next
      sub_put {new} {next} p =
          let l = left_here in
          let p' : PutsBothContents (kind_of id) s first o second mid new from next = rw kind_is at p in
          let same : p'.remains ≡ l.remains = one_remains p'.held f.held p'.is l.is in
          record { held = f.held; wrote = rw bytes (wrote_join v.wrote (rw same at p'.wrote)) }

pub ruleset subsection_put = (sub_put_known, sub_nothing, sub_head_room, sub_counted, sub_contents_room, sub_put, wrote_length, rules)

-- what a row adds
row_bytes : (id : ℕ) (b : Option (Content (List ℕ))) (t : Table (Content (List ℕ))) → write_subsections (row_if id b t) ≡ sub_bytes id b ++ write_subsections t
unfolding write_subsections
row_bytes id none t = refl
row_bytes id (some d) t = refl

row_small : (id : ℕ) (b : Option (Content (List ℕ))) (t : Table (Content (List ℕ))) → all_fit (row_if id b t) ≡ true → SmallLeft b
unfolding all_fit
row_small id none t h = tt
row_small id (some d) t h = on_both (ltb (length (write_content d)) limit32) (all_fit t) h λ here more. ltb-true (length (write_content d)) limit32 here

row_fits : (id : ℕ) (b : Option (Content (List ℕ))) (t : Table (Content (List ℕ))) → all_fit (row_if id b t) ≡ true → all_fit t ≡ true
unfolding all_fit
row_fits id none t h = h
row_fits id (some d) t h = on_both (ltb (length (write_content d)) limit32) (all_fit t) h λ here more. more

-- All of them
pub record PuttingJoined (kind_of : ℕ → AnyKind) (s : List ℕ) (c : Cursor) (o : List ℕ) (d : Cursor) (old new : List ℕ) (place : ℕ) (ours theirs : Cursor) : Type 0 where
  pub all : Payloads kind_of s c o d
  pub come : Payloads kind_of s ours o theirs
  pub done : List ℕ
  pub so_far : Wrote old new 0 place done
  pub fine : done ++ write_subsections (joined_of come) ≡ write_subsections (joined_of all)
  pub fit : all_fit (joined_of come) ≡ true
  pub fit_all : all_fit (joined_of all) ≡ true
  pub room : length (write_subsections (joined_of all)) ≤ length old

pub putting_begin : {kind_of : ℕ → AnyKind} {s : List ℕ} {c : Cursor} {o : List ℕ} {d : Cursor} {old : List ℕ} → FitsJoined kind_of s c o d old → PuttingJoined kind_of s c o d old old 0 c d
putting_begin f = record { all = f.both; come = f.both; done = []; so_far = wrote_nothing (omega arith); fine = refl; fit = f.fit; fit_all = f.fit; room = f.room }

module _ {kind_of : ℕ → AnyKind} {s : List ℕ} {c : Cursor} {o : List ℕ} {d : Cursor} {old new : List ℕ} {place : ℕ} {ours theirs : Cursor} (t : PuttingJoined kind_of s c o d old new place ours theirs) where
  pub ours_known : KnownFrames s ours
  ours_known = frames_known t.come.first_stands

  pub theirs_known : KnownFrames o theirs
  theirs_known = frames_known t.come.second_stands

  pub putting_length : length new ≡ length old
  putting_length = wrote_length t.so_far

  module _ (x : Found NextSubsection) (r : SubsectionNext s ours o theirs x) where
    pub putting_done : x ≡ None → PutsJoined kind_of s c o d old new place
    unfolding write_subsections
    putting_done h =
        let (g, g') = no_next r h in
        let nothing : write_subsections (joined_of t.come) ≡ [] = rw (none_to_come t.come g g') in
        let done_is : t.done ≡ write_subsections (joined_of t.all) = sym (append-nil t.done) ∙ rw (← nothing) t.fine in
        record { both = t.all; fit = t.fit_all; wrote = rw done_is at t.so_far }

    module _ {sub : NextSubsection} (e : x ≡ Some sub) where
      goes_on : Goes t.come sub.id sub.first sub.second sub.next sub.after
      goes_on = goes t.come (a_next r e)

      abbrev here : Option (Content (List ℕ))
      here = both_left goes_on.held.ours goes_on.held.theirs

      ahead : (t.done ++ sub_bytes sub.id here) ++ write_subsections (joined_of goes_on.on) ≡ write_subsections (joined_of t.all)
      ahead =
          let split : write_subsections (joined_of t.come) ≡ sub_bytes sub.id here ++ write_subsections (joined_of goes_on.on) = ap write_subsections goes_on.parted ∙ row_bytes sub.id here (joined_of goes_on.on) in
          append_assoc t.done (sub_bytes sub.id here) (write_subsections (joined_of goes_on.on)) ∙ rw (← split) t.fine

      fit_here : all_fit (row_if sub.id here (joined_of goes_on.on)) ≡ true
      fit_here = ap all_fit (sym goes_on.parted) ∙ t.fit

      pub putting_room : FitsSubsection kind_of sub.id s sub.first o sub.second new place
      putting_room =
          let lengths = ap length (sym ahead) ∙ length-append (t.done ++ sub_bytes sub.id here) (write_subsections (joined_of goes_on.on)) in
          record { held = goes_on.held; small = row_small sub.id here (joined_of goes_on.on) fit_here; room = omega (arith, lengths, length-append t.done (sub_bytes sub.id here), t.room, t.so_far.next_is, wrote_length t.so_far) }

      pub putting_more : {last : List ℕ} {place' : ℕ} → PutsSubsection kind_of sub.id s sub.first o sub.second new last place place' → PuttingJoined kind_of s c o d old last place' sub.next sub.after
      putting_more p =
          record {
            all = t.all;
            come = goes_on.on;
            done = t.done ++ sub_bytes sub.id here;
            so_far = wrote_join t.so_far (rw (one_left p.held goes_on.held) at p.wrote);
            fine = ahead;
            fit = row_fits sub.id here (joined_of goes_on.on) fit_here;
            fit_all = t.fit_all;
            room = t.room;
          }

pub ruleset joined_written = (putting_begin, ours_known, theirs_known, putting_length, putting_done, putting_room, putting_more, joined_less, wrote_length, rules)

-- The whole of both: too large, too long, or written
total_fits : (t : Table (Content (List ℕ))) {n : ℕ} → Some n ≡ total_of t → (all_fit t ≡ true) × (n ≡ length (write_subsections t))
unfolding total_of
total_fits t e =
    by_test (all_fit t)
    (λ z. (z, length_is (rw z at e)))
    (λ z. absurd (not_large (rw z at e)))

total_not : (t : Table (Content (List ℕ))) → None ≡ total_of t → all_fit t ≡ false
unfolding total_of
total_not t e =
    by_test (all_fit t)
    (λ z. absurd (not_large (sym (rw z at e))))
    (λ z. z)

module _ {kind_of : ℕ → AnyKind} {s : List ℕ} {c : Cursor} {o : List ℕ} {d : Cursor} {x : Total} (m : MeasuresJoined kind_of s c o d x) where
  pub both_large : {old : List ℕ} → x ≡ None → Joins kind_of s c o d old old (Err (Output (record { reason = SubsectionTooLarge; offset = record { 0 = 0 } })))
  unfolding write_joined
  both_large h =
      let large = total_not (joined_of m.both) (sym h ∙ m.is) in
      record { both = m.both; writes = join_writes (Err (record { reason = SubsectionTooLarge; offset = record { 0 = 0 } })) refl (writes_refused (rw large)) }

  module _ {needed : ℕ} (e : x ≡ Some needed) where
    both_fit : (all_fit (joined_of m.both) ≡ true) × (needed ≡ length (write_subsections (joined_of m.both)))
    both_fit = total_fits (joined_of m.both) (sym e ∙ m.is)

    both_wanted : write_joined m.both.ours m.both.theirs ≡ accepted (write_subsections (joined_of m.both))
    unfolding write_joined
    both_wanted = rw both_fit.0

    pub both_short : {old : List ℕ} → length old < needed → Joins kind_of s c o d old old (Err (Output (record { reason = OutputTooShort; offset = record { 0 = needed } })))
    both_short h =
        let (fit, is) = both_fit in
        record { both = m.both; writes = rw is (join_writes (Err (record { reason = OutputTooShort; offset = record { 0 = length (write_subsections (joined_of m.both)) } })) refl (writes_short both_wanted (rw is at h))) }

    pub both_room : {old : List ℕ} → needed ≤ length old → FitsJoined kind_of s c o d old
    both_room h = let (fit, is) = both_fit in record { both = m.both; fit = fit; room = rw is at h }

pub both_put : {kind_of : ℕ → AnyKind} {s : List ℕ} {c : Cursor} {o : List ℕ} {d : Cursor} {old new : List ℕ} {end : ℕ} → PutsJoined kind_of s c o d old new end → Joins kind_of s c o d old new (Ok end)
unfolding write_joined
both_put {end = end} p =
    let wanted : write_joined p.both.ours p.both.theirs ≡ accepted (write_subsections (joined_of p.both)) = rw p.fit in
    record { both = p.both; writes = join_writes (Ok end) refl (writes_wrote wanted p.wrote) }

pub ruleset both_written = (both_large, both_short, both_room, both_put, wrote_length, rules)
