-- The way through the subsections of two payloads that were accepted, measured.
use Rattle.std.specs.Prelude.{Option as Found, Some, None}
use Prim.Native.Nat.{ℕ, ◌+◌, ◌*◌, ◌-◌, ◌^◌, ◌≤◌, ◌<◌}
use mathlib.Core.Bool.{true, false}
use mathlib.Core.List.{List}
use mathlib.Core.Option.{Option, none, some}
use mathlib.Core.Path.{◌≡◌, refl, sym, ap, ◌∙◌}
use native.Mathlib.Nat.{zero-add}
use native.Mathlib.Omega.{arith}
use borrow.Author.Rules.{rules}
use borrow.Author.Tests.{lt-ltb, le-ltb}
use lib.Dec.{ltb}
use lib.ListN.{length, length-append}
use Rattle.copying.proofs.Laws.{part_length}
use Rattle.copying.proofs.Measuring.{shortest_short}
use Rattle.format.specs.Canonical.{bare, trim, row_if, keep_rows, write_part, write_content, write_subsections}
use Rattle.format.specs.Joined.{merged, join_content, joined, joined_contents, all_fit}
use Rattle.format.specs.Names.{Kind as AnyKind, Content}
use Rattle.format.specs.Numbers.{shortest, limit32}
use Rattle.format.specs.Options.{map_some}
use Rattle.format.specs.Parts.{Part}
use Rattle.format.specs.Tables.{Table, nil, map_table}
use Rattle.format.proofs.Laws.CanonicalNames.{norm_sorted, norm_fines, subsections_shorter}
use Rattle.format.proofs.Laws.JoiningAll.{joined_both, joined_trim, joined_length}
use Rattle.format.proofs.Laws.Merging.{merge_before, merge_behind}
use Rattle.format.proofs.Laws.Names.{payload_sound}
use Rattle.format.specs.Laws.Options.{not_some, some_is}
use Rattle.format.specs.Laws.Outcomes.{by_test}
use Rattle.names.specs.Contents.{kind_meant}
use Rattle.names.specs.declared.kinds.Kind.{Kind}
use Rattle.reading.specs.Cursors.{left}
use Rattle.reading.specs.declared.Cursor.{Cursor}
use Rattle.tables.specs.Returned.{Held}
use Rattle.joining.specs.Contents.{HeldContent, HeldContents, both_left, sizes_of, left_of, LeftOfBoth}
use Rattle.joining.specs.Subsections.{KnownFrames, FrameTaken, TakesSubsection, SubsectionNext, length_left, length_of, total_of, KnownSubsection, MeasuresSubsection, Payloads, MeasuresJoined}
use Rattle.joining.specs.Returned.{Left, Total}
use Rattle.joining.specs.declared.contents.Sizes.{Sizes}
use Rattle.joining.specs.declared.subsections.NextSubsection.{NextSubsection}
use Rattle.joining.proofs.ContentLaws.{one_left}
use Rattle.rewrite.proofs.SubsectionLaws.{nothing_to_come}
use Rattle.joining.proofs.FrameLaws.{frames_known, PartedBy, side}

-- what a total is tells it apart
pub length_is : {n m : ℕ} → Some n ≡ Some m → n ≡ m
length_is e = cc

pub not_large : {n : ℕ} → Some n ≡ None → ⊥
not_large e = let z : ◌≡◌ {A = ℕ} 0 1 = cc in omega arith

-- A subsection's length
module _ (x : Left) where
  pub length_none : x ≡ None → Some 0 ≡ length_left x
  unfolding length_left
  length_none e = rw e

  module _ {z : Sizes} (e : x ≡ Some z) where
    pub length_large : limit32 ≤ z.length → None ≡ length_left x
    unfolding length_left
    length_large h = rw (e, le-ltb z.length limit32 h)

    pub length_small : {n : ℕ} → z.length < limit32 → n ≡ length (shortest z.length) + z.length → Some (1 + n) ≡ length_left x
    unfolding length_left
    length_small h q = rw (e, lt-ltb z.length limit32 h, q)

pub length_fits : (z : Sizes) {n : ℕ} → z.length < limit32 → n ≡ length (shortest z.length) + z.length → 1 + n < 2 ^ 64
length_fits z h q = omega (arith, shortest_short z.length)

pub ruleset lengths_left = (length_none, length_large, length_small, length_fits, rules)

length_left_of : (x : Left) (b : Option (Content (List ℕ))) → left_of x ≡ map_some sizes_of b → length_left x ≡ length_of b
unfolding length_left length_of
length_left_of None none e = refl
length_left_of None (some d) e = absurd (not_some e)
length_left_of (Some z) none e = absurd (not_some (sym e))
length_left_of (Some z) (some d) e = let same : z ≡ sizes_of d = some_is e in rw same

pub sub_known : {kind_of : ℕ → AnyKind} {id : ℕ} {s : List ℕ} {first : Held} {o : List ℕ} {second : Held} (kind : Kind) → KnownSubsection kind_of id s first o second → kind_meant kind ≡ kind_of id → HeldContents (kind_meant kind) s first o second
sub_known kind k is = rw is k.held

module _ {kind_of : ℕ → AnyKind} {id : ℕ} {s : List ℕ} {first : Held} {o : List ℕ} {second : Held} (kind : Kind) (is : kind_meant kind ≡ kind_of id) where
  pub sub_measured : (x : Left) {r : Total} → LeftOfBoth (kind_meant kind) s first o second x → r ≡ length_left x → MeasuresSubsection kind_of id s first o second r
  sub_measured x t e =
      let here : LeftOfBoth (kind_of id) s first o second x = rw is at t in
      record { held = here.held; is = e ∙ length_left_of x (both_left here.held.ours here.held.theirs) here.is }

pub ruleset subsection_measured = (sub_known, sub_measured, rules)

-- what it adds
sub_length : (b : Option (Content (List ℕ))) (id : ℕ) (t : Table (Content (List ℕ))) {n : ℕ} → length_of b ≡ Some n → length (write_subsections (row_if id b t)) ≡ n + length (write_subsections t)
unfolding length_of write_subsections write_part
sub_length none id t e = let n_is = length_is e in omega (arith, n_is)
sub_length (some d) id t {n} e =
    by_test (ltb (length (write_content d)) limit32)
    (λ z. let n_is : 1 + (length (shortest (length (write_content d))) + length (write_content d)) ≡ n = length_is (rw z at e) in simp length-append (omega (arith, n_is)))
    (λ z. absurd (not_large (sym (rw z at e))))

sub_fits : (b : Option (Content (List ℕ))) (id : ℕ) (t : Table (Content (List ℕ))) {n : ℕ} → length_of b ≡ Some n → all_fit (row_if id b t) ≡ all_fit t
unfolding length_of all_fit
sub_fits none id t e = refl
sub_fits (some d) id t e =
    by_test (ltb (length (write_content d)) limit32)
    (λ z. rw z)
    (λ z. absurd (not_large (sym (rw z at e))))

sub_large : (b : Option (Content (List ℕ))) (id : ℕ) (t : Table (Content (List ℕ))) → length_of b ≡ None → all_fit (row_if id b t) ≡ false
unfolding length_of all_fit
sub_large none id t e = absurd (not_large e)
sub_large (some d) id t e =
    by_test (ltb (length (write_content d)) limit32)
    (λ z. absurd (not_large (rw z at e)))
    (λ z. rw z)

-- One step of both
joined_step : (id : ℕ) (x y : Option (Content Part)) (t t' u u' : Table (Content Part)) → PartedBy id x t t' → PartedBy id y u u' → (x ≡ none → y ≡ none → ⊥) → joined_contents t u ≡ row_if id (both_left x y) (joined_contents t' u')
unfolding joined_contents joined map_table keep_rows
joined_step id none none t t' u u' p q h = absurd (h refl refl)
joined_step id none (some d) t t' u u' p q h = let (same, above) = p in rw (same, q) (ap (keep_rows trim) (merge_behind join_content id (bare d) (map_table bare u') above))
joined_step id (some c) none t t' u u' p q h = let (same, above) = q in rw (same, p) (ap (keep_rows trim) (merge_before join_content id (bare c) (map_table bare t') above))
joined_step id (some c) (some d) t t' u u' p q h = rw (p, q) (joined_both id id (bare c) (bare d) (map_table bare t') (map_table bare u') refl)

held_nothing : {kind : _} {s : List ℕ} (held : Held) {x : Option (Content Part)} → HeldContent kind s held x → x ≡ none → held ≡ None
held_nothing None h e = refl
held_nothing (Some part) h e = let (c, w, is) = h.holds in absurd (not_some (sym e ∙ is))

none_taken : {s : List ℕ} {c : Cursor} {id : ℕ} {held : Held} {next : Cursor} → FrameTaken s c id held next → held ≡ None → next ≡ c
none_taken f e = let taken = rw e at f.taken in taken.0

-- both as one
abbrev pub joined_of : {kind_of : ℕ → AnyKind} {s : List ℕ} {c : Cursor} {o : List ℕ} {d : Cursor} → Payloads kind_of s c o d → Table (Content (List ℕ))
joined_of p = joined_contents p.ours p.theirs

pub record Goes {kind_of : ℕ → AnyKind} {s : List ℕ} {c : Cursor} {o : List ℕ} {d : Cursor} (p : Payloads kind_of s c o d) (id : ℕ) (first second : Held) (next after : Cursor) : Type 0 where
  pub held : HeldContents (kind_of id) s first o second
  pub on : Payloads kind_of s next o after
  pub parted : joined_of p ≡ row_if id (both_left held.ours held.theirs) (joined_of on)

module _ {kind_of : ℕ → AnyKind} {s : List ℕ} {c : Cursor} {o : List ℕ} {d : Cursor} (p : Payloads kind_of s c o d) where
  pub goes : {id : ℕ} {first second : Held} {next after : Cursor} → TakesSubsection s c o d id first second next after → Goes p id first second next after
  goes {id} {first} {second} {next} {after} w =
      let l = side p.first_stands first w.first_taken in
      let r = side p.second_stands second w.second_taken in
      let some_there : l.value ≡ none → r.value ≡ none → ⊥ = λ e f. neither (none_taken w.first_taken (held_nothing first l.holds e)) (none_taken w.second_taken (held_nothing second r.holds f)) w.fewer in
      record {
        held = record { ours = l.value; theirs = r.value; first_holds = l.holds; second_holds = r.holds };
        on = record { ours = l.more; theirs = r.more; first_stands = l.stands; second_stands = r.stands };
        parted = joined_step id l.value r.value p.ours l.more p.theirs r.more l.parted r.parted some_there;
      }
    where
      neither : {next after : Cursor} → next ≡ c → after ≡ d → (next.end - next.at) + (after.end - after.at) < (c.end - c.at) + (d.end - d.at) → ⊥
      neither e f h = let same = rw (e, f) at h in omega (arith, same)

  pub none_to_come : c.end ≤ c.at → d.end ≤ d.at → joined_of p ≡ nil
  unfolding joined_contents joined merged map_table keep_rows
  none_to_come h h' = rw (nothing_to_come p.first_stands h, nothing_to_come p.second_stands h')

  -- no longer than both
  joined_shorter : length (write_subsections (joined_of p)) ≤ length (left s c) + length (left o d)
  unfolding joined_contents
  joined_shorter =
      let a = payload_sound kind_of c.at (left s c) p.first_stands.reads in
      let b = payload_sound kind_of d.at (left o d) p.second_stands.reads in
      let t = map_table bare p.ours in
      let u = map_table bare p.theirs in
      rw (joined_trim kind_of a.sorted b.sorted) (omega (arith, joined_length kind_of (keep_rows trim t) (keep_rows trim u) (norm_fines kind_of (norm_sorted kind_of a.sorted)) (norm_fines kind_of (norm_sorted kind_of b.sorted)), subsections_shorter kind_of a.sorted, subsections_shorter kind_of b.sorted, a.shorter, b.shorter))

  joined_short : length s * 1 < 2 ^ 63 → length o * 1 < 2 ^ 63 → length (write_subsections (joined_of p)) < 2 ^ 64
  joined_short h h' = let i = p.first_stands.inside in let j = p.second_stands.inside in omega (arith, joined_shorter, part_length i, part_length j, i.within, j.within)

-- MEASURED
pub record MeasuringJoined (kind_of : ℕ → AnyKind) (s : List ℕ) (c : Cursor) (o : List ℕ) (d ours theirs : Cursor) (total : ℕ) : Type 0 where
  pub all : Payloads kind_of s c o d
  pub come : Payloads kind_of s ours o theirs
  pub so_far : total + length (write_subsections (joined_of come)) ≡ length (write_subsections (joined_of all))
  pub fits : all_fit (joined_of all) ≡ all_fit (joined_of come)
  pub short : length (write_subsections (joined_of all)) < 2 ^ 64

pub joined_begin : {kind_of : ℕ → AnyKind} {s : List ℕ} {c : Cursor} {o : List ℕ} {d : Cursor} → Payloads kind_of s c o d → length s * 1 < 2 ^ 63 → length o * 1 < 2 ^ 63 → MeasuringJoined kind_of s c o d c d 0
joined_begin p h h' = record { all = p; come = p; so_far = zero-add (length (write_subsections (joined_of p))); fits = refl; short = joined_short p h h' }

-- for callers
pub no_next : {s : List ℕ} {c : Cursor} {o : List ℕ} {d : Cursor} {x : Found NextSubsection} → SubsectionNext s c o d x → x ≡ None → (c.end ≤ c.at) × (d.end ≤ d.at)
no_next r e = rw e at r.steps

pub a_next : {s : List ℕ} {c : Cursor} {o : List ℕ} {d : Cursor} {x : Found NextSubsection} {sub : NextSubsection} → SubsectionNext s c o d x → x ≡ Some sub → TakesSubsection s c o d sub.id sub.first sub.second sub.next sub.after
a_next r e = rw e at r.steps

pub joined_less : {s : List ℕ} {c : Cursor} {o : List ℕ} {d : Cursor} {x : Found NextSubsection} {sub : NextSubsection} → SubsectionNext s c o d x → x ≡ Some sub → (sub.next.end - sub.next.at) + (sub.after.end - sub.after.at) < (c.end - c.at) + (d.end - d.at)
joined_less r e = (a_next r e).fewer

total_is : (t : Table (Content (List ℕ))) {n : ℕ} → all_fit t ≡ true → n ≡ length (write_subsections t) → Some n ≡ total_of t
unfolding total_of
total_is t h e = rw (h, e)

total_large : (t : Table (Content (List ℕ))) → all_fit t ≡ false → None ≡ total_of t
unfolding total_of
total_large t h = rw h

module _ {kind_of : ℕ → AnyKind} {s : List ℕ} {c : Cursor} {o : List ℕ} {d ours theirs : Cursor} {total : ℕ} (t : MeasuringJoined kind_of s c o d ours theirs total) where
  pub ours_known : KnownFrames s ours
  ours_known = frames_known t.come.first_stands

  pub theirs_known : KnownFrames o theirs
  theirs_known = frames_known t.come.second_stands

  module _ (x : Found NextSubsection) (r : SubsectionNext s ours o theirs x) where
    pub joined_done : x ≡ None → MeasuresJoined kind_of s c o d (Some total)
    unfolding all_fit write_subsections
    joined_done h =
        let (g, g') = no_next r h in
        let nothing = none_to_come t.come g g' in
        let empty : length (write_subsections (joined_of t.come)) ≡ 0 = rw nothing in
        record { both = t.all; is = total_is (joined_of t.all) (t.fits ∙ rw nothing) (omega (arith, empty, t.so_far)) }

    module _ {sub : NextSubsection} (e : x ≡ Some sub) where
      goes_on : Goes t.come sub.id sub.first sub.second sub.next sub.after
      goes_on = goes t.come (a_next r e)

      pub joined_held : KnownSubsection kind_of sub.id s sub.first o sub.second
      joined_held = record { held = goes_on.held }

      module _ {y : Total} (m : MeasuresSubsection kind_of sub.id s sub.first o sub.second y) where
        added : y ≡ length_of (both_left goes_on.held.ours goes_on.held.theirs)
        added = m.is ∙ ap length_of (one_left m.held goes_on.held)

        pub joined_large : y ≡ None → MeasuresJoined kind_of s c o d None
        joined_large h =
            let g = goes_on in
            let large = sub_large (both_left g.held.ours g.held.theirs) sub.id (joined_of g.on) (sym added ∙ h) in
            record { both = t.all; is = total_large (joined_of t.all) (t.fits ∙ ap all_fit g.parted ∙ large) }

        module _ {n : ℕ} (f : y ≡ Some n) where
          longer : length (write_subsections (joined_of t.come)) ≡ n + length (write_subsections (joined_of goes_on.on))
          longer = let g = goes_on in ap (λ z. length (write_subsections z)) g.parted ∙ sub_length (both_left g.held.ours g.held.theirs) sub.id (joined_of g.on) (sym added ∙ f)

          pub joined_more : MeasuringJoined kind_of s c o d sub.next sub.after (total + n)
          joined_more =
              let g = goes_on in
              record {
                all = t.all;
                come = g.on;
                so_far = omega (arith, longer, t.so_far);
                fits = t.fits ∙ ap all_fit g.parted ∙ sub_fits (both_left g.held.ours g.held.theirs) sub.id (joined_of g.on) (sym added ∙ f);
                short = t.short;
              }

          pub joined_fits : total + n < 2 ^ 64
          joined_fits = omega (arith, longer, t.so_far, t.short)

pub ruleset joined_measured = (joined_begin, ours_known, theirs_known, joined_done, joined_held, joined_large, joined_more, joined_fits, joined_less, rules)
