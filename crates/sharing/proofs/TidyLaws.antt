-- K13: what the parts of the step give, one law for each way through them.
use Prim.Native.Nat.{ℕ, suc, pred, max, ◌+◌, ◌-◌, ◌*◌, ◌/◌, ◌%◌, ◌≤◌, ◌<◌}
use mathlib.Core.Bool.{Bool, true, false}
use mathlib.Core.List.{List, [], ◌∷◌, ◌++◌, map, map-append, append-nil, append_assoc}
use mathlib.Core.Path.{◌≡◌, refl, sym, ap, ap₂, ◌∙◌}
use native.Mathlib.Numerals.{add-one}
use native.Mathlib.Omega.{arith}
use borrow.Author.Rules.{rules}
use borrow.Author.Tests.{leb-true, leb-false}
use lib.Dec.{ltb, leb}
use lib.ListN.{length, take, drop, set, get_or, replicate, length-set, length-map, length-replicate, length-append, length-take, length-drop, take-append-drop, drop_of_length-le, get_or-eq_default}
use lib.Seq.{append_snoc, drop_at, drop-cons, drop-drop, get_or-drop, get_or-set_other, get_or-set_same, get_or-take, length-take-le, set_at, take_all, take-suc, take-suc-set}
use Rattle.format.specs.Laws.Outcomes.{by_test}
use Rattle.sharing.specs.Arrays.{marks_from}
use Rattle.sharing.specs.Blocks.{join}
use Rattle.sharing.specs.Laws.Arrays.{set_mark, get_mark, marks_length, marks_cons}
use Rattle.sharing.specs.Laws.Blocks.{Whole}
use Rattle.sharing.specs.Laws.Bytes.{blocks_cons, blocks_end, blocks_length}
use Rattle.sharing.specs.Laws.Histories.{join_cut, whole_cut}
use Rattle.sharing.specs.Laws.Packing.{rank_none, rank_more, rank_same, rank_few, packed_to, cleared_to, packed_none, packed_length, packed_ahead, packed_same, packed_more, packed_blocks_lem, cleared_none, cleared_same, cleared_more, cleared_marks, block_over, whole_moved}
use Rattle.sharing.specs.Marks.{Walkable}
use Rattle.sharing.specs.Packing.{UsedBlocks, Before, Used, Packable, PacksBlocks, PacksRows, LeadsFrom, Led, LeadsHolds, TidiesTable}
use Rattle.sharing.specs.Table.{Mark, mark, blank, Table, blocks, reach, taken}
use Rattle.sharing.specs.Tidy.{rank, moved, packed_marks, tidied_table}
use Rattle.sharing.specs.declared.Table.{Table as Arrays}
use Rattle.sharing.proofs.RunLaws.{taken_test, taken_end}
use Rattle.sharing.proofs.StoreLaws.{Copied, copied_none, copied_more, copied_all}
use Rattle.writing.specs.Wrote.{Wrote}
use Rattle.writing.proofs.Laws.{wrote_length}

-- Which blocks are used

pub record Seen (us ns s : List ℕ) (used : List Bool) (b cover : ℕ) : Type 0 where
  pub long : length used ≡ 128
  pub near : b ≤ length s / 512
  pub is : taken 0 (marks_from us ns) (blocks s) ≡ take b used ++ taken cover (drop b (marks_from us ns)) (drop b (blocks s))

pub seen_none : (us ns s : List ℕ) → Seen us ns s (replicate 128 false) 0 0
seen_none us ns s = record { long = length-replicate {A = Bool} 128 false; near = omega arith; is = refl }

module _ {us ns s : List ℕ} {used : List Bool} {b cover : ℕ} (t : Seen us ns s used b cover) (w : Walkable us ns s) where
  module _ (h : b < length s / 512) {c : ℕ} (e : c ≡ max cover (reach (mark (get_or us b 0) (get_or ns b 0)))) where
    seen_next : taken 0 (marks_from us ns) (blocks s) ≡ take (suc b) (set used b (ltb 0 c)) ++ taken (pred c) (drop (suc b) (marks_from us ns)) (drop (suc b) (blocks s))
    seen_next =
        let m = marks_cons us ns b (w.users_long ∙ sym w.sizes_long) (omega (arith, w.users_long, w.few)) in
        let k = blocks_cons s b h in
        let rest = taken (pred c) (drop (suc b) (marks_from us ns)) (drop (suc b) (blocks s)) in
        t.is ∙ ap (λ (l : List Bool). take b used ++ l) (ap₂ (taken cover) m k ∙ taken_test cover _ (drop (suc b) (marks_from us ns)) _ (drop (suc b) (blocks s)) ∙ rw (← e) refl)
        ∙ sym (append_snoc (take b used) (ltb 0 c) rest) ∙ ap (λ (l : List Bool). l ++ rest) (sym (take-suc-set used b (ltb 0 c) (omega (arith, t.long, w.few))))

    pub seen_used : 0 < c → Seen us ns s (set used b (ltb 0 c)) (b + 1) (c - 1)
    seen_used l =
        let p : pred c ≡ c - 1 = omega arith in
        let n : suc b ≡ b + 1 = omega arith in
        record { long = length-set used b (ltb 0 c) ∙ t.long; near = omega arith; is = rw (p, n) at seen_next }

    pub seen_free : c ≤ 0 → Seen us ns s (set used b (ltb 0 c)) (b + 1) c
    seen_free l =
        let p : pred c ≡ c = omega arith in
        let n : suc b ≡ b + 1 = omega arith in
        record { long = length-set used b (ltb 0 c) ∙ t.long; near = omega arith; is = rw (p, n) at seen_next }

  pub seen_all : length s / 512 ≤ b → UsedBlocks us ns s used
  seen_all h =
      let z : b ≡ length s / 512 = omega (arith, t.near) in
      record {
        able = record { said = record { long = t.long; few = omega (arith, w.few) }; whole = w.whole };
        is = ap (λ (n : ℕ). take n used) (sym z) ∙ sym (t.is ∙ ap (λ (l : List Bool). take b used ++ l) (ap (taken cover (drop b (marks_from us ns))) (blocks_end s b h) ∙ taken_end cover (drop b (marks_from us ns))) ∙ append-nil (take b used));
      }

pub ruleset usings = (seen_none, seen_used, seen_free, seen_all, rules)

-- A block over another

pub moved_not : (s : List ℕ) (from to : ℕ) → Before s from to → from ≡ to → Wrote s s (to * 512) (to * 512 + 512) (take 512 (drop (from * 512) s))
moved_not s from to b e = rw e (record {
  next_is = sym (ap (λ (n : ℕ). to * 512 + n) (length-take-le 512 (drop (to * 512) s) (omega (arith, length-drop (to * 512) s, b.inside))));
  fits = omega (arith, b.inside);
  written = sym (ap (λ (l : List ℕ). take (to * 512) s ++ (take 512 (drop (to * 512) s) ++ l)) (sym (drop-drop 512 (to * 512) s)) ∙ ap (λ (l : List ℕ). take (to * 512) s ++ l) (take-append-drop 512 (drop (to * 512) s)) ∙ take-append-drop (to * 512) s);
})

pub record Moved (old : List ℕ) (from to : ℕ) (new : List ℕ) (k : ℕ) : Type 0 where
  pub copied : Copied old (to * 512) old (from * 512) 512 new k

pub moved_none : (s : List ℕ) (from to : ℕ) → Before s from to → Moved s from to s 0
moved_none s from to b = record { copied = copied_none (omega (arith, b.inside, b.before)) }

-- what stands behind what was written is as it was
behind_is : {old new x : List ℕ} {at next : ℕ} → Wrote old new at next x → drop next new ≡ drop next old
behind_is {old} {new} {x} {at} {next} w =
    let n : length (take at old ++ x) ≡ next = length-append (take at old) x ∙ omega (arith, length-take at old, w.next_is, w.fits) in
    ap (drop next) (w.written ∙ sym (append_assoc (take at old) x (drop next old))) ∙ drop_at (take at old ++ x) (drop next old) next n

module _ {old : List ℕ} {from to : ℕ} {new : List ℕ} {k : ℕ} (t : Moved old from to new k) (b : Before old from to) where
  pub moved_room : k < 512 → from * 512 + k < length new
  moved_room h = omega (arith, t.copied.long, b.inside)

  pub moved_place : k < 512 → to * 512 + k < length new
  moved_place h = omega (arith, t.copied.long, b.inside, b.before)

  -- a byte that is read next is not written yet
  unwritten : get_or new (from * 512 + k) 0 ≡ get_or old (from * 512 + k) 0
  unwritten =
      let z : to * 512 + k + (from * 512 - to * 512) ≡ from * 512 + k = omega (arith, b.before) in
      let e = get_or-drop (to * 512 + k) new (from * 512 - to * 512) 0 in
      let f = get_or-drop (to * 512 + k) old (from * 512 - to * 512) 0 in
      rw z at (sym e ∙ ap (λ (l : List ℕ). get_or l (from * 512 - to * 512) 0) (behind_is t.copied.so_far) ∙ f)

  pub moved_more : k < 512 → Moved old from to (set new (to * 512 + k) (get_or new (from * 512 + k) 0)) (k + 1)
  moved_more h = record { copied = rw unwritten (copied_more t.copied (omega (arith, b.inside, b.before)) (omega (arith, b.inside)) h) }

  pub moved_all : 512 ≤ k → Wrote old new (to * 512) (to * 512 + 512) (take 512 (drop (from * 512) old))
  moved_all h = let z : k ≡ 512 = omega (arith, t.copied.near) in rw z at (copied_all t.copied h)

  pub moved_long : length new ≡ length old
  moved_long = t.copied.long

pub ruleset movings = (moved_not, moved_none, moved_room, moved_place, moved_more, moved_all, moved_long, rules)

-- All blocks

pub record Shifted (used : List Bool) (s new : List ℕ) (b to : ℕ) : Type 0 where
  pub near : b ≤ length s / 512
  pub inside : to ≤ b
  pub ranked : to ≡ rank (take (length s / 512) used) b
  pub long : length new ≡ length s
  pub is : new ≡ join (packed_to (take (length s / 512) used) b (blocks s))
  pub whole : Whole (packed_to (take (length s / 512) used) b (blocks s))

whole_blocks : (s : List ℕ) → length s % 512 ≡ 0 → Whole (blocks s)
unfolding blocks
whole_blocks s e = whole_cut (length s / 512) s (omega arith)

join_blocks : (s : List ℕ) → length s % 512 ≡ 0 → join (blocks s) ≡ s
unfolding blocks
join_blocks s e = join_cut (length s / 512) s (omega arith)

pub shifted_none : (used : List Bool) (s : List ℕ) → Packable used s → Shifted used s s 0 0
shifted_none used s p =
    let z = packed_none (take (length s / 512) used) (blocks s) in
    record {
      near = omega arith;
      inside = omega arith;
      ranked = sym (rank_none (take (length s / 512) used));
      long = refl;
      is = sym (ap join z ∙ join_blocks s p.whole);
      whole = rw z (whole_blocks s p.whole);
    }

module _ {used : List Bool} {s new : List ℕ} {b to : ℕ} (t : Shifted used s new b to) (p : Packable used s) where
  abbrev ts : List Bool
  ts = take (length s / 512) used

  all_said : length ts ≡ length s / 512
  all_said = length-take-le (length s / 512) used (omega (arith, p.said.long, p.said.few))

  all_there : length ts ≤ length (blocks s)
  all_there = omega (arith, all_said, blocks_length s)

  as_many : length (packed_to ts b (blocks s)) ≡ length s / 512
  as_many = packed_length ts b (blocks s) all_there ∙ blocks_length s

  module _ (h : b < length s / 512) where
    pub shifted_before : Before new b to
    shifted_before = record { inside = omega (arith, t.long); before = omega (arith, t.inside) }

    pub shifted_same : get_or used b false ≡ false → Shifted used s new (b + 1) to
    shifted_same e =
        let i : get_or ts b false ≡ false = get_or-take (length s / 512) used b false h ∙ e in
        let z : packed_to ts b (blocks s) ≡ packed_to ts (b + 1) (blocks s) = packed_same ts b (blocks s) all_there i ∙ rw (add-one b) refl in
        record {
          near = omega arith;
          inside = omega (arith, t.inside);
          ranked = rw (add-one b) (t.ranked ∙ sym (rank_same ts b i));
          long = t.long;
          is = t.is ∙ ap join z;
          whole = rw (← z) t.whole;
        }

    pub shifted_more : {mid : List ℕ} → get_or used b false ≡ true → Wrote new mid (to * 512) (to * 512 + 512) (take 512 (drop (b * 512) new)) → Shifted used s mid (b + 1) (to + 1)
    shifted_more {mid} e w =
        let i : get_or ts b false ≡ true = get_or-take (length s / 512) used b false h ∙ e in
        let bs = packed_to ts b (blocks s) in
        let o : Wrote (join bs) mid (to * 512) (to * 512 + 512) (take 512 (drop (b * 512) (join bs))) = rw t.is at w in
        let z : set bs to (get_or bs b []) ≡ packed_to ts (b + 1) (blocks s) = ap₂ (λ (j : ℕ) (x : List ℕ). set bs j x) t.ranked (packed_ahead ts b (blocks s) all_there []) ∙ packed_more ts b (blocks s) all_there [] i ∙ rw (add-one b) refl in
        record {
          near = omega arith;
          inside = omega (arith, t.inside);
          ranked = rw (add-one b, add-one to) (ap suc t.ranked ∙ sym (rank_more ts b i));
          long = wrote_length w ∙ t.long;
          is = block_over bs t.whole b to mid (omega (arith, as_many)) (omega (arith, as_many, t.inside)) o ∙ ap join z;
          whole = rw (← z) (whole_moved bs t.whole b to (omega (arith, as_many)));
        }

  pub shifted_all : length s / 512 ≤ b → PacksBlocks used s new
  shifted_all h = record { is = t.is ∙ ap join (packed_blocks_lem ts b (blocks s) all_there (omega (arith, all_said))) }

  pub shifted_long : length new ≡ length s
  shifted_long = t.long

pub ruleset shiftings = (shifted_none, shifted_before, shifted_same, shifted_more, shifted_all, shifted_long, rules)

-- Whether a block is used

pub used_there : (used : List Bool) (n b : ℕ) → b < n → get_or used b false ≡ get_or (take n used) b false
used_there used n b h = sym (get_or-take n used b false h)

pub used_not : (used : List Bool) (n b : ℕ) → n ≤ b → false ≡ get_or (take n used) b false
used_not used n b h = sym (get_or-eq_default (take n used) false {n = b} (omega (arith, length-take n used)))

pub ruleset used_tests = (used_there, used_not, rules)

-- Where holds lead

pub record Leading (used : List Bool) (n : ℕ) (to : List ℕ) (b next : ℕ) : Type 0 where
  pub near : b ≤ 255
  pub long : length to ≡ 256
  pub ranked : next ≡ suc (rank (take n used) b)
  pub is : (x : ℕ) → x ≤ b → get_or to x 0 ≡ moved (take n used) x

pub leading_none : (used : List Bool) (n : ℕ) → Leading used n (replicate 256 0) 0 1
unfolding moved
leading_none used n = record {
  near = omega arith;
  long = length-replicate {A = ℕ} 256 0;
  ranked = ap suc (sym (rank_none (take n used)));
  is = λ x h. let z : x ≡ 0 = omega arith in rw z refl;
}

module _ {used : List Bool} {n : ℕ} {to : List ℕ} {b next : ℕ} (t : Leading used n to b next) where
  pub leading_few : Used used n → next + 1 < 256
  leading_few u = omega (arith, t.ranked, rank_few (take n used) b, length-take n used, u.few)

  leads_so : b < 255 → (x : ℕ) → x ≤ b + 1 → get_or (set to (b + 1) next) x 0 ≡ moved (take n used) x
  unfolding moved
  leads_so h x l = by_test (leb x b)
      (λ e. get_or-set_other to (b + 1) x next 0 (λ z. omega (arith, leb-true x b e)) ∙ t.is x (leb-true x b e))
      (λ e. let z : x ≡ b + 1 = omega (arith, leb-false x b e) in rw z (get_or-set_same to (b + 1) next 0 (omega (arith, t.long)) ∙ t.ranked ∙ rw (add-one b) refl))

  module _ (h : b < 255) {m : Bool} (e : m ≡ get_or (take n used) b false) where
    pub leading_more : m ≡ true → Leading used n (set to (b + 1) next) (b + 1) (next + 1)
    leading_more i = record {
      near = omega arith;
      long = length-set to (b + 1) next ∙ t.long;
      ranked = rw (add-one b, add-one next) (ap suc (t.ranked ∙ sym (rank_more (take n used) b (sym e ∙ i))));
      is = leads_so h;
    }

    pub leading_same : m ≡ false → Leading used n (set to (b + 1) next) (b + 1) next
    leading_same i = record {
      near = omega arith;
      long = length-set to (b + 1) next ∙ t.long;
      ranked = rw (add-one b) (t.ranked ∙ ap suc (sym (rank_same (take n used) b (sym e ∙ i))));
      is = leads_so h;
    }

  pub leading_all : 255 ≤ b → LeadsFrom used n to
  leading_all h = record { long = t.long; is = λ x l. t.is x (omega arith) }

pub ruleset leadings = (leading_none, leading_few, leading_more, leading_same, leading_all, rules)

-- Holds that follow

pub record Following (to : List ℕ) (t next : Arrays) (k : ℕ) : Type 0 where
  pub near : k ≤ 128
  pub bytes : next.bytes ≡ t.bytes
  pub users : next.users ≡ t.users
  pub sizes : next.sizes ≡ t.sizes
  pub is : (f : ℕ → ℕ) → ((x : ℕ) → x < 256 → get_or to x 0 ≡ f x) → next.holds ≡ map f (take k t.holds) ++ drop k t.holds

pub following_none : (to : List ℕ) (t : Arrays) → Following to t t 0
following_none to t = record { near = omega arith; bytes = refl; users = refl; sizes = refl; is = λ f e. refl }

module _ {to : List ℕ} {t next : Arrays} {k : ℕ} (s : Following to t next k) (long : length t.holds ≡ 128) where
  pub following_more : {x : ℕ} → k < 128 → Led to (get_or t.holds k 0) x → Following to t (record { holds = set next.holds k x; users = next.users; sizes = next.sizes; bytes = next.bytes }) (k + 1)
  following_more {x} h l = record {
    near = omega arith;
    bytes = s.bytes;
    users = s.users;
    sizes = s.sizes;
    is = λ f e.
        let y = get_or t.holds k 0 in
        let there : k < length t.holds = omega arith in
        let front = map f (take k t.holds) in
        let n : length front ≡ k = length-map (take k t.holds) f ∙ length-take-le k t.holds (omega arith) in
        let z : x ≡ f y = l.is ∙ e y l.small in
        ap (λ (l : List ℕ). set l k x) (s.is f e ∙ ap (λ (l : List ℕ). front ++ l) (drop-cons t.holds k 0 (omega arith)))
        ∙ set_at front y (drop (suc k) t.holds) x k n
        ∙ rw (z, add-one k, take-suc t.holds k 0, map-append f (take k t.holds) (y ∷ [])) (sym (append_snoc front (f y) (drop (suc k) t.holds)));
  }

  pub following_all : 128 ≤ k → LeadsHolds to t next
  following_all h = record {
    is = λ f e.
        let z : length t.holds ≤ k = omega arith in
        let y : next.holds ≡ map f t.holds = s.is f e ∙ ap₂ (λ (x y : List ℕ). map f x ++ y) (take_all k t.holds z) (drop_of_length-le t.holds {i = k} z) ∙ append-nil (map f t.holds) in
        rw (s.bytes, s.users, s.sizes, y) refl;
  }

pub ruleset followings = (following_none, following_more, following_all, rules)

-- Rows

pub record Rowed (used : List Bool) (n : ℕ) (t next : Arrays) (b to : ℕ) : Type 0 where
  pub near : b ≤ n
  pub inside : to ≤ b
  pub ranked : to ≡ rank (take n used) b
  pub bytes : next.bytes ≡ t.bytes
  pub holds : next.holds ≡ t.holds
  pub marks : marks_from next.users next.sizes ≡ cleared_to blank (take n used) b (marks_from t.users t.sizes)

pub rowed_none : (used : List Bool) (n : ℕ) (t : Arrays) → Rowed used n t t 0 0
rowed_none used n t = record {
  near = omega arith;
  inside = omega arith;
  ranked = sym (rank_none (take n used));
  bytes = refl;
  holds = refl;
  marks = sym (cleared_none blank (take n used) (marks_from t.users t.sizes));
}

module _ {used : List Bool} {n : ℕ} {t next : Arrays} {b to : ℕ} (r : Rowed used n t next b to) (u : Used used n) (lu : length t.users ≡ 128) (ls : length t.sizes ≡ 128) where
  said : length (take n used) ≡ n
  said = length-take-le n used (omega (arith, u.long, u.few))

  marked : length (take n used) ≤ length (marks_from t.users t.sizes)
  marked = omega (arith, said, u.few, marks_length t.users t.sizes (lu ∙ sym ls))

  module _ (h : b < n) where
    there : b < length (marks_from t.users t.sizes)
    there = omega (arith, said, marked)

    pub rowed_same : get_or used b false ≡ false → Rowed used n t (record { holds = next.holds; users = set next.users b 0; sizes = set next.sizes b 0; bytes = next.bytes }) (b + 1) to
    rowed_same e =
        let i : get_or (take n used) b false ≡ false = get_or-take n used b false h ∙ e in
        record {
          near = omega arith;
          inside = omega (arith, r.inside);
          ranked = rw (add-one b) (r.ranked ∙ sym (rank_same (take n used) b i));
          bytes = r.bytes;
          holds = r.holds;
          marks = sym (set_mark next.users next.sizes b 0 0) ∙ ap (λ (l : List Mark). set l b blank) r.marks ∙ rw (add-one b) (cleared_same (take n used) b (marks_from t.users t.sizes) marked blank there i);
        }

    pub rowed_more : get_or used b false ≡ true → Rowed used n t (record { holds = next.holds; users = set (set next.users b 0) to (get_or t.users b 0); sizes = set (set next.sizes b 0) to (get_or t.sizes b 0); bytes = next.bytes }) (b + 1) (to + 1)
    rowed_more e =
        let i : get_or (take n used) b false ≡ true = get_or-take n used b false h ∙ e in
        let ms = marks_from t.users t.sizes in
        let m = mark (get_or t.users b 0) (get_or t.sizes b 0) in
        record {
          near = omega arith;
          inside = omega (arith, r.inside);
          ranked = rw (add-one b, add-one to) (ap suc r.ranked ∙ sym (rank_more (take n used) b i));
          bytes = r.bytes;
          holds = r.holds;
          marks = sym (set_mark (set next.users b 0) (set next.sizes b 0) to (get_or t.users b 0) (get_or t.sizes b 0))
              ∙ ap (λ (l : List Mark). set l to m) (sym (set_mark next.users next.sizes b 0 0) ∙ ap (λ (l : List Mark). set l b blank) r.marks)
              ∙ ap₂ (λ (j : ℕ) (x : Mark). set (set (cleared_to blank (take n used) b ms) b blank) j x) r.ranked (sym (get_mark t.users t.sizes b (lu ∙ sym ls)))
              ∙ rw (add-one b) (cleared_more (take n used) b ms marked blank there blank i);
        }

  pub rowed_all : n ≤ b → PacksRows used n t next
  rowed_all h =
      let z : b ≡ length (take n used) = omega (arith, said, r.near) in
      let ms = marks_from t.users t.sizes in
      let y : marks_from next.users next.sizes ≡ packed_marks (take n used) ms = r.marks ∙ ap (λ (j : ℕ). cleared_to blank (take n used) j ms) z ∙ cleared_marks (take n used) ms marked in
      record { is = rw (r.bytes, r.holds, y) refl }

pub ruleset rowings = (rowed_none, rowed_same, rowed_more, rowed_all, rules)

-- The table

pub tidied_table_lem : {used : List Bool} {n : ℕ} {t mid r : Arrays} {to : List ℕ} → LeadsFrom used n to → PacksRows used n t mid → LeadsHolds to mid r → TidiesTable used n t r
unfolding tidied_table
tidied_table_lem {used} {n} {t} {mid} l p h =
    let e = p.is in
    let bytes : mid.bytes ≡ t.bytes = ap (λ (x : Table). x.bytes) e in
    let holds : mid.holds ≡ t.holds = ap (λ (x : Table). x.holds) e in
    let marks : marks_from mid.users mid.sizes ≡ packed_marks (take n used) (marks_from t.users t.sizes) = ap (λ (x : Table). x.marks) e in
    record { is = h.is (moved (take n used)) l.is ∙ rw (bytes, holds, marks) refl }

pub ruleset tidied_tables = (tidied_table_lem, rules)
