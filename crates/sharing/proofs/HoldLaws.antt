-- What the functions on holds give, one law for each way through them.
use Prim.Native.Nat.{ℕ, zero, suc, ◌+◌, ◌-◌, ◌*◌, ◌%◌, ◌≤◌, ◌<◌}
use mathlib.Core.Bool.{false, cond}
use mathlib.Core.List.{List, [], ◌∷◌, map}
use mathlib.Core.Option.{some}
use native.Mathlib.Numerals.{add-one}
use mathlib.Core.Path.{◌≡◌, refl, sym, ap, ◌∙◌}
use native.Mathlib.Omega.{arith}
use borrow.Author.Rules.{rules}
use borrow.Author.Tests.{eq-eqb, ne_eqb, lt-ltb, le-ltb, le-leb, lt-leb}
use lib.Dec.{leb}
use lib.ListN.{length, get_or, set, take, drop, length-take, length-drop, drop_of_length-le}
use lib.Seq.{drop-cons, length-take-le, get_or-take, get_or-drop, set-get_or, set_out}
use Rattle.sharing.specs.Arrays.{marks_from, table_of}
use Rattle.sharing.specs.Calls.{LowestUnused, leads_to, releases}
use Rattle.sharing.specs.Laws.Arrays.{set_mark, get_mark, marks_length}
use Rattle.sharing.specs.Model.{desk, after, first_true}
use Rattle.sharing.specs.Step.{unused, joined, released}
use Rattle.sharing.specs.Laws.Walks.{later}
use Rattle.format.specs.Laws.Outcomes.{by_test}
use Rattle.sharing.proofs.FindLaws.{later_after, later_none_is, later_zero}
use Rattle.sharing.specs.Table.{mark, blank, table, length_fits}
use Rattle.sharing.specs.declared.Table.{Table}

-- The store's length

module _ (bytes n : ℕ) where
  pub fits_other : (n ≡ bytes → ⊥) → false ≡ length_fits bytes n
  unfolding length_fits
  fits_other f = rw (ne_eqb n bytes f)

  module _ (e : n ≡ bytes) where
    pub fits_uneven : (n % 512 ≡ 0 → ⊥) → false ≡ length_fits bytes n
    unfolding length_fits
    fits_uneven f = rw (eq-eqb n bytes e, ne_eqb (n % 512) 0 f)

    module _ (d : n % 512 ≡ 0) where
      pub fits_none : n ≡ 0 → false ≡ length_fits bytes n
      unfolding length_fits
      fits_none z = rw (eq-eqb n bytes e, eq-eqb (n % 512) 0 d, le-ltb 0 n (omega arith))

      pub fits_told : (n ≡ 0 → ⊥) → leb n 65536 ≡ length_fits bytes n
      unfolding length_fits
      fits_told f = rw (eq-eqb n bytes e, eq-eqb (n % 512) 0 d, lt-ltb 0 n (omega arith))

pub ruleset fits_tests = (fits_other, fits_uneven, fits_none, fits_told, rules)

-- A hold

pub out_of : (l : List ℕ) (i : ℕ) → length l ≤ i → get_or l i 0 ≡ 0
out_of [] i h = refl
out_of (x ∷ l) zero h = absurd (omega arith)
out_of (x ∷ l) (suc i) h = out_of l i (omega arith)

module _ (l : List ℕ) (c h : ℕ) where
  pub entry_above : 8 ≤ h → 0 ≡ get_or (desk c l) h 0
  unfolding desk
  entry_above k = sym (out_of (take 8 (drop (c * 8) l)) h (omega (arith, length-take 8 (drop (c * 8) l))))

  pub entry_at : h < 8 → get_or l (c * 8 + h) 0 ≡ get_or (desk c l) h 0
  unfolding desk
  entry_at k = sym (get_or-take 8 (drop (c * 8) l) h 0 k ∙ get_or-drop (c * 8) l h 0)

pub ruleset entries = (entry_above, entry_at, rules)

-- A user less

module _ (t : Table) (at b : ℕ) (u : length t.users ≡ 128) (n : length t.sizes ≡ 128) where
  mark_there : get_or (marks_from t.users t.sizes) b blank ≡ mark (get_or t.users b 0) (get_or t.sizes b 0)
  mark_there = get_mark t.users t.sizes b (u ∙ sym n)

  pub release_outside : 128 ≤ b → table_of (record { holds = set t.holds at 0; users = t.users; sizes = t.sizes; bytes = t.bytes }) ≡ releases (table_of t) at b
  release_outside h = ap (table t.bytes (set t.holds at 0)) (sym (set_out (marks_from t.users t.sizes) b _ (omega (arith, marks_length t.users t.sizes (u ∙ sym n)))))

  pub release_last : get_or t.users b 0 ≤ 1 → table_of (record { holds = set t.holds at 0; users = set t.users b 0; sizes = set t.sizes b 0; bytes = t.bytes }) ≡ releases (table_of t) at b
  unfolding released
  release_last h = ap (table t.bytes (set t.holds at 0)) (sym (rw (mark_there, le-leb (get_or t.users b 0) 1 h) (set_mark t.users t.sizes b 0 0)))

  pub release_one : 1 < get_or t.users b 0 → table_of (record { holds = set t.holds at 0; users = set t.users b (get_or t.users b 0 - 1); sizes = t.sizes; bytes = t.bytes }) ≡ releases (table_of t) at b
  unfolding released
  release_one h = ap (table t.bytes (set t.holds at 0)) (sym (rw (mark_there, lt-leb (get_or t.users b 0) 1 h) (set_mark t.users t.sizes b (get_or t.users b 0 - 1) (get_or t.sizes b 0) ∙ ap (marks_from (set t.users b (get_or t.users b 0 - 1))) (set-get_or t.sizes b 0))))

pub ruleset released_so = (release_outside, release_last, release_one, rules)

-- The lowest unused hold

pub record Unused (l : List ℕ) (c h : ℕ) : Type 0 where
  pub near : h ≤ 8
  pub is : first_true (map unused (desk c l)) ≡ later h (first_true (map unused (drop h (desk c l))))

pub unused_none : (l : List ℕ) (c : ℕ) → Unused l c 0
unused_none l c = record { near = omega arith; is = refl }

desk_long : (l : List ℕ) (c : ℕ) → c < 16 → length l ≡ 128 → length (desk c l) ≡ 8
unfolding desk
desk_long l c k e = length-take-le 8 (drop (c * 8) l) (rw length-drop (omega arith))

first_test : (x : ℕ) (l : List ℕ) → first_true (map unused (x ∷ l)) ≡ cond (unused x) (some 0) (after (first_true (map unused l)))
unfolding first_true
first_test x l = by_test (unused x) (λ t. rw t) (λ t. rw t)

module _ {l : List ℕ} {c h : ℕ} (t : Unused l c h) (k : c < 16) (e : length l ≡ 128) where
  tried : h < 8 → first_true (map unused (desk c l)) ≡ later h (cond (unused (get_or l (c * 8 + h) 0)) (some 0) (after (first_true (map unused (drop (suc h) (desk c l))))))
  tried m =
      let d = drop-cons (desk c l) h 0 (omega (arith, desk_long l c k e)) in
      t.is ∙ ap (later h) (ap (λ (x : List ℕ). first_true (map unused x)) d ∙ first_test (get_or (desk c l) h 0) (drop (suc h) (desk c l)) ∙ rw (← entry_at l c h m) refl)

  pub unused_more : h < 8 → (get_or l (c * 8 + h) 0 ≡ 0 → ⊥) → Unused l c (h + 1)
  unfolding unused
  unused_more m f = record { near = omega arith; is = tried m ∙ rw (ne_eqb (get_or l (c * 8 + h) 0) 0 f, add-one h) (later_after h _) }

  pub unused_found : h < 8 → get_or l (c * 8 + h) 0 ≡ 0 → LowestUnused l c h
  unfolding unused
  unused_found m f = record { is = tried m ∙ rw (eq-eqb (get_or l (c * 8 + h) 0) 0 f, lt-ltb h 8 m) (later_zero h); few = omega arith }

  pub unused_all : 8 ≤ h → LowestUnused l c 8
  unfolding first_true
  unused_all m = record { is = t.is ∙ ap (λ (x : List ℕ). later h (first_true (map unused x))) (drop_of_length-le (desk c l) {i = h} (omega (arith, desk_long l c k e))) ∙ later_none_is h; few = omega arith }

pub ruleset lowest_holds = (unused_none, unused_more, unused_found, unused_all, rules)

-- A user more

pub led_to : (t : Table) (at b u n : ℕ) → table_of (record { holds = set t.holds at (b + 1); users = set t.users b u; sizes = set t.sizes b n; bytes = t.bytes }) ≡ leads_to (table_of t) at b (mark u n)
led_to t at b u n = rw (add-one b) (ap (table t.bytes (set t.holds at (suc b))) (sym (set_mark t.users t.sizes b u n)))

pub ruleset leads = (led_to, rules)

module _ (t : Table) (at b : ℕ) (u : length t.users ≡ 128) (n : length t.sizes ≡ 128) (r : Table) where
  pub share_more : get_or t.users b 0 < 255 → table_of r ≡ leads_to (table_of t) at b (mark (get_or t.users b 0 + 1) (get_or t.sizes b 0)) → table_of r ≡ leads_to (table_of t) at b (joined (get_or (table_of t).marks b blank))
  unfolding joined
  share_more h e = e ∙ rw (get_mark t.users t.sizes b (u ∙ sym n), lt-ltb (get_or t.users b 0) 255 h, add-one (get_or t.users b 0)) refl

  pub share_full : 255 ≤ get_or t.users b 0 → table_of r ≡ leads_to (table_of t) at b (mark (get_or t.users b 0) (get_or t.sizes b 0)) → table_of r ≡ leads_to (table_of t) at b (joined (get_or (table_of t).marks b blank))
  unfolding joined
  share_full h e = e ∙ rw (get_mark t.users t.sizes b (u ∙ sym n), le-ltb (get_or t.users b 0) 255 h) refl

pub ruleset shares = (share_more, share_full, rules)
