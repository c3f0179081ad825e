-- K8. The quick question follows its rule, whatever it is given, and no other answer does.
use Prim.Native.Nat.{ℕ, zero, suc, ◌≤◌, ◌<◌}
use mathlib.Core.List.{List, [], ◌∷◌}
use Rattle.std.specs.Prelude.{◌↔◌, ◌≡◌, leb, ltb, eqb, length, get_or, cond}
use Rattle.std.proofs.Math.Option.{Option, none, some}
use Rattle.std.proofs.Math.Path.{refl}
use Rattle.std.proofs.Common.{sym, ap, ◌∙◌, arith}
use borrow.Author.Tests.{ltb-true, ltb-false, leb-true, leb-false, lt-ltb, le-ltb, le-leb, lt-leb, eqb-true, eqb-false, eq-eqb, ne_eqb}
use Rattle.format.specs.Refusals.{number_of}
use Rattle.format.specs.Reading.{Judged, accepted, refused}
use Rattle.format.specs.Numbers.{limit32}
use Rattle.format.specs.Parts.{Part}
use Rattle.format.specs.Markers.{entry, unless_long, first_fault, lists_fault, last_not_above, first_with, from_marker, quick}
use Rattle.format.specs.MarkerRule.{FirstFault, NoFault, LastNotAbove, AllAbove, Reads, all_read, cannot_read, answers, another, Answers, no_marker, at_marker, Follows, too_long, fewer_indices, fewer_offsets, end_outside, not_markers, answered}
use Rattle.format.specs.Laws.Outcomes.{by_test, by_outcome}
use Rattle.format.specs.Laws.Options.{by_option}
use Rattle.format.specs.Laws.MarkerFaults.{fault_exactly, no_fault_exactly}
use Rattle.format.specs.declared.FunctionIndex.{FunctionIndex}
use Rattle.format.specs.declared.Reason.TheVariants.{SubsectionTooLarge, NotMarkers}

module _ (key : ℕ) where
  -- WHERE IT STARTS. Markers that are all above leave what was held
  pub all_above : (held : Option ℕ) (is os : List ℕ) → AllAbove key is → last_not_above key held is os ≡ held
  unfolding last_not_above
  all_above held [] os h = refl
  all_above held (x ∷ is) [] h = refl
  all_above held (x ∷ is) (y ∷ os) h = rw (lt-leb x key (h 0 (omega arith))) (all_above held is os (λ i l. h (suc i) (omega arith)))

  pub starts_at : (held : Option ℕ) (is os : List ℕ) (i : ℕ) → length is ≡ length os → LastNotAbove key is i → last_not_above key held is os ≡ some (get_or os i 0)
  unfolding last_not_above
  starts_at held [] os i q l = let w = l.within in absurd (omega arith)
  starts_at held (x ∷ is) [] i q l = absurd (omega arith)
  starts_at held (x ∷ is) (y ∷ os) zero q l = rw (le-leb x key l.not_above_lem) (all_above (some y) is os (λ i m. l.last (suc i) (omega arith) (omega arith)))
  starts_at held (x ∷ is) (y ∷ os) (suc i) q l = starts_at (cond (leb x key) (some y) held) is os i (omega arith) (record { within = let w = l.within in omega arith; not_above_lem = l.not_above_lem; last = λ j m n. l.last (suc j) (omega arith) (omega arith) })

  -- one marker before others
  above_first : (x : ℕ) (is : List ℕ) → key < x → AllAbove key is → AllAbove key (x ∷ is)
  above_first x is l h zero w = l
  above_first x is l h (suc i) w = h i (omega arith)

  starts_first : {x : ℕ} {is : List ℕ} → x ≤ key → AllAbove key is → LastNotAbove key (x ∷ is) 0
  starts_first {x} {is} l h = record { within = omega arith; not_above_lem = l; last = later }
    where
      later : (j : ℕ) → 0 < j → j < suc (length is) → key < get_or (x ∷ is) j 0
      later zero m w = absurd (omega arith)
      later (suc j) m w = h j (omega arith)

  starts_later : {x i : ℕ} {is : List ℕ} → LastNotAbove key is i → LastNotAbove key (x ∷ is) (suc i)
  starts_later {x} {i} {is} l = record { within = let w = l.within in omega arith; not_above_lem = l.not_above_lem; last = later }
    where
      later : (j : ℕ) → suc i < j → j < suc (length is) → key < get_or (x ∷ is) j 0
      later zero m w = absurd (omega arith)
      later (suc j) m w = l.last j (omega arith) (omega arith)

  -- so it starts somewhere or nowhere
  data Start (is : List ℕ) : Type 0 where
    nowhere : AllAbove key is → Start is
    somewhere : (i : ℕ) → LastNotAbove key is i → Start is

  start : (is : List ℕ) → Start is
  start [] = nowhere (λ i l. absurd (omega arith))
  start (x ∷ is) = from (start is)
    where
      from : Start is → Start (x ∷ is)
      from (somewhere i l) = somewhere (suc i) (starts_later l)
      from (nowhere h) = by_test (leb x key) (λ t. somewhere 0 (starts_first (leb-true x key t) h)) (λ t. nowhere (above_first x is (leb-false x key t) h))

  -- WHAT IT READS
  reads_given : (most o : ℕ) (bs : List ℕ) → Reads key most o bs (first_with most key o bs)
  unfolding first_with
  reads_given zero o bs = all_read
  reads_given (suc most) o bs =
      by_outcome (entry o bs)
      (λ e o' rest is. rw is (by_test (eqb key e.index)
      (λ q. rw q (answers is (eqb-true key e.index q)))
      (λ q. rw q (another is (eqb-false key e.index q) (reads_given most o' rest)))))
      (λ n at is. rw is (cannot_read is))

  reads_one : {most o : ℕ} {bs : List ℕ} {x : Option Part} → Reads key most o bs x → x ≡ first_with most key o bs
  unfolding first_with
  reads_one all_read = refl
  reads_one (cannot_read is) = rw is
  reads_one (answers {e = e} is q) = rw (is, eq-eqb key e.index q)
  reads_one (another {e = e} is q r) = rw (is, ne_eqb key e.index q) (reads_one r)

-- what is answered
module _ (bs is os : List ℕ) (end key : ℕ) (equal : length is ≡ length os) where
  answers_given : Answers bs is os end key (from_marker bs end key (last_not_above key none is os))
  unfolding from_marker
  answers_given = from (start key is)
    where
      from : Start key is → Answers bs is os end key (from_marker bs end key (last_not_above key none is os))
      from (nowhere h) = rw (all_above key none is os h) (no_marker h)
      from (somewhere i l) = rw (starts_at key none is os i equal l) (at_marker l (reads_given key 16 _ _))

  answers_one : {x : Option Part} → Answers bs is os end key x → x ≡ from_marker bs end key (last_not_above key none is os)
  unfolding from_marker
  answers_one (no_marker h) = rw (all_above key none is os h)
  answers_one (at_marker {i = i} l r) = rw (starts_at key none is os i equal l) (reads_one key r)

-- THE QUICK QUESTION, check by check
module _ (bs is os : List ℕ) (end : ℕ) (f : FunctionIndex) where
  -- 15 is first
  pub quick_long : limit32 ≤ length bs → quick bs is os end f ≡ refused (number_of SubsectionTooLarge) 0
  unfolding quick unless_long
  quick_long h = rw (le-ltb (length bs) limit32 h)

  module _ (short : length bs < limit32) where
    pub quick_fewer_indices : length is < length os → quick bs is os end f ≡ refused (number_of NotMarkers) (length is)
    unfolding quick unless_long lists_fault
    quick_fewer_indices h = rw (lt-ltb (length bs) limit32 short, lt-ltb (length is) (length os) h)

    pub quick_fewer_offsets : length os < length is → quick bs is os end f ≡ refused (number_of NotMarkers) (length os)
    unfolding quick unless_long lists_fault
    quick_fewer_offsets h = rw (lt-ltb (length bs) limit32 short, le-ltb (length is) (length os) (omega arith), lt-ltb (length os) (length is) h)

    module _ (equal : length is ≡ length os) where
      pub quick_end_outside : length bs < end → quick bs is os end f ≡ refused (number_of NotMarkers) (length is)
      unfolding quick unless_long lists_fault
      quick_end_outside h = rw (lt-ltb (length bs) limit32 short, le-ltb (length is) (length os) (omega arith), le-ltb (length os) (length is) (omega arith), lt-ltb (length bs) end h)

      module _ (inside : end ≤ length bs) where
        pub quick_fault : {i : ℕ} → FirstFault end is os i → quick bs is os end f ≡ refused (number_of NotMarkers) i
        unfolding quick unless_long lists_fault
        quick_fault {i} h = rw (lt-ltb (length bs) limit32 short, le-ltb (length is) (length os) (omega arith), le-ltb (length os) (length is) (omega arith), le-ltb (length bs) end inside, (fault_exactly end is os equal i).1 h)

        pub quick_answers : NoFault end is os → quick bs is os end f ≡ accepted (from_marker bs end f.0 (last_not_above f.0 none is os))
        unfolding quick unless_long lists_fault
        quick_answers h = rw (lt-ltb (length bs) limit32 short, le-ltb (length is) (length os) (omega arith), le-ltb (length os) (length is) (omega arith), le-ltb (length bs) end inside, (no_fault_exactly end is os equal).1 h)

        lists_follow : Follows bs is os end f.0 (quick bs is os end f)
        lists_follow =
            by_option (first_fault end 0 0 0 is os)
            (λ e. let clean = (no_fault_exactly end is os equal).0 e in rw (quick_answers clean) (answered short equal inside clean (answers_given bs is os end f.0 equal)))
            (λ i e. let first = (fault_exactly end is os equal i).0 e in rw (quick_fault first) (not_markers short equal inside first))

  follows : Follows bs is os end f.0 (quick bs is os end f)
  follows =
      by_test (ltb (length bs) limit32)
      (λ t. let short = ltb-true (length bs) limit32 t in by_test (ltb (length is) (length os))
      (λ a. let h = ltb-true (length is) (length os) a in rw (quick_fewer_indices short h) (fewer_indices short h))
      (λ a. by_test (ltb (length os) (length is))
      (λ b. let h = ltb-true (length os) (length is) b in rw (quick_fewer_offsets short h) (fewer_offsets short h))
      (λ b. let equal : length is ≡ length os = omega (arith, ltb-false (length is) (length os) a, ltb-false (length os) (length is) b) in by_test (ltb (length bs) end)
      (λ c. let h = ltb-true (length bs) end c in rw (quick_end_outside short equal h) (end_outside short equal h))
      (λ c. lists_follow short equal (ltb-false (length bs) end c)))))
      (λ t. let h = ltb-false (length bs) limit32 t in rw (quick_long h) (too_long h))

  follows_one : {j : Judged (Option Part)} → Follows bs is os end f.0 j → j ≡ quick bs is os end f
  follows_one (too_long h) = sym (quick_long h)
  follows_one (fewer_indices short h) = sym (quick_fewer_indices short h)
  follows_one (fewer_offsets short h) = sym (quick_fewer_offsets short h)
  follows_one (end_outside short equal h) = sym (quick_end_outside short equal h)
  follows_one (not_markers short equal inside h) = sym (quick_fault short equal inside h)
  follows_one (answered short equal inside h a) = ap accepted (answers_one bs is os end f.0 equal a) ∙ sym (quick_answers short equal inside h)

  -- exactly one answer follows the rule, and it is the one given
  pub rule_exactly : (j : Judged (Option Part)) → Follows bs is os end f.0 j ↔ (j ≡ quick bs is os end f)
  rule_exactly j = (follows_one, λ e. rw e follows)
