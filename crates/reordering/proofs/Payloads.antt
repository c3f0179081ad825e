-- A payload that was judged: refused, or its entries stand where it begins and are written anew; and whether it is its own rewriting.
use Rattle.std.specs.Prelude.{Ok, Err}
use Prim.Native.Nat.{ℕ, ◌+◌, ◌^◌, ◌≤◌, ◌<◌}
use mathlib.Core.Bool.{Bool, true, false}
use mathlib.Core.List.{List}
use mathlib.Core.Path.{◌≡◌, refl, sym, ap, ◌∙◌}
use native.Mathlib.Omega.{arith}
use borrow.Author.Rules.{rules}
use borrow.Author.Tests.{eqb-true, eqb-false}
use lib.Dec.{eqb}
use lib.ListN.{length, length-append}
use lib.Seq.{slice}
use Rattle.format.specs.Bytes.{Bytes, same}
use Rattle.format.specs.Numbers.{number, shortest}
use Rattle.format.specs.Older.{OlderEntry, times, vector, older_entry, judge_older, sorted_from, write_older, not_too_long, canonical_older}
use Rattle.format.specs.OlderInOrder.{rising_entries, kept_entries, entries_bytes}
use Rattle.format.specs.Outputs.{Writes}
use Rattle.format.specs.Reading.{got, filling, Judged, accepted, refused, Accepted, verdict}
use Rattle.format.specs.Refusals.{number_of}
use Rattle.format.specs.Tables.{nil}
use Rattle.format.specs.Telling.{is_its_rewriting, older_is_canonical}
use Rattle.format.specs.Verdicts.{verdict_of}
use Rattle.format.specs.Laws.Bytes.{same_true, same_self}
use Rattle.format.proofs.Laws.OlderInOrder.{in_order_written}
use Rattle.format.proofs.Laws.UnchangedOlder.{older_rises, older_tight}
use Rattle.format.specs.Laws.Outcomes.{false_true, by_test, ended, got_value, got_next, got_rest, in_turn, judged, refused_exactly}
use Rattle.format.specs.Laws.Outputs.{writes_refused}
use Rattle.format.proofs.Laws.Passing.{number_passes}
use Rattle.format.specs.declared.Refusal.{Refusal}
use Rattle.format.specs.Returned.{Verdict}
use Rattle.format.specs.Returned.{Written}
use Rattle.format.proofs.Tags.{judged_accepted}
use Rattle.in_order.specs.Standing.{Surveys}
use Rattle.in_order.specs.declared.EntrySurvey.{EntrySurvey}
use Rattle.in_order.proofs.Laws.{counted_shorter}
use Rattle.older.proofs.ReadAgain.{entry_passable, times_passable}
use Rattle.reading.proofs.Laws.{left_all, over_inside}
use Rattle.reading.proofs.Standing.{Passable, stand, one_value}
use Rattle.reading.specs.Cursors.{over_all, left}
use Rattle.reading.specs.Standing.{Stands, Known}
use Rattle.reading.specs.declared.Cursor.{Cursor}
use Rattle.out_of_order.specs.Tally.{most}
use Rattle.reordering.proofs.Entries.{too_long, not_long}
use Rattle.reordering.specs.Rewritten.{ReadyRising, RewritesEntries, RewritesOlder, TellsOlder}

-- A list: its count, and its entries
in_vector {ℓ} : {C : Type ℓ} (o : ℕ) (bs : List ℕ) {es : List OlderEntry} {o' : ℕ} {rest : List ℕ} → vector older_entry o bs ≡ got es o' rest → ((n o₁ : ℕ) (r₁ : List ℕ) → number o bs ≡ got n o₁ r₁ → times older_entry n o₁ r₁ ≡ got es o' rest → C) → C
unfolding vector
in_vector o bs e k = in_turn (number o bs) _ e k

vector_passable : Passable (vector older_entry)
vector_passable Holds step o bs es o' rest holds e =
    in_vector o bs e λ n o₁ r₁ e₁ e₂.
    times_passable entry_passable n Holds step o₁ r₁ es o' rest (number_passes Holds step o bs n o₁ r₁ holds e₁) e₂

pub listed : {s : List ℕ} {c : Cursor} {n : ℕ} {d : Cursor} {es : List OlderEntry} {last : Cursor} → Stands number s c n d → Stands (times older_entry n) s d es last → Stands (vector older_entry) s c es last
unfolding vector
listed count w = record { inside = count.inside; reads = rw count.reads w.reads; behind = w.behind; same_end = w.same_end ∙ count.same_end }

-- what was accepted stands there
pub accepted_stands : {p : List ℕ} (a : Accepted (judge_older 0) p) → (next : Cursor) × Stands (vector older_entry) p (over_all p) a.value next
unfolding judge_older
accepted_stands {p} a =
    judged (filling (vector older_entry) 0 p) a.judged λ o rest e.
    in_turn (vector older_entry 0 p) _ e λ es o₁ r₁ e₁ e₂. ended es o₁ r₁ e₂ λ none is.
    let here : vector older_entry 0 (slice 0 (length p) p) ≡ got a.value o₁ r₁ = rw (left_all p, ← is) e₁ in
    (_, stand vector_passable (over_inside refl) here)

module _ {s : List ℕ} {c : Cursor} (known : Known (vector older_entry) s c) where
  pub payload_count : Known number s c
  payload_count = let w = known.stands in in_vector c.at (left s c) w.reads λ n o₁ r₁ e₁ e₂. record { value = _; next = _; stands = stand number_passes w.inside e₁ }

  module _ {n : ℕ} {d : Cursor} (count : Stands number s c n d) where
    entries_stand : Stands (times older_entry n) s d known.value known.next
    entries_stand =
        let w = known.stands in
        in_vector c.at (left s c) w.reads λ n' o₁ r₁ e₁ e₂.
        let one = sym e₁ ∙ count.reads in
        record { inside = count.behind; reads = rw (got_value one, got_next one, got_rest one) at e₂; behind = w.behind; same_end = w.same_end ∙ sym count.same_end }

    pub payload_entries : Known (times older_entry n) s d
    payload_entries = record { value = _; next = _; stands = entries_stand }

    module _ {found : EntrySurvey} (surveyed : Surveys n s d found) where
      total_fits : c.end < 2 ^ 64 → length (shortest found.kept) + found.length < 2 ^ 64
      total_fits h =
          let short = counted_shorter count surveyed.stands in
          let ends = surveyed.stands.same_end ∙ count.same_end in
          rw (surveyed.many, surveyed.long) (omega (arith, short, h, surveyed.stands.behind.ahead, ends))

      pub payload_rising : found.rising ≡ true → c.end < 2 ^ 64 → ReadyRising n s d found
      payload_rising e h = record { surveyed = surveyed; in_order = e; fits = total_fits h }

      pub payload_fits : c.end < 2 ^ 64 → {size : ℕ} → size ≡ length (shortest found.kept) → size + found.length < 2 ^ 64
      payload_fits h e = rw e (total_fits h)

    pub payload_written : {old new : List ℕ} {r : Written} → RewritesEntries n s d old new r → RewritesOlder s c old new r
    payload_written w = record { value = w.value; next = w.next; stands = listed count w.stands; writes = w.writes }

pub ruleset payload_steps = (payload_count, payload_entries, payload_rising, payload_written, rules)

-- A payload that was judged
module _ (p : List ℕ) (j : Verdict) (says : verdict_of j ≡ verdict (judge_older 0 p)) where
  module _ {r : Refusal} (e : j ≡ Err r) where
    pub not_accepted : judge_older 0 p ≡ refused (number_of r.reason) r.offset.0
    not_accepted = (refused_exactly (λ _. tt) (judge_older 0 p)).0 (sym says ∙ ap verdict_of e)

    pub older_refused : {old : List ℕ} → Writes (canonical_older p) old old (Err r)
    unfolding canonical_older
    older_refused = writes_refused (rw not_accepted)

    pub older_not : false ≡ older_is_canonical p
    unfolding older_is_canonical canonical_older is_its_rewriting
    older_not = rw not_accepted

  module _ (h : j ≡ Ok tt) where
    pub was_accepted : Accepted (judge_older 0) p
    was_accepted = let (v, e) = judged_accepted j (judge_older 0 p) says h in record { value = v; judged = e }

    pub older_known : {c : Cursor} → c ≡ over_all p → Known (vector older_entry) p c
    older_known over = let (next, w) = accepted_stands was_accepted in rw over (record { value = _; next = next; stands = w })

    pub older_written : {c : Cursor} → c ≡ over_all p → {old new : List ℕ} {r : Written} → RewritesOlder p c old new r → Writes (canonical_older p) old new r
    unfolding canonical_older
    older_written over w =
        let (next, there) = accepted_stands was_accepted in
        let one : was_accepted.value ≡ w.value = one_value there (rw over at w.stands) in
        rw (was_accepted.judged, one) w.writes

    pub older_told_lem : {c : Cursor} {r : Bool} → c ≡ over_all p → TellsOlder p c r → r ≡ older_is_canonical p
    older_told_lem over t = t.tells over was_accepted

pub ruleset judgement_steps = (older_refused, older_not, older_known, older_written, older_told_lem, rules)

-- By what a payload is rewritten to
refused_told : (s : List ℕ) {m at : ℕ} → canonical_older s ≡ refused m at → older_is_canonical s ≡ false
unfolding older_is_canonical is_its_rewriting
refused_told s e = rw e

accepted_told : (s : List ℕ) {x : List ℕ} → canonical_older s ≡ accepted x → older_is_canonical s ≡ same x s
unfolding older_is_canonical is_its_rewriting
accepted_told s e = rw e

itself : (j : Judged (List ℕ)) (s : List ℕ) → is_its_rewriting j s ≡ true → j ≡ accepted s
unfolding is_its_rewriting
itself (accepted x) s e = ap accepted (same_true x s e)
itself (refused m at) s e = false_true e

own_rewriting : (s : List ℕ) → older_is_canonical s ≡ true → canonical_older s ≡ accepted s
unfolding older_is_canonical
own_rewriting s t = itself (canonical_older s) s t

-- where as long means the same, one test is the other
as_long : (x s : List ℕ) → (length x ≡ length s → x ≡ s) → eqb (length x) (length s) ≡ same x s
as_long x s tight = by_test (eqb (length x) (length s))
    (λ e. e ∙ sym (ap (λ y. same y s) (tight (eqb-true (length x) (length s) e)) ∙ same_self s))
    (λ e. by_test (same x s) (λ t. absurd (eqb-false (length x) (length s) e (ap length (same_true x s t)))) (λ t. e ∙ sym t))

-- Whether a payload is its own rewriting
module _ {s : List ℕ} {c : Cursor} {n : ℕ} {d : Cursor} (count : Stands number s c n d) {found : EntrySurvey} (surveyed : Surveys n s d found) where
  module _ (over : c ≡ over_all s) (a : Accepted (judge_older 0) s) where
    one_list : surveyed.value ≡ a.value
    one_list = let (next, w) = accepted_stands a in one_value (rw over at (listed count surveyed.stands)) w

    order_told : found.rising ≡ rising_entries 0 a.value
    order_told = surveyed.order ∙ ap (rising_entries 0) one_list

    wanted : canonical_older s ≡ not_too_long (write_older (sorted_from nil a.value))
    unfolding canonical_older
    wanted = rw a.judged

  pub tells_no_order : found.rising ≡ false → TellsOlder s c false
  tells_no_order e = record { tells = λ over a. sym (no_order over a) }
    where
      no_order : (over : c ≡ over_all s) (a : Accepted (judge_older 0) s) → older_is_canonical s ≡ false
      no_order over a = by_test (older_is_canonical s) (λ t. false_true (sym e ∙ order_told over a ∙ older_rises a (own_rewriting s t))) (λ t. t)

  module _ (rises : found.rising ≡ true) {size : ℕ} (long : size ≡ length (shortest found.kept)) where
    module _ (over : c ≡ over_all s) (a : Accepted (judge_older 0) s) where
      abbrev bytes : List ℕ
      bytes = write_older (sorted_from nil a.value)

      rising_so : rising_entries 0 a.value ≡ true
      rising_so = sym (order_told over a) ∙ rises

      needed_so : length bytes ≡ size + found.length
      needed_so =
          let e = ap length (in_order_written a.value rising_so) ∙ length-append (shortest (kept_entries a.value)) (entries_bytes a.value) in
          let k : length (shortest found.kept) ≡ length (shortest (kept_entries a.value)) = ap (λ m. length (shortest m)) (surveyed.many ∙ ap kept_entries (one_list over a)) in
          let l : found.length ≡ length (entries_bytes a.value) = surveyed.long ∙ ap (λ v. length (entries_bytes v)) (one_list over a) in
          omega (arith, e, k, l, long)

    pub tells_long : most < size + found.length → TellsOlder s c false
    tells_long h = record { tells = λ over a. sym (too_long_told over a) }
      where
        too_long_told : (over : c ≡ over_all s) (a : Accepted (judge_older 0) s) → older_is_canonical s ≡ false
        too_long_told over a = refused_told s (wanted over a ∙ too_long (bytes over a) (let e = needed_so over a in omega (arith, e, h)))

    pub tells_length : Bytes s → size + found.length ≤ most → TellsOlder s c (eqb (size + found.length) (length s))
    tells_length byte h = record { tells = λ over a. length_told over a }
      where
        length_told : (over : c ≡ over_all s) (a : Accepted (judge_older 0) s) → eqb (size + found.length) (length s) ≡ older_is_canonical s
        length_told over a =
            ap (λ m. eqb m (length s)) (sym (needed_so over a))
            ∙ as_long (bytes over a) s (older_tight a byte (rising_so over a))
            ∙ sym (accepted_told s (wanted over a ∙ not_long (bytes over a) (let e = needed_so over a in omega (arith, e, h))))

pub ruleset telling_steps = (payload_count, payload_entries, payload_fits, tells_no_order, tells_long, tells_length, rules)
