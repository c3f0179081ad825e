-- The walk stops exactly at the faults of a module's frame.
use Prim.Native.Nat.{ℕ, zero, suc, ◌+◌, ◌≤◌, ◌<◌}
use Rattle.std.specs.Prelude.{Bool, ◌&&◌, ◌||◌, List, [], ◌∷◌, ◌++◌, ◌≢◌, ◌≡◌, leb, eqb}
use Rattle.std.proofs.Math.Bool.{true, false, not}
use Rattle.std.proofs.Common.{append_assoc, sym, ◌∙◌, arith, length-append}
use Rattle.std.proofs.Math.Option.{Option, none, some}
use Rattle.std.proofs.Math.Path.{refl, ap}
use borrow.Author.Tests.{ltb-true, ltb-false, leb-true, leb-false, le-leb, lt-leb, lt-ltb, le-ltb, eqb-true, eqb-false, eq-eqb, ne_eqb}
use Rattle.std.proofs.Math.Dec.{ltb}
use Rattle.std.proofs.Math.ListN.{length}
use Rattle.format.specs.Bytes.{Bytes}
use Rattle.format.specs.Refusals.{number_of}
use Rattle.format.specs.Reading.{got, stop, checked}
use Rattle.format.specs.Options.{map_some}
use Rattle.format.specs.Parts.{sized, name, remaining, inside}
use Rattle.format.specs.Walk.{preamble, begins, greatest_id, rank, is_custom, is_data, Custom, custom, name_section, tracked, name_row, before_code, row_of, Section, Seen, nothing, seeing, id_rules, name_rules, section, sections, framing}
use Rattle.format.specs.Laws.Options.{not_some}
use Rattle.format.specs.Laws.Tight.{bytes_after}
use Rattle.format.proofs.Laws.Passing.{reach}
use Rattle.format.specs.Laws.Outcomes.{not_got, got_next, false_true, by_test, passed, in_part}
use Rattle.format.specs.declared.Reason.{Reason}
use Rattle.grammar.specs.Modules.{magic, version, Section as BareSection, Framed, custom_section, other_section, Sections, no_section, a_section, Among, here, further, Before, Called, section_order, Ordered}
use Rattle.grammar.specs.Forgetting.{bare_custom, bare_section}
use Rattle.grammar.specs.Faults.Modules.{InOrder, IdKept, SectionFault, unknown_id, out_of_order, data_after_name, in_the_size, in_the_name, second_of_its_name, hints_after_code, ModuleFault, no_preamble, in_aSection}
use Rattle.grammar.specs.Laws.Ranks.{placed, before_rank, rank_before, ranked, id_known, known_id}
use Rattle.grammar.specs.Laws.Rows.{to_called, from_called, row_in, elem_among, before_code_is, in_row, row_called, row_of_lem}
use Rattle.grammar.proofs.Laws.Order.{Run, end, step, after, run_ordered, ordered_run}
use Rattle.grammar.proofs.Laws.Checks.{last_check, row_bare, not_both, in_section, passed_allows, seeing_after}
use Rattle.grammar.proofs.Laws.Modules.{framed, framed_complete, begins_sound, preamble_bytes}
use Rattle.grammar.specs.Laws.Faults.Stops.{stop_number, stop_place, stops_in, stops_first, stops_inside, stops_at_check, Found, went, goes}
use Rattle.grammar.proofs.Laws.Faults.Parts.{sized_reads, cut_apart, part_reads, not-true, name_reads}
use Rattle.grammar.proofs.Laws.Faults.Seen.{after_all, code_seen, there_seen, rank_seen, code_from, there_from, rank_from}

-- RANKS
among_ranked : {id : ℕ} → Among id section_order → 0 < rank id
unfolding rank
among_ranked a = placed 1 a

no_zero : 0 < rank 0 → ⊥
unfolding rank
no_zero l = omega (arith, l)

not_before_low : (i j : ℕ) {k : ℕ} → 0 < rank i → (Before i j section_order → ⊥) → rank i ≤ k → rank j ≤ k
not_before_low i j positive never low = by_test (ltb (rank i) (rank j)) (λ t. absurd (never (rank_before i j positive (ltb-true (rank i) (rank j) t)))) (λ t. omega (arith, ltb-false (rank i) (rank j) t))

data_ranked : 0 < rank 11
unfolding rank
data_ranked = omega arith

data_known : leb 11 greatest_id ≡ true
unfolding greatest_id
data_known = refl

-- WHAT WAS SEEN, against the sections before
module _ {before : List BareSection} (r : Run nothing before) where
  abbrev seen_before : Seen
  seen_before = after_all nothing before

  no_rank : nothing.rank ≡ 0
  unfolding nothing
  no_rank = refl

  code_is {ℓ} : {C : Type ℓ} → seen_before.code ≡ true → ((s : BareSection) → Among s before → s.id ≡ 10 → C) → C
  unfolding nothing
  code_is e next = code_from nothing before e (λ t. false_true t) next

  there_is {ℓ} : {C : Type ℓ} (row : ℕ) → seen_before.there row ≡ true → ((s : BareSection) → Among s before → row_in s.custom ≡ some row → C) → C
  unfolding nothing
  there_is row e next = there_from nothing before row e (λ t. false_true t) next

  name_there {ℓ} : {C : Type ℓ} → seen_before.there name_row ≡ true → ((s : BareSection) → Among s before → Called name_section s → C) → C
  name_there e next = there_is name_row e λ s a is. next s a (to_called name_section s (row_called s.custom is refl))

  there_name : {s : BareSection} → Among s before → Called name_section s → seen_before.there name_row ≡ true
  there_name {s} a c = there_seen nothing a (rw (from_called name_section s c))

  -- an id behind all before it, by rank
  in_order_rank : (id : ℕ) → InOrder before id → id ≢ 0 → 0 < rank id → seen_before.rank < rank id
  in_order_rank id o n positive =
      rank_from nothing before
      (λ e. omega (arith, e, no_rank))
      (λ s a m e. omega (arith, e, before_rank (o s a m n)))

  rank_in_order : (id : ℕ) → (id ≢ 0 → seen_before.rank < rank id) → InOrder before id
  rank_in_order id h s a n m = rank_before s.id id (ranked n ((run_ordered r).known s a)) (omega (arith, rank_seen r a n, h m))

  not_in_order {ℓ} : {C : Type ℓ} (id : ℕ) → 0 < rank id → rank id ≤ seen_before.rank → ((s : BareSection) → Among s before → s.id ≢ 0 → (Before s.id id section_order → ⊥) → C) → C
  not_in_order id positive low next =
      rank_from nothing before
      (λ e. absurd (omega (arith, e, no_rank)))
      (λ s a n e. next s a n (λ b. omega (arith, e, before_rank b)))

  -- the checks of an id
  record IdPassed (id : ℕ) : Type 0 where
    known : leb id greatest_id ≡ true
    order : (is_custom id || ltb seen_before.rank (rank id)) ≡ true
    no_data : not (is_data id && seen_before.there name_row) ≡ true

  both_kept : (a b : Bool) → not (a && b) ≡ true → a ≡ true → b ≡ true → ⊥
  both_kept true true h p q = false_true h
  both_kept true false h p q = false_true q
  both_kept false b h p q = false_true p

  id_order : (id : ℕ) → (is_custom id || ltb seen_before.rank (rank id)) ≡ true → id ≢ 0 → seen_before.rank < rank id
  unfolding is_custom
  id_order id t n = let u : ltb seen_before.rank (rank id) ≡ true = rw (ne_eqb id 0 n) at t in ltb-true seen_before.rank (rank id) u

  order_id : (id : ℕ) → (id ≢ 0 → seen_before.rank < rank id) → (is_custom id || ltb seen_before.rank (rank id)) ≡ true
  unfolding is_custom
  order_id id h = by_test (eqb id 0) (λ t. rw t) (λ t. rw (t, lt-ltb seen_before.rank (rank id) (h (eqb-false id 0 t))))

  passed_kept : (id : ℕ) → IdPassed id → IdKept before id
  unfolding is_data
  passed_kept id p = record {
    known = known_id id (leb-true id greatest_id p.known);
    in_order = rank_in_order id (id_order id p.order);
    no_data = λ s a c e. both_kept (eqb id 11) (seen_before.there name_row) p.no_data (eq-eqb id 11 e) (there_name a c);
  }

  kept_passed : (id : ℕ) → IdKept before id → IdPassed id
  unfolding is_data
  kept_passed id k = record {
    known = le-leb id greatest_id (id_known k.known);
    order = order_id id (λ n. in_order_rank id k.in_order n (ranked n k.known));
    no_data = not_both (eqb id 11) (seen_before.there name_row) (λ t e. name_there e λ s a c. k.no_data s a c (eqb-true id 11 t));
  }

  -- ONE SECTION stops
  last_stops {ℓ} : {C : Type ℓ} (b : Bool) (why : Reason) (at o : ℕ) (bs : List ℕ) {n k : ℕ} → checked b why at o bs ≡ stop n k → (b ≡ false → number_of why ≡ n → at ≡ k → C) → C
  last_stops true why at o bs e next = absurd (not_got (sym e))
  last_stops false why at o bs e next = next refl (stop_number e) (stop_place e)

  greatest_is : greatest_id ≡ 13
  unfolding greatest_id
  greatest_is = refl

  broken_order {ℓ} : {C : Type ℓ} (id : ℕ) → (is_custom id || ltb seen_before.rank (rank id)) ≡ false → (id ≢ 0 → rank id ≤ seen_before.rank → C) → C
  unfolding is_custom
  broken_order id t next =
      by_test (eqb id 0)
      (λ z. false_true (sym (rw z at t)))
      (λ z. let u : ltb seen_before.rank (rank id) ≡ false = rw z at t in next (eqb-false id 0 z) (ltb-false seen_before.rank (rank id) u))

  broken_both {ℓ} : {C : Type ℓ} (a b : Bool) → not (a && b) ≡ false → (a ≡ true → b ≡ true → C) → C
  broken_both true true t next = next refl refl
  broken_both true false t next = false_true (sym t)
  broken_both false b t next = false_true (sym t)

  known_among : (id : ℕ) → leb id greatest_id ≡ true → id ≢ 0 → Among id section_order
  known_among id t n = not_custom (known_id id (leb-true id greatest_id t)) n
    where
      not_custom : {id : ℕ} → Among id (0 ∷ section_order) → id ≢ 0 → Among id section_order
      not_custom here n = absurd (n refl)
      not_custom (further a) n = a

  id_stopped : (id o : ℕ) (bs : List ℕ) {n k : ℕ} → id_rules seen_before o id (suc o) bs ≡ stop n k → Found (SectionFault before) (id ∷ bs) o n k
  unfolding id_rules is_data
  id_stopped id o bs e =
      stops_at_check (leb id greatest_id) _ _ _ _ _ e
      (λ t is at. rw (← is) (record { place = 0; is = omega arith; fault = unknown_id bs (rw greatest_is at (leb-false id greatest_id t)) }))
      (λ t₁ e₁. stops_at_check (is_custom id || ltb seen_before.rank (rank id)) _ _ _ _ _ e₁
      (λ t is at. broken_order id t λ n low. not_in_order id (ranked n (known_id id (leb-true id greatest_id t₁))) low λ s a m none.
      rw (← is) (record { place = 0; is = omega arith; fault = out_of_order bs (known_among id t₁ n) a m none }))
      (λ t₂ e₂. last_stops (not (is_data id && seen_before.there name_row)) _ _ _ _ e₂ λ t is at.
      broken_both (eqb id 11) (seen_before.there name_row) t λ data' there. name_there there λ s a c.
      let data_id = eqb-true id 11 data' in
      rw (← is, data_id) (record { place = 0; is = omega arith; fault = data_after_name bs (rw data_id at (rank_in_order id (id_order id t₂))) a c })))

  -- what a section's row decides
  name_stopped {ℓ} : {C : Type ℓ} (row : Option ℕ) (at o : ℕ) (bs : List ℕ) {n k : ℕ} → name_rules seen_before at row o bs ≡ stop n k → ((i : ℕ) → row ≡ some i → seen_before.there i ≡ true → 7 ≡ n → at ≡ k → C) → ((i : ℕ) → row ≡ some i → seen_before.there i ≡ false → before_code i ≡ true → seen_before.code ≡ true → 8 ≡ n → at ≡ k → C) → C
  unfolding name_rules
  name_stopped none at o bs e twice late = absurd (not_got (sym e))
  name_stopped (some i) at o bs e twice late =
      stops_at_check (not (seen_before.there i)) _ _ _ _ _ e
      (λ t is place. twice i refl (was_there (seen_before.there i) t) is place)
      (λ t e₁. last_stops (not (before_code i && seen_before.code)) _ _ _ _ e₁ λ u is place.
      broken_both (before_code i) seen_before.code u λ c d. late i refl (was_not (seen_before.there i) t) c d is place)
    where
      was_there : (b : Bool) → not b ≡ false → b ≡ true
      was_there true t = refl
      was_there false t = false_true (sym t)

      was_not : (b : Bool) → not b ≡ true → b ≡ false
      was_not true t = false_true t
      was_not false t = refl

  custom_stopped : (id o : ℕ) (bs : List ℕ) {n k : ℕ} → custom id o bs ≡ stop n k → (id ≡ 0) × (name o bs ≡ stop n k)
  unfolding custom remaining
  custom_stopped zero o bs e = (refl, stops_in (name o bs) _ e (λ e₁. e₁) (λ a o₁ r₁ e₁ e₂. absurd (not_got (sym e₂))))
  custom_stopped (suc id) o bs e = absurd (not_got (sym e))

  -- the name of one section is another's
  same_row : {x : List ℕ} {s t : BareSection} {row : ℕ} → Called x s → Called x t → row_in t.custom ≡ some row → row_in s.custom ≡ some row
  same_row c d is = rw (c.is, ← is, d.is)

  section_stopped : (id o : ℕ) (bs : List ℕ) {n k : ℕ} → Bytes bs → section seen_before o id (suc o) bs ≡ stop n k → Found (SectionFault before) (id ∷ bs) o n k
  unfolding section id_rules
  section_stopped id o bs h e =
      stops_in (id_rules seen_before o id (suc o) bs) _ e (id_stopped id o bs)
      (λ _ o₃ r₃ e₁ e₂.
      passed (leb id greatest_id) _ _ _ _ _ e₁ λ t₁ e₃. passed (is_custom id || ltb seen_before.rank (rank id)) _ _ _ _ _ e₃ λ t₂ e₄.
      last_check (not (is_data id && seen_before.there name_row)) _ _ _ _ e₄ λ t₃ a a'.
      let kept = passed_kept id (record { known = t₁; order = t₂; no_data = t₃ }) in
      stops_in (sized o₃ r₃) _ e₂
      (λ e₅. let f = sized_reads.faults.found (suc o) bs h (rw (← a, ← a') at e₅) in record { place = 1 + f.place; is = omega (arith, f.is); fault = in_the_size kept f.fault })
      (λ p o₁ r₁ e₅ e₆.
      let e₅' = rw (← a, ← a') at e₅ in
      let c = cut_apart (suc o) bs h e₅' in
      let s = went sized_reads (suc o) bs h e₅' in
      stops_in (inside (custom id) p o₁ r₁) _ e₆
      (λ e₇. stops_inside (custom id p.at p.bytes) o₁ r₁ e₇ λ e₈.
      let (zero_id, e₉) = custom_stopped id p.at p.bytes e₈ in
      let f = name_reads.faults.found p.at p.bytes c.own e₉ in
      rw (zero_id, c.is) (record { place = 1 + (length c.size + f.place); is = omega (arith, f.is, c.place); fault = in_the_name r₁ c.means f.fault }))
      (λ x o₄ r₄ e₇ e₈. in_part (custom id p.at p.bytes) o₁ r₁ e₇ λ o₂ r₂ e₉ q q'.
      let frame = framed id p c.own s.means e₉ in
      let own = row_bare x in
      stops_in (name_rules seen_before o (row_of x) o₄ r₄) _ e₈
      (λ e₁₀. name_stopped (row_of x) o o₄ r₄ e₁₀
      (λ i row there is at. there_is i there λ t among its. in_row (map_some bare_custom x) (sym own ∙ row) λ w stands called.
      rw (← is, s.is) (record { place = 0; is = omega arith; fault = second_of_its_name r₁ frame (elem_among tracked i stands) (to_called w.name _ called) among (to_called w.name t (row_called t.custom its stands)) }))
      (λ i row there must code is at. code_is code λ t among its. in_row (map_some bare_custom x) (sym own ∙ row) λ w stands called.
      let own_name = to_called w.name (record { id = id; contents = p.bytes; custom = map_some bare_custom x }) called in
      rw (← is, s.is) (record {
        place = 0;
        is = omega arith;
        fault = hints_after_code r₁ frame (elem_among tracked i stands) (sym (before_code_is i stands) ∙ must) own_name
            (λ u v d. false_true (sym there ∙ there_seen nothing v (same_row d own_name (sym own ∙ row)))) among its;
      })))
      (λ _ o₅ r₅ e₁₀ e₁₁. absurd (not_got (sym e₁₁))))))

  id_passes : (id o : ℕ) (bs : List ℕ) → IdKept before id → id_rules seen_before o id (suc o) bs ≡ got tt (suc o) bs
  unfolding id_rules
  id_passes id o bs kept = let p = kept_passed id kept in rw (p.known, p.order, p.no_data)

  custom_kept : IdKept before 0
  custom_kept = record { known = here; in_order = λ s a n m. absurd (m refl); no_data = λ s a c e. omega (arith, e) }

  twice_stops : (row at o : ℕ) (bs : List ℕ) → seen_before.there row ≡ true → name_rules seen_before at (some row) o bs ≡ stop 7 at
  unfolding name_rules
  twice_stops row at o bs t = rw t

  late_stops : (row at o : ℕ) (bs : List ℕ) → seen_before.there row ≡ false → before_code row ≡ true → seen_before.code ≡ true → name_rules seen_before at (some row) o bs ≡ stop 8 at
  unfolding name_rules
  late_stops row at o bs t c d = rw (t, c, d)

  -- a frame that is read up to what its row decides
  record FrameRead (bs : List ℕ) (t : BareSection) (o : ℕ) (rest : List ℕ) : Type 0 where
    others : List ℕ
    is : bs ++ rest ≡ t.id ∷ others
    value : Option Custom
    same : map_some bare_custom value ≡ t.custom
    decides : (n k : ℕ) → ((o₁ : ℕ) → name_rules seen_before o (row_of value) o₁ rest ≡ stop n k) → section seen_before o t.id (suc o) others ≡ stop n k

  custom_frame : {bs : List ℕ} {t : BareSection} {x : List ℕ} → Framed bs t → Called x t → (o : ℕ) (rest : List ℕ) → FrameRead bs t o rest
  unfolding section custom remaining
  custom_frame (custom_section {part = part} {name = name'} {payload = payload} s n) c o rest =
      let a = goes sized_reads s (suc o) rest in
      let b = goes name_reads n a.value.at payload in
      record {
        others = part ++ rest;
        is = refl;
        value = some (record { name = b.value; payload = record { at = a.value.at + length name'; bytes = payload } });
        same = rw b.same;
        decides = λ n k h. rw (id_passes 0 o (part ++ rest) custom_kept, a.reads, a.same, b.reads, h (suc o + length part));
      }
  custom_frame (other_section n s) c o rest = absurd (not_some c.is)

  record Halts (bs : List ℕ) (o n k : ℕ) : Type 0 where
    id : ℕ
    others : List ℕ
    is : bs ≡ id ∷ others
    stops : section seen_before o id (suc o) others ≡ stop n k

  halts : {bs : List ℕ} {o n k' : ℕ} (k : ℕ) → Halts bs o n k → k ≡ k' → Halts bs o n k'
  halts k h e = rw (← e) h

  section_stops : {bs : List ℕ} {n at : ℕ} → SectionFault before bs n at → (o : ℕ) → Halts bs o n (o + at)
  unfolding section id_rules is_custom is_data custom
  section_stops (unknown_id {id = id} rest l) o = halts o (record { id = id; others = rest; is = refl; stops = rw (lt-leb id greatest_id (rw greatest_is l)) }) (omega arith)
  section_stops (out_of_order {id = id} {s = s} rest known a n never) o =
      let positive : 0 < rank id = among_ranked known in
      let other : id ≢ 0 = λ e. no_zero (rw e at positive) in
      let low : rank id ≤ seen_before.rank = not_before_low s.id id (ranked n ((run_ordered r).known s a)) never (rank_seen r a n) in
      halts o (record { id = id; others = rest; is = refl; stops = rw (le-leb id greatest_id (id_known (further known)), ne_eqb id 0 other, le-ltb seen_before.rank (rank id) low) }) (omega arith)
  section_stops (data_after_name rest ordered a c) o =
      let above : seen_before.rank < rank 11 = in_order_rank 11 ordered (λ e. omega (arith, e)) data_ranked in
      halts o (record { id = 11; others = rest; is = refl; stops = rw (data_known, lt-ltb seen_before.rank (rank 11) above, there_name a c) }) (omega arith)
  section_stops (in_the_size {id = id} {rest = rest} {at = at} kept f) o =
      halts (suc o + at) (record { id = id; others = rest; is = refl; stops = rw (id_passes id o rest kept, sized_reads.faults.stops f (suc o)) }) (omega arith)
  section_stops (in_the_name {size = size} {contents = contents} {at = at} rest u f) o =
      halts (suc o + length size + at) (record { id = 0; others = size ++ (contents ++ rest); is = refl; stops = rw (id_passes 0 o (size ++ (contents ++ rest)) custom_kept, part_reads u (suc o) rest, name_reads.faults.stops f (suc o + length size)) }) (omega arith)
  section_stops (second_of_its_name {s = s} {t = t} rest frame tracked_one c a d) o =
      let f = custom_frame frame c o rest in
      row_of_lem t tracked_one c λ row is stands.
      let own : row_of f.value ≡ some row = row_bare f.value ∙ ap row_in f.same ∙ is in
      halts o (record { id = t.id; others = f.others; is = f.is; stops = f.decides 7 o (λ o₁. rw own (twice_stops row o o₁ rest (there_seen nothing a (same_row d c is)))) }) (omega arith)
  section_stops (hints_after_code {s = s} {t = t} rest frame tracked_one must c never a code) o =
      let f = custom_frame frame c o rest in
      row_of_lem t tracked_one c λ row is stands.
      let own : row_of f.value ≡ some row = row_bare f.value ∙ ap row_in f.same ∙ is in
      let not_there : seen_before.there row ≡ false = not-true (seen_before.there row) (λ e. there_is row e λ u v its. never u v (to_called _ u (row_called u.custom its stands))) in
      halts o (record { id = t.id; others = f.others; is = f.is; stops = f.decides 8 o (λ o₁. rw own (late_stops row o o₁ rest not_there (before_code_is row stands ∙ must) (code_seen nothing a code))) }) (omega arith)

-- SECTIONS: those before the one that stops are well
record StoppedAt (seen : Seen) (bs : List ℕ) (o n k : ℕ) : Type 0 where
  front : List ℕ
  id : ℕ
  rest : List ℕ
  ss : List BareSection
  is : bs ≡ front ++ (id ∷ rest)
  read : Sections front ss
  run : Run seen ss
  left : Bytes rest
  at : ℕ
  place : at ≡ o + length front
  stopped : section (after_all seen ss) at id (suc at) rest ≡ stop n k

joined : {bs r : List ℕ} (id : ℕ) (a b c : List ℕ) → bs ≡ a ++ r → r ≡ b ++ c → id ∷ bs ≡ ((id ∷ a) ++ b) ++ c
joined id a b c e f = ap (λ x. id ∷ x) (e ∙ ap (λ x. a ++ x) f ∙ sym (append_assoc a b c))

sections_stopped : (most : ℕ) (seen : Seen) (o : ℕ) (bs : List ℕ) {n k : ℕ} → length bs ≤ most → Bytes bs → sections most seen o bs ≡ stop n k → StoppedAt seen bs o n k
unfolding sections
sections_stopped zero seen o [] l h e = absurd (not_got (sym e))
sections_stopped zero seen o (b ∷ bs) l h e = absurd (omega arith)
sections_stopped (suc most) seen o [] l h e = absurd (not_got (sym e))
sections_stopped (suc most) seen o (id ∷ bs) l h e =
    let h₁ : Bytes bs = λ i. h (suc i) in
    stops_in (section seen o id (suc o) bs) _ e
    (λ e₁. record { front = []; id = id; rest = bs; ss = []; is = refl; read = no_section; run = end; left = h₁; at = o; place = omega arith; stopped = e₁ })
    (λ s o₁ r₁ e₁ e₂. in_section seen o id bs e₁ λ p c o₂ r₂ checks e₃ e₄ is_s.
    stops_first (sections most (seeing seen s) o₁ r₁) (λ more. s ∷ more) e₂ λ e₅.
    let own : Section = record { id = id; at = o; contents = p; custom = c } in
    let part = went sized_reads (suc o) bs h₁ e₃ in
    let cut = cut_apart (suc o) bs h₁ e₃ in
    let frame = framed id p cut.own part.means e₄ in
    let f = sections_stopped most (after seen (bare_section own)) o₁ r₁ (omega (arith, ap length part.is, length-append part.front r₁)) part.left (rw (← is_s, seeing_after seen own) at e₅) in
    record {
      front = (id ∷ part.front) ++ f.front;
      id = f.id;
      rest = f.rest;
      ss = bare_section own ∷ f.ss;
      is = joined id part.front f.front (f.id ∷ f.rest) part.is f.is;
      read = a_section frame f.read;
      run = step (passed_allows seen own checks) f.run;
      left = f.left;
      at = f.at;
      place = omega (arith, f.place, part.next, length-append part.front f.front);
      stopped = f.stopped;
    })

sections_stop : {front : List ℕ} {ss : List BareSection} → Sections front ss → {seen : Seen} → Run seen ss → (most o id : ℕ) (others : List ℕ) {n k : ℕ} → length (front ++ (id ∷ others)) ≤ most → ((at : ℕ) → at ≡ o + length front → section (after_all seen ss) at id (suc at) others ≡ stop n k) → sections most seen o (front ++ (id ∷ others)) ≡ stop n k
unfolding sections
sections_stop no_section end zero o id others l stops = absurd (omega arith)
sections_stop no_section end (suc most) o id others l stops = rw (stops o (omega arith))
sections_stop (a_section {bs = bs} {others = more} frame m) (step {seen = seen} h r) zero o id others l stops = absurd (omega (arith, length-append (bs ++ more) (id ∷ others)))
sections_stop (a_section {bs = bs} {others = more} {s = s} frame m) (step {seen = seen} h r) (suc most) o id others l stops =
    let behind = more ++ (id ∷ others) in
    let a = framed_complete frame seen h o behind in
    let now : seeing seen a.value ≡ after seen s = seeing_after seen a.value ∙ ap (after seen) a.same in
    in_section seen o s.id (a.part ++ behind) a.reads λ p c o₂ r₂ checks e₃ e₄ is_s.
    let next : a.next ≡ o + length bs = omega (arith, reach sized_reads.passes (suc o) (a.part ++ behind) e₃, length-append a.part behind, ap length a.is) in
    let ih = sections_stop m r most a.next id others (omega (arith, ap length a.is, length-append bs more, length-append (bs ++ more) (id ∷ others), length-append more (id ∷ others))) (λ at e. stops at (omega (arith, e, next, length-append bs more))) in
    rw (append_assoc bs more (id ∷ others), a.is) (rw (a.reads, now, ih))

-- THE PREAMBLE
begins_stopped {ℓ} : {C : Type ℓ} (xs : List ℕ) (o : ℕ) (bs : List ℕ) {n k : ℕ} → begins xs o bs ≡ stop n k → (((rest : List ℕ) → bs ≢ xs ++ rest) → 1 ≡ n → 0 ≡ k → C) → C
unfolding begins
begins_stopped [] o bs e next = absurd (not_got (sym e))
begins_stopped (x ∷ xs) o [] e next = next (λ rest q. omega (arith, ap length q)) (stop_number e) (stop_place e)
begins_stopped (x ∷ xs) o (b ∷ bs) e next =
    by_test (eqb x b)
    (λ t. begins_stopped xs (suc o) bs (rw t at e) λ differs. next (λ rest q. differs rest (tails q)))
    (λ t. let e' = rw t at e in next (λ rest q. eqb-false x b t (sym (heads q))) (stop_number e') (stop_place e'))
  where
    heads : {b x : ℕ} {bs xs : List ℕ} → b ∷ bs ≡ x ∷ xs → b ≡ x
    heads q = cc

    tails : {b x : ℕ} {bs xs : List ℕ} → b ∷ bs ≡ x ∷ xs → bs ≡ xs
    tails q = cc

begins_stops : (xs : List ℕ) (o : ℕ) (bs : List ℕ) → ((rest : List ℕ) → bs ≢ xs ++ rest) → begins xs o bs ≡ stop 1 0
unfolding begins
begins_stops [] o bs differs = absurd (differs bs refl)
begins_stops (x ∷ xs) o [] differs = refl
begins_stops (x ∷ xs) o (b ∷ bs) differs =
    by_test (eqb x b)
    (λ t. rw t (begins_stops xs (suc o) bs (λ rest q. differs rest (let same = eqb-true x b t in rw (same, q)))))
    (λ t. rw t)

begins_goes : (xs : List ℕ) (o : ℕ) (rest : List ℕ) → begins xs o (xs ++ rest) ≡ got tt (o + length xs) rest
unfolding begins
begins_goes [] o rest = ap (λ (x : ℕ). got tt x rest) (omega arith)
begins_goes (x ∷ xs) o rest = rw (eq-eqb x x refl, begins_goes xs (suc o) rest) (ap (λ (y : ℕ). got tt y rest) (omega arith))

-- THE MODULE
preamble_long : length preamble ≡ 8
unfolding preamble
preamble_long = refl

section_fault : {m behind : List ℕ} (front rest : List ℕ) {ss : List BareSection} {n k : ℕ} (place : ℕ) → m ≡ preamble ++ behind → behind ≡ front ++ rest → Sections front ss → Ordered ss → SectionFault ss rest n place → k ≡ 8 + (length front + place) → ModuleFault m n k
section_fault front rest place is split read ordered f there = rw (there, is ∙ ap (λ x. preamble ++ x) split ∙ sym (preamble_bytes (front ++ rest))) (in_aSection read ordered f)

pub walk_found : (m : List ℕ) {n k : ℕ} → Bytes m → framing 0 m ≡ stop n k → ModuleFault m n k
unfolding framing
walk_found m h e =
    stops_in (begins preamble 0 m) _ e
    (λ e₁. begins_stopped preamble 0 m e₁ λ differs is at. rw (← is, ← at) (no_preamble (λ bs q. differs bs (q ∙ preamble_bytes bs))))
    (λ v o₁ r₁ e₁ e₂.
    let is = begins_sound preamble 0 m e₁ in
    let past : o₁ ≡ 8 = omega (arith, got_next (sym e₁ ∙ ap (begins preamble 0) is ∙ begins_goes preamble 0 r₁), preamble_long) in
    let f = sections_stopped (length m) nothing o₁ r₁ (omega (arith, ap length is, length-append preamble r₁)) (bytes_after preamble r₁ (rw is at h)) e₂ in
    let g = section_stopped f.run f.id f.at f.rest f.left f.stopped in
    section_fault f.front (f.id ∷ f.rest) g.place is f.is f.read (run_ordered f.run) g.fault (omega (arith, g.is, f.place, past)))

framing_goes : (bs : List ℕ) → framing 0 (preamble ++ bs) ≡ sections (length (preamble ++ bs)) nothing (0 + length preamble) bs
unfolding framing
framing_goes bs = rw (begins_goes preamble 0 bs)

pub walk_stops : {m : List ℕ} {n k : ℕ} → ModuleFault m n k → framing 0 m ≡ stop n k
unfolding framing
walk_stops (no_preamble {m = m} differs) = rw (begins_stops preamble 0 m (λ rest q. differs rest (q ∙ sym (preamble_bytes rest))))
walk_stops (in_aSection {front = front} {rest = rest} {ss = ss} {n = n} {at = at} read ordered f) =
    let run = ordered_run ss ordered in
    let g = section_stops run f (8 + length front) in
    let all : List ℕ = front ++ (g.id ∷ g.others) in
    let whole : magic ++ version ++ (front ++ rest) ≡ preamble ++ all = preamble_bytes (front ++ rest) ∙ ap (λ x. preamble ++ (front ++ x)) g.is in
    ap (framing 0) whole ∙ framing_goes all
    ∙ sections_stop read run (length (preamble ++ all)) (0 + length preamble) g.id g.others (omega (arith, length-append preamble all))
    (λ o e. let there : o ≡ 8 + length front = omega (arith, e, preamble_long) in rw there (g.stops ∙ ap (stop n) (omega arith)))
