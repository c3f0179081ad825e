-- The canonical rewriting of code metadata, over any item: one set of laws for data of any format and for hints.
use Rattle.std.specs.Prelude.{ℕ, ◌≤◌, ◌<◌, List, [], ◌↔◌, ◌≡◌, length}
use Rattle.std.proofs.Math.Option.{none}
use Rattle.std.proofs.Math.Path.{sym, ap}
use Rattle.std.proofs.Common.{◌∙◌, arith}
use Rattle.format.specs.Reading.{Reader, accepted, Accepted}
use Rattle.format.specs.Numbers.{limit32}
use Rattle.format.specs.Options.{some_then, map_some}
use Rattle.format.specs.Parts.{Part}
use Rattle.format.specs.Tables.{Table, lookup, map_table}
use Rattle.format.specs.Questions.{as_told}
use Rattle.format.specs.Metadata.{metadata, judge_metadata, item_at, ask_metadata}
use Rattle.format.specs.Canonical.{bare_items, unless_empty, keep_rows, write_part, write_table, rewrite_metadata, canonical_of}
use Rattle.format.specs.Laws.Outcomes.{accepted_is, judged}
use Rattle.format.specs.Laws.Options.{by_option}
use Rattle.format.proofs.Laws.Codecs.{Codec, Sound, TableFine, table_codec, fill_sound, fill_back}
use Rattle.format.proofs.Laws.Tables.{lookup_map}
use Rattle.format.proofs.Laws.Groups.{groups_answer, in_range_or_none, groups_shorter, groups_norm, groups_fine, groups_stay, groups_sure}
use Rattle.format.specs.declared.FunctionIndex.{FunctionIndex}
use Rattle.format.specs.declared.CodeOffset.{CodeOffset}

pub item_bare : (f : FunctionIndex) (at : CodeOffset) (t : Table (Table Part)) → item_at f at (bare_items t) ≡ map_some (λ p. p.bytes) (item_at f at t)
unfolding item_at
item_bare f at t = rw (lookup_map (map_table (λ p. p.bytes)) f.0 t) (by_option (lookup f.0 t) (λ e. rw e) (λ u e. rw e (lookup_map (λ p. p.bytes) at.0 u)))

module _ {item : Reader Part} {Fine : List ℕ → Type 0} (codec : Codec item (λ p. p.bytes) write_part Fine) where
  abbrev pub AcceptedItems : List ℕ → Type 0
  AcceptedItems bs = Accepted (judge_metadata item 0) bs

  -- what an accepted payload holds, in bytes
  abbrev pub items : {bs : List ℕ} → AcceptedItems bs → Table (Table (List ℕ))
  items a = bare_items a.value

  pub items_whole : {bs : List ℕ} (a : AcceptedItems bs) → Sound (write_table (write_table write_part)) (TableFine (TableFine Fine)) (items a) [] bs
  unfolding judge_metadata metadata
  items_whole {bs} a = judged (metadata item 0 bs) a.judged λ o rest e. fill_sound (table_codec (table_codec codec)) 0 bs e

  pub item_told_lem : {bs : List ℕ} (a : AcceptedItems bs) (f : FunctionIndex) (at : CodeOffset) → as_told (ask_metadata item f at 0 bs) ≡ accepted (item_at f at (items a))
  unfolding ask_metadata as_told
  item_told_lem a f at = rw (a.judged, item_bare f at a.value)

  pub items_canonical_is : {bs : List ℕ} (a : AcceptedItems bs) → canonical_of item bs ≡ accepted (rewrite_metadata a.value)
  unfolding canonical_of
  items_canonical_is a = rw a.judged

  read_again : {bs : List ℕ} (a : AcceptedItems bs) → (v : Table (Table Part)) × (judge_metadata item 0 (rewrite_metadata a.value) ≡ accepted v) × (bare_items v ≡ keep_rows unless_empty (items a))
  unfolding judge_metadata metadata rewrite_metadata
  read_again a =
      let (v, o, e, q) = fill_back (table_codec (table_codec codec)) (keep_rows unless_empty (items a)) (groups_fine Fine (groups_norm Fine (items_whole a).fine)) 0 in
      (v, rw e, q)

  pub items_accepted : {bs : List ℕ} (a : AcceptedItems bs) → AcceptedItems (rewrite_metadata a.value)
  items_accepted a = let (v, e, q) = read_again a in record { value = v; judged = e }

  held_again : {bs : List ℕ} (a : AcceptedItems bs) (b : AcceptedItems (rewrite_metadata a.value)) → items b ≡ keep_rows unless_empty (items a)
  held_again a b = let (v, e, q) = read_again a in ap bare_items (accepted_is (sym b.judged ∙ e)) ∙ q

  pub items_told : {bs : List ℕ} (a : AcceptedItems bs) (f : FunctionIndex) (at : CodeOffset) → as_told (ask_metadata item f at 0 (rewrite_metadata a.value)) ≡ as_told (ask_metadata item f at 0 bs)
  unfolding item_at
  items_told a f at =
      let b = items_accepted a in
      item_told_lem b f at ∙ ap accepted (ap (item_at f at) (held_again a b) ∙ groups_answer (items_whole a).fine.sorted f.0 at.0) ∙ sym (item_told_lem a f at)

  pub items_again : {bs : List ℕ} (a : AcceptedItems bs) → canonical_of item (rewrite_metadata a.value) ≡ accepted (rewrite_metadata a.value)
  unfolding rewrite_metadata
  items_again a =
      let b = items_accepted a in
      items_canonical_is b ∙ ap (λ t. accepted (write_table (write_table write_part) t)) (ap (keep_rows unless_empty) (held_again a b) ∙ groups_stay Fine (groups_norm Fine (items_whole a).fine))

  pub items_shorter : {bs : List ℕ} (a : AcceptedItems bs) → length (rewrite_metadata a.value) ≤ length bs
  unfolding rewrite_metadata
  items_shorter a = omega (arith, groups_shorter (write_table write_part) (items_whole a).fine.sorted, (items_whole a).shorter)

  -- an index or an offset of more than 32 bits gets none
  asked_or_none {ℓ} : {C : Type ℓ} {bs : List ℕ} (a : AcceptedItems bs) (k j : ℕ) → (k < limit32 → j < limit32 → C) → (some_then (lookup k (items a)) (lookup j) ≡ none → C) → C
  asked_or_none a k j f g = in_range_or_none (λ _ u p. (p.0, p.1.sorted)) (λ _ x p. p.0) (items_whole a).fine.sorted k j f g

  -- two payloads have one rewriting exactly where every question gets the same answer
  pub same_items : {x y : List ℕ} (a : AcceptedItems x) (b : AcceptedItems y) → (canonical_of item x ≡ canonical_of item y) ↔ ((f : FunctionIndex) (at : CodeOffset) → f.0 < limit32 → at.0 < limit32 → as_told (ask_metadata item f at 0 x) ≡ as_told (ask_metadata item f at 0 y))
  unfolding rewrite_metadata item_at
  same_items {x} {y} a b = (to, from)
    where
      Same : Type 0
      Same = (f : FunctionIndex) (at : CodeOffset) → f.0 < limit32 → at.0 < limit32 → as_told (ask_metadata item f at 0 x) ≡ as_told (ask_metadata item f at 0 y)

      to : canonical_of item x ≡ canonical_of item y → Same
      to e f at _ _ =
          let one = accepted_is (sym (items_canonical_is a) ∙ e ∙ items_canonical_is b) in
          sym (items_told a f at) ∙ ap (λ bs. as_told (ask_metadata item f at 0 bs)) one ∙ items_told b f at

      alike : Same → (k j : ℕ) → some_then (lookup k (items a)) (lookup j) ≡ some_then (lookup k (items b)) (lookup j)
      alike h k j =
          let told : k < limit32 → j < limit32 → some_then (lookup k (items a)) (lookup j) ≡ some_then (lookup k (items b)) (lookup j) = λ l m. accepted_is (sym (item_told_lem a (record { 0 = k }) (record { 0 = j })) ∙ h (record { 0 = k }) (record { 0 = j }) l m ∙ item_told_lem b (record { 0 = k }) (record { 0 = j })) in
          asked_or_none a k j told (λ n. asked_or_none b k j told (λ m. n ∙ sym m))

      from : Same → canonical_of item x ≡ canonical_of item y
      from h =
          let sa = (items_whole a).fine in
          let sb = (items_whole b).fine in
          let one = groups_sure Fine (groups_norm Fine sa) (groups_norm Fine sb) (λ k j. groups_answer sa.sorted k j ∙ alike h k j ∙ sym (groups_answer sb.sorted k j)) in
          items_canonical_is a ∙ ap (λ t. accepted (write_table (write_table write_part) t)) one ∙ sym (items_canonical_is b)
