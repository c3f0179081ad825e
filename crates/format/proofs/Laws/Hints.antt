-- The canonical rewriting of hints: their answers are none, likely and unlikely, and tell their data apart.
use Rattle.std.specs.Prelude.{ℕ, zero, suc, ◌<◌, true, List, [], ◌∷◌, ◌↔◌, ◌≡◌, refl}
use Rattle.std.proofs.lemmas.Bool.{false≢true}
use Rattle.std.proofs.Math.Option.{Option, none, some}
use Rattle.std.proofs.Common.{sym, ap, ◌∙◌}
use Rattle.format.specs.Reading.{accepted}
use Rattle.format.specs.Numbers.{limit32}
use Rattle.format.specs.Options.{some_then, map_some, is_some}
use Rattle.format.specs.Parts.{Part}
use Rattle.format.specs.Tables.{lookup}
use Rattle.format.specs.Metadata.{data_of, hint_of, hint_item, metadata, judge_metadata, item_at, ask_metadata, hint_in, ask_hint}
use Rattle.format.specs.Canonical.{bare_items, rewrite_metadata, canonical_of, canonical_hints}
use Rattle.format.specs.Laws.Outcomes.{accepted_is, judged, mapped}
use Rattle.format.specs.Laws.Options.{not_some, some_is, by_option, in_then}
use Rattle.format.proofs.Laws.Codecs.{hint_codec, table_codec, fill_sound}
use Rattle.format.proofs.Laws.Tables.{lookup_fine}
use Rattle.format.proofs.Laws.CanonicalMetadata.{AcceptedItems, items, items_whole, item_told_lem, item_bare, items_accepted, items_told, same_items}
use Rattle.format.specs.declared.FunctionIndex.{FunctionIndex}
use Rattle.format.specs.declared.CodeOffset.{CodeOffset}
use Rattle.format.specs.declared.Hint.{Hint}
use Rattle.format.specs.declared.Hint.TheVariants.{Unlikely, Likely}

-- a hint's data can be had back from the hint
pub data_is : (x : List ℕ) {h : Hint} → hint_of x ≡ some h → x ≡ data_of h
unfolding hint_of data_of
data_is [] e = absurd (not_some e)
data_is (zero ∷ []) e = rw (← some_is e)
data_is (suc zero ∷ []) e = rw (← some_is e)
data_is (suc (suc b) ∷ []) e = absurd (not_some e)
data_is (b ∷ c ∷ x) e = absurd (not_some e)

pub hint_is : (h : Hint) → hint_of (data_of h) ≡ some h
unfolding hint_of data_of
hint_is Unlikely = refl
hint_is Likely = refl

is_hint : (x : List ℕ) → is_some (hint_of x) ≡ true → (h : Hint) × (hint_of x ≡ some h)
is_hint x t = by_option (hint_of x) (λ e. absurd (false≢true (rw e at t))) (λ h e. (h, e))

-- found data that are hints are the same where the hints are
same_data : (x y : Option (List ℕ)) → ((d : List ℕ) → x ≡ some d → is_some (hint_of d) ≡ true) → ((d : List ℕ) → y ≡ some d → is_some (hint_of d) ≡ true) → some_then x hint_of ≡ some_then y hint_of → x ≡ y
same_data none none p q e = refl
same_data none (some d) p q e = let (h, r) = is_hint d (q d refl) in absurd (not_some (e ∙ r))
same_data (some c) none p q e = let (h, r) = is_hint c (p c refl) in absurd (not_some (sym e ∙ r))
same_data (some c) (some d) p q e = let (h, r) = is_hint c (p c refl) in ap some (data_is c r ∙ sym (data_is d (sym e ∙ r)))

hint_map : (x : Option Part) → some_then (map_some (λ p. p.bytes) x) hint_of ≡ hint_in x
unfolding hint_in
hint_map none = refl
hint_map (some p) = refl

-- the answer to a question of hints, from the data that was found
pub hint_told : {bs : List ℕ} (a : AcceptedItems hint_codec bs) (f : FunctionIndex) (at : CodeOffset) → ask_hint f at 0 bs ≡ accepted (some_then (item_at f at (items hint_codec a)) hint_of)
unfolding ask_hint ask_metadata
hint_told a f at = rw (a.judged, item_bare f at a.value, hint_map (item_at f at a.value))

item_is_hint : {bs : List ℕ} (a : AcceptedItems hint_codec bs) (f : FunctionIndex) (at : CodeOffset) (d : List ℕ) → item_at f at (items hint_codec a) ≡ some d → is_some (hint_of d) ≡ true
unfolding item_at
item_is_hint a f at d e =
    in_then (lookup f.0 (items hint_codec a)) _ e λ u e₁ e₂.
    (lookup_fine at.0 (lookup_fine f.0 (items_whole hint_codec a).fine.sorted e₁).1.sorted e₂).1.1

-- two payloads of hints have one rewriting exactly where every question gets the same answer: none, likely or unlikely
pub same_hints : {x y : List ℕ} (a : AcceptedItems hint_codec x) (b : AcceptedItems hint_codec y) → (canonical_hints x ≡ canonical_hints y) ↔ ((f : FunctionIndex) (at : CodeOffset) → f.0 < limit32 → at.0 < limit32 → ask_hint f at 0 x ≡ ask_hint f at 0 y)
unfolding canonical_hints
same_hints {x} {y} a b = (to, from)
  where
    to : canonical_of hint_item x ≡ canonical_of hint_item y → (f : FunctionIndex) (at : CodeOffset) → f.0 < limit32 → at.0 < limit32 → ask_hint f at 0 x ≡ ask_hint f at 0 y
    to e f at l m =
        let told = (same_items hint_codec a b).0 e f at l m in
        let one = accepted_is (sym (item_told_lem hint_codec a f at) ∙ told ∙ item_told_lem hint_codec b f at) in
        hint_told a f at ∙ ap (λ d. accepted (some_then d hint_of)) one ∙ sym (hint_told b f at)

    from : ((f : FunctionIndex) (at : CodeOffset) → f.0 < limit32 → at.0 < limit32 → ask_hint f at 0 x ≡ ask_hint f at 0 y) → canonical_of hint_item x ≡ canonical_of hint_item y
    from h = (same_items hint_codec a b).1 λ f at l m.
        let one = same_data (item_at f at (items hint_codec a)) (item_at f at (items hint_codec b)) (item_is_hint a f at) (item_is_hint b f at) (accepted_is (sym (hint_told a f at) ∙ h f at l m ∙ hint_told b f at)) in
        item_told_lem hint_codec a f at ∙ ap accepted one ∙ sym (item_told_lem hint_codec b f at)

-- a rewriting gives the same answers
pub hints_told : {bs : List ℕ} (a : AcceptedItems hint_codec bs) (f : FunctionIndex) (at : CodeOffset) → ask_hint f at 0 (rewrite_metadata a.value) ≡ ask_hint f at 0 bs
hints_told a f at =
    let b = items_accepted hint_codec a in
    let one = accepted_is (sym (item_told_lem hint_codec b f at) ∙ items_told hint_codec a f at ∙ item_told_lem hint_codec a f at) in
    hint_told b f at ∙ ap (λ d. accepted (some_then d hint_of)) one ∙ sym (hint_told a f at)

-- a hint is found exactly where its data are
pub hint_exactly : {bs : List ℕ} (a : AcceptedItems hint_codec bs) (f : FunctionIndex) (at : CodeOffset) (h : Hint) → (ask_hint f at 0 bs ≡ accepted (some h)) ↔ (item_at f at (items hint_codec a) ≡ some (data_of h))
hint_exactly a f at h = (
  λ e. in_then (item_at f at (items hint_codec a)) hint_of (accepted_is (sym (hint_told a f at) ∙ e)) λ d e₁ e₂. e₁ ∙ ap some (data_is d e₂),
  λ e. hint_told a f at ∙ ap accepted (rw (e, hint_is h)),
)

pub no_hint_exactly : {bs : List ℕ} (a : AcceptedItems hint_codec bs) (f : FunctionIndex) (at : CodeOffset) → (ask_hint f at 0 bs ≡ accepted none) ↔ (item_at f at (items hint_codec a) ≡ none)
no_hint_exactly a f at = (
  λ e. by_option (item_at f at (items hint_codec a)) (λ n. n) (λ d n.
      let (h, r) = is_hint d (item_is_hint a f at d n) in
      let there : some_then (item_at f at (items hint_codec a)) hint_of ≡ some h = rw n r in
      absurd (not_some (sym (accepted_is (sym (hint_told a f at) ∙ e)) ∙ there))),
  λ e. hint_told a f at ∙ ap accepted (rw e),
)

-- wherever the payload begins, what is found in it is the data of a hint
pub found_hint : (f : FunctionIndex) (at : CodeOffset) (o : ℕ) (bs : List ℕ) {x : Part} → ask_metadata hint_item f at o bs ≡ accepted (some x) → (h : Hint) × (x.bytes ≡ data_of h)
unfolding ask_metadata judge_metadata metadata item_at
found_hint f at o bs {x} e =
    mapped (item_at f at) (judge_metadata hint_item o bs) e λ t e₁ e₂. judged (metadata hint_item o bs) e₁ λ o' rest e₃.
    let fine = (fill_sound (table_codec (table_codec hint_codec)) o bs e₃).fine in
    let bare : item_at f at (bare_items t) ≡ some x.bytes = item_bare f at t ∙ ap (map_some (λ p. p.bytes)) e₂ in
    in_then (lookup f.0 (bare_items t)) _ bare λ u e₄ e₅.
    let (h, is) = is_hint x.bytes (lookup_fine at.0 (lookup_fine f.0 fine.sorted e₄).1.sorted e₅).1.1 in
    (h, data_is x.bytes is)
