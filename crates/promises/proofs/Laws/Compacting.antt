-- K13: what the promise of the step comes to, after a history and of any table.
use Rattle.std.specs.Prelude.{ℕ, ◌+◌, ◌*◌, ◌%◌, ◌≤◌, ◌<◌, true, List, [], ◌∷◌, ◌↔◌, ◌≡◌, refl, eqb, ltb, leb, length, get_or, drop}
use Rattle.std.proofs.Common.{sym, ap, subst, ◌∙◌, arith, ltb-false, leb-true, leb-false}
use Rattle.std.proofs.lemmas.Bool.{eqb-false}
use Rattle.format.specs.Canonical.{canonical_names, rewrite_names}
use Rattle.format.specs.Laws.Outcomes.{by_test}
use Rattle.format.specs.Names.{known_kind, judge_names}
use Rattle.format.specs.Reading.{accepted, refused, map_judged}
use Rattle.sharing.specs.Arrays.{table_of}
use Rattle.sharing.specs.Blocks.{need, extra}
use Rattle.sharing.specs.Events as events
use Rattle.sharing.specs.Events.{event, calls_of, answers_to, Stored, FreeRun, Damage, UsedBefore, SinceStep, nothing_yet, once_more}
use Rattle.sharing.specs.Histories.{owns}
use Rattle.sharing.specs.Laws.Alone.{same_onward}
use Rattle.sharing.specs.Laws.Compacted as compacted
use Rattle.sharing.specs.Laws.Compacted.{shelf_taken, next_table, next_store, rank_used, step_is, step_goes, step_came, step_behind, asked_alike, closed_alike, opened_eased, alike, eased, step_damaged, step_done}
use Rattle.sharing.specs.Laws.Dense.{Dense, dense_since, free_behind, free_inside}
use Rattle.sharing.specs.Laws.Events.{Present, present}
use Rattle.sharing.specs.Laws.Moving.{tidy_stands}
use Rattle.sharing.specs.Laws.Standing.{Stands}
use Rattle.sharing.specs.Model.{Call, opening, asking, closing, tidying, Answer, refusal}
use Rattle.sharing.specs.Named.{names}
use Rattle.sharing.specs.Step.{After, leaves, lent, step}
use Rattle.sharing.specs.Table.{Table, blank, blocks, length_fits}
use Rattle.sharing.specs.Tidy.{rank}
use Rattle.sharing.specs.declared.Table.{Table as SharedTable}
use Rattle.wakemiono.specs.Boundary.{wm_found, wm_refused}
use Rattle.wakemiono.specs.Calls.{WmTableOpen, WmTableFunctionName, WmTableClose, WmTableCompact}
use Rattle.wakemiono.specs.Shared.{wm_shared, buffer_of, Shares}
use Rattle.wakemiono.specs.declared.WmAnswer.{WmAnswer}
use Rattle.promises.specs.Demands.{TableEvent, History, granted, users_at, MayOpen, OpenReply, open_no_customer, open_not_accepted, open_too_short, open_no_hold, open_no_room, open_stored, open_new, NeverForRoom, NotTheStore, other_length, no_blocks, Onward, none_yet, next_open, next_question, next_close, next_step, Eased, as_before, now_granted, Stepped}
use Rattle.promises.proofs.Laws.Sharing.{seen, sees, past, ForRoom, never_for_room, open_replies, elsewhere}

-- Calls from a table on are steps from it on

one_more : {t u v : Table} {s r x buffer : List ℕ} {es : List TableEvent} {a : WmAnswer} (call : Call) → Shares u r call v x buffer a → events.Onward names seen t s es u r → events.Onward names seen t s (event call (a, buffer) ∷ es) v x
one_more call x h = rw (x.table, x.stored, x.lent, x.says) (once_more call h)

onward_as : {t : SharedTable} {s : List ℕ} {u : SharedTable} {r : List ℕ} {es : List TableEvent} → Onward t s es u r → events.Onward names seen (table_of t) s es (table_of u) r
onward_as none_yet = nothing_yet
onward_as (next_open customer payload work work' is o) = one_more (opening customer payload work) is.shares (onward_as o)
onward_as (next_question customer hold function out out' is o) = one_more (asking customer hold function out) is (onward_as o)
onward_as (next_close customer hold is o) = one_more (closing customer hold) is.shares (onward_as o)
onward_as (next_step is o) = one_more tidying is.shares (onward_as o)

-- A step after a history

module _ (es : List TableEvent) (t u : SharedTable) (s r : List ℕ) (h : History es t s) (a : WmAnswer) (is : WmTableCompact t s u r a) where
  here : Present names granted es (table_of t) s
  here = present names seen granted sees (past h)

  abbrev st : Stands names (table_of t) s here.model
  st = here.stands

  table_is : table_of u ≡ next_table names st
  table_is = is.shares.table ∙ ap (λ (x : After). x.table) (step_is names st)

  store_is : r ≡ next_store names st
  store_is = is.shares.stored ∙ ap (λ (x : After). x.store) (step_is names st)

  -- what is so of what the step leaves
  left : (So : Table → List ℕ → Type 0) → So (next_table names st) (next_store names st) → So (table_of u) r
  left So x = subst (λ (y : Table). So y r) (sym table_is) (subst (λ (z : List ℕ). So (next_table names st) z) (sym store_is) x)

  -- and the other way
  right : (So : Table → List ℕ → Type 0) → So (table_of u) r → So (next_table names st) (next_store names st)
  right So x = subst (λ (y : Table). So y (next_store names st)) table_is (subst (λ (z : List ℕ). So (table_of u) z) store_is x)

  open_eased : {x y : Answer} → compacted.Eased x y → Eased (seen x) (seen y)
  open_eased alike = as_before
  open_eased (eased hold work) = now_granted hold work

  opens_eased : (customer : ℕ) (payload work work' work'' : List ℕ) (v w : SharedTable) (x y : List ℕ) (c d : WmAnswer) → WmTableOpen t s customer payload work v x work' c → WmTableOpen u r customer payload work w y work'' d → Eased (c, work') (d, work'')
  opens_eased customer payload work work' work'' v w x y c d p q =
      let e = left (λ y z. compacted.Eased (step names (table_of t) s (opening customer payload work)).answer (step names y z (opening customer payload work)).answer) (opened_eased names st customer payload work) in
      rw (p.shares.says, p.shares.lent, q.shares.says, q.shares.lent) (open_eased e)

  asks_alike : (customer hold function : ℕ) (out out' out'' : List ℕ) (c d : WmAnswer) → WmTableFunctionName t s customer hold function out out' c → WmTableFunctionName u r customer hold function out out'' d → (d ≡ c) × (out'' ≡ out')
  asks_alike customer hold function out out' out'' c d p q =
      let e = left (λ y z. (step names y z (asking customer hold function out)).answer ≡ (step names (table_of t) s (asking customer hold function out)).answer) (asked_alike names st customer hold function out) in
      (q.says ∙ ap wm_shared e ∙ sym p.says, q.lent ∙ ap buffer_of e ∙ sym p.lent)

  closes_alike : (customer hold : ℕ) (v w : SharedTable) (c d : WmAnswer) → WmTableClose t s customer hold v c → WmTableClose u r customer hold w d → d ≡ c
  closes_alike customer hold v w c d p q =
      let e = left (λ y z. (step names y z (closing customer hold)).answer ≡ (step names (table_of t) s (closing customer hold)).answer) (closed_alike names st customer hold) in
      q.shares.says ∙ ap wm_shared e ∙ sym p.shares.says

  onward_alike : (customer : ℕ) (fs gs : List TableEvent) (v w : SharedTable) (x y : List ℕ) → Onward t s fs v x → Onward u r gs w y → NeverForRoom customer fs → NeverForRoom customer gs → calls_of customer fs ≡ calls_of customer gs → answers_to customer fs ≡ answers_to customer gs
  onward_alike customer fs gs v w x y o p f g e =
      same_onward names seen customer ForRoom (λ buffer. refl) here.model st (left (λ y z. Stands names y z here.model) (tidy_stands names (table_of t) s here.model st)) (onward_as o) (onward_as p) (never_for_room (answers_to customer fs) f) (never_for_room (answers_to customer gs) g) e

  pub stepped : Stepped t u s r a
  stepped = record {
    granted = is.shares.says ∙ ap (λ (x : After). wm_shared x.answer) (step_is names st);
    goes = λ b n p x k. left (λ y z. Stored y z n p × ((get_or y.marks n blank).users ≡ users_at t b)) (step_goes names st b n p x k);
    came = λ n p x. step_came names st n p (right (λ y z. Stored y z n p) x);
    counted = λ b l. (rank (shelf_taken names st) b, rank_used names st b l);
    behind = λ n k. left (λ y z. (length z ≡ length s) × (drop (n * 512) z ≡ drop (n * 512) s)) (step_behind names st n k);
    asks = asks_alike;
    closes = closes_alike;
    opens = opens_eased;
    onward = onward_alike;
  }

-- The free blocks, all together

clash : {p : List ℕ} {number offset : ℕ} → accepted p ≡ refused number offset → ⊥
clash e = let z : ◌≡◌ {A = ℕ} 0 1 = cc in omega arith

not_both : (payload : List ℕ) {p : List ℕ} {number offset : ℕ} → canonical_names known_kind payload ≡ accepted p → judge_names known_kind 0 payload ≡ refused number offset → ⊥
unfolding canonical_names
not_both payload e j = clash (sym e ∙ ap (map_judged rewrite_names) j)

one_form : (payload : List ℕ) {p q : List ℕ} → canonical_names known_kind payload ≡ accepted p → canonical_names known_kind payload ≡ accepted q → p ≡ q
one_form payload e f = let z = sym e ∙ f in cc

module _ (es : List TableEvent) (t : SharedTable) (s : List ℕ) (h : History es t s) (since : SinceStep es) (customer : ℕ) (payload work : List ℕ) (p : List ℕ) (hold n : ℕ) (may : MayOpen es t s customer payload work p hold) (used : UsedBefore (table_of t) s (length (blocks s)) n) where
  now : Present names granted es (table_of t) s
  now = present names seen granted sees (past h)

  dense : Dense (table_of t) s
  dense = dense_since names seen (past h) since

  abbrev TooFew : Type 0
  TooFew = ((b : ℕ) → Stored (table_of t) s b p → ⊥) × (length (blocks s) < n + need (length p))

  all_free : n + need (length p) ≤ length (blocks s) → FreeRun (table_of t) s n (need (length p))
  unfolding need
  all_free l = free_behind names now.stands dense used (extra (length p)) l

  all_inside : (b : ℕ) → FreeRun (table_of t) s b (need (length p)) → n + need (length p) ≤ length (blocks s)
  unfolding need
  all_inside b f = free_inside names now.stands dense used b (extra (length p)) f

  few : ((b : ℕ) → FreeRun (table_of t) s b (need (length p)) → ⊥) → length (blocks s) < n + need (length p)
  few f = by_test (leb (n + need (length p)) (length (blocks s)))
      (λ l. absurd (f n (all_free (leb-true (n + need (length p)) (length (blocks s)) l))))
      (λ l. leb-false (n + need (length p)) (length (blocks s)) l)

  refused_few : {u : SharedTable} {r work' : List ℕ} {a : WmAnswer} → OpenReply es t s customer payload work u r work' a → a ≡ wm_refused 26 0 → TooFew
  refused_few (open_no_customer i) e = absurd (omega (arith, may.there))
  refused_few (open_not_accepted i j) e = absurd (not_both payload may.canonical j)
  refused_few (open_too_short i can l) e = absurd (let z = one_form payload can may.canonical in omega (arith, may.fits, ap length z))
  refused_few (open_no_hold i can l all) e = absurd (all hold may.low may.unused)
  refused_few (open_no_room m absent full) e = let z = one_form payload m.canonical may.canonical in (λ b x. absent b (rw z x), few (λ b f. full b (rw z f)))
  refused_few (open_stored m there) e = absurd (omega (arith, ap (λ (x : WmAnswer). x.kind) e))
  refused_few (open_new m absent free first new) e = absurd (omega (arith, ap (λ (x : WmAnswer). x.kind) e))

  few_refused : {u : SharedTable} {r work' : List ℕ} {a : WmAnswer} → OpenReply es t s customer payload work u r work' a → TooFew → a ≡ wm_refused 26 0
  few_refused (open_no_customer i) f = absurd (omega (arith, may.there))
  few_refused (open_not_accepted i j) f = absurd (not_both payload may.canonical j)
  few_refused (open_too_short i can l) f = absurd (let z = one_form payload can may.canonical in omega (arith, may.fits, ap length z))
  few_refused (open_no_hold i can l all) f = absurd (all hold may.low may.unused)
  few_refused (open_no_room m absent full) f = refl
  few_refused (open_stored {b = b} m there) f = absurd (f.0 b (rw (one_form payload m.canonical may.canonical) at there))
  few_refused (open_new {b = b} m absent free first new) f = absurd (let l = all_inside b (rw (one_form payload m.canonical may.canonical) at free) in omega (arith, f.1))

pub room_after : (es : List TableEvent) (t u : SharedTable) (s r : List ℕ) → History es t s → SinceStep es → (customer : ℕ) (payload work work' : List ℕ) (a : WmAnswer) → WmTableOpen t s customer payload work u r work' a → (p : List ℕ) (hold n : ℕ) → MayOpen es t s customer payload work p hold → UsedBefore (table_of t) s (length (blocks s)) n
    → (a ≡ wm_refused 26 0) ↔ (((b : ℕ) → Stored (table_of t) s b p → ⊥) × (length (blocks s) < n + need (length p)))
room_after es t u s r h since customer payload work work' a is p hold n may used =
    let reply = open_replies es t u s r h customer payload work work' a is in
    (λ e. refused_few es t s h since customer payload work p hold n may used reply e, λ f. few_refused es t s h since customer payload work p hold n may used reply f)

-- Nobody's call

pub nobodys_call : (customer : ℕ) (es : List TableEvent) (r : WmAnswer × List ℕ) → (calls_of customer (event tidying r ∷ es) ≡ calls_of customer es) × (answers_to customer (event tidying r ∷ es) ≡ answers_to customer es)
unfolding calls_of answers_to owns
nobodys_call customer es r = (refl, refl)

-- Refusals

its_store : (t : SharedTable) (s : List ℕ) → (NotTheStore t s → ⊥) → length_fits t.bytes (length s) ≡ true
unfolding length_fits
its_store t s f =
    by_test (eqb (length s) t.bytes) (λ a.
    by_test (eqb (length s % 512) 0) (λ b.
    by_test (ltb 0 (length s)) (λ c.
    by_test (leb (length s) 65536) (λ d. rw (a, b, c, d) refl)
    (λ d. absurd (f (no_blocks (λ n e x y. omega (arith, leb-false (length s) 65536 d))))))
    (λ c. absurd (f (no_blocks (λ n e x y. omega (arith, ltb-false 0 (length s) c))))))
    (λ b. absurd (f (no_blocks (λ n e x y. eqb-false (length s % 512) 0 b (omega arith))))))
    (λ a. absurd (f (other_length (eqb-false (length s) t.bytes a))))

module _ (t u : SharedTable) (s r : List ℕ) where
  unchanged : {k : ℕ} {a : WmAnswer} → step names (table_of t) s tidying ≡ leaves (table_of t) s (refusal k 0 []) → WmTableCompact t s u r a → (a ≡ wm_refused k 0) × (table_of u ≡ table_of t) × (r ≡ s)
  unchanged e is = (is.shares.says ∙ ap (λ (x : After). wm_shared x.answer) e, is.shares.table ∙ ap (λ (x : After). x.table) e, is.shares.stored ∙ ap (λ (x : After). x.store) e)

  pub compact_elsewhere : NotTheStore t s → (a : WmAnswer) → WmTableCompact t s u r a → (a ≡ wm_refused 30 0) × (table_of u ≡ table_of t) × (r ≡ s)
  unfolding lent
  compact_elsewhere n a is = unchanged (elsewhere t s tidying n) is

  module _ (its : NotTheStore t s → ⊥) where
    pub compact_damaged : Damage (table_of t) s → (a : WmAnswer) → WmTableCompact t s u r a → (a ≡ wm_refused 27 0) × (table_of u ≡ table_of t) × (r ≡ s)
    compact_damaged d a is = unchanged (step_damaged names (table_of t) s (its_store t s its) d) is

    pub compact_granted : (Damage (table_of t) s → ⊥) → (a : WmAnswer) → WmTableCompact t s u r a → a ≡ wm_found 0 0 0
    compact_granted f a is = is.shares.says ∙ ap wm_shared (step_done names (table_of t) s (its_store t s its) f)
