-- K12: what the promises of the calls on the shared table come to, after a history.
use Rattle.std.specs.Prelude.{ℕ, ◌%◌, ◌/◌, ◌≤◌, ◌<◌, true, false, ◌&&◌, ◌≢◌, ◌⊎◌, ◌≡◌, eqb, ltb, leb, length, take, drop}
use mathlib.Core.List.{List, [], ◌∷◌}
use Rattle.std.proofs.Common.{inl, inr, sym, subst, ◌∙◌, arith, eqb-true, ltb-true, ltb-false, leb-true, leb-false}
use Rattle.std.proofs.Math.Option.{Option, none, some}
use Rattle.std.proofs.Math.Path.{refl, ap}
use Rattle.std.proofs.Math.Seq.{take-append_seam}
use Rattle.format.specs.Canonical.{canonical_names, rewrite_names}
use Rattle.format.specs.Laws.Options.{not_some, some_is}
use Rattle.format.specs.Laws.Outcomes.{by_test, on_both, mapped, refused_exactly, false_true}
use Rattle.format.specs.Names.{known_kind, judge_names}
use Rattle.format.specs.Options.{is_some}
use Rattle.format.specs.Parts.{Part}
use Rattle.format.specs.Questions.{answer, asked, ask_at, ask, as_place, as_told}
use Rattle.format.specs.Reading.{Judged, accepted, refused}
use Rattle.format.proofs.Theorems.{questions_answered}
use Rattle.format.specs.declared.Question.{Question}
use Rattle.format.specs.declared.Question.TheVariants.{FunctionName}
use Rattle.format.specs.declared.Query.TheVariants.{NameOf}
use Rattle.grammar.specs.Modules.{Among, here, further}
use Rattle.sharing.specs.Arrays.{table_of, Full}
use Rattle.sharing.specs.Events.{event, Past, begun, called, Never, never, nor, yes, is_hold, turned, opened_with, calls_of, answers_to, Stored}
use Rattle.sharing.specs.Laws.Alone.{same_answers}
use Rattle.sharing.specs.Laws.Answers.{held_answers, none_held, no_customer}
use Rattle.sharing.specs.Laws.Events.{present}
use Rattle.sharing.specs.Laws.NeverDamaged.{number, never_above}
use Rattle.sharing.specs.Laws.Opens.{Ready, Opens, opens_as}
use Rattle.sharing.specs.Laws.Refusals.{step_kept, refused_keeps}
use Rattle.sharing.specs.Laws.Same.{same_table}
use Rattle.sharing.specs.Laws.Shown.{form_answers}
use Rattle.sharing.specs.Laws.Stored.{users_counted, used_stored, stored_while_used, stored_once}
use Rattle.sharing.specs.Model.{Call, opening, asking, closing, tidying, Answer, refusal, granted as granted_as, nothing, found, closed, tidied, over, replied}
use Rattle.sharing.specs.Named.{names, name_in, function_name}
use Rattle.sharing.specs.Step.{After, leaves, lent, step}
use Rattle.sharing.specs.Table.{Table, blocks, length_fits}
use Rattle.sharing.specs.declared.Table.{Table as SharedTable}
use Rattle.wakemiono.specs.Boundary.{wm_none, wm_found, wm_refused, wm_place}
use Rattle.wakemiono.specs.Calls.{WmName, WmTableOpen, WmTableFunctionName, WmTableClose}
use Rattle.wakemiono.specs.Shared.{wm_shared, buffer_of, Shares}
use Rattle.wakemiono.specs.declared.WmAnswer.{WmAnswer}
use Rattle.promises.specs.Demands.{FoundIn, TableEvent, History, its_start, an_open, a_question, a_close, a_step, granted, held_by, opens_of, closes_of, OpensLessCloses, users_at, numbers, is_among, MayOpen, OpenReply, open_no_customer, open_not_accepted, open_too_short, open_no_hold, open_no_room, open_stored, open_new, QuestionReply, ask_no_customer, ask_not_open, ask_none, ask_too_short, ask_found, CloseReply, close_no_customer, close_not_open, close_open, NeverForRoom, OpenedIn, NotTheStore, other_length, no_blocks}
use Rattle.promises.specs.Laws.Refusing.{names_fair}
use Rattle.promises.specs.Laws.Saying.{found_said}

-- what is seen of an answer
abbrev pub seen : Answer → WmAnswer × List ℕ
seen a = (wm_shared a, buffer_of a)

pub sees : (a : Answer) → granted (seen a) ≡ yes a
unfolding yes
sees (refusal n at buffer) = refl
sees (granted_as hold work) = refl
sees (nothing out) = refl
sees (found size out) = refl
sees closed = refl
sees tidied = refl

-- A history of the calls is one of the steps

one_more : {es : List TableEvent} {t u : Table} {s r buffer : List ℕ} {a : WmAnswer} (call : Call) → Shares t s call u r buffer a → Past names seen es t s → Past names seen (event call (a, buffer) ∷ es) u r
one_more call x h = rw (x.table, x.stored, x.lent, x.says) (called call h)

pub past : {es : List TableEvent} {t : SharedTable} {s : List ℕ} → History es t s → Past names seen es (table_of t) s
past (its_start n e more few is) = rw is.0 (begun n e more few)
past (an_open customer payload work work' is h) = one_more (opening customer payload work) is.shares (past h)
past (a_question customer hold function out out' is h) = one_more (asking customer hold function out) is (past h)
past (a_close customer hold is h) = one_more (closing customer hold) is.shares (past h)
past (a_step is h) = one_more tidying is.shares (past h)

pub full : {es : List TableEvent} {t : SharedTable} {s : List ℕ} → History es t s → Full t
full (its_start n e more few is) = is.1
full (an_open customer payload work work' is h) = is.full
full (a_question customer hold function out out' is h) = full h
full (a_close customer hold is h) = is.full
full (a_step is h) = is.full

-- An open

pub not_accepted_form : (payload : List ℕ) {n at : ℕ} → canonical_names known_kind payload ≡ refused n at → judge_names known_kind 0 payload ≡ refused n at
unfolding canonical_names
not_accepted_form payload e = (refused_exactly rewrite_names (judge_names known_kind 0 payload)).0 e

module _ (es : List TableEvent) (t : SharedTable) (s : List ℕ) (customer : ℕ) (payload work : List ℕ) where
  may_open : {q : List ℕ} {h : ℕ} → Ready names (λ k. held_by customer k es) customer payload work q h → MayOpen es t s customer payload work q h
  may_open x = record { there = x.there; canonical = unfold names in x.canonical; fits = x.fits; low = x.low; unused = x.free; lowest = x.others }

  open_reply : (u : SharedTable) {r work' : List ℕ} {a : WmAnswer} {x : After} → Full t → Full u → Opens names (λ k. held_by customer k es) (table_of t) s customer payload work x → table_of u ≡ x.table → r ≡ x.store → work' ≡ buffer_of x.answer → a ≡ wm_shared x.answer → OpenReply es t s customer payload work u r work' a
  unfolding over names
  open_reply u ft fu (Opens.no_customer i) e f g k = rw (same_table u t fu ft e, f, g, k) (open_no_customer i)
  open_reply u ft fu (Opens.not_accepted i can) e f g k = rw (same_table u t fu ft e, f, g, k) (open_not_accepted i (not_accepted_form payload can))
  open_reply u ft fu (Opens.too_short i can l) e f g k = rw (same_table u t fu ft e, f, g, k) (open_too_short i can l)
  open_reply u ft fu (Opens.all_in_use i can l all) e f g k = rw (same_table u t fu ft e, f, g, k) (open_no_hold i can l all)
  open_reply u ft fu (Opens.no_room ready absent full) e f g k = rw (same_table u t fu ft e, f, g, k) (open_no_room (may_open ready) absent full)
  open_reply u ft fu (Opens.joins ready there) e f g k = rw (f, g, k) (open_stored (may_open ready) there)
  open_reply u ft fu (Opens.comes ready absent free first new) e f g k = rw (f, g, k) (open_new (may_open ready) absent free first (rw (← e) at new))

pub open_replies : (es : List TableEvent) (t u : SharedTable) (s r : List ℕ) → History es t s → (customer : ℕ) (payload work work' : List ℕ) (a : WmAnswer) → WmTableOpen t s customer payload work u r work' a → OpenReply es t s customer payload work u r work' a
open_replies es t u s r h customer payload work work' a is =
    open_reply es t s customer payload work u (full h) is.full (opens_as names seen granted sees (past h) customer payload work) is.shares.table is.shares.stored is.shares.lent is.shares.says

-- A question

abbrev function_named : ℕ → Question
function_named function = FunctionName (record { 0 = function })

-- of a payload that is accepted
answer_accepted : (payload : List ℕ) {q : List ℕ} (function : ℕ) → canonical_names known_kind payload ≡ accepted q → (x : Option Part) × (ask known_kind (function_named function) payload ≡ accepted x)
unfolding canonical_names ask ask_at asked
answer_accepted payload function e = mapped rewrite_names (judge_names known_kind 0 payload) e λ v j same. (answer 1 (NameOf function) v, rw j refl)

none_named : (j : Judged (Option Part)) (x : Option Part) → j ≡ accepted x → name_in (as_told j) ≡ none → wm_none ≡ wm_place (as_place j)
unfolding name_in as_told as_place
none_named j none e n = rw e refl
none_named j (some p) e n = absurd (not_some (sym (rw e at n)))

some_named : (j : Judged (Option Part)) (x : Option Part) → j ≡ accepted x → {name : List ℕ} → name_in (as_told j) ≡ some name → as_told j ≡ accepted (some name)
unfolding name_in as_told
some_named j none e n = absurd (not_some (rw e at n))
some_named j (some p) e n = rw e (ap (λ y. accepted y) (rw e at n))

module _ (es : List TableEvent) (t : SharedTable) (s : List ℕ) (h : History es t s) (customer hold function : ℕ) (out out' : List ℕ) (a : WmAnswer) (is : WmTableFunctionName t s customer hold function out out' a) where
  answered_as : {x : Answer} → (step names (table_of t) s (asking customer hold function out)).answer ≡ x → QuestionReply es customer hold function out (buffer_of x) (wm_shared x) → QuestionReply es customer hold function out out' a
  answered_as e q = rw (is.lent, is.says, e) q

  by_name : (payload q : List ℕ) → held_by customer hold es ≡ some payload → canonical_names known_kind payload ≡ accepted q → (o : Option (List ℕ)) → function_name payload function ≡ o → QuestionReply es customer hold function out (buffer_of (replied o out)) (wm_shared (replied o out))
  unfolding replied function_name over
  by_name payload q e can none n = let x = answer_accepted payload function can in ask_none e (none_named (ask known_kind (function_named function) payload) x.0 x.1 n)
  by_name payload q e can (some name) n =
      let x = answer_accepted payload function can in
      let f = (found_said payload (ask known_kind (function_named function) payload) (λ y k. (questions_answered known_kind).very_bytes (function_named function) payload k) name).1 (some_named (ask known_kind (function_named function) payload) x.0 x.1 n) in
      by_test (leb (length name) (length out))
      (λ b. rw b (ask_found (wm_place (as_place (ask known_kind (function_named function) payload))) e refl f (leb-true (length name) (length out) b)))
      (λ b. rw b (ask_too_short (wm_place (as_place (ask known_kind (function_named function) payload))) e refl f (leb-false (length name) (length out) b)))

  by_held : customer < 16 → (o : Option (List ℕ)) → held_by customer hold es ≡ o → QuestionReply es customer hold function out out' a
  unfolding names
  by_held i none e = answered_as ((none_held names seen granted sees (past h) customer hold i e).not_asked function out) (ask_not_open i e)
  by_held i (some payload) e =
      let x = held_answers names seen granted sees (past h) customer hold payload e in
      answered_as (x.replies function out ∙ ap (λ (o : Option (List ℕ)). replied o out) (form_answers payload x.form x.canonical function)) (by_name payload x.form e x.canonical (function_name payload function) refl)

  pub ask_replies : QuestionReply es customer hold function out out' a
  ask_replies = by_test (ltb customer 16)
      (λ b. by_held (ltb-true customer 16 b) (held_by customer hold es) refl)
      (λ b. let i = ltb-false customer 16 b in answered_as ((no_customer names seen granted sees (past h) customer hold i).not_asked function out) (ask_no_customer i))

-- A close

module _ (es : List TableEvent) (t u : SharedTable) (s : List ℕ) (h : History es t s) (customer hold : ℕ) (a : WmAnswer) (is : WmTableClose t s customer hold u a) where
  refused_as : {n : ℕ} → (step names (table_of t) s (closing customer hold)).answer ≡ refusal n 0 [] → CloseReply es t customer hold t (wm_refused n 0) → CloseReply es t customer hold u a
  refused_as {n} e c =
      let k = refused_keeps (table_of t) s (step names (table_of t) s (closing customer hold)) n 0 [] (step_kept (table_of t) s names (closing customer hold)) e in
      let z : a ≡ wm_refused n 0 = is.shares.says ∙ ap wm_shared e in
      rw (same_table u t is.full (full h) (is.shares.table ∙ k.0), z) c

  close_held : customer < 16 → (o : Option (List ℕ)) → held_by customer hold es ≡ o → CloseReply es t customer hold u a
  close_held i none e = refused_as (none_held names seen granted sees (past h) customer hold i e).not_closed (close_not_open i e)
  close_held i (some payload) e = let z : a ≡ wm_found 0 0 0 = is.shares.says ∙ ap wm_shared (held_answers names seen granted sees (past h) customer hold payload e).closes in rw z (close_open e)

  pub close_replies : CloseReply es t customer hold u a
  close_replies = by_test (ltb customer 16)
      (λ b. close_held (ltb-true customer 16 b) (held_by customer hold es) refl)
      (λ b. let i = ltb-false customer 16 b in refused_as (no_customer names seen granted sees (past h) customer hold i).not_closed (close_no_customer i))

-- What stands in the store

module _ {es : List TableEvent} {t : SharedTable} {s : List ℕ} (h : History es t s) where
  pub table_users : (b : ℕ) (p : List ℕ) → Stored (table_of t) s b p → OpensLessCloses (users_at t b) p es
  table_users = users_counted names seen granted sees (past h)

  pub table_used : (b : ℕ) → b < length (blocks s) → 0 < users_at t b → (p : List ℕ) × Stored (table_of t) s b p
  table_used = used_stored names seen granted sees (past h)

  pub table_kept : (p : List ℕ) → closes_of p es < opens_of p es → (b : ℕ) × Stored (table_of t) s b p
  table_kept = stored_while_used names seen granted sees (past h)

  pub table_once : (b d : ℕ) (p : List ℕ) → Stored (table_of t) s b p → Stored (table_of t) s d p → b ≡ d
  table_once = stored_once names seen granted sees (past h)

-- Isolation

abbrev pub ForRoom : WmAnswer × List ℕ → Type 0
ForRoom r = r.0 ≡ wm_refused 26 0

pub never_for_room : (l : List (WmAnswer × List ℕ)) → ((buffer : List ℕ) → Among (wm_refused 26 0, buffer) l → ⊥) → Never ForRoom l
never_for_room [] f = never
never_for_room (r ∷ l) f = nor (λ e. f r.1 (subst (λ (x : WmAnswer). Among (x, r.1) (r ∷ l)) e here)) (never_for_room l (λ buffer m. f buffer (further m)))

pub isolated_customer : (customer : ℕ) (es fs : List TableEvent) (t u : SharedTable) (s r : List ℕ) → History es t s → History fs u r → NeverForRoom customer es → NeverForRoom customer fs → calls_of customer es ≡ calls_of customer fs → answers_to customer es ≡ answers_to customer fs
isolated_customer customer es fs t u s r h k f g e =
    same_answers names seen customer ForRoom (λ buffer. refl) (past h) (past k) (never_for_room (answers_to customer es) f) (never_for_room (answers_to customer fs) g) e

-- A name that is shown

is_hold_lem : (h : ℕ) (o : Option ℕ) → is_hold h o ≡ true → o ≡ some h
unfolding is_hold
is_hold_lem h none e = false_true e
is_hold_lem h (some k) e = ap (λ (n : ℕ). some n) (sym (eqb-true h k e))

module _ (c h : ℕ) (payload : List ℕ) where
  opened_later : {es : List TableEvent} (e : TableEvent) → OpenedIn c h payload es → OpenedIn c h payload (e ∷ es)
  opened_later e o = (o.0, o.1, further o.2, o.3)

  opened_by : (es : List TableEvent) (call : Call) (r : WmAnswer × List ℕ) (was : Option (List ℕ)) → (was ≡ some payload → OpenedIn c h payload es) → turned c h call (granted r) was ≡ some payload → OpenedIn c h payload (event call r ∷ es)
  unfolding turned
  opened_by es (opening d p work) r was before e = by_test (eqb c d && is_hold h (granted r))
      (λ t. on_both (eqb c d) (is_hold h (granted r)) t λ x y. (work, r, rw (eqb-true c d x, ← some_is (rw t at e)) here, is_hold_lem h (granted r) y))
      (λ t. opened_later (event (opening d p work) r) (before (rw t at e)))
  opened_by es (asking d hold index out) r was before e = opened_later (event (asking d hold index out) r) (before e)
  opened_by es (closing d hold) r was before e = by_test (eqb c d && (eqb h hold && is_some (granted r)))
      (λ t. absurd (not_some (rw t at e)))
      (λ t. opened_later (event (closing d hold) r) (before (rw t at e)))
  opened_by es tidying r was before e = opened_later (event tidying r) (before e)

  opened_in : (es : List TableEvent) → held_by c h es ≡ some payload → OpenedIn c h payload es
  unfolding opened_with
  opened_in [] e = absurd (not_some e)
  opened_in (x ∷ es) e = opened_by es x.call x.answer (held_by c h es) (λ k. opened_in es k) e

shown_in : {es : List TableEvent} {customer hold function : ℕ} {out out' : List ℕ} {a : WmAnswer} → QuestionReply es customer hold function out out' a → a.kind ≡ 1
    → (payload : List ℕ) × (held_by customer hold es ≡ some payload) × ((b : WmAnswer) → WmName (function_named function) payload b → FoundIn payload b (take a.length out'))
shown_in (ask_no_customer i) k = absurd (omega arith)
shown_in (ask_not_open i e) k = absurd (omega arith)
shown_in (ask_none e n) k = absurd (omega arith)
shown_in (ask_too_short b e n f l) k = absurd (omega arith)
shown_in {out = out} (ask_found {payload = payload} {name = name} b e n f l) k = (payload, e, λ c m. rw (m ∙ sym n, take-append_seam name (drop (length name) out)) f)

pub shown_name : (es : List TableEvent) (t : SharedTable) (s : List ℕ) → History es t s → (customer hold function : ℕ) (out out' : List ℕ) (a : WmAnswer) → WmTableFunctionName t s customer hold function out out' a → a.kind ≡ 1
    → (payload : List ℕ) × OpenedIn customer hold payload es × ((b : WmAnswer) → WmName (function_named function) payload b → FoundIn payload b (take a.length out'))
shown_name es t s h customer hold function out out' a is k =
    let x = shown_in (ask_replies es t s h customer hold function out out' a is) k in
    (x.0, opened_in customer hold x.0 es x.1, x.2)

-- 27 and 30

number_of : (a : Answer) {n at : ℕ} → wm_shared a ≡ wm_refused n at → number a ≡ n
number_of (refusal m o buffer) e = ap (λ (x : WmAnswer). x.code) e
number_of (granted_as hold work) e = absurd (omega (arith, ap (λ (x : WmAnswer). x.kind) e))
number_of (nothing out) e = absurd (omega (arith, ap (λ (x : WmAnswer). x.kind) e))
number_of (found size out) e = absurd (omega (arith, ap (λ (x : WmAnswer). x.kind) e))
number_of closed e = absurd (omega (arith, ap (λ (x : WmAnswer). x.kind) e))
number_of tidied e = absurd (omega (arith, ap (λ (x : WmAnswer). x.kind) e))

-- payloads are refused with neither
pub not_own : (k : ℕ) → is_among numbers k ≡ false → (p : List ℕ) (n at : ℕ) → names.canonical p ≡ refused n at → n ≢ k
unfolding names
not_own k l p n at e z = no_both (sym l ∙ rw z at ((names_fair known_kind 0 p).numbered n at (not_accepted_form p e)))
  where
    no_both : false ≡ true → ⊥
    no_both e = false_true e

at_head : {A : Type 0} {x y : A} {ys : List A} → Among x (y ∷ ys) → (x ≡ y) ⊎ Among x ys
at_head here = inl refl
at_head (further m) = inr m

module _ (k : ℕ) (high : 26 < k) (other : is_among numbers k ≡ false) where
  never_here : {es : List TableEvent} {t : Table} {s : List ℕ} → Past names seen es t s → (call : Call) (r : WmAnswer × List ℕ) → Among (event call r) es → (at : ℕ) → r.0 ≡ wm_refused k at → ⊥
  never_here (begun n k more few) call r m at e = elim m [ ]
  never_here (called {es = es} {t = t} {s = s} asked past) call r m at e = on (λ n. never_here past call r n at e) (at_head m)
    where
      on : (Among (event call r) es → ⊥) → (event call r ≡ event asked (seen (step names t s asked).answer)) ⊎ Among (event call r) es → ⊥
      on before (inl z) = never_above names k high (not_own k other) t s (present names seen granted sees past).model (present names seen granted sees past).stands asked (number_of (step names t s asked).answer (sym (ap (λ (x : TableEvent). x.answer.0) z) ∙ e))
      on before (inr n) = before n

pub never_refused : (es : List TableEvent) (t : SharedTable) (s : List ℕ) → History es t s → (call : Call) (r : WmAnswer × List ℕ) → Among (event call r) es → (n at : ℕ) → r.0 ≡ wm_refused n at → (n ≢ 27) × (n ≢ 30)
never_refused es t s h call r m n at e = (λ z. never_here 27 (omega arith) refl (past h) call r m at (rw z at e), λ z. never_here 30 (omega arith) refl (past h) call r m at (rw z at e))

-- Another store

pub not_its : (t : SharedTable) (s : List ℕ) → NotTheStore t s → length_fits t.bytes (length s) ≡ false
unfolding length_fits
not_its t s n = by_test (length_fits t.bytes (length s))
    (λ y. absurd (on_both (eqb (length s) t.bytes) (eqb (length s % 512) 0 && (ltb 0 (length s) && leb (length s) 65536)) y λ a b.
    on_both (eqb (length s % 512) 0) (ltb 0 (length s) && leb (length s) 65536) b λ c d.
    on_both (ltb 0 (length s)) (leb (length s) 65536) d λ e f.
    on n (eqb-true (length s) t.bytes a) (eqb-true (length s % 512) 0 c) (ltb-true 0 (length s) e) (leb-true (length s) 65536 f)))
    (λ y. y)
  where
    on : NotTheStore t s → length s ≡ t.bytes → length s % 512 ≡ 0 → 0 < length s → length s ≤ 65536 → ⊥
    on (other_length g) a b c d = g a
    on (no_blocks g) a b c d = g (length s / 512) (omega arith) (omega arith) (omega arith)

pub elsewhere : (t : SharedTable) (s : List ℕ) (call : Call) → NotTheStore t s → step names (table_of t) s call ≡ leaves (table_of t) s (refusal 30 0 (lent call))
unfolding step
elsewhere t s call n = rw (not_its t s n)

pub open_refused : (t u : SharedTable) (s r : List ℕ) → NotTheStore t s → (customer : ℕ) (payload work work' : List ℕ) (a : WmAnswer) → WmTableOpen t s customer payload work u r work' a → (a ≡ wm_refused 30 0) × (table_of u ≡ table_of t) × (r ≡ s) × (work' ≡ work)
unfolding lent
open_refused t u s r n customer payload work work' a is =
    let e = elsewhere t s (opening customer payload work) n in
    (is.shares.says ∙ ap (λ (x : After). wm_shared x.answer) e, is.shares.table ∙ ap (λ (x : After). x.table) e, is.shares.stored ∙ ap (λ (x : After). x.store) e, is.shares.lent ∙ ap (λ (x : After). buffer_of x.answer) e)

pub ask_refused : (t : SharedTable) (s : List ℕ) → NotTheStore t s → (customer hold function : ℕ) (out out' : List ℕ) (a : WmAnswer) → WmTableFunctionName t s customer hold function out out' a → (a ≡ wm_refused 30 0) × (out' ≡ out)
unfolding lent
ask_refused t s n customer hold function out out' a is =
    let e = elsewhere t s (asking customer hold function out) n in
    (is.says ∙ ap (λ (x : After). wm_shared x.answer) e, is.lent ∙ ap (λ (x : After). buffer_of x.answer) e)

pub close_refused : (t u : SharedTable) (s : List ℕ) → NotTheStore t s → (customer hold : ℕ) (a : WmAnswer) → WmTableClose t s customer hold u a → (a ≡ wm_refused 30 0) × (table_of u ≡ table_of t)
close_refused t u s n customer hold a is =
    let e = elsewhere t s (closing customer hold) n in
    (is.shares.says ∙ ap (λ (x : After). wm_shared x.answer) e, is.shares.table ∙ ap (λ (x : After). x.table) e)
