-- What was accepted, taken apart: a list and its first, an entry and its hints. Nothing here is about code.
use Prim.Native.Nat.{ℕ, zero, suc, ◌+◌, ◌-◌, ◌≤◌, ◌<◌}
use mathlib.Core.List.{List, [], ◌∷◌}
use mathlib.Core.Path.{◌≡◌, sym, ap, ◌∙◌}
use native.Mathlib.Omega.{arith}
use borrow.Author.Rules.{rules}
use borrow.Author.Tests.{leb-true, le-leb}
use lib.Dec.{eqb, leb}
use lib.ListN.{length}
use Rattle.format.specs.Reading.{got, Reader}
use Rattle.format.specs.Numbers.{number}
use Rattle.format.specs.Older.{OlderHint, OlderEntry, times, vector, zero_byte, kind_numbered, older_kind, older_hint, older_entry}
use Rattle.format.specs.Laws.Outcomes.{by_test, not_got, got_value, got_next, got_rest, in_turn, passed}
use Rattle.format.proofs.Laws.Codecs.{number_sound}
use Rattle.format.proofs.Laws.Numbers.{shortest_positive}
use Rattle.format.proofs.Laws.Passing.{Passes, number_passes, Reaches, reach, reach_step}
use Rattle.reading.specs.Cursors.{left}
use Rattle.reading.specs.Standing.{Stands, Known}
use Rattle.reading.specs.declared.Cursor.{Cursor}
use Rattle.reading.proofs.Same.{same_cursor}
use Rattle.reading.proofs.Standing.{Passable, stand}
use Rattle.older.specs.Again.{StandsHint}
use Rattle.older.specs.Seeking.{opening}

-- Readings that went well, taken apart
module _ {A : Type 0} (read : Reader A) where
  in_times {ℓ} : {C : Type ℓ} (n o : ℕ) (bs : List ℕ) {vs : List A} {o' : ℕ} {rest : List ℕ} → times read (suc n) o bs ≡ got vs o' rest
      → ((v : A) (o₁ : ℕ) (r₁ : List ℕ) (more : List A) → read o bs ≡ got v o₁ r₁ → times read n o₁ r₁ ≡ got more o' rest → v ∷ more ≡ vs → C) → C
  unfolding times
  in_times n o bs e k =
      in_turn (read o bs) _ e λ v o₁ r₁ e₁ e₂. in_turn (times read n o₁ r₁) _ e₂ λ more o₂ r₂ e₃ e₄.
      k v o₁ r₁ more e₁ (rw (got_next e₄, got_rest e₄) at e₃) (got_value e₄)

in_hint {ℓ} : {C : Type ℓ} (o : ℕ) (bs : List ℕ) {h : OlderHint} {o' : ℕ} {rest : List ℕ} → older_hint o bs ≡ got h o' rest
    → ((k o₁ : ℕ) (r₁ : List ℕ) (at : ℕ) → number o bs ≡ got k o₁ r₁ → k ≤ 1 → number o₁ r₁ ≡ got at o' rest → record { kind = kind_numbered k; offset = at } ≡ h → C) → C
unfolding older_hint older_kind
in_hint o bs e c =
    in_turn (older_kind o bs) _ e λ h o₁ r₁ e₁ e₂. in_turn (number o₁ r₁) _ e₂ λ at o₂ r₂ e₃ e₄.
    in_turn (number o bs) _ e₁ λ k o₃ r₃ e₅ e₆. passed (leb k 1) _ _ _ _ _ e₆ λ t e₇.
    c k o₃ r₃ at e₅ (leb-true k 1 t) (rw (got_next e₄, got_rest e₄, ← got_next e₇, ← got_rest e₇) at e₃) (rw (got_value e₇) (got_value e₄))

in_zero {ℓ} : {C : Type ℓ} (o : ℕ) (bs : List ℕ) {v : Unit {0}} {o' : ℕ} {rest : List ℕ} → zero_byte o bs ≡ got v o' rest → ((b : ℕ) → bs ≡ b ∷ rest → suc o ≡ o' → C) → C
unfolding zero_byte
in_zero o [] e k = absurd (not_got e)
in_zero o (b ∷ bs) e k =
    by_test (eqb b 0)
    (λ t. let e' : got tt (suc o) bs ≡ got _ _ _ = rw t at e in k b (ap (λ r. b ∷ r) (got_rest e')) (got_next e'))
    (λ t. absurd (not_got (rw t at e)))

-- an entry: its function, the zero byte, how many hints, and these
in_entry {ℓ} : {C : Type ℓ} (o : ℕ) (bs : List ℕ) {e : OlderEntry} {o' : ℕ} {rest : List ℕ} → older_entry o bs ≡ got e o' rest
    → ((f o₁ : ℕ) (r₁ : List ℕ) (n o₂ : ℕ) (r₂ : List ℕ) (hs : List OlderHint) → opening o bs ≡ got f o₁ r₁ → number o₁ r₁ ≡ got n o₂ r₂ → times older_hint n o₂ r₂ ≡ got hs o' rest → record { function = f; hints = hs } ≡ e → C) → C
unfolding older_entry opening vector
in_entry o bs e k =
    in_turn (number o bs) _ e λ f o₁ r₁ e₁ e₂. in_turn (zero_byte o₁ r₁) _ e₂ λ u o₂ r₂ e₃ e₄.
    in_turn (vector older_hint o₂ r₂) _ e₄ λ hs o₃ r₃ e₅ e₆. in_turn (number o₂ r₂) _ e₅ λ n o₄ r₄ e₇ e₈.
    k f o₂ r₂ n o₄ r₄ hs (rw (e₁, e₃)) e₇ (rw (got_next e₆, got_rest e₆) at e₈) (got_value e₆)

in_opening {ℓ} : {C : Type ℓ} (o : ℕ) (bs : List ℕ) {f o' : ℕ} {rest : List ℕ} → opening o bs ≡ got f o' rest
    → ((o₁ : ℕ) (r₁ : List ℕ) (u : Unit {0}) → number o bs ≡ got f o₁ r₁ → zero_byte o₁ r₁ ≡ got u o' rest → C) → C
unfolding opening
in_opening o bs e k =
    in_turn (number o bs) _ e λ f o₁ r₁ e₁ e₂. in_turn (zero_byte o₁ r₁) _ e₂ λ u o₂ r₂ e₃ e₄.
    k o₁ r₁ u (rw (got_value e₄) at e₁) (rw (got_next e₄, got_rest e₄) at e₃)

-- Each goes byte by byte
module _ (Holds : ℕ → List ℕ → Type 0) (step : (o b : ℕ) (bs : List ℕ) → Holds o (b ∷ bs) → Holds (suc o) bs) where
  hint_passes : Passes Holds older_hint
  hint_passes o bs h o' rest holds e =
      in_hint o bs e λ k o₁ r₁ at e₁ small e₂ is.
      number_passes Holds step o₁ r₁ at o' rest (number_passes Holds step o bs k o₁ r₁ holds e₁) e₂

  opening_passes : Passes Holds opening
  opening_passes o bs f o' rest holds e =
      in_opening o bs e λ o₁ r₁ u e₁ e₂. in_zero o₁ r₁ e₂ λ b is next.
      rw (← next) (step o₁ b rest (rw is at (number_passes Holds step o bs f o₁ r₁ holds e₁)))

  times_pass : {A : Type 0} (read : Reader A) → Passes Holds read → (n : ℕ) → Passes Holds (times read n)
  unfolding times
  times_pass read passes zero o bs vs o' rest holds e = rw (← got_next e, ← got_rest e) holds
  times_pass read passes (suc n) o bs vs o' rest holds e =
      in_times read n o bs e λ v o₁ r₁ more e₁ e₂ is.
      times_pass read passes n o₁ r₁ more o' rest (passes o bs v o₁ r₁ holds e₁) e₂

  entry_passes : Passes Holds older_entry
  entry_passes o bs v o' rest holds e =
      in_entry o bs e λ f o₁ r₁ n o₂ r₂ hs e₁ e₂ e₃ is.
      times_pass older_hint hint_passes n o₂ r₂ hs o' rest (number_passes Holds step o₁ r₁ n o₂ r₂ (opening_passes o bs f o₁ r₁ holds e₁) e₂) e₃

pub opening_passable : Passable opening
opening_passable = opening_passes

pub hint_passable : Passable older_hint
hint_passable = hint_passes

pub entry_passable : Passable older_entry
entry_passable = entry_passes

pub times_passable : {A : Type 0} {read : Reader A} → Passable read → (n : ℕ) → Passable (times read n)
times_passable {read = read} p n H step = times_pass H step read (p H step) n

-- A list that stands there: its first, and those behind it
pub record After {A : Type 0} (read : Reader A) (n : ℕ) (v : A) (vs : List A) (s : List ℕ) (next last : Cursor) : Type 0 where
  pub more : List A
  pub stands : Stands (times read n) s next more last
  pub is : v ∷ more ≡ vs

module _ {A : Type 0} (read : Reader A) {s : List ℕ} {c last : Cursor} {vs : List A} where
  first_one : Passable read → (n : ℕ) → Stands (times read (suc n)) s c vs last → Known read s c
  first_one passes n w =
      in_times read n c.at (left s c) w.reads λ v o₁ r₁ more e₁ e₂ is.
      record { value = _; next = _; stands = stand passes w.inside e₁ }

  pub times_first : Passable read → (n : ℕ) → 0 < n → Stands (times read n) s c vs last → Known read s c
  times_first passes zero h w = absurd (omega arith)
  times_first passes (suc n) h w = first_one passes n w

  times_rest : (n : ℕ) {v : A} {d : Cursor} → Stands (times read (suc n)) s c vs last → Stands read s c v d → After read n v vs s d last
  times_rest n w one =
      in_times read n c.at (left s c) w.reads λ v o₁ r₁ more e₁ e₂ is.
      let same = sym e₁ ∙ one.reads in
      record {
        more = more;
        stands = record { inside = one.behind; reads = rw (got_next same, got_rest same) at e₂; behind = w.behind; same_end = w.same_end ∙ sym one.same_end };
        is = rw (got_value same) at is;
      }

  pub times_after : (n : ℕ) {v : A} {d : Cursor} → 0 < n → Stands (times read n) s c vs last → Stands read s c v d → After read (n - 1) v vs s d last
  times_after zero h w one = absurd (omega arith)
  times_after (suc n) h w one = let d : suc n - 1 ≡ n = omega arith in rw d (times_rest n w one)

  pub times_none : (n : ℕ) → n ≤ 0 → Stands (times read n) s c vs last → ([] ≡ vs) × (c ≡ last)
  unfolding times
  times_none zero h w = (got_value w.reads, same_cursor c last (got_next w.reads) (sym w.same_end))
  times_none (suc n) h w = absurd (omega arith)

-- what stands there ends no earlier than it begins; a number takes a byte at least, so a hint takes two
pub goes_ahead : {A : Type 0} {read : Reader A} {s : List ℕ} {c : Cursor} {v : A} {next : Cursor} → Passable read → Stands read s c v next → c.at ≤ next.at
goes_ahead {s = s} {c} passes w = passes (λ o bs. c.at ≤ o) (λ o b bs h. omega (arith, h)) c.at (left s c) _ _ _ (omega arith) w.reads

number_way : (o : ℕ) (bs : List ℕ) {v o' : ℕ} {rest : List ℕ} → number o bs ≡ got v o' rest → o < o'
number_way o bs {v} e =
    let far = reach (λ end. number_passes (Reaches end) (reach_step end)) o bs e in
    omega (arith, far, (number_sound o bs e).shorter, shortest_positive v)

pub hint_way : {s : List ℕ} {c : Cursor} {h : OlderHint} {next : Cursor} → Stands older_hint s c h next → c.at + 2 ≤ next.at
hint_way {s} {c} w =
    in_hint c.at (left s c) w.reads λ k o₁ r₁ at e₁ small e₂ is.
    let first = number_way c.at (left s c) e₁ in
    let then = number_way o₁ r₁ e₂ in
    omega (arith, first, then)

-- A hint: its kind, and its offset
module _ {s : List ℕ} {c : Cursor} (known : Known older_hint s c) where
  pub hint_kind : Known number s c
  hint_kind = let w = known.stands in in_hint c.at (left s c) w.reads λ k o₁ r₁ at e₁ small e₂ is. record { value = _; next = _; stands = stand number_passes w.inside e₁ }

  module _ {k : ℕ} {d : Cursor} (kind : Stands number s c k d) where
    pub hint_offset : Known number s d
    hint_offset =
        in_hint c.at (left s c) known.stands.reads λ k' o₁ r₁ at e₁ small e₂ is.
        let same = sym e₁ ∙ kind.reads in
        let here : number d.at (left s d) ≡ got at _ _ = rw (got_next same, got_rest same) at e₂ in
        record { value = _; next = _; stands = stand number_passes kind.behind here }

    pub hint_again : {at : ℕ} {next : Cursor} → Stands number s d at next → StandsHint s c (record { kind = k; offset = at; next = next })
    unfolding older_hint older_kind
    hint_again {at} {next} offset =
        in_hint c.at (left s c) known.stands.reads λ k' o₁ r₁ at' e₁ small e₂ is.
        let same = sym e₁ ∙ kind.reads in
        let little : k ≤ 1 = rw (got_value same) at small in
        record {
          stands = record { inside = kind.inside; reads = rw (kind.reads, le-leb k 1 little, offset.reads); behind = offset.behind; same_end = offset.same_end ∙ kind.same_end };
          known_kind_lem = little;
        }

pub ruleset hints_again = (hint_kind, hint_offset, hint_again, rules)

-- An entry: its function and zero byte
module _ {s : List ℕ} {c : Cursor} (known : Known older_entry s c) where
  entry_opening : Known opening s c
  entry_opening =
      let w = known.stands in
      in_entry c.at (left s c) w.reads λ f o₁ r₁ n o₂ r₂ hs e₁ e₂ e₃ is.
      record { value = _; next = _; stands = stand opening_passes w.inside e₁ }

  pub entry_number : Known number s c
  entry_number =
      let w = entry_opening.stands in
      in_opening c.at (left s c) w.reads λ o₁ r₁ u e₁ e₂. record { value = _; next = _; stands = stand number_passes w.inside e₁ }

  module _ {f : ℕ} {d : Cursor} (function : Stands number s c f d) where
    pub entry_opens : Stands opening s c f (record { at = d.at + 1; end = d.end })
    entry_opens =
        let k = entry_opening in
        let w = k.stands in
        in_opening c.at (left s c) w.reads λ o₁ r₁ u e₁ e₂. in_zero o₁ r₁ e₂ λ b is next.
        let same = sym e₁ ∙ function.reads in
        let value : k.value ≡ f = got_value same in
        let reached = got_next same in
        let place : k.next ≡ record { at = d.at + 1; end = d.end } = same_cursor k.next (record { at = d.at + 1; end = d.end }) (omega (arith, next, reached)) (w.same_end ∙ sym function.same_end) in
        rw (value, place) at w

    pub entry_fits : d.at + 1 ≤ length s
    entry_fits = let w = entry_opens in omega (arith, w.behind.ahead, w.behind.within)

  -- how many hints it has, and these
  module _ {f : ℕ} {d : Cursor} (opens : Stands opening s c f d) where
    pub entry_count : Known number s d
    entry_count =
        in_entry c.at (left s c) known.stands.reads λ f' o₁ r₁ n o₂ r₂ hs e₁ e₂ e₃ is.
        let same = sym e₁ ∙ opens.reads in
        let here : number d.at (left s d) ≡ got n _ _ = rw (got_next same, got_rest same) at e₂ in
        record { value = _; next = _; stands = stand number_passes opens.behind here }

    pub entry_hints : {n : ℕ} {e : Cursor} → Stands number s d n e → Known (times older_hint n) s e
    entry_hints {n} {e} count =
        in_entry c.at (left s c) known.stands.reads λ f' o₁ r₁ n' o₂ r₂ hs e₁ e₂ e₃ is.
        let same = sym e₁ ∙ opens.reads in
        let here : number d.at (left s d) ≡ got n' o₂ r₂ = rw (got_next same, got_rest same) at e₂ in
        let same' = sym here ∙ count.reads in
        let there : times older_hint n e.at (left s e) ≡ got hs _ _ = rw (got_value same', got_next same', got_rest same') at e₃ in
        record { value = _; next = _; stands = stand (times_passable hint_passable n) count.behind there }

pub ruleset functions_again = (entry_number, entry_fits, entry_opens, rules)

pub entry_stands : {s : List ℕ} {c : Cursor} {f : ℕ} {d : Cursor} {n : ℕ} {e : Cursor} {hs : List OlderHint} {last : Cursor} → Stands opening s c f d → Stands number s d n e → Stands (times older_hint n) s e hs last → Stands older_entry s c (record { function = f; hints = hs }) last
unfolding older_entry vector
entry_stands {s} {c} opens count hints =
    in_opening c.at (left s c) opens.reads λ o₁ r₁ u e₁ e₂.
    record { inside = opens.inside; reads = rw (e₁, e₂, count.reads, hints.reads); behind = hints.behind; same_end = hints.same_end ∙ count.same_end ∙ opens.same_end }
