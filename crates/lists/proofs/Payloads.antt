-- The payload is nothing for empty lists and one subsection otherwise; and what the write leaves is what the lists ask for.
use Rattle.std.specs.Prelude.{Ok, Err}
use Prim.Native.Nat.{ℕ, ◌+◌, ◌≤◌, ◌<◌}
use mathlib.Core.Bool.{Bool, true, false}
use mathlib.Core.List.{List, [], ◌∷◌, ◌++◌, append-nil}
use mathlib.Core.Option.{Option, none, some}
use mathlib.Core.Path.{◌≡◌, refl, sym, ap, ◌∙◌}
use native.Mathlib.Omega.{arith}
use borrow.Author.Rules.{rules}
use borrow.Author.Tests.{ltb-true}
use lib.Dec.{ltb}
use lib.ListN.{length, drop, length-append, length-drop}
use lib.Seq.{length-take-le}
use Rattle.format.specs.Reading.{Judged, accepted, map_judged}
use Rattle.format.specs.Numbers.{shortest, limit32}
use Rattle.format.specs.Tables.{size}
use Rattle.format.specs.Names.{names}
use Rattle.format.specs.Canonical.{write_part, write_rows, write_table, write_content, unless_empty, keep_rows, write_subsections}
use Rattle.format.specs.Lists.{sum, listed, unsorted_at, bad_text_at, unless, provided, subsection, function_names}
use Rattle.format.specs.Outputs.{Writes}
use Rattle.format.proofs.Laws.Lists.{on_provided, on_unless}
use Rattle.format.specs.Laws.Outcomes.{accepted_is, by_test}
use Rattle.format.specs.Laws.Outputs.{writes_refused, writes_short}
use Rattle.format.specs.declared.Reason.{Reason}
use Rattle.format.specs.declared.Reason.TheVariants.{OutputTooShort}
use Rattle.format.specs.declared.Refusal.{Refusal}
use Rattle.format.specs.Returned.{Written}
use Rattle.lists.specs.Steps.{agree, rows_length, contents_length, contents_as, size_check, lists_judged, Joined, Measured, rows_of, filled, needed_for, payload}
use Rattle.lists.specs.Returned.{Contents}
use Rattle.lists.proofs.Verdicts.{agreed_joined}
use Rattle.writing.specs.Wrote.{Wrote}
use Rattle.writing.proofs.Laws.{wrote_nothing, writes_wrote}

rows_long : (is ns text : List ℕ) → sum ns ≤ length text → length (rows_of is ns text) ≡ rows_length is ns
unfolding rows_of listed write_rows write_part rows_length sum
rows_long [] ns text h = refl
rows_long (i ∷ is) [] text h = refl
rows_long (i ∷ is) (n ∷ ns) text h =
    let more = rows_long is ns (drop n text) (rw length-drop (omega arith)) in
    simp (length-append, length-take-le n text (omega arith)) (omega arith)

listed_size : (is ns text : List ℕ) → length is ≡ length ns → size (listed is ns text) ≡ length is
unfolding listed size
listed_size [] ns text e = refl
listed_size (i ∷ is) [] text e = absurd (omega arith)
listed_size (i ∷ is) (n ∷ ns) text e = omega (arith, listed_size is ns (drop n text) (omega arith))

module _ (is ns text : List ℕ) (j : Joined is ns text) where
  content_is : write_content (names (listed is ns text)) ≡ shortest (length is) ++ rows_of is ns text
  unfolding write_content write_table rows_of
  content_is = rw (listed_size is ns text j.same_count)

  pub content_long : length (write_content (names (listed is ns text))) ≡ contents_length is ns
  content_long = rw content_is (length-append (shortest (length is)) (rows_of is ns text) ∙ rw (rows_long is ns text (omega arith)))

pub nothing_listed : (is ns text : List ℕ) → length is ≡ 0 → payload is ns text ≡ []
unfolding payload subsection listed keep_rows unless_empty write_subsections
nothing_listed [] ns text e = refl
nothing_listed (i ∷ is) ns text e = absurd (omega arith)

some_listed : (is ns text : List ℕ) → (length is ≡ 0 → ⊥) → length is ≡ length ns → payload is ns text ≡ 1 ∷ write_part (write_content (names (listed is ns text)))
unfolding payload subsection listed keep_rows unless_empty write_subsections
some_listed [] ns text h e = absurd (h refl)
some_listed (i ∷ is) [] text h e = absurd (omega arith)
some_listed (i ∷ is) (n ∷ ns) text h e = rw append-nil

module _ {is ns text : List ℕ} {size : ℕ} (m : Measured is ns text size) where
  pub payload_filled : (length is ≡ 0 → ⊥) → payload is ns text ≡ filled is ns text size
  unfolding filled write_part
  payload_filled h =
      some_listed is ns text h m.joined.same_count
      ∙ rw (content_long is ns text m.joined, m.measured, content_is is ns text m.joined)

  pub filled_long : length (filled is ns text size) ≡ needed_for size
  unfolding filled
  filled_long = simp (length-append, rows_long is ns text (omega (arith, m.joined.add_up))) (omega (arith, m.measured))

  module _ {old : List ℕ} where
    pub write_nothing : length is ≡ 0 → Writes (accepted (payload is ns text)) old old (Ok 0)
    write_nothing e = writes_wrote (ap accepted (nothing_listed is ns text e)) (wrote_nothing (omega arith))

    module _ (h : length is ≡ 0 → ⊥) where
      pub write_short : {a b : ℕ} → a ≡ length (shortest size) → b ≡ size → length old < 1 + a + b → Writes (accepted (payload is ns text)) old old (Err (record { reason = OutputTooShort; offset = record { 0 = 1 + a + b } }))
      write_short {a} {b} p q l =
          let needed : 1 + a + b ≡ length (payload is ns text) = rw (payload_filled h, filled_long) (omega arith) in
          rw needed (writes_short refl (rw needed at l))

      pub write_all : {new : List ℕ} {next : ℕ} → Wrote old new 0 next (filled is ns text size) → Writes (accepted (payload is ns text)) old new (Ok next)
      write_all w = writes_wrote (ap accepted (payload_filled h)) w

pub ruleset writings = (write_nothing, write_short, write_all, rules)

-- What the lists ask for, from the judgement
module _ {A B : Type 0} (f : A → B) (why : Reason) (j : Judged A) where
  map_provided : (b : Bool) → map_judged f (provided b why j) ≡ provided b why (map_judged f j)
  map_provided true = refl
  map_provided false = refl

  map_unless : (o : Option ℕ) → map_judged f (unless o why j) ≡ unless o why (map_judged f j)
  map_unless none = refl
  map_unless (some at) = refl

module _ (is ns text : List ℕ) where
  judged_names : function_names is ns text ≡ map_judged (λ _. payload is ns text) (lists_judged is ns text)
  unfolding function_names lists_judged size_check agree payload
  judged_names =
      by_test (agree is ns text)
      (λ t. rw (t, content_long is ns text (agreed_joined is ns text t), map_unless, map_unless, map_provided))
      (λ t. rw t)

  measured_names : {n : ℕ} → lists_judged is ns text ≡ accepted n → Measured is ns text n
  unfolding lists_judged size_check
  measured_names e =
      on_provided (agree is ns text) _ _ e λ t e₁.
      on_unless (unsorted_at 0 0 is) _ _ e₁ λ u e₂. on_unless (bad_text_at 0 ns text) _ _ e₂ λ b e₃.
      on_provided (ltb (contents_length is ns) limit32) _ _ e₃ λ s e₄.
      let all = accepted_is e₄ in
      record { joined = agreed_joined is ns text t; measured = sym all; small = omega (arith, ltb-true (contents_length is ns) limit32 s) }

  module _ {x : Contents} (c : contents_as x ≡ lists_judged is ns text) where
    pub names_refused : {old : List ℕ} {r : Refusal} → x ≡ Err r → {y : Written} → y ≡ Err r → Writes (function_names is ns text) old old y
    names_refused e q = rw q (writes_refused (judged_names ∙ rw (← c, e)))

    module _ {n : ℕ} (e : x ≡ Ok n) where
      pub names_measured : Measured is ns text n
      names_measured = measured_names (sym c ∙ rw e)

      pub names_written : {old new : List ℕ} {r : Written} → Writes (accepted (payload is ns text)) old new r → Writes (function_names is ns text) old new r
      names_written w = rw (judged_names, ← c, e) w

pub ruleset namings = (names_refused, names_measured, names_written, rules)
