-- What a question gives, one law for each way through it.
use Rattle.std.specs.Prelude.{Ok, Err, Some, None}
use Prim.Native.Nat.{ℕ, suc, ◌+◌, ◌-◌, ◌*◌, ◌≤◌, ◌<◌}
use mathlib.Core.Bool.{Bool, true, false, not}
use mathlib.Core.List.{List, ◌++◌}
use mathlib.Core.Option.{Option, none, some}
use mathlib.Core.Path.{◌≡◌, refl, sym, ap, ◌∙◌}
use native.Mathlib.Omega.{arith}
use borrow.Author.Rules.{rules}
use borrow.Author.Tests.{le-leb, lt-leb, lt-ltb, le-ltb, not-true, not-false}
use lib.ListN.{length, get_or, take, drop, length-drop}
use lib.Seq.{length-take-le, take_at}
use Rattle.format.specs.Canonical.{canonical_names}
use Rattle.format.proofs.Laws.Found.{name_lies}
use Rattle.format.specs.Laws.Outcomes.{not_accepted}
use Rattle.format.proofs.Laws.Places.{PartIn, lies_all, lies_there, lies_inside}
use Rattle.format.specs.Names.{Content, known_kind, judge_names}
use Rattle.format.specs.Options.{map_some}
use Rattle.format.specs.Parts.{Part, place_of}
use Rattle.format.specs.Questions.{answer, asked, ask_at, ask, as_told, as_place, answered}
use Rattle.format.specs.Reading.{Judged, accepted, refused, map_judged}
use Rattle.format.specs.Tables as Names
use Rattle.format.specs.Returned.{Answer as Given}
use Rattle.format.specs.declared.Place.{Place}
use Rattle.format.specs.declared.Query.TheVariants.{NameOf}
use Rattle.format.specs.declared.Question.TheVariants.{FunctionName}
use Rattle.format.specs.declared.Reason.TheVariants.{OutputTooShort, NoCustomer, NotOpen, Damaged, NotTheStore}
use Rattle.format.specs.declared.Refusal.{Refusal}
use Rattle.sharing.specs.Blocks.{need, extra, gather, are_all_right}
use Rattle.sharing.specs.Calls.{Copies, Replies, RepliesAt, asked_as}
use Rattle.sharing.specs.Laws.Bytes.{blocks_length}
use Rattle.sharing.specs.Marks.{SizeFits}
use Rattle.sharing.proofs.FindLaws.{right_there}
use Rattle.sharing.proofs.PieceLaws.{rest_all, rest_last, need_some}
use Rattle.sharing.specs.Model.{desk, Answer, refusal, nothing, replied, reply, over}
use Rattle.sharing.specs.Named.{names, function_name, name_in}
use Rattle.sharing.specs.Step.{leaves, step, fitting, asked_at, lent, judged}
use Rattle.sharing.specs.Arrays.{marks_from, table_of}
use Rattle.sharing.specs.Laws.Arrays.{get_mark}
use Rattle.sharing.specs.Promises.{SharingAsk}
use Rattle.sharing.specs.declared.Table.{Table as Arrays}
use Rattle.sharing.proofs.HoldLaws.{out_of}
use Rattle.sharing.proofs.WholeLaws.{walks_few}
use Rattle.sharing.specs.Table.{Table, Mark, blank, blocks, length_fits}
use Rattle.sharing.specs.Returned.{Told}
use Rattle.writing.specs.Wrote.{Wrote}

module _ (p : List ℕ) (from count : ℕ) (h : from + count ≤ length p) where
  name_long : length (take count (drop from p)) ≡ count
  name_long = length-take-le count (drop from p) (rw length-drop (omega arith))

  pub copy_short : {old : List ℕ} → length old < count → Copies (take count (drop from p)) old old (Err (record { reason = OutputTooShort; offset = record { 0 = count } }))
  unfolding replied
  copy_short {old} l = record { is = rw (name_long, lt-leb count (length old) l) refl }

  pub copy_done : {old new : List ℕ} {next : ℕ} → count ≤ length old → Wrote old new 0 next (take count (drop from p)) → Copies (take count (drop from p)) old new (Ok (Some count))
  unfolding replied over
  copy_done {old} {new} {next} l w =
      let n : next ≡ count = omega (arith, w.next_is, name_long) in
      let e : new ≡ take count (drop from p) ++ drop count old = w.written ∙ rw n refl in
      record { is = rw (name_long, le-leb count (length old) l) (ap (λ (x : List ℕ). asked_as (Ok (Some count)) x) e) }

pub ruleset copies = (copy_short, copy_done, rules)

-- What a payload answers

abbrev bytes_of : Part → List ℕ
bytes_of x = x.bytes

unfoldable told_of : Judged (Option Part) → List ℕ → Answer
told_of (accepted o) out = replied (map_some bytes_of o) out
told_of (refused n at) out = refusal 27 0 out

abbrev asking : ℕ → List ℕ → Judged (Option Part)
asking i p = ask known_kind (FunctionName (record { 0 = i })) p

judged_by : (t : Table) (s : List ℕ) (c : ℕ) (p : List ℕ) (i : ℕ) (out : List ℕ) (j : Judged (Names.Table (Content Part))) → judge_names known_kind 0 p ≡ j → judged t s c names (canonical_names known_kind p) p i out ≡ told_of (asking i p) out
unfolding judged told_of names function_name name_in canonical_names ask ask_at asked as_told reply
judged_by t s c p i out (accepted v) e =
    let name : name_in (as_told (asking i p)) ≡ map_some bytes_of (answer 1 (NameOf i) v) = ap (λ (j : Judged (Names.Table (Content Part))). name_in (as_told (map_judged (answer 1 (NameOf i)) j))) e in
    rw e (ap (λ (o : Option (List ℕ)). replied o out) name)
judged_by t s c p i out (refused n at) e = rw e refl

judged_told : (t : Table) (s : List ℕ) (c : ℕ) (p : List ℕ) (i : ℕ) (out : List ℕ) → judged t s c names (canonical_names known_kind p) p i out ≡ told_of (asking i p) out
judged_told t s c p i out = judged_by t s c p i out (judge_names known_kind 0 p) refl

data Answered (p : List ℕ) : Judged (Option Part) → Given → Type 0 where
  no_name : Answered p (accepted none) (Ok None)
  named : (x : Part) → PartIn p x → Answered p (accepted (some x)) (Ok (Some (place_of x)))
  wrong : (n at : ℕ) (r : Refusal) → Answered p (refused n at) (Err r)

answers : (p : List ℕ) (j : Judged (Option Part)) (a : Given) → ((x : Part) → j ≡ accepted (some x) → PartIn p x) → answered a ≡ as_place j → Answered p j a
unfolding as_place
answers p (accepted none) (Ok None) f e = no_name
answers p (accepted none) (Ok (Some y)) f e = absurd (let z : ◌≡◌ {A = ℕ} 0 1 = cc in omega arith)
answers p (accepted none) (Err r) f e = absurd (not_accepted e)
answers p (accepted (some x)) (Ok None) f e = absurd (let z : ◌≡◌ {A = ℕ} 0 1 = cc in omega arith)
answers p (accepted (some x)) (Ok (Some y)) f e = let z : y ≡ place_of x = cc in rw z (named x (f x refl))
answers p (accepted (some x)) (Err r) f e = absurd (not_accepted e)
answers p (refused n at) (Ok None) f e = absurd (not_accepted (sym e))
answers p (refused n at) (Ok (Some y)) f e = absurd (not_accepted (sym e))
answers p (refused n at) (Err r) f e = wrong n at r

module _ (p : List ℕ) (i : ℕ) (a : Given) (e : answered a ≡ as_place (asking i p)) where
  there : Answered p (asking i p) a
  unfolding ask ask_at
  there = answers p (asking i p) a (λ x k. name_lies known_kind 1 (NameOf i) p 0 p (lies_all p) k) e

  pub reply_none : {out : List ℕ} → a ≡ Ok None → Replies p i out out (Ok None)
  reply_none {out} h = record { is = λ t s c. sym (judged_told t s c p i out ∙ by_none (asking i p) (rw h at there)) }
    where
      by_none : (j : Judged (Option Part)) → Answered p j (Ok None) → told_of j out ≡ nothing out
      by_none _ no_name = unfold told_of replied in refl

  pub reply_wrong : {out : List ℕ} {x r : Refusal} → a ≡ Err x → r ≡ record { reason = Damaged; offset = record { 0 = 0 } } → Replies p i out out (Err r)
  reply_wrong {out} {x} h d = record { is = λ t s c. rw d (sym (judged_told t s c p i out ∙ by_wrong (asking i p) (rw h at there))) }
    where
      by_wrong : (j : Judged (Option Part)) → Answered p j (Err x) → told_of j out ≡ refusal 27 0 out
      by_wrong _ (wrong n at r) = unfold told_of in refl

  module _ {y : Place} (f : a ≡ Ok (Some y)) where
    pub name_inside : y.offset.0 + y.length ≤ length p
    name_inside = by_named (asking i p) y (rw f at there)
      where
        by_named : (j : Judged (Option Part)) (z : Place) → Answered p j (Ok (Some z)) → z.offset.0 + z.length ≤ length p
        by_named _ _ (named x l) = lies_inside l

    pub reply_named : {out new : List ℕ} {r : Told} → Copies (take y.length (drop y.offset.0 p)) out new r → Replies p i out new r
    reply_named {out} {new} {r} k = record { is = λ t s c. k.is ∙ sym (judged_told t s c p i out ∙ by_named (asking i p) y (rw f at there)) }
      where
        by_named : (j : Judged (Option Part)) (z : Place) → Answered p j (Ok (Some z)) → told_of j out ≡ replied (some (take z.length (drop z.offset.0 p))) out
        by_named _ _ (named x l) = unfold told_of in ap (λ (n : List ℕ). replied (some n) out) (sym (lies_there l))

pub ruleset replies = (reply_none, reply_wrong, name_inside, reply_named, rules)

-- From the blocks

at_most : (n : ℕ) → need n ≤ 128 → n ≤ 65024
unfolding need extra
at_most n h = omega arith

pub reply_gathered : {g old new : List ℕ} {size i : ℕ} {out left : List ℕ} {r : Told} → Wrote old new 0 size g → Replies (take (size - 0) new) i out left r → Replies g i out left r
reply_gathered {g} {old} {new} {size} w k =
    let z : size - 0 ≡ size = omega arith in
    let l : length g ≡ size = omega (arith, w.next_is) in
    let e : take size new ≡ g = ap (take size) w.written ∙ take_at g (drop size old) size l in
    rw e at (rw z at k)

pub ruleset gathered_replies = (reply_gathered, rules)

-- what one block has lies in the store as it is
module _ (s : List ℕ) (first size : ℕ) (f : SizeFits s first size) (h : size ≤ 508) where
  lying : gather size (drop first (blocks s)) ≡ take size (drop (first * 512) s)
  lying =
      let none_before : size - 0 * 508 ≡ size = omega arith in
      let first_one : first + 0 ≡ first = omega arith in
      rest_all s first size f.fits ∙ rest_last s first size f.fits 0 (need_some size) (omega arith) ∙ rw (none_before, first_one) refl

  pub lying_inside : first * 512 + size ≤ length s
  lying_inside = omega (arith, f.fits, need_some size)

  pub reply_lying : {i : ℕ} {out left : List ℕ} {r : Told} → Replies (take (first * 512 + size - first * 512) (drop (first * 512) s)) i out left r → Replies (gather size (drop first (blocks s))) i out left r
  reply_lying k = let long : first * 512 + size - first * 512 ≡ size = omega arith in rw lying (rw long at k)

pub ruleset lying_replies = (lying_inside, reply_lying, rules)

module _ (s : List ℕ) (first : ℕ) {size k : ℕ} {b : Bool} (n : k ≡ need size) (e : b ≡ are_all_right k (drop first (blocks s))) where
  pub row_fits : b ≡ true → SizeFits s first size
  row_fits t = record { fits = omega (arith, right_there k (drop first (blocks s)) (sym e ∙ t), length-drop first (blocks s), blocks_length s, need_some size) }

  pub row_small : b ≡ true → length s ≤ 65536 → size ≤ 65024
  row_small t h = at_most size (omega (arith, (row_fits t).fits))

  pub row_replies : {i : ℕ} {out new : List ℕ} {r : Told} → b ≡ true → Replies (gather size (drop first (blocks s))) i out new r → RepliesAt s first size i out new r
  row_replies t k = record { is = λ u c. k.is u s c ∙ rw (← n, ← e, t) refl }

  pub row_wrong : {i : ℕ} {out : List ℕ} {r : Refusal} → b ≡ false → r ≡ record { reason = Damaged; offset = record { 0 = 0 } } → RepliesAt s first size i out out (Err r)
  row_wrong t d = record { is = λ u c. rw (d, ← n, ← e, t) refl }

pub ruleset row_answers = (row_fits, row_small, row_replies, row_wrong, rules)

-- The whole question

pub size_outside : (us ns : List ℕ) (b : ℕ) → length us ≡ 128 → length ns ≡ 128 → 128 ≤ b → 0 ≡ (get_or (marks_from us ns) b blank).size
size_outside us ns b u n h = sym (ap (λ (m : Mark). m.size) (get_mark us ns b (u ∙ sym n)) ∙ out_of ns b (omega arith))

pub size_inside : (us ns : List ℕ) (b : ℕ) {x : ℕ} → length us ≡ 128 → length ns ≡ 128 → x ≡ get_or ns b 0 → x ≡ (get_or (marks_from us ns) b blank).size
size_inside us ns b u n e = e ∙ sym (ap (λ (m : Mark). m.size) (get_mark us ns b (u ∙ sym n)))

pub ruleset sizes_stored = (size_outside, size_inside, rules)

asks_to : (t : Table) (s : List ℕ) (c e b i : ℕ) {out new : List ℕ} {r : Told} → e ≡ suc b → RepliesAt s b (get_or t.marks b blank).size i out new r → asked_as r new ≡ asked_at t s c names e i out
unfolding asked_at names
asks_to t s c e b i z k = k.is t c ∙ rw z refl

module _ (t : Arrays) (s : List ℕ) (c h i : ℕ) (out : List ℕ) {b : Bool} (f : b ≡ length_fits t.bytes (length s)) where
  pub ask_store : {x : Refusal} → not b ≡ true → x ≡ record { reason = NotTheStore; offset = record { 0 = 0 } } → SharingAsk t s c h i out out (Err x)
  unfolding step lent
  ask_store k e = rw (e, ← f, not-true b k) refl

  module _ (g : not b ≡ false) where
    pub ask_few : length s ≤ 65536
    ask_few = walks_few t.bytes s (sym f ∙ not-false b g)

    pub ask_nobody : {x : Refusal} → 16 ≤ c → x ≡ record { reason = NoCustomer; offset = record { 0 = 0 } } → SharingAsk t s c h i out out (Err x)
    unfolding step fitting
    ask_nobody k e = rw (e, ← f, not-false b g, le-ltb c 16 k) refl

    module _ (l : c < 16) {y : ℕ} (d : y ≡ get_or (desk c t.holds) h 0) where
      pub ask_shut : {x : Refusal} → y ≡ 0 → x ≡ record { reason = NotOpen; offset = record { 0 = 0 } } → SharingAsk t s c h i out out (Err x)
      unfolding step fitting asked_at
      ask_shut z e = rw (e, ← f, not-false b g, lt-ltb c 16 l, ← d, z) refl

      pub ask_row : {n : ℕ} {new : List ℕ} {r : Told} → (y ≡ 0 → ⊥) → n ≡ (get_or (marks_from t.users t.sizes) (y - 1) blank).size → RepliesAt s (y - 1) n i out new r → SharingAsk t s c h i out new r
      unfolding step fitting
      ask_row z e k = rw (← f, not-false b g, lt-ltb c 16 l, ← d) (ap (λ (a : Answer). leaves (table_of t) s a) (asks_to (table_of t) s c y (y - 1) i (omega arith) (rw e at k)))

pub ruleset asks = (ask_store, ask_few, ask_nobody, ask_shut, ask_row, rules)
