-- From section to section: one law for each way through the code.
use Rattle.std.specs.Prelude.{Ok, Err, None}
use Prim.Native.Nat.{ℕ, zero, suc, ◌+◌, ◌-◌, ◌≤◌, ◌<◌}
use mathlib.Core.Bool.{Bool, true, false, cond, ◌||◌}
use mathlib.Core.List.{List, [], ◌∷◌}
use mathlib.Core.Option.{Option, none, some}
use mathlib.Core.Path.{◌≡◌, refl, sym, ap, ◌∙◌}
use native.Mathlib.Omega.{arith}
use borrow.Author.Rules.{rules}
use borrow.Author.Tests.{eq-eqb, ne_eqb}
use denote.Enum.Declared.{tag_of}
use lib.Dec.{eqb}
use lib.ListN.{length, drop, get_or}
use lib.Seq.{drop-cons}
use Rattle.format.specs.Options.{is_some, or_else}
use Rattle.format.specs.Refusals.{number_of}
use Rattle.format.specs.Reading.{accepted, refused}
use Rattle.format.specs.Walk.{preamble, is_custom, is_code, rank, id_rules}
use Rattle.format.specs.Laws.Refusals.{number_small}
use Rattle.format.specs.declared.Place.{Place}
use Rattle.format.specs.declared.Reason.{Reason}
use Rattle.format.specs.declared.Reason.TheVariants.{NoPreamble}
use Rattle.walk.specs.Sections.{bit, seen_of, ruling, IdRuled, Sees}
use Rattle.walk.specs.Returned.{Ruling}
use Rattle.walk.specs.declared.rules.Seen.{Seen}
use Rattle.stream.specs.Counting.{fresh, counted}
use Rattle.stream.specs.Contents.{Contents, sizing, content_ends}
use Rattle.stream.specs.Stream.{Done, nothing_done, seen_in, plain_done, custom_done, Phase, starting, settled, measuring, skipping, in_custom_lem, skip, custom, enter, measured, admit, opening, start, start_byte, byte, State, step}
use Rattle.stream.specs.Calls.{most}
use Rattle.stream.specs.Fields.{flag, place_from, done_from, number_from, contents_from, state_from}
use Rattle.stream.specs.Phases.{number_of as number_so, Countable, counted_of, Fit, Steps, Refuses, Enters, seen_so, Starting, blank_at}
use Rattle.stream.specs.declared.numbers.Counted.{Counted}
use Rattle.stream.specs.declared.numbers.Counted.TheVariants.{Whole, Partly, Over}
use Rattle.stream.specs.declared.Met.{Met}
use Rattle.stream.specs.declared.Spot.{Spot}
use Rattle.stream.specs.declared.Stream.{Stream}
use Rattle.stream.specs.contracts.numbers.Counted as counted_type
use Rattle.stream.proofs.Leaves.{come_most}
use Rattle.stream.proofs.States.{at, at_same, as_starting, as_between, as_refused, as_measuring, as_skipping, as_custom, as_sizing, measuring_count, measuring_at, measuring_number}

-- a struct of which these fields are known, and those of the sections behind are another's
abbrev pub mixed : (x : Stream) (phase id at left come low begins text rest wanted least point : ℕ) → Met → (row refusal : ℕ) → Stream
mixed x phase id at left come low begins text rest wanted least point met row refusal = record {
  total = x.total;
  count = x.count;
  name = x.name;
  hints = x.hints;
  older = x.older;
  at = at;
  begins = begins;
  text = text;
  left = left;
  rest = rest;
  low = low;
  least = least;
  point = point;
  phase = phase;
  refusal = refusal;
  rank = x.rank;
  code = x.code;
  there = x.there;
  id = id;
  come = come;
  wanted = wanted;
  met = met;
  row = row;
}

pub refuses : (f r : Stream) (number offset : ℕ) → r.phase ≡ 2 → r.total ≡ f.total → r.refusal ≡ number → r.text ≡ offset → Refuses f number offset r
refuses f r number offset p t n o = record { means = as_refused r p ∙ at_same t (λ i. settled (refused (n i) (o i))) }

pub number_fits : (why : Reason) {n : ℕ} → n ≡ number_of why → n < 256
number_fits why e = let s = number_small why in omega arith

pub flag_yes : {b : Bool} → b ≡ true → 1 ≡ flag b
flag_yes e = rw e

pub flag_no : {b : Bool} → b ≡ false → 0 ≡ flag b
flag_no e = rw e

-- a step by a byte, said of the phase
pub step_so : (f : Stream) {p : Phase} (b : ℕ) → state_from f ≡ at f.total p → step (state_from f) b ≡ at (suc f.total) (byte p f.total b)
unfolding step
step_so f b e = ap (λ (s : State). step s b) e

abbrev pub limit64 : ℕ
limit64 = 18_446_744_073_709_551_616

-- THE PREAMBLE

pub drop_all : (l : List ℕ) (k : ℕ) → length l ≤ k → drop k l ≡ []
drop_all [] zero h = refl
drop_all [] (suc k) h = refl
drop_all (a ∷ l) zero h = absurd (omega arith)
drop_all (a ∷ l) (suc k) h = drop_all l k (omega arith)

next_wanted : (l : List ℕ) (o : ℕ) → suc o < length l → start (drop (suc o) l) ≡ starting
unfolding start
next_wanted l o h = rw (drop-cons l (suc o) 0 h)

all_come : (l : List ℕ) (o : ℕ) → length l ≤ suc o → start (drop (suc o) l) ≡ settled (accepted nothing_done)
unfolding start
all_come l o h = rw (drop_all l (suc o) h)

abbrev pub preamble_so : List ℕ
preamble_so = 0x00 ∷ 0x61 ∷ 0x73 ∷ 0x6D ∷ 0x01 ∷ 0x00 ∷ 0x00 ∷ 0x00 ∷ []

preamble_is : preamble ≡ preamble_so
unfolding preamble
preamble_is = refl

module _ {f : Stream} (k : Starting f) where
  pub preamble_below : f.total < 8
  preamble_below = k.below

  -- no sum wraps
  pub preamble_adds : f.total + 1 < limit64
  preamble_adds = let h = preamble_below in omega arith

  here_wanted : (b : ℕ) → step (state_from f) b ≡ at (suc f.total) (cond (eqb (get_or preamble_so f.total 0) b) (start (drop (suc f.total) preamble_so)) (settled (refused (number_of NoPreamble) 0)))
  unfolding byte start_byte
  here_wanted b =
      let h : f.total < 8 = preamble_below in
      step_so f b (as_starting f k.phase) ∙ rw (preamble_is, drop-cons preamble_so f.total 0 h)

  one : f.total + 1 ≡ suc f.total
  one = omega arith

  module _ (b : ℕ) where
    pub preamble_wrong : {g r : Stream} → (get_or preamble_so f.total 0 ≡ b → ⊥) → g.total ≡ f.total + 1 → Refuses g 1 0 r → Steps f b r
    preamble_wrong n t q = record { means = q.means ∙ at_same (t ∙ one) refl ∙ sym (here_wanted b ∙ rw (ne_eqb (get_or preamble_so f.total 0) b n)) }

    module _ {r : Stream} (e : get_or preamble_so f.total 0 ≡ b) (t : r.total ≡ f.total + 1) where
      pub preamble_next : f.total + 1 < 8 → r.phase ≡ 0 → Steps f b r
      preamble_next h p = record { means = as_starting r p ∙ at_same (t ∙ one) refl ∙ sym (here_wanted b ∙ rw (eq-eqb (get_or preamble_so f.total 0) b e, next_wanted preamble_so f.total (omega arith))) }

      pub preamble_whole : 8 ≤ f.total + 1 → r.phase ≡ 1 → done_from r ≡ nothing_done → Steps f b r
      preamble_whole h p d = record { means = as_between r p ∙ at_same (t ∙ one) (ap (λ x. settled (accepted x)) d) ∙ sym (here_wanted b ∙ rw (eq-eqb (get_or preamble_so f.total 0) b e, all_come preamble_so f.total (omega arith))) }

-- behind it, where nobody began
pub blank_done : {g : Stream} {total : ℕ} → g ≡ blank_at total 1 → done_from g ≡ nothing_done
blank_done is = rw is refl

pub blank_opens : {g : Stream} {total : ℕ} → g ≡ blank_at total 1 → total < most → (g.phase ≡ 1) × (g.total < most)
blank_opens is h = (rw is refl, rw is h)

pub opens_late : {f g r : Stream} {b : ℕ} → g ≡ blank_at f.total 1 → f.phase ≡ 0 → 8 ≤ f.total → Steps g b r → Steps f b r
unfolding byte start_byte preamble
opens_late {f} {g} {b = b} is p h s =
    let there : step (state_from g) b ≡ at (suc g.total) (opening (accepted (done_from g)) g.total b) = step_so g b (as_between g (rw is refl)) in
    let here : step (state_from f) b ≡ at (suc f.total) (start_byte (drop f.total preamble) f.total b) = step_so f b (as_starting f p) in
    let same : g.total ≡ f.total = ap (λ (x : Stream). x.total) is in
    let none : start_byte (drop f.total preamble) f.total b ≡ opening (accepted nothing_done) f.total b = ap (λ l. start_byte l f.total b) (drop_all preamble f.total h) in
    record { means = s.means ∙ there ∙ at_same (ap suc same) (λ i. opening (accepted (blank_done is i)) (same i) b) ∙ sym (here ∙ at_same refl none) }

pub ruleset starts = (preamble_adds, refuses, number_fits, flag_yes, flag_no, preamble_below, preamble_wrong, preamble_next, preamble_whole, rules)

-- AN ID

pub some_so : (here : Bool) (p : Spot) → is_some (place_from here p) ≡ here
some_so true p = refl
some_so false p = refl

-- the walk's rules know of the struct what they know of the state
id_same : (f : Stream) (o b : ℕ) → id_rules (seen_in (done_from f)) o b 0 [] ≡ id_rules (seen_of (seen_so f)) o b 0 []
unfolding id_rules
id_same f o b = rw (some_so (bit f.there 0) f.name)

module _ (f : Stream) (b : ℕ) {seen : Seen} {v : Ruling} (k : (f.phase ≡ 1) × (f.total < most)) (s : seen ≡ seen_so f) (q : IdRuled seen b v) where
  opened : {w : Ruling} → v ≡ w → step (state_from f) b ≡ at (suc f.total) (admit (ruling w f.total 0 []) (measuring (done_from f) b f.total fresh))
  unfolding byte opening
  opened e =
      step_so f b (as_between f k.0)
      ∙ ap (λ x. at (suc f.total) (admit x (measuring (done_from f) b f.total fresh)))
      (id_same f f.total b ∙ ap (λ x. id_rules (seen_of x) f.total b 0 []) (sym s) ∙ sym (q.says f.total 0 []) ∙ ap (λ x. ruling x f.total 0 []) e)

  next : f.total + 1 ≡ suc f.total
  next = omega arith

  pub opens_not : {why : Reason} {n : ℕ} {g r : Stream} → v ≡ Err why → n ≡ number_of why → g.total ≡ f.total + 1 → Refuses g n f.total r → Steps f b r
  unfolding admit
  opens_not {why} e n t u = record { means = u.means ∙ at_same (t ∙ next) (ap (λ x. settled (refused x f.total)) n) ∙ sym (opened e) }

  pub opens : {r : Stream} → v ≡ Ok tt → r.phase ≡ 3 → r.total ≡ f.total + 1 → done_from r ≡ done_from f → r.id ≡ b → r.at ≡ f.total → number_from r ≡ fresh → Steps f b r
  unfolding admit
  opens {r} e p t d i a n = record { means = as_measuring r p ∙ at_same (t ∙ next) (λ j. measuring (d j) (i j) (a j) (n j)) ∙ sym (opened e) }

pub ruleset openings = (opens_not, opens, rules)

-- A SIZE

-- a section that is not custom leaves the places as they are
no_row : (p : Option Place) → or_else p none ≡ p
no_row none = refl
no_row (some q) = refl

plain_so : (f : Stream) (id : ℕ) {seen after : Seen} → seen ≡ seen_so f → Sees seen id None after
    → plain_done (done_from f) id ≡ record { rank = after.rank; code = after.code; told = record { count = suc f.count; name = (done_from f).told.name; hints = (done_from f).told.hints; older = (done_from f).told.older } }
plain_so f id e q = λ i. record {
  rank = sym (q.rank_is ∙ ap (λ x. cond (is_custom id) x.rank (rank id)) e) i;
  code = sym (q.code_is ∙ ap (λ x. x.code || is_code id) e) i;
  told = record {
    count = suc f.count;
    name = no_row (done_from f).told.name i;
    hints = no_row (done_from f).told.hints i;
    older = no_row (done_from f).told.older i;
  };
}

pub flag_back : (b : Bool) → eqb (flag b) 1 ≡ b
flag_back true = refl
flag_back false = refl

-- the three places of a struct
pub record Places : Type 0 where
  pub name : Option Place
  pub hints : Option Place
  pub older : Option Place

abbrev pub places_of : Stream → Places
places_of f = record { name = (done_from f).told.name; hints = (done_from f).told.hints; older = (done_from f).told.older }

pub enter_plain : (d : Done) (id at n o : ℕ) → (id ≡ 0 → ⊥) → enter d id at n o ≡ skip (plain_done d id) at n
unfolding enter
enter_plain d zero at n o h = absurd (h refl)
enter_plain d (suc id) at n o h = refl

pub skip_on : (d : Done) (at n : ℕ) → (n ≡ 0 → ⊥) → skip d at n ≡ skipping d at n
unfolding skip
skip_on d at zero h = absurd (h refl)
skip_on d at (suc n) h = refl

pub custom_on : (d : Done) (at n : ℕ) (c : Contents) (o : ℕ) → (n ≡ 0 → ⊥) → custom d at n c o ≡ in_custom_lem d at n c
unfolding custom
custom_on d at zero c o h = absurd (h refl)
custom_on d at (suc n) c o h = refl

module _ (f : Stream) (n : ℕ) where
  pub enters_none : {r : Stream} → f.id ≡ 0 → n ≡ 0 → Refuses f 2 f.total r → Enters f n r
  unfolding enter custom custom_done content_ends
  enters_none i z q = record { means = q.means ∙ at_same refl (rw (i, z)) }

  pub enters_custom : {r : Stream} → f.id ≡ 0 → (n ≡ 0 → ⊥) → r.phase ≡ 5 → r.total ≡ f.total → done_from r ≡ done_from f → r.at ≡ f.at → r.left ≡ n → r.begins ≡ f.total → number_from r ≡ fresh → Enters f n r
  unfolding enter
  enters_custom {r} i z p t d a l o m = record {
    means =
        as_custom r (omega arith) ∙ at_same t ((λ j. in_custom_lem (d j) (a j) (l j) (contents_from r)) ∙ ap (in_custom_lem (done_from f) f.at n) (as_sizing r p ∙ (λ j. sizing (o j) (m j))))
        ∙ sym (at_same refl (rw i (custom_on (done_from f) f.at n (sizing f.total fresh) f.total z)));
  }

  module _ {seen after : Seen} (s : seen ≡ seen_so f) (q : Sees seen f.id None after) where
    module _ (r : Stream) (z : f.id ≡ 0 → ⊥) (t : r.total ≡ f.total) (c : r.code ≡ flag after.code) (e : (r.rank ≡ after.rank) × (r.count ≡ f.count + 1) × (places_of r ≡ places_of f)) where
      -- what is known behind it
      behind : done_from r ≡ plain_done (done_from f) f.id
      behind =
          let up : f.count + 1 ≡ suc f.count = omega arith in
          (λ i. record {
            rank = e.0 i;
            code = (ap (λ x. eqb x 1) c ∙ flag_back after.code) i;
            told = record { count = (e.1 ∙ up) i; name = (e.2 i).name; hints = (e.2 i).hints; older = (e.2 i).older };
          })
          ∙ sym (plain_so f f.id s q)

      pub enters_empty : n ≡ 0 → r.phase ≡ 1 → Enters f n r
      unfolding skip
      enters_empty m p = record { means = as_between r p ∙ at_same t (ap (λ d. settled (accepted d)) behind ∙ sym (enter_plain (done_from f) f.id f.at n f.total z ∙ rw m)) }

      pub enters_plain : (n ≡ 0 → ⊥) → r.phase ≡ 4 → r.at ≡ f.at → r.left ≡ n → Enters f n r
      enters_plain m p a l = record { means = as_skipping r p ∙ at_same t ((λ j. skipping (behind j) (a j) (l j)) ∙ sym (enter_plain (done_from f) f.id f.at n f.total z ∙ skip_on (plain_done (done_from f) f.id) f.at n m)) }

pub ruleset entries = (enters_none, enters_custom, enters_empty, enters_plain, rules)

-- a byte of a size
pub as_over : (x : Counted) → tag_of counted_type.the_type x ≡ 2 → x ≡ Over
as_over (Whole n) h = absurd (omega arith)
as_over (Partly n) h = absurd (omega arith)
as_over Over h = refl

module _ {f : Stream} (k : Fit f × (f.phase ≡ 3) × (f.total < most)) where
  pub size_number : Countable f.come f.low
  size_number = measuring_number k.0 k.1

  pub size_behind : f.count < f.total + 1
  size_behind = let h = measuring_count k.0 k.1 in omega arith

  pub size_at : f.at + 1 < limit64
  size_at = let h = measuring_at k.0 k.1 in let l = k.2 in omega arith

  pub size_come : f.come + 1 < 256
  size_come = let h = come_most size_number in omega arith

  module _ (b : ℕ) (x : Counted) (q : counted_of f.come x ≡ counted (number_so f.come f.low) b) where
    measured_so : step (state_from f) b ≡ at (suc f.total) (measured (done_from f) f.id f.at (counted_of f.come x) (suc f.total))
    unfolding byte
    measured_so = step_so f b (as_measuring f k.1) ∙ ap (λ c. at (suc f.total) (measured (done_from f) f.id f.at c (suc f.total))) (sym q)

    up : f.total + 1 ≡ suc f.total
    up = omega arith

    pub size_whole : {n : ℕ} {g r : Stream} → x ≡ Whole n → g.total ≡ f.total + 1 → done_from g ≡ done_from f → g.id ≡ f.id → g.at ≡ f.at → Enters g n r → Steps f b r
    unfolding measured
    size_whole {n} e t d i a u = record { means = u.means ∙ (λ j. at ((t ∙ up) j) (enter (d j) (i j) (a j) n ((t ∙ up) j))) ∙ sym (measured_so ∙ rw e) }

    pub size_partly : {low : ℕ} {r : Stream} → x ≡ Partly low → r.phase ≡ 3 → r.total ≡ f.total + 1 → done_from r ≡ done_from f → r.id ≡ f.id → r.at ≡ f.at → r.come ≡ f.come + 1 → r.low ≡ low → Steps f b r
    unfolding measured
    size_partly {low} {r} e p t d i a c l =
        let up' : f.come + 1 ≡ suc f.come = omega arith in
        record { means = as_measuring r p ∙ at_same (t ∙ up) (λ j. measuring (d j) (i j) (a j) (record { come = (c ∙ up') j; low = l j })) ∙ sym (measured_so ∙ rw e) }

    pub size_over : {g r : Stream} → tag_of counted_type.the_type x ≡ 2 → g.total ≡ f.total + 1 → Refuses g 3 (f.at + 1) r → Steps f b r
    unfolding measured
    size_over {g} {r} e t u =
        let up' : f.at + 1 ≡ suc f.at = omega arith in
        record { means = u.means ∙ at_same (t ∙ up) (ap (λ a. settled (refused 3 a)) up') ∙ sym (measured_so ∙ rw (as_over x e)) }

pub ruleset sizes = (size_number, size_behind, size_at, size_come, size_whole, size_partly, size_over, rules)
