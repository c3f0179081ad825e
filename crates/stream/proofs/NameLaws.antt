-- The bytes of a custom section's name: one law for each way through the code.
use Prim.Native.Nat.{ℕ, zero, suc, ◌+◌, ◌-◌, ◌≤◌, ◌<◌}
use mathlib.Core.Bool.{Bool, true, false, cond, ◌&&◌}
use mathlib.Core.List.{List, [], ◌∷◌}
use mathlib.Core.Option.{none}
use mathlib.Core.Path.{◌≡◌, refl, sym, ap, ◌∙◌}
use native.Mathlib.Omega.{arith}
use borrow.Author.Rules.{rules}
use borrow.Author.Tests.{ltb-true, ne_eqb}
use denote.Enum.Declared.{tag_of}
use lib.Dec.{ltb, eqb}
use lib.ListN.{length, get_or}
use lib.Seq.{slice, slice-cons, slice_empty}
use Rattle.format.specs.Bytes.{ascii}
use Rattle.format.specs.Walk.{name_section, hint_section}
use Rattle.format.specs.Laws.Outcomes.{on_both}
use Rattle.stream.specs.Counting.{counted}
use Rattle.stream.specs.Texts.{Text, none_wanted, text_byte, text_bytes, nothing_wanted, text_ends}
use Rattle.stream.specs.Naming.{Names, none_met, match_ends, meet, meet_all, met}
use Rattle.stream.specs.Contents.{Contents, sizing, naming, paying, failing, named, name, sized, content}
use Rattle.stream.specs.Stream.{Done, in_custom_lem, custom, byte}
use Rattle.stream.specs.Calls.{most}
use Rattle.stream.specs.Fields.{row_number, first_row, done_from, number_from, text_from, names_from, contents_from}
use Rattle.stream.specs.Fits.{is_number_fitting, text_fits, contents_fit}
use Rattle.stream.specs.Phases.{number_of, Countable, counted_of, text_of, Spellable, met_of, Fit, Steps, Closing, Closes, NameBegins, NameSized, NameEnds, SpelledBy, Spelling, Spells}
use Rattle.stream.specs.Laws.Fields.{row_back}
use Rattle.stream.specs.Laws.Fits.{name_fits, counted_fits_lem, counted_fits, text_fits_lem}
use Rattle.stream.specs.declared.Met.{Met}
use Rattle.stream.specs.declared.Stream.{Stream}
use Rattle.stream.specs.declared.contents.Spelled.{Spelled}
use Rattle.stream.specs.declared.numbers.Counted.{Counted}
use Rattle.stream.specs.declared.numbers.Counted.TheVariants.{Whole, Partly}
use Rattle.stream.specs.declared.texts.Text.{Text as TextSo}
use Rattle.stream.specs.contracts.numbers.Counted as counted_type
use Rattle.stream.proofs.Leaves.{come_most}
use Rattle.stream.proofs.States.{at, at_same, as_custom, as_sizing, as_naming, as_paying, as_failing, custom_count, custom_left, custom_contents}
use Rattle.stream.proofs.SectionLaws.{limit64, step_so, as_over}

-- WHAT A NAME COMES TO

module _ (f : Stream) where
  pub name_paying : (row : ℕ) {is : Bool} {r : Stream} → is ≡ true → (r.phase ≡ 7) × (r.row ≡ row) × (r.text ≡ f.total) × (r.total ≡ f.total) × (done_from r ≡ done_from f) × (r.at ≡ f.at) × (r.left ≡ f.left)
      → NameEnds f is row r
  name_paying row {r = r} e (p, w, x, t, d, a, l) =
      record { contains = record { inside = omega arith; total = t; done = d; at = a; left = l; contents = as_paying r p ∙ (λ i. paying (first_row (w i)) (x i)) ∙ rw e } }

  pub name_failing : (row : ℕ) {is : Bool} {r : Stream} → is ≡ false → (r.phase ≡ 8) × (r.refusal ≡ 4) × (r.text ≡ f.text) × (r.total ≡ f.total) × (done_from r ≡ done_from f) × (r.at ≡ f.at) × (r.left ≡ f.left)
      → NameEnds f is row r
  name_failing row {r = r} e (p, w, x, t, d, a, l) =
      record { contains = record { inside = omega arith; total = t; done = d; at = a; left = l; contents = as_failing r (omega arith) ∙ (λ i. failing (w i) (x i)) ∙ rw e } }

  none_named : paying none f.total ≡ name f.begins f.total 0 none_wanted none_met f.total
  unfolding name named text_ends nothing_wanted match_ends name_section hint_section ascii
  none_named = refl

  pub begins_empty : {n : ℕ} {r : Stream} → n ≡ 0 → (r.phase ≡ 7) × (r.row ≡ 0) × (r.text ≡ f.total) × (r.total ≡ f.total) × (done_from r ≡ done_from f) × (r.at ≡ f.at) × (r.left ≡ f.left)
      → NameBegins f n r
  begins_empty {n} {r} e (p, w, x, t, d, a, l) =
      record { contains = record { inside = omega arith; total = t; done = d; at = a; left = l; contents = as_paying r p ∙ (λ i. paying (first_row (w i)) (x i)) ∙ none_named ∙ ap (λ n. name f.begins f.total n none_wanted none_met f.total) (sym e) } }

  pub name_on : (begins text n : ℕ) (t : Text) (m : Names) (o : ℕ) → (n ≡ 0 → ⊥) → naming begins text n t m ≡ name begins text n t m o
  unfolding name
  name_on begins text zero t m o h = absurd (h refl)
  name_on begins text (suc n) t m o h = refl

  pub begins_on : {n : ℕ} {r : Stream} → (n ≡ 0 → ⊥) → (r.phase ≡ 6) × (r.begins ≡ f.begins) × (r.text ≡ f.total) × (r.rest ≡ n) × (text_from r ≡ none_wanted) × (names_from r ≡ none_met) → (r.total ≡ f.total) × (done_from r ≡ done_from f) × (r.at ≡ f.at) × (r.left ≡ f.left)
      → NameBegins f n r
  begins_on {n} {r} e (p, b, x, m, y, z) (t, d, a, l) =
      record { contains = record { inside = omega arith; total = t; done = d; at = a; left = l; contents = as_naming r p ∙ (λ i. naming (b i) (x i) (m i) (y i) (z i)) ∙ name_on f.begins f.total n none_wanted none_met f.total e } }

  pub sized_closing : (n : ℕ) {h : Stream} → f.count < f.total → NameBegins f n h → Closing h
  sized_closing n {h} l b =
      let c = b.contains in
      let e : h.count ≡ f.count = ap (λ d. d.told.count) c.done in
      let s = c.total in
      record { inside = c.inside; behind = omega arith; fits = (λ j. contents_fit (c.contents j) (c.total j)) ∙ name_fits f.begins f.total n none_wanted none_met f.total refl }

  pub sized_closes : (n : ℕ) {h r : Stream} → NameBegins f n h → Closes h r → NameSized f n r
  sized_closes n b u = let c = b.contains in record { means = u.means ∙ at_same c.total (λ j. custom (c.done j) (c.at j) (c.left j) (c.contents j) (c.total j)) }

pub ruleset beginnings = (name_paying, name_failing, begins_empty, begins_on, sized_closing, sized_closes, rules)

-- A BYTE

-- so many bytes of the contents were read, and this is what they are now
pub record Ahead (f : Stream) (n : ℕ) (c : Contents) (h : Stream) : Type 0 where
  pub inside : 4 < h.phase
  pub total : h.total ≡ f.total + n
  pub left : h.left ≡ f.left - n
  pub done : done_from h ≡ done_from f
  pub at : h.at ≡ f.at
  pub contents : contents_from h ≡ c

left_one : (d : Done) (id left : ℕ) (c : Contents) (o b : ℕ) → 0 < left → byte (in_custom_lem d id left c) o b ≡ custom d id (left - 1) (content c o b) (suc o)
unfolding byte
left_one d id zero c o b h = absurd (omega arith)
left_one d id (suc left) c o b h = let one : suc left - 1 ≡ left = omega arith in rw one

module _ {f : Stream} (k : Fit f) (i : 4 < f.phase) where
  up : f.total + 1 ≡ suc f.total
  up = omega arith

  stepped : {h r : Stream} (b : ℕ) → Ahead f 1 (content (contents_from f) f.total b) h → Closes h r → Steps f b r
  stepped b a c = record {
    means =
        c.means
        ∙ at_same (a.total ∙ up) (λ j. custom (a.done j) (a.at j) (a.left j) (a.contents j) ((a.total ∙ up) j))
        ∙ sym (step_so f b (as_custom f i) ∙ at_same refl (left_one (done_from f) f.at f.left (contents_from f) f.total b (custom_left k i)));
  }

  ready : {h : Stream} (c : Contents) → Ahead f 1 c h → contents_fit c (suc f.total) ≡ true → Closing h
  ready {h} c a e =
      let n : h.count ≡ f.count = ap (λ d. d.told.count) a.done in
      let m = custom_count k i in
      let t = a.total in
      record { inside = a.inside; behind = omega arith; fits = (λ j. contents_fit (a.contents j) ((a.total ∙ up) j)) ∙ e }

-- of the number of a name's bytes
module _ {f : Stream} (k : Fit f × (f.phase ≡ 5) × (f.total < most)) where
  inside : 4 < f.phase
  inside = let p = k.1 in omega arith

  sizes : is_number_fitting (number_from f) ≡ true
  sizes = sym (ap (λ c. contents_fit c f.total) (as_sizing f k.1)) ∙ custom_contents k.0 inside

  pub sizing_number : Countable f.come f.low
  sizing_number = record { fits = sizes }

  pub sizing_left : 1 ≤ f.left
  sizing_left = let l = custom_left k.0 inside in omega arith

  pub sizing_come : f.come + 1 < 256
  sizing_come = let h = come_most sizing_number in omega arith

  module _ (b : ℕ) (x : Counted) (q : counted_of f.come x ≡ counted (number_of f.come f.low) b) where
    sized_so : content (contents_from f) f.total b ≡ sized f.begins (counted_of f.come x) (suc f.total)
    unfolding content
    sized_so = ap (λ c. content c f.total b) (as_sizing f k.1) ∙ ap (λ c. sized f.begins c (suc f.total)) (sym q)

    pub sizing_whole : (n : ℕ) (g : Stream) {r : Stream} → x ≡ Whole n → NameSized g n r → (g.total ≡ f.total + 1) × (g.left ≡ f.left - 1) × (g.begins ≡ f.begins) × (done_from g ≡ done_from f) × (g.at ≡ f.at) → Steps f b r
    unfolding sized
    sizing_whole n g e u (t, l, o, d, a) =
        let next = t ∙ up k.0 inside in
        record {
          means =
              u.means
              ∙ at_same next (λ j. custom (d j) (a j) (l j) (name (o j) (next j) n none_wanted none_met (next j)) (next j))
              ∙ sym (step_so f b (as_custom f inside) ∙ at_same refl (left_one (done_from f) f.at f.left (contents_from f) f.total b (custom_left k.0 inside) ∙ ap (λ c. custom (done_from f) f.at (f.left - 1) c (suc f.total)) (sized_so ∙ rw e)));
        }

    module _ (low : ℕ) (e : x ≡ Partly low) {h : Stream} (p : h.phase ≡ 5) (w : (h.total ≡ f.total + 1) × (h.left ≡ f.left - 1) × (h.begins ≡ f.begins) × (done_from h ≡ done_from f) × (h.at ≡ f.at) × (h.come ≡ f.come + 1) × (h.low ≡ low)) where
      partly_ahead : Ahead f 1 (sizing f.begins (record { come = suc f.come; low = low })) h
      partly_ahead =
          let one : f.come + 1 ≡ suc f.come = omega arith in
          record { inside = omega arith; total = w.0; left = w.1; done = w.3; at = w.4; contents = as_sizing h p ∙ (λ j. sizing (w.2 j) (record { come = (w.5 ∙ one) j; low = w.6 j })) }

      pub partly_closing : Closing h
      partly_closing = ready k.0 inside (sizing f.begins (record { come = suc f.come; low = low })) partly_ahead (sym (ap counted_fits (sym q ∙ ap (counted_of f.come) e)) ∙ counted_fits_lem (number_from f) b sizes)

      pub sizing_partly : {r : Stream} → Closes h r → Steps f b r
      unfolding sized
      sizing_partly u = stepped k.0 inside b (rw (sized_so, e) partly_ahead) u

    module _ (e : tag_of counted_type.the_type x ≡ 2) {h : Stream} (p : h.phase ≡ 8) (w : (h.total ≡ f.total + 1) × (h.left ≡ f.left - 1) × (h.text ≡ f.begins) × (h.refusal ≡ 3) × (done_from h ≡ done_from f) × (h.at ≡ f.at)) where
      over_ahead : Ahead f 1 (failing 3 f.begins) h
      over_ahead = record { inside = omega arith; total = w.0; left = w.1; done = w.4; at = w.5; contents = as_failing h (omega arith) ∙ (λ j. failing (w.3 j) (w.2 j)) }

      pub over_closing : Closing h
      over_closing = ready k.0 inside (failing 3 f.begins) over_ahead refl

      pub sizing_over : {r : Stream} → Closes h r → Steps f b r
      unfolding sized
      sizing_over u = stepped k.0 inside b (rw (sized_so, as_over x e) over_ahead) u

  pub sizing_behind : f.count < f.total + 1
  sizing_behind = let m = custom_count k.0 inside in omega arith

pub ruleset name_sizes = (sizing_number, sizing_left, sizing_come, sizing_whole, sizing_partly, sizing_over, sizing_behind, partly_closing, over_closing, rules)

-- of the name
eq_zero : (n : ℕ) → eqb n 0 ≡ nothing_wanted n
unfolding nothing_wanted
eq_zero zero = refl
eq_zero (suc n) = ne_eqb (suc n) 0 (λ e. absurd (omega arith))

-- so many bytes more, whichever they were
module _ {f : Stream} {n : ℕ} {x : Spelled} (k : Spelling f n x) where
  abbrev now_named : Contents
  now_named = name f.begins f.text (f.rest - n) (text_of x.text) (met_of x.met) (f.total + n)

  spelt : {h r : Stream} → Ahead f n now_named h → Closes h r → Spells f n x r
  spelt a c = record { means = c.means ∙ at_same a.total (λ j. custom (a.done j) (a.at j) (a.left j) (a.contents j) (a.total j)) }

  prepared : {h : Stream} → Ahead f n now_named h → Closing h
  prepared {h} a =
      let e : h.count ≡ f.count = ap (λ d. d.told.count) a.done in
      let c = k.count in let t = a.total in let s = k.some in
      record { inside = a.inside; behind = omega arith; fits = (λ j. contents_fit (a.contents j) (a.total j)) ∙ name_fits f.begins f.text (f.rest - n) (text_of x.text) (met_of x.met) (f.total + n) k.fits }

  pub spell_room : f.total + n < limit64
  spell_room = let r = k.room in omega arith

  -- the name's last bytes
  module _ (e : f.rest ≡ n) (g : Stream) {h : Stream} {row : ℕ} (z : row ≡ row_number (met (met_of x.met))) (b' : NameEnds g (eqb x.text.wanted 0) row h) (w : (g.total ≡ f.total + n) × (g.left ≡ f.left - n) × (g.text ≡ f.text) × (done_from g ≡ done_from f) × (g.at ≡ f.at)) where
    last_so : now_named ≡ cond (eqb x.text.wanted 0) (paying (first_row row) (f.total + n)) (failing 4 f.text)
    unfolding name named text_ends
    last_so =
        let none : f.rest - n ≡ 0 = omega arith in
        ap (λ i. name f.begins f.text i (text_of x.text) (met_of x.met) (f.total + n)) none
        ∙ (λ i. cond (sym (eq_zero x.text.wanted) i) (paying (sym (ap first_row z ∙ row_back (met (met_of x.met))) i) (f.total + n)) (failing 4 f.text))

    last_ahead : Ahead f n now_named h
    last_ahead = let c = b'.contains in record {
      inside = c.inside;
      total = c.total ∙ w.0;
      left = c.left ∙ w.1;
      done = c.done ∙ w.3;
      at = c.at ∙ w.4;
      contents = c.contents ∙ (λ j. cond (eqb x.text.wanted 0) (paying (first_row row) (w.0 j)) (failing 4 (w.2 j))) ∙ sym last_so;
    }

    pub last_closing : Closing h
    last_closing = prepared last_ahead

    pub spells_last : {r : Stream} → Closes h r → Spells f n x r
    spells_last u = spelt last_ahead u

  module _ (e : f.rest ≡ n → ⊥) {h : Stream} (w : (h.phase ≡ f.phase) × (h.total ≡ f.total + n) × (h.left ≡ f.left - n) × (h.begins ≡ f.begins) × (h.text ≡ f.text) × (h.rest ≡ f.rest - n) × (done_from h ≡ done_from f) × (h.at ≡ f.at)) (v : (text_from h ≡ text_of x.text) × (names_from h ≡ met_of x.met)) where
    on_ahead : Ahead f n now_named h
    on_ahead =
        let p = k.phase in
        let q = w.0 in
        let r = k.rest in
        record {
          inside = omega arith;
          total = w.1;
          left = w.2;
          done = w.6;
          at = w.7;
          contents =
              as_naming h (w.0 ∙ k.phase) ∙ (λ j. naming (w.3 j) (w.4 j) (w.5 j) (v.0 j) (v.1 j))
              ∙ name_on f f.begins f.text (f.rest - n) (text_of x.text) (met_of x.met) (f.total + n) (λ z. e (omega arith));
        }

    pub on_closing : Closing h
    on_closing = prepared on_ahead

    pub spells_on : {r : Stream} → Closes h r → Spells f n x r
    spells_on u = spelt on_ahead u

pub ruleset spellings = (spell_room, last_closing, spells_last, on_closing, spells_on, rules)

-- from byte to byte
pub record Spelt (part : List ℕ) (from to : ℕ) (t₀ : TextSo) (m₀ : Met) (t : TextSo) (m : Met) (i : ℕ) : Type 0 where
  pub within : i ≤ to
  pub text : text_bytes (text_of t₀) (slice from to part) ≡ text_bytes (text_of t) (slice i to part)
  pub met : meet_all (met_of m₀) (slice from to part) ≡ meet_all (met_of m) (slice i to part)
  pub spellable : Spellable t

module _ {f : Stream} (k : Fit f × (f.phase ≡ 6)) where
  within : 4 < f.phase
  within = let p = k.1 in omega arith

  names : (ltb 0 f.rest && text_fits (text_from f)) ≡ true
  names = sym (ap (λ c. contents_fit c f.total) (as_naming f k.1)) ∙ custom_contents k.0 within

  pub name_text : text_fits (text_from f) ≡ true
  name_text = on_both (ltb 0 f.rest) _ names λ _ t. t

  pub name_rest : 0 < f.rest
  name_rest = on_both (ltb 0 f.rest) _ names (λ l _. ltb-true 0 f.rest l)

pub spelt_first : (f : Stream) (part : List ℕ) (from to : ℕ) → Fit f × (f.phase ≡ 6) × (from ≤ to) × (to ≤ length part) → Spelt part from to (record { wanted = f.wanted; least = f.least; point = f.point }) f.met (record { wanted = f.wanted; least = f.least; point = f.point }) f.met from
spelt_first f part from to k = record { within = k.2; text = refl; met = refl; spellable = record { fits = name_text (k.0, k.1) } }

module _ {part : List ℕ} {from to i : ℕ} {t₀ t : TextSo} {m₀ m : Met} (s : Spelt part from to t₀ m₀ t m i) where
  pub spelt_here : to ≤ length part → i < to → i < length part
  spelt_here l h = omega arith

  pub spelt_text : Spellable t
  spelt_text = s.spellable

  pub spelt_next : {t' : TextSo} {m' : Met} → to ≤ length part → i < to → text_of t' ≡ text_byte (text_of t) (get_or part i 0) → met_of m' ≡ meet (met_of m) (get_or part i 0) → Spelt part from to t₀ m₀ t' m' (i + 1)
  unfolding text_bytes meet_all
  spelt_next {t'} {m'} l h x y =
      let up : suc i ≡ i + 1 = omega arith in
      let cons : slice i to part ≡ get_or part i 0 ∷ slice (i + 1) to part = slice-cons i to part 0 h l ∙ ap (λ j. get_or part i 0 ∷ slice j to part) up in
      record {
        within = omega arith;
        text = s.text ∙ ap (text_bytes (text_of t)) cons ∙ ap (λ t. text_bytes t (slice (i + 1) to part)) (sym x);
        met = s.met ∙ ap (meet_all (met_of m)) cons ∙ ap (λ m. meet_all m (slice (i + 1) to part)) (sym y);
        spellable = record { fits = ap text_fits x ∙ text_fits_lem (text_of t) (get_or part i 0) s.spellable.fits };
      }

  pub spelt_ends : (f : Stream) → text_of t₀ ≡ text_from f → met_of m₀ ≡ names_from f → to ≤ i → SpelledBy f (slice from to part) (record { text = t; met = m })
  unfolding text_bytes meet_all
  spelt_ends f x y h =
      let l = s.within in
      let e : i ≡ to = omega arith in
      let none : slice i to part ≡ [] = ap (λ j. slice j to part) e ∙ slice_empty to part in
      record {
        text = sym (ap (λ t. text_bytes t (slice from to part)) (sym x) ∙ s.text ∙ ap (text_bytes (text_of t)) none);
        met = sym (ap (λ m. meet_all m (slice from to part)) (sym y) ∙ s.met ∙ ap (meet_all (met_of m)) none);
      }

pub ruleset spelling_loop = (spelt_first, spelt_here, spelt_text, spelt_next, spelt_ends, rules)
