-- Many bytes at once: where none matters, the code steps over all that a part has of them; and a name that a part has whole is judged at once.
use Prim.Native.Nat.{ℕ, zero, suc, ◌+◌, ◌-◌, ◌≤◌}
use Rattle.std.specs.Prelude.{cond, ◌≡◌, refl, length, take, drop}
use mathlib.Core.List.{List, [], ◌∷◌, ◌++◌}
use Rattle.std.proofs.Math.Option.{Option}
use Rattle.std.proofs.Common.{sym, ◌∙◌, arith, take-take}
use Rattle.std.proofs.Math.Path.{ap, ap₂}
use Rattle.std.proofs.Math.Seq.{slice}
use Rattle.format.specs.Refusals.{number_of}
use Rattle.format.specs.Reading.{refused}
use Rattle.format.specs.declared.Reason.TheVariants.{NotText}
use Rattle.stream.specs.Texts.{Text, text_byte, text_bytes}
use Rattle.stream.specs.Naming.{Names, meet, meet_all}
use Rattle.stream.specs.Contents.{Contents, paying, failing, named, name, content}
use Rattle.stream.specs.Stream.{Done, settled, skip, custom, opening, byte, State, standing, step, steps}
use Rattle.stream.specs.Laws.Texts.{is_text, text_byte_lem, text_ends_lem}
use Rattle.stream.specs.Laws.Naming.{meeting, meeting_byte, meeting_ends}
use Rattle.stream.specs.Laws.Resumed.{steps_append}

one_fewer : (left n : ℕ) → left - n ≡ suc left - suc n
one_fewer left n = omega arith

one_further : (o n : ℕ) → suc o + n ≡ o + suc n
one_further o n = omega arith

none_further : (o : ℕ) → o ≡ o + 0
none_further o = omega arith

none_fewer : (left : ℕ) → left ≡ left - 0
none_fewer left = omega arith

pub skip_many : (d : Done) (at left o : ℕ) (bs : List ℕ) → length bs ≤ left → steps (standing o (skip d at left)) bs ≡ standing (o + length bs) (skip d at (left - length bs))
unfolding steps step skip byte
skip_many d at left o [] h = ap₂ (λ (x y : ℕ). standing x (skip d at y)) (none_further o) (none_fewer left)
skip_many d at zero o (b ∷ bs) h = absurd (omega arith)
skip_many d at (suc left) o (b ∷ bs) h =
    skip_many d at left (suc o) bs (omega arith)
    ∙ ap₂ (λ (x y : ℕ). standing x (skip d at y)) (one_further o (length bs)) (one_fewer left (length bs))

-- contents that no byte changes
module _ (c : Contents) (same : (o b : ℕ) → content c o b ≡ c) where
  pub contents_many : (d : Done) (at left o : ℕ) (bs : List ℕ) → length bs ≤ left → steps (standing o (custom d at left c o)) bs ≡ standing (o + length bs) (custom d at (left - length bs) c (o + length bs))
  unfolding steps step custom byte
  contents_many d at left o [] h = ap₂ (λ (x y : ℕ). standing x (custom d at y c x)) (none_further o) (none_fewer left)
  contents_many d at zero o (b ∷ bs) h = absurd (omega arith)
  contents_many d at (suc left) o (b ∷ bs) h =
      ap (λ (c : Contents). steps (standing (suc o) (custom d at left c (suc o))) bs) (same o b)
      ∙ contents_many d at left (suc o) bs (omega arith)
      ∙ ap₂ (λ (x y : ℕ). standing x (custom d at y c x)) (one_further o (length bs)) (one_fewer left (length bs))

pub paying_stays : (row : Option ℕ) (at o b : ℕ) → content (paying row at) o b ≡ paying row at
unfolding content
paying_stays row at o b = refl

pub failing_stays : (n at o b : ℕ) → content (failing n at) o b ≡ failing n at
unfolding content
failing_stays n at o b = refl

pub refused_many : (n at o : ℕ) (bs : List ℕ) → steps (standing o (settled (refused n at))) bs ≡ standing (o + length bs) (settled (refused n at))
unfolding steps step byte opening
refused_many n at o [] = ap (λ (x : ℕ). standing x (settled (refused n at))) (none_further o)
refused_many n at o (b ∷ bs) = refused_many n at (suc o) bs ∙ ap (λ (x : ℕ). standing x (settled (refused n at))) (one_further o (length bs))

-- what a whole name comes to, at the offset behind it
abbrev pub judged_name : (text : ℕ) → Text → Names → List ℕ → ℕ → Contents
judged_name text t m xs o = cond (is_text t xs) (paying (meeting m xs) o) (failing (number_of NotText) text)

name_over : (begins text : ℕ) (t : Text) (m : Names) (o : ℕ) → name begins text 0 t m o ≡ judged_name text t m [] o
unfolding name named
name_over begins text t m o = λ i. cond (sym (text_ends_lem t) i) (paying (sym (meeting_ends m) i) o) (failing (number_of NotText) text)

name_more : (text : ℕ) (t : Text) (m : Names) (b : ℕ) (xs : List ℕ) (o : ℕ) → judged_name text (text_byte t b) (meet m b) xs o ≡ judged_name text t m (b ∷ xs) o
name_more text t m b xs o = λ i. cond (sym (text_byte_lem t b xs) i) (paying (sym (meeting_byte m b xs) i) o) (failing (number_of NotText) text)

pub name_many : (begins text : ℕ) (d : Done) (at left o : ℕ) (t : Text) (m : Names) (xs : List ℕ) → length xs ≤ left
    → steps (standing o (custom d at left (name begins text (length xs) t m o) o)) xs ≡ standing (o + length xs) (custom d at (left - length xs) (judged_name text t m xs (o + length xs)) (o + length xs))
unfolding steps step custom byte name content
name_many begins text d at left o t m [] h =
    ap (λ (c : Contents). standing o (custom d at left c o)) (name_over begins text t m o)
    ∙ ap₂ (λ (x y : ℕ). standing x (custom d at y (judged_name text t m [] x) x)) (none_further o) (none_fewer left)
name_many begins text d at zero o t m (b ∷ xs) h = absurd (omega arith)
name_many begins text d at (suc left) o t m (b ∷ xs) h =
    name_many begins text d at left (suc o) (text_byte t b) (meet m b) xs (omega arith)
    ∙ ap₂ (λ (x y : ℕ). standing x (custom d at y (judged_name text (text_byte t b) (meet m b) xs x) x)) (one_further o (length xs)) (one_fewer left (length xs))
    ∙ ap (λ (c : Contents). standing (o + suc (length xs)) (custom d at (suc left - suc (length xs)) c (o + suc (length xs)))) (name_more text t m b xs (o + suc (length xs)))

-- some bytes of a name
pub name_some : (begins text rest : ℕ) (d : Done) (at left o : ℕ) (t : Text) (m : Names) (xs : List ℕ) → length xs ≤ rest → length xs ≤ left
    → steps (standing o (custom d at left (name begins text rest t m o) o)) xs ≡ standing (o + length xs) (custom d at (left - length xs) (name begins text (rest - length xs) (text_bytes t xs) (meet_all m xs) (o + length xs)) (o + length xs))
unfolding steps step custom byte name content text_bytes meet_all
name_some begins text rest d at left o t m [] r h =
    ap (λ n. standing o (custom d at left (name begins text n t m o) o)) (none_fewer rest)
    ∙ ap₂ (λ (x y : ℕ). standing x (custom d at y (name begins text (rest - 0) t m x) x)) (none_further o) (none_fewer left)
name_some begins text zero d at left o t m (b ∷ xs) r h = absurd (omega arith)
name_some begins text (suc rest) d at zero o t m (b ∷ xs) r h = absurd (omega arith)
name_some begins text (suc rest) d at (suc left) o t m (b ∷ xs) r h =
    name_some begins text rest d at left (suc o) (text_byte t b) (meet m b) xs (omega arith) (omega arith)
    ∙ ap₂ (λ (x y : ℕ). standing x (custom d at y (name begins text (rest - length xs) (text_bytes (text_byte t b) xs) (meet_all (meet m b) xs) x) x)) (one_further o (length xs)) (one_fewer left (length xs))
    ∙ ap (λ n. standing (o + suc (length xs)) (custom d at (suc left - suc (length xs)) (name begins text n (text_bytes (text_byte t b) xs) (meet_all (meet m b) xs) (o + suc (length xs))) (o + suc (length xs)))) (one_fewer rest (length xs))

-- a part from an offset on is what stands before another, and the rest
cut_at : (i j : ℕ) (l : List ℕ) → i ≤ j → drop i l ≡ drop i (take j l) ++ drop j l
cut_at zero zero l h = refl
cut_at zero (suc j) [] h = refl
cut_at zero (suc j) (b ∷ l) h = ap (λ x. b ∷ x) (cut_at zero j l (omega arith))
cut_at (suc i) zero l h = absurd (omega arith)
cut_at (suc i) (suc j) [] h = refl
cut_at (suc i) (suc j) (b ∷ l) h = cut_at i j l (omega arith)

pub steps_between : (s : State) (i j : ℕ) (part : List ℕ) → i ≤ j → steps s (drop i part) ≡ steps (steps s (drop i (take j part))) (drop j part)
steps_between s i j part h = ap (steps s) (cut_at i j part h) ∙ steps_append s (drop i (take j part)) (drop j part)

-- from one offset to another, by way of a third
pub steps_slices : (s : State) (part : List ℕ) (a b c : ℕ) → a ≤ b → b ≤ c → steps s (slice a c part) ≡ steps (steps s (slice a b part)) (slice b c part)
steps_slices s part a b c h k =
    steps_between s a b (take c part) h
    ∙ ap (λ l. steps (steps s (drop a l)) (slice b c part)) (take-take b c part k)
