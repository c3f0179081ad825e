-- Every call on a table that stands for a model answers as the model, and a table that was started stands for one.
use Rattle.std.specs.Prelude.{ℕ, zero, suc, ◌+◌, ◌-◌, ◌*◌, ◌≤◌, ◌<◌, ◌≡◌, refl, true, List, [], ◌∷◌, ◌++◌, map, length, take, drop, replicate}
use Rattle.std.proofs.Common.{sym, ap, ap₂, ◌∙◌, arith, length-drop, take-append-drop, length-take-le}
use Rattle.std.proofs.Math.Option.{none, some}
use Rattle.std.proofs.lemmas.List.{length-replicate}
use Rattle.sharing.specs.Laws.Blocks.{no_false, Whole}
use Rattle.sharing.specs.Blocks.{cut, join}
use Rattle.sharing.specs.Model.{Payloads, Call, opening, asking, closing, tidying, tidied, Model, acts, customer, changed, acting, act, keep}
use Rattle.sharing.specs.Table.{Table, Mark, blank, started, rows_right}
use Rattle.sharing.specs.Step.{fitting, step, tidy}
use Rattle.sharing.specs.Laws.Shelf.{gap, Shelf, size}
use Rattle.sharing.specs.Laws.Walks.{all_right}
use Rattle.sharing.specs.Laws.Holds.{empty, Leads, done, more}
use Rattle.sharing.specs.Laws.Swaps.{at_gaps, gaps_size, gaps_blocks, gaps_marks}
use Rattle.sharing.specs.Laws.Standing.{Stands, blocks_are, fits_is}
use Rattle.sharing.specs.Laws.Calls.{Met, opens, asks, closes}
use Rattle.sharing.specs.Laws.Moving.{tidy_stands}

-- One call

tidies : (P : Payloads) (t : Table) (s : List ℕ) (m : Model) (st : Stands P t s m) → Met P m 16 (λ room. act keep tidied) (tidy t s)
unfolding tidy changed
tidies P t s m st = rw (ap₂ rows_right st.laid.marks (blocks_are st.laid) ∙ all_right st.shelf st.laid.tail)
    (record { room = true; answers = refl; stands = tidy_stands P t s m st; full = λ f. absurd (no_false f) })

fitted : (P : Payloads) (t : Table) (s : List ℕ) (m : Model) (st : Stands P t s m) (call : Call) → Met P m (customer call) (λ room. acting P room m call) (fitting P t s call)
unfolding acting customer
fitted P t s m st (opening c payload work) = opens P t s m c st payload work
fitted P t s m st (asking c hold index out) = asks P t s m c st hold index out
fitted P t s m st (closing c hold) = closes P t s m c st hold
fitted P t s m st tidying = unfold acts fitting in tidies P t s m st

-- every call answers as the model does, with room or without, and stands for the model's next
pub refines : (P : Payloads) (t : Table) (s : List ℕ) (m : Model) (st : Stands P t s m) (call : Call) → Met P m (customer call) (λ room. acting P room m call) (step P t s call)
unfolding step
refines P t s m st call = rw (fits_is st.laid) (fitted P t s m st call)

-- The start

pub join_cut : (n : ℕ) (s : List ℕ) → length s ≡ n * 512 → join (cut n s) ≡ s
unfolding join cut
join_cut zero [] e = refl
join_cut zero (x ∷ s) e = absurd (omega arith)
join_cut (suc n) s e = ap (λ (l : List ℕ). take 512 s ++ l) (join_cut n (drop 512 s) (length-drop 512 s ∙ omega arith)) ∙ take-append-drop 512 s

pub cut_length : (n : ℕ) (s : List ℕ) → length (cut n s) ≡ n
unfolding cut
cut_length zero s = refl
cut_length (suc n) s = ap suc (cut_length n (drop 512 s))

pub whole_cut : (n : ℕ) (s : List ℕ) → length s ≡ n * 512 → Whole (cut n s)
unfolding cut
whole_cut zero s e = Whole.none
whole_cut (suc n) s e = Whole.more (length-take-le 512 s (omega arith)) (whole_cut n (drop 512 s) (length-drop 512 s ∙ omega arith))

replicate_add : (n k : ℕ) → replicate n blank ++ replicate k blank ≡ replicate (n + k) blank
replicate_add zero k = let z : 0 + k ≡ k = omega arith in rw z refl
replicate_add (suc n) k = let z : suc n + k ≡ suc (n + k) = omega arith in rw z (ap (λ (l : List Mark). blank ∷ l) (replicate_add n k))

none_lead : (sh : Shelf) (n : ℕ) → Leads sh (replicate n 0) (replicate n none)
none_lead sh zero = done
none_lead sh (suc n) = more empty (none_lead sh n)

abbrev pub nobody : Model
nobody = replicate 128 none

pub starts : (P : Payloads) (s : List ℕ) (n : ℕ) → length s ≡ n * 512 → 0 < n → n ≤ 128 → Stands P (started (length s)) s nobody
unfolding started
starts P s n e h k =
    let ks = cut n s in
    let z : size (map gap ks) ≡ n = gaps_size ks ∙ cut_length n s in
    let w : n + (128 - n) ≡ 128 = omega arith in
    record {
      shelf = map gap ks;
      laid = record {
        tail = replicate (128 - n) blank;
        marks = sym (ap (λ (l : List Mark). l ++ replicate (128 - n) blank) (gaps_marks ks ∙ ap (λ (i : ℕ). replicate i blank) (cut_length n s)) ∙ replicate_add n (128 - n) ∙ ap (λ (i : ℕ). replicate i blank) w);
        store = sym (ap join (gaps_blocks ks) ∙ join_cut n s e);
        whole = rw (gaps_blocks ks) (whole_cut n s e);
        bytes = e ∙ ap (λ (i : ℕ). i * 512) (sym z);
        some = omega arith;
        few = omega arith;
      };
      holding = record {
        leads = none_lead (map gap ks) 128;
        users = λ b u p a. absurd (at_gaps ks a);
        alone = λ b d u v p a c. absurd (at_gaps ks a);
        fine = λ b u p a. absurd (at_gaps ks a);
      };
      all = length-replicate {A = ℕ} 128 0;
    }
