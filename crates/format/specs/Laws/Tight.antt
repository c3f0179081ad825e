-- Written anew, what was read is as long as before only where it is the very bytes that were read: a number padded with zero groups is longer. Said here of bytes, one stretch after the other; the laws of each reader carry it.
use Rattle.std.specs.Prelude.{ℕ, zero, suc, ◌+◌, ◌≤◌, List, [], ◌∷◌, ◌++◌, ◌≡◌, refl, length, take, drop}
use Rattle.std.proofs.Common.{append_assoc, append-nil, sym, ap, ◌∙◌, arith, length-append, take-append-drop}
use Rattle.format.specs.Bytes.{Bytes}

-- a stretch of bytes is bytes, and so is what is left after it
pub bytes_before : (front rest : List ℕ) → Bytes (front ++ rest) → Bytes front
bytes_before [] rest h i = omega arith
bytes_before (b ∷ front) rest h zero = h 0
bytes_before (b ∷ front) rest h (suc i) = bytes_before front rest (λ j. h (suc j)) i

pub bytes_after : (front rest : List ℕ) → Bytes (front ++ rest) → Bytes rest
bytes_after [] rest h = h
bytes_after (b ∷ front) rest h = bytes_after front rest (λ i. h (suc i))

-- of `bs` everything before `rest` was read, and `written` is what it says
pub record Tight (written rest bs : List ℕ) : Type 0 where
  pub same : Bytes bs → length written + length rest ≡ length bs → bs ≡ written ++ rest

-- nothing was read; some bytes were, as they are; all of them
pub tight_none : (bs : List ℕ) → Tight [] bs bs
tight_none bs = record { same = λ h long. refl }

pub tight_cut : (n : ℕ) (bs : List ℕ) → Tight (take n bs) (drop n bs) bs
tight_cut n bs = record { same = λ h long. sym (take-append-drop n bs) }

pub tight_all : (bs : List ℕ) → Tight bs [] bs
tight_all bs = record { same = λ h long. sym (append-nil bs) }

-- one byte, and what is read after it
pub tight_byte : (b : ℕ) {written rest bs : List ℕ} → Tight written rest bs → Tight (b ∷ written) rest (b ∷ bs)
tight_byte b t = record { same = λ h long. ap (λ x. b ∷ x) (t.same (λ i. h (suc i)) (omega (arith, long))) }

-- one after the other, neither of them longer than before
pub tight_join : {a b bs between rest : List ℕ} → length a + length between ≤ length bs → Tight a between bs → length b + length rest ≤ length between → Tight b rest between → Tight (a ++ b) rest bs
tight_join {a} {b} {bs} {between} {rest} short first short' then = record {
  same = λ h long.
      let lengths = length-append a b in
      let is = first.same h (omega (arith, long, lengths, short, short')) in
      let is' = then.same (bytes_after a between (rw is at h)) (omega (arith, long, lengths, short, short')) in
      is ∙ ap (λ x. a ++ x) is' ∙ sym (append_assoc a b rest);
}

-- what is as long as all bytes there are is these
pub tight_whole : {written bs : List ℕ} (rest : List ℕ) → Tight written rest bs → length written + length rest ≤ length bs → Bytes bs → length written ≡ length bs → written ≡ bs
tight_whole {written} [] t short h long = sym (t.same h (omega (arith, long)) ∙ append-nil written)
tight_whole (b ∷ rest) t short h long = absurd (omega (arith, short, long))
