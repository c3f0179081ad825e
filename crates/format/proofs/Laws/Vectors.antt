-- Lists in any order: a count, and so many elements one after the other. Where a reader and a way of writing fit one another, so do those of lists.
use Prim.Native.Nat.{ℕ, zero, suc, ◌+◌, ◌≤◌, ◌<◌}
use mathlib.Core.List.{List, [], ◌∷◌, ◌++◌, append_assoc}
use Rattle.std.specs.Prelude.{◌≡◌, length}
use Rattle.std.proofs.Math.Path.{refl, ap, ap₂}
use native.Mathlib.Omega.{arith}
use Rattle.std.proofs.Math.ListN.{length-append}
use Rattle.format.specs.Reading.{got, Reader}
use Rattle.format.specs.Numbers.{number, shortest}
use Rattle.format.specs.Older.{times, vector}
use Rattle.format.specs.Laws.Outcomes.{got_value, got_next, got_rest, in_turn}
use Rattle.format.specs.Laws.Tight.{Tight, tight_none, tight_join}
use Rattle.format.proofs.Laws.Codecs.{Sound, Back, Codec, Fits32, number_sound, number_back}

-- each element is as P says
pub data All {A : Type 0} (P : A → Type 0) : List A → Type 0 where
  no_more : All P []
  also : {x : A} {xs : List A} → P x → All P xs → All P (x ∷ xs)

module _ {A : Type 0} {P : A → Type 0} where
  pub all_of : ((x : A) → P x) → (xs : List A) → All P xs
  all_of h [] = no_more
  all_of h (x ∷ xs) = also (h x) (all_of h xs)

  pub all_imp : {Q : A → Type 0} → ((x : A) → P x → Q x) → {xs : List A} → All P xs → All Q xs
  all_imp h no_more = no_more
  all_imp h (also {x = x} p ps) = also (h x p) (all_imp h ps)

module _ {A : Type 0} (write : A → List ℕ) where
  unfoldable pub write_each : List A → List ℕ
  write_each [] = []
  write_each (x ∷ xs) = write x ++ write_each xs

  unfoldable pub write_vector : List A → List ℕ
  write_vector xs = shortest (length xs) ++ write_each xs

  -- elements of a byte or more are no more than the bytes
  pub each_longer : ((x : A) → 0 < length (write x)) → (xs : List A) → length xs ≤ length (write_each xs)
  unfolding write_each
  each_longer h [] = omega arith
  each_longer h (x ∷ xs) = simp length-append (omega (arith, h x, each_longer h xs))

module _ {A : Type 0} (Fine : A → Type 0) where
  pub record VectorFine (xs : List A) : Type 0 where
    pub count : Fits32 (length xs)
    pub each : All Fine xs

module _ {A : Type 0} {read : Reader A} {write : A → List ℕ} {Fine : A → Type 0} (codec : Codec read (λ x. x) write Fine) where
  pub record TimesRead (n : ℕ) (xs : List A) (rest bs : List ℕ) : Type 0 where
    pub each : All Fine xs
    pub count : length xs ≡ n
    pub shorter : length (write_each write xs) + length rest ≤ length bs
    pub tight : Tight (write_each write xs) rest bs

  pub times_sound : (n o : ℕ) (bs : List ℕ) {xs : List A} {o' : ℕ} {rest : List ℕ} → times read n o bs ≡ got xs o' rest → TimesRead n xs rest bs
  unfolding times write_each
  times_sound zero o bs e = rw (← got_value e, ← got_rest e) (record { each = no_more; count = refl; shorter = omega arith; tight = tight_none bs })
  times_sound (suc n) o bs {rest = rest} e =
      in_turn (read o bs) _ e λ x o₁ r₁ e₁ e₂. in_turn (times read n o₁ r₁) _ e₂ λ xs o₂ r₂ e₃ e₄.
      let val = codec.sound o bs e₁ in
      let ih = times_sound n o₁ r₁ (rw (got_next e₄, got_rest e₄) at e₃) in
      rw (← got_value e₄) (record {
        each = also val.fine ih.each;
        count = ap suc ih.count;
        shorter = simp length-append (omega (arith, val.shorter, ih.shorter));
        tight = tight_join val.shorter val.tight ih.shorter ih.tight;
      })

  times_back : {xs : List A} → All Fine xs → (o : ℕ) (rest : List ℕ) → Back (times read (length xs)) (λ x. x) (write_each write) xs o rest
  unfolding times write_each
  times_back no_more o rest = record { value = []; next = o; reads = refl; same = refl }
  times_back (also {x = x} {xs = xs} p ps) o rest =
      let val = codec.back x p o (write_each write xs ++ rest) in
      let ih = times_back ps val.next rest in
      record {
        value = val.value ∷ ih.value;
        next = ih.next;
        reads = rw (append_assoc, val.reads, ih.reads);
        same = ap₂ (λ (y : A) (ys : List A). y ∷ ys) val.same ih.same;
      }

  pub vector_codec : Codec (vector read) (λ x. x) (write_vector write) (VectorFine Fine)
  unfolding vector write_vector
  vector_codec = record { sound = down; back = up }
    where
      down : (o : ℕ) (bs : List ℕ) {xs : List A} {o' : ℕ} {rest : List ℕ} → vector read o bs ≡ got xs o' rest → Sound (write_vector write) (VectorFine Fine) xs rest bs
      down o bs e =
          in_turn (number o bs) _ e λ n o₁ r₁ e₁ e₂.
          let num = number_sound o bs e₁ in
          let xs = times_sound n o₁ r₁ e₂ in
          record {
            fine = record { count = rw xs.count num.fine; each = xs.each };
            shorter = simp (length-append, xs.count) (omega (arith, num.shorter, xs.shorter));
            tight = rw xs.count (tight_join num.shorter num.tight xs.shorter xs.tight);
          }

      up : (xs : List A) → VectorFine Fine xs → (o : ℕ) (rest : List ℕ) → Back (vector read) (λ x. x) (write_vector write) xs o rest
      up xs h o rest =
          let (o₁, e₁) = number_back (length xs) o (write_each write xs ++ rest) h.count in
          let b = times_back h.each o₁ rest in
          record { value = b.value; next = b.next; reads = rw (append_assoc, e₁, b.reads); same = b.same }
