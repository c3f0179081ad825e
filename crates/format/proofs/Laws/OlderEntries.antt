-- Hints and entries of the older edition: what reads them and the writing in fewest bytes fit one another; and so what a payload holds, and that it reads back.
use Rattle.std.specs.Prelude.{ℕ, zero, suc, ◌+◌, ◌≤◌, List, [], ◌∷◌, ◌++◌, ◌≡◌, refl, leb, eqb, length}
use Rattle.std.proofs.Common.{append_assoc, ap, ap₂, arith, leb-true, eqb-true, length-append}
use Rattle.format.specs.Reading.{got, accepted, filling}
use Rattle.format.specs.Numbers.{number, fewest, shortest}
use Rattle.format.specs.Older.{OlderHint, OlderEntry, vector, zero_byte, kind_numbered, older_kind, older_hint, older_entry, judge_older, kind_number}
use Rattle.format.specs.Laws.Outcomes.{not_got, got_value, got_rest, by_test, in_turn, passed, judged}
use Rattle.format.specs.Laws.Tight.{tight_byte, tight_join}
use Rattle.format.proofs.Laws.Codecs.{Sound, Back, Codec, Fits32, number_sound, number_back, fill_sound, fill_back}
use Rattle.format.proofs.Laws.Vectors.{write_vector, VectorFine, vector_codec}
use Rattle.format.specs.declared.Hint.{Hint}
use Rattle.format.specs.declared.Hint.TheVariants.{Unlikely, Likely}

-- a kind, however it is padded
pub kind_numbered_lem : (k : ℕ) → k ≤ 1 → kind_number (kind_numbered k) ≡ k
kind_numbered_lem zero h = refl
kind_numbered_lem (suc zero) h = refl
kind_numbered_lem (suc (suc k)) h = absurd (omega arith)

-- a kind is written as one byte
pub kind_byte : (x : Hint) → shortest (kind_number x) ≡ kind_number x ∷ []
unfolding shortest fewest
kind_byte Unlikely = refl
kind_byte Likely = refl

unfoldable pub kind_bytes : Hint → List ℕ
kind_bytes kind = shortest (kind_number kind)

kind_back : (kind : Hint) (o : ℕ) (rest : List ℕ) → Back older_kind (λ x. x) kind_bytes kind o rest
unfolding older_kind kind_bytes
kind_back Unlikely o rest = let (o', e) = number_back 0 o rest (omega arith) in record { value = Unlikely; next = o'; reads = rw e; same = refl }
kind_back Likely o rest = let (o', e) = number_back 1 o rest (omega arith) in record { value = Likely; next = o'; reads = rw e; same = refl }

kind_codec : Codec older_kind (λ x. x) kind_bytes (λ _. Unit {0})
unfolding older_kind kind_bytes
kind_codec = record { sound = down; back = λ kind _ o rest. kind_back kind o rest }
  where
    down : (o : ℕ) (bs : List ℕ) {v : Hint} {o' : ℕ} {rest : List ℕ} → older_kind o bs ≡ got v o' rest → Sound kind_bytes (λ _. Unit {0}) v rest bs
    down o bs e =
        in_turn (number o bs) _ e λ k o₁ r₁ e₁ e₂. passed (leb k 1) _ _ _ _ _ e₂ λ t e₃.
        let num = number_sound o bs e₁ in
        let is : kind_number (kind_numbered k) ≡ k = kind_numbered_lem k (leb-true k 1 t) in
        rw (← got_value e₃, ← got_rest e₃) (record { fine = tt; shorter = rw is num.shorter; tight = rw is num.tight })

-- a hint
unfoldable pub hint_bytes : OlderHint → List ℕ
hint_bytes h = kind_bytes h.kind ++ shortest h.offset

abbrev pub HintFine : OlderHint → Type 0
HintFine h = Fits32 h.offset

hint_codec : Codec older_hint (λ x. x) hint_bytes HintFine
unfolding older_hint hint_bytes
hint_codec = record { sound = down; back = up }
  where
    down : (o : ℕ) (bs : List ℕ) {v : OlderHint} {o' : ℕ} {rest : List ℕ} → older_hint o bs ≡ got v o' rest → Sound hint_bytes HintFine v rest bs
    down o bs e =
        in_turn (older_kind o bs) _ e λ k o₁ r₁ e₁ e₂. in_turn (number o₁ r₁) _ e₂ λ at o₂ r₂ e₃ e₄.
        let kind = kind_codec.sound o bs e₁ in
        let num = number_sound o₁ r₁ e₃ in
        rw (← got_value e₄, ← got_rest e₄) (record {
          fine = num.fine;
          shorter = simp length-append (omega (arith, kind.shorter, num.shorter));
          tight = tight_join kind.shorter kind.tight num.shorter num.tight;
        })

    up : (h : OlderHint) → HintFine h → (o : ℕ) (rest : List ℕ) → Back older_hint (λ x. x) hint_bytes h o rest
    up h fits o rest =
        let kind = kind_codec.back h.kind tt o (shortest h.offset ++ rest) in
        let (o₁, e₁) = number_back h.offset kind.next rest fits in
        record { value = h; next = o₁; reads = rw (append_assoc, kind.reads, e₁, kind.same); same = refl }

-- an entry, with its zero byte
unfoldable pub entry_bytes : OlderEntry → List ℕ
entry_bytes e = shortest e.function ++ (0 ∷ write_vector hint_bytes e.hints)

pub record EntryFine (e : OlderEntry) : Type 0 where
  pub function : Fits32 e.function
  pub hints : VectorFine HintFine e.hints

zero_read : (o : ℕ) (bs : List ℕ) {v : Unit {0}} {o' : ℕ} {rest : List ℕ} → zero_byte o bs ≡ got v o' rest → bs ≡ 0 ∷ rest
unfolding zero_byte
zero_read o [] e = absurd (not_got e)
zero_read o (b ∷ bs) e = by_test (eqb b 0) (λ t. ap₂ (λ (x : ℕ) (xs : List ℕ). x ∷ xs) (eqb-true b 0 t) (got_rest (rw t at e))) (λ t. absurd (not_got (rw t at e)))

pub entry_codec : Codec older_entry (λ x. x) entry_bytes EntryFine
unfolding older_entry zero_byte entry_bytes
entry_codec = record { sound = down; back = up }
  where
    down : (o : ℕ) (bs : List ℕ) {v : OlderEntry} {o' : ℕ} {rest : List ℕ} → older_entry o bs ≡ got v o' rest → Sound entry_bytes EntryFine v rest bs
    down o bs {rest = rest} e =
        in_turn (number o bs) _ e λ f o₁ r₁ e₁ e₂. in_turn (zero_byte o₁ r₁) _ e₂ λ _ o₂ r₂ e₃ e₄.
        in_turn (vector older_hint o₂ r₂) _ e₄ λ hs o₃ r₃ e₅ e₆.
        let num = number_sound o bs e₁ in
        let hints = (vector_codec hint_codec).sound o₂ r₂ e₅ in
        let is : r₁ ≡ 0 ∷ r₂ = zero_read o₁ r₁ e₃ in
        let after : length (0 ∷ write_vector hint_bytes hs) + length r₃ ≤ length r₁ = rw is (omega (arith, hints.shorter)) in
        rw (← got_value e₆, ← got_rest e₆) (record {
          fine = record { function = num.fine; hints = hints.fine };
          shorter = simp length-append (omega (arith, num.shorter, after));
          tight = tight_join num.shorter num.tight after (rw is (tight_byte 0 hints.tight));
        })

    up : (e : OlderEntry) → EntryFine e → (o : ℕ) (rest : List ℕ) → Back older_entry (λ x. x) entry_bytes e o rest
    up e fine o rest =
        let (o₁, e₁) = number_back e.function o (0 ∷ (write_vector hint_bytes e.hints ++ rest)) fine.function in
        let hints = (vector_codec hint_codec).back e.hints fine.hints (suc o₁) rest in
        record { value = e; next = hints.next; reads = rw (append_assoc, e₁, hints.reads, hints.same); same = refl }

-- entries as they stand
abbrev pub EntriesFine : List OlderEntry → Type 0
EntriesFine es = VectorFine EntryFine es

abbrev pub write_entries : List OlderEntry → List ℕ
write_entries es = write_vector entry_bytes es

pub entries_whole : {bs : List ℕ} {es : List OlderEntry} → judge_older 0 bs ≡ accepted es → Sound write_entries EntriesFine es [] bs
unfolding judge_older
entries_whole {bs} e = judged (filling (vector older_entry) 0 bs) e λ o rest e₁. fill_sound (vector_codec entry_codec) 0 bs e₁

pub entries_back : (es : List OlderEntry) → EntriesFine es → judge_older 0 (write_entries es) ≡ accepted es
unfolding judge_older
entries_back es h = let (v, o, e, q) = fill_back (vector_codec entry_codec) es h 0 in rw e (ap accepted q)
