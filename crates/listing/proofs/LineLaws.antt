-- What is written piece by piece is a line.
use Prim.Native.Nat.{ℕ}
use mathlib.Core.List.{List, [], ◌∷◌, ◌++◌, append_assoc}
use mathlib.Core.Path.{◌≡◌}
use borrow.Author.Rules.{rules}
use Rattle.format.specs.Bytes.{ascii}
use Rattle.format.specs.Reading.{refused}
use Rattle.format.specs.Listing.{decimal, Piece, num, piece, line, printed}
use Rattle.listing.specs.Lines.{space, labelled}
use Rattle.writing.specs.Wrote.{Wrote}
use Rattle.writing.proofs.Laws.{wrote_join}

module _ {old mid new : List ℕ} {at i next : ℕ} where
  -- a piece and the byte behind it
  pub word_put : {word : List ℕ} {b : ℕ} → Wrote old mid at i word → Wrote mid new i next (b ∷ []) → Wrote old new at next (word ++ (b ∷ []))
  word_put p q = wrote_join p q

  pub pair_put : (a b : ℕ) → Wrote old mid at i (decimal a ++ (32 ∷ [])) → Wrote mid new i next (decimal b ++ (10 ∷ [])) → Wrote old new at next (line (num a ∷ num b ∷ []))
  unfolding line piece ascii
  pair_put a b p q = rw append_assoc at (wrote_join p q)

  pub section_put : (id a b : ℕ) → Wrote old mid at i (decimal id ++ (32 ∷ [])) → Wrote mid new i next (line (num a ∷ num b ∷ [])) → Wrote old new at next (line (num id ∷ num a ∷ num b ∷ []))
  unfolding line piece ascii
  section_put id a b p q = rw append_assoc at (wrote_join p q)

  pub labelled_put : (label : List ℕ) (ps : List Piece) → Wrote old mid at i (label ++ space) → Wrote mid new i next (line ps) → Wrote old new at next (labelled label ps)
  unfolding labelled
  labelled_put label ps p q = rw append_assoc at (wrote_join p q)

pub refusal_put : {old new : List ℕ} {next : ℕ} (k n at : ℕ) → k ≡ n → Wrote old new 0 next (labelled (114 ∷ 101 ∷ 102 ∷ 117 ∷ 115 ∷ 101 ∷ 100 ∷ []) (num k ∷ num at ∷ [])) → Wrote old new 0 next (printed (refused n at))
unfolding labelled printed line piece ascii
refusal_put k n at e w = rw e at w

pub ruleset lines = (word_put, pair_put, section_put, labelled_put, refusal_put, rules)
