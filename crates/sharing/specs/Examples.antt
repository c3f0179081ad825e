-- Small cases that the checker computes.
use Rattle.std.specs.Prelude.{◌≡◌, refl, true, false, [], ◌∷◌, replicate, drop}
use Rattle.std.proofs.Math.Option.{none, some}
use Rattle.format.specs.Bytes.{same}
use Rattle.sharing.specs.Blocks.{need, extra, words, little_endian, check, right, seal, body}
use Rattle.sharing.specs.Table.{first_run, starts_free, taken, reach, mark, blank}
use Rattle.sharing.specs.Tidy.{pack, packed_blocks, rank, moved}
use Rattle.sharing.specs.Model.{after}

-- an empty payload takes one block, 508 bytes one, 509 two
needs : (need 0 ≡ 1) × (need 508 ≡ 1) × (need 509 ≡ 2) × (need 1016 ≡ 2) × (need 1017 ≡ 3)
unfolding need extra
needs = (refl, refl, refl, refl, refl)

-- a block of zeros has a right check
zeros : right (replicate 512 0) ≡ true
unfolding right same check words little_endian
zeros = refl

-- the sum wraps: two words of ff ff ff ff are fe ff ff ff
wraps : check (255 ∷ 255 ∷ 255 ∷ 255 ∷ 255 ∷ 255 ∷ 255 ∷ 255 ∷ []) ≡ 254 ∷ 255 ∷ 255 ∷ 255 ∷ []
unfolding check words little_endian
wraps = refl

-- the check of 61 62 63 64 65: the words 64636261 and 00000065
sealed : drop 508 (seal (97 ∷ 98 ∷ 99 ∷ 100 ∷ 101 ∷ [])) ≡ 198 ∷ 98 ∷ 99 ∷ 100 ∷ []
unfolding seal body check words little_endian
sealed = refl

-- the first run of two free blocks
runs : (first_run 2 (false ∷ true ∷ false ∷ false ∷ []) ≡ some 2) × (first_run 2 (false ∷ true ∷ false ∷ true ∷ []) ≡ none)
unfolding first_run starts_free after
runs = (refl, refl)

-- blocks 1 and 3 of 4 in use end as old 1, old 3, old 2, old 3
tidies : packed_blocks (false ∷ true ∷ false ∷ true ∷ []) ((0 ∷ []) ∷ (1 ∷ []) ∷ (2 ∷ []) ∷ (3 ∷ []) ∷ []) ≡ (1 ∷ []) ∷ (3 ∷ []) ∷ (2 ∷ []) ∷ (3 ∷ []) ∷ []
unfolding packed_blocks pack
tidies = refl

-- and a hold of the row at 3 leads to 1: 4 becomes 2
follows : moved (false ∷ true ∷ false ∷ true ∷ []) 4 ≡ 2
unfolding moved rank
follows = refl

-- a row of 509 bytes at block 1 has blocks 1 and 2
takes : taken 0 (blank ∷ mark 1 509 ∷ blank ∷ blank ∷ []) ([] ∷ [] ∷ [] ∷ [] ∷ []) ≡ false ∷ true ∷ true ∷ false ∷ []
unfolding taken reach need extra
takes = refl
