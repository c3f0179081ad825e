-- Rule R14.10 of docs/RULES.md.
-- Which states the code can count with: their offsets and their count are not above the total, and what is left to come is not nothing. Every state that bytes lead to is one of them. Assumes nothing.
use Rattle.std.specs.Prelude.{ℕ, Bool, true, ◌&&◌, [], ◌∷◌, ltb, leb, length, get_or}
use Rattle.std.proofs.Math.Option.{Option, none, some}
use Rattle.format.specs.Reading.{accepted, refused}
use Rattle.format.specs.Walk.{tracked}
use Rattle.stream.specs.Counting.{Number, weight, most_following}
use Rattle.stream.specs.Texts.{Text}
use Rattle.stream.specs.Contents.{Contents, sizing, naming, paying, failing}
use Rattle.stream.specs.Stream.{Done, Phase, starting, settled, measuring, skipping, in_custom_lem, State}

abbrev pub is_number_fitting : Number → Bool
is_number_fitting n = leb n.come most_following && ltb n.low (weight n.come)

-- what a code point is below while so many bytes are wanted
abbrev pub point_limit : ℕ → ℕ
point_limit wanted = get_or (1 ∷ 0x8000 ∷ 0x200 ∷ 8 ∷ []) wanted 0

abbrev pub text_fits : Text → Bool
text_fits t = ltb t.code (point_limit t.wanted)

abbrev pub row_fits : Option ℕ → Bool
row_fits none = true
row_fits (some row) = ltb row (length tracked)

abbrev pub contents_fit : Contents → (total : ℕ) → Bool
contents_fit (sizing begins n) total = is_number_fitting n
contents_fit (naming begins text left t m) total = ltb 0 left && text_fits t
contents_fit (paying row at) total = leb at total && row_fits row
contents_fit (failing number at) total = true

abbrev pub done_fits : Done → (total : ℕ) → Bool
done_fits d total = leb d.told.count total

abbrev pub phase_fits : Phase → (total : ℕ) → Bool
phase_fits starting total = true
phase_fits (settled (accepted d)) total = done_fits d total
phase_fits (settled (refused number offset)) total = true
phase_fits (measuring d id at n) total = done_fits d total && (ltb at total && is_number_fitting n)
phase_fits (skipping d at left) total = done_fits d total && (ltb at total && ltb 0 left)
phase_fits (in_custom_lem d at left c) total = done_fits d total && (ltb at total && (ltb 0 left && contents_fit c total))

unfoldable pub fits : State → Bool
fits s = phase_fits s.phase s.total
