-- A mark in two arrays: one store to each.
use Rattle.std.specs.Prelude.{ℕ, zero, suc, ◌<◌, ◌≡◌, refl, List, [], ◌∷◌, length, get_or, set, drop, replicate}
use Rattle.std.proofs.Common.{ap, ◌∙◌, arith, drop-cons}
use Rattle.std.proofs.lemmas.List.{length-replicate}
use Rattle.sharing.specs.Arrays.{marks_from, Full}
use Rattle.sharing.specs.Promises.{SharingStart}
use Rattle.sharing.specs.declared.Table.{Table as Arrays}
use Rattle.sharing.specs.Table.{Mark, mark, blank, table, started}

-- one mark is one store to each array
pub set_mark : (us ns : List ℕ) (i u n : ℕ) → set (marks_from us ns) i (mark u n) ≡ marks_from (set us i u) (set ns i n)
unfolding marks_from
set_mark [] ns i u n = refl
set_mark (x ∷ us) [] i u n = nothing_set x us i u n
  where
    nothing_set : (x : ℕ) (us : List ℕ) (i u n : ℕ) → [] ≡ marks_from (set (x ∷ us) i u) []
    nothing_set x us zero u n = refl
    nothing_set x us (suc i) u n = refl
set_mark (x ∷ us) (y ∷ ns) zero u n = refl
set_mark (x ∷ us) (y ∷ ns) (suc i) u n = ap (λ (l : List Mark). mark x y ∷ l) (set_mark us ns i u n)

pub get_mark : (us ns : List ℕ) (i : ℕ) → length us ≡ length ns → get_or (marks_from us ns) i blank ≡ mark (get_or us i 0) (get_or ns i 0)
unfolding marks_from
get_mark [] [] i e = refl
get_mark [] (y ∷ ns) i e = absurd (omega arith)
get_mark (x ∷ us) [] i e = absurd (omega arith)
get_mark (x ∷ us) (y ∷ ns) zero e = refl
get_mark (x ∷ us) (y ∷ ns) (suc i) e = get_mark us ns i (omega arith)

none_marked : (n : ℕ) → marks_from (replicate n 0) (replicate n 0) ≡ replicate n blank
unfolding marks_from
none_marked zero = refl
none_marked (suc n) = ap (λ (l : List Mark). blank ∷ l) (none_marked n)

-- arrays of zeros are the table at the start
pub zeros_start : (bytes : ℕ) → SharingStart bytes (record { holds = replicate 128 0; users = replicate 128 0; sizes = replicate 128 0; bytes = bytes })
unfolding started
zeros_start bytes = (ap (table bytes (replicate 128 0)) (none_marked 128), record { users = length-replicate {A = ℕ} 128 0; sizes = length-replicate {A = ℕ} 128 0 })

pub filled : {t : Arrays} → length t.users ≡ 128 → length t.sizes ≡ 128 → Full t
filled u n = record { users = u; sizes = n }

pub marks_length : (us ns : List ℕ) → length us ≡ length ns → length (marks_from us ns) ≡ length us
unfolding marks_from
marks_length [] ns e = refl
marks_length (u ∷ us) [] e = absurd (omega arith)
marks_length (u ∷ us) (n ∷ ns) e = ap suc (marks_length us ns (omega arith))

-- the mark at a place, and those behind it
pub marks_cons : (us ns : List ℕ) (b : ℕ) → length us ≡ length ns → b < length us → drop b (marks_from us ns) ≡ mark (get_or us b 0) (get_or ns b 0) ∷ drop (suc b) (marks_from us ns)
marks_cons us ns b e h = drop-cons (marks_from us ns) b blank (omega (arith, marks_length us ns e)) ∙ ap (λ (m : Mark). m ∷ drop (suc b) (marks_from us ns)) (get_mark us ns b e)
