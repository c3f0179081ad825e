-- Names that are listed and written from the lists again: the subsection alone, in canonical form.
use Rattle.std.specs.Prelude.{ℕ, suc, ◌+◌, ◌<◌, List, [], ◌∷◌, ◌++◌, map, ◌≡◌, refl, length}
use Rattle.std.proofs.Math.Option.{none}
use Rattle.std.proofs.Common.{sym, ap, ◌∙◌, le-leb, lt-ltb, eq-eqb, length-append, take_at, drop_at}
use Rattle.std.proofs.lemmas.List.{length-map}
use Rattle.format.specs.Canonical.{write_content, write_subsections}
use Rattle.format.specs.Entries.{Listed, plain_rows}
use Rattle.format.proofs.Laws.Codecs.{Sorted, end, next, RowFine, TableFine}
use Rattle.format.proofs.Laws.Names.{NameFine}
use Rattle.format.specs.Lists.{sum, listed, unsorted_at, bad_text_at, subsection, function_names}
use Rattle.format.specs.Names.{names}
use Rattle.format.specs.Numbers.{limit32}
use Rattle.format.specs.Reading.{accepted}
use Rattle.format.specs.Tables.{Table, nil, row}

-- the names of rows, joined
unfoldable pub text_of : List (Listed (List ℕ)) → List ℕ
text_of [] = []
text_of (e ∷ es) = e.held ++ text_of es

abbrev pub indices_of : Table (List ℕ) → List ℕ
indices_of t = map (λ e. e.first) (plain_rows t)

abbrev pub lengths_of : Table (List ℕ) → List ℕ
lengths_of t = map (λ e. length e.held) (plain_rows t)

abbrev pub names_of : Table (List ℕ) → List ℕ
names_of t = text_of (plain_rows t)

listed_back : (t : Table (List ℕ)) → listed (indices_of t) (lengths_of t) (names_of t) ≡ t
unfolding listed plain_rows text_of
listed_back nil = refl
listed_back (row k x t) = rw (take_at x (names_of t) (length x) refl, drop_at x (names_of t) (length x) refl, listed_back t)

adds_up : (t : Table (List ℕ)) → sum (lengths_of t) ≡ length (names_of t)
unfolding sum plain_rows text_of
adds_up nil = refl
adds_up (row k x t) = ap (λ n. length x + n) (adds_up t) ∙ sym (length-append x (names_of t))

in_order : {t : Table (List ℕ)} (position least : ℕ) → Sorted (RowFine NameFine) least t → unsorted_at position least (indices_of t) ≡ none
unfolding unsorted_at plain_rows
in_order position least end = refl
in_order position least (next {k = k} l p s) = rw (le-leb least k l) (in_order (suc position) (suc k) s)

all_text : {t : Table (List ℕ)} {least : ℕ} (start : ℕ) → Sorted (RowFine NameFine) least t → bad_text_at start (lengths_of t) (names_of t) ≡ none
unfolding bad_text_at plain_rows text_of
all_text start end = refl
all_text start (next {v = x} {t = t} l p s) = rw (take_at x (names_of t) (length x) refl, p.1.1, drop_at x (names_of t) (length x) refl) (all_text (start + length x) s)

pub written_back : (t : Table (List ℕ)) → TableFine NameFine t → length (write_content (names t)) < limit32 → function_names (indices_of t) (lengths_of t) (names_of t) ≡ accepted (write_subsections (subsection t))
unfolding function_names
written_back t fine small =
    let as_many : length (indices_of t) ≡ length (lengths_of t) = length-map (plain_rows t) (λ (e : Listed (List ℕ)). e.first) ∙ sym (length-map (plain_rows t) (λ (e : Listed (List ℕ)). length e.held)) in
    rw (eq-eqb (length (indices_of t)) (length (lengths_of t)) as_many, eq-eqb (sum (lengths_of t)) (length (names_of t)) (adds_up t), in_order 0 0 fine.sorted, all_text 0 fine.sorted, listed_back t, lt-ltb (length (write_content (names t))) limit32 small)
