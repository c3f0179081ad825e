-- K3. One subsection in both payloads, joined: it holds what its kind holds, every answer is the first of both, what is left of it is what is left of each, joined, and it is no longer than both.
use Rattle.std.specs.Prelude.{ℕ, ◌+◌, ◌≤◌, List, ◌≡◌, refl, length}
use Rattle.std.proofs.Math.Option.{Option, none, some}
use Rattle.std.proofs.Common.{sym, ap, ◌∙◌, arith, length-append}
use Rattle.format.specs.Options.{some_then, or_else}
use Rattle.format.specs.Parts.{Part}
use Rattle.format.specs.Tables.{Table, lookup, map_table}
use Rattle.format.specs.Names.{Kind, Content, single, names, names_by, whole}
use Rattle.format.specs.Questions.{answer_in}
use Rattle.format.specs.declared.Query.{Query}
use Rattle.format.specs.declared.Query.TheVariants.{ItsName, ItsContents, NameOf, NameWithin}
use Rattle.format.specs.Canonical.{write_part, write_table, unless_empty, keep_rows, trim, bare, write_content}
use Rattle.format.specs.Joined.{merged, the_first, join_content}
use Rattle.format.specs.Laws.Options.{by_option, or_none}
use Rattle.format.proofs.Laws.Numbers.{shortest_mono, shortest_sum}
use Rattle.format.proofs.Laws.Codecs.{Fits32, Sorted, TableFine}
use Rattle.format.proofs.Laws.Tables.{lookup_fine}
use Rattle.format.proofs.Laws.Groups.{MapNorm}
use Rattle.format.proofs.Laws.Names.{NameFine, ContentFine, single_fine, names_fine_lem, names_by_fine, whole_fine}
use Rattle.format.proofs.Laws.Trimming.{ContentNorm, single_norm, names_norm_lem, names_by_norm, whole_norm}
use Rattle.format.proofs.Laws.Merging.{either_some, first_some, merge_rows, merge_unless_empty, lookup_merged, map_merged, keep_merged}
use Rattle.format.proofs.Laws.WrittenMerges.{merge_length, merge_fine, merge_norm}

-- two maps, and two groups
names_fine : {t u : Table (List ℕ)} → TableFine NameFine t → TableFine NameFine u → Fits32 (length (write_table write_part (merged the_first t u))) → TableFine NameFine (merged the_first t u)
names_fine g h short = merge_fine write_part NameFine the_first (λ v w p q l. p) g h short

names_norm : {t u : Table (List ℕ)} → MapNorm NameFine t → MapNorm NameFine u → Fits32 (length (write_table write_part (merged the_first t u))) → MapNorm NameFine (merged the_first t u)
names_norm g h short = merge_norm write_part NameFine the_first (λ v w p q l. p) g h short

-- One subsection in both holds what its kind holds, if it is not too long
pub join_fine : {k : Kind} {c d : Content (List ℕ)} → ContentFine k c → ContentFine k d → Fits32 (length (write_content (join_content c d))) → ContentFine k (join_content c d)
unfolding write_content
join_fine (single_fine g) (single_fine h) short = single_fine g
join_fine (names_fine_lem g) (names_fine_lem h) short = names_fine_lem (names_fine g h short)
join_fine (names_by_fine g) (names_by_fine h) short = names_by_fine (merge_fine (write_table write_part) (TableFine NameFine) (merged the_first) (λ v w p q l. names_fine p q l) g h short)
join_fine whole_fine whole_fine short = whole_fine

-- and nothing in it is empty, if nothing was
pub join_norm : {k : Kind} {c d : Content (List ℕ)} → ContentNorm k c → ContentNorm k d → Fits32 (length (write_content (join_content c d))) → ContentNorm k (join_content c d)
unfolding write_content
join_norm (single_norm g) (single_norm h) short = single_norm g
join_norm (names_norm_lem g) (names_norm_lem h) short = names_norm_lem (names_norm g h short)
join_norm (names_by_norm n g) (names_by_norm {t = u} m h) short = names_by_norm (merge_rows (merged the_first) n u) (merge_fine (write_table write_part) (MapNorm NameFine) (merged the_first) (λ v w p q l. names_norm p q l) g h short)
join_norm whole_norm whole_norm short = whole_norm

-- Its answers are the first of both
names_answer : {P Q : ℕ → List ℕ → Type 0} (k : ℕ) {t u : Table (List ℕ)} → Sorted P 0 t → Sorted Q 0 u → lookup k (merged the_first t u) ≡ or_else (lookup k t) (lookup k u)
names_answer k {t} {u} r s = lookup_merged the_first k t u r s ∙ first_some (lookup k t) (lookup k u)

groups_answer : (k j : ℕ) {t u : Table (Table (List ℕ))} → TableFine (TableFine NameFine) t → TableFine (TableFine NameFine) u → some_then (lookup k (merged (merged the_first) t u)) (lookup j) ≡ or_else (some_then (lookup k t) (lookup j)) (some_then (lookup k u) (lookup j))
groups_answer k j {t} {u} g h =
    rw (lookup_merged (merged the_first) k t u g.sorted h.sorted) (by_option (lookup k t)
    (λ n. rw n)
    (λ v e. rw e (by_option (lookup k u)
    (λ n. rw n (sym (or_none (lookup j v))))
    (λ w e'. rw e' (names_answer j (lookup_fine k g.sorted e).1.sorted (lookup_fine k h.sorted e').1.sorted)))))

pub join_answer : {k : Kind} {c d : Content (List ℕ)} (q : Query) → ContentFine k c → ContentFine k d → answer_in q (join_content c d) ≡ or_else (answer_in q c) (answer_in q d)
join_answer ItsName (single_fine g) (single_fine h) = refl
join_answer ItsName (names_fine_lem g) (names_fine_lem h) = refl
join_answer ItsName (names_by_fine g) (names_by_fine h) = refl
join_answer ItsName whole_fine whole_fine = refl
join_answer (NameOf k) (single_fine g) (single_fine h) = refl
join_answer (NameOf k) (names_fine_lem g) (names_fine_lem h) = names_answer k g.sorted h.sorted
join_answer (NameOf k) (names_by_fine g) (names_by_fine h) = refl
join_answer (NameOf k) whole_fine whole_fine = refl
join_answer (NameWithin k j) (single_fine g) (single_fine h) = refl
join_answer (NameWithin k j) (names_fine_lem g) (names_fine_lem h) = refl
join_answer (NameWithin k j) (names_by_fine g) (names_by_fine h) = groups_answer k j g h
join_answer (NameWithin k j) whole_fine whole_fine = refl
join_answer ItsContents (single_fine g) (single_fine h) = refl
join_answer ItsContents (names_fine_lem g) (names_fine_lem h) = refl
join_answer ItsContents (names_by_fine g) (names_by_fine h) = refl
join_answer ItsContents whole_fine whole_fine = refl

-- What is left of it is what is left of each, joined
names_left : (x y : Option (Table (List ℕ))) → some_then (either_some (merged the_first) x y) (λ t. some (names t)) ≡ either_some join_content (some_then x (λ t. some (names t))) (some_then y (λ t. some (names t)))
names_left none none = refl
names_left none (some u) = refl
names_left (some t) none = refl
names_left (some t) (some u) = refl

groups_left : (x y : Option (Table (Table (List ℕ)))) → some_then (either_some (merged (merged the_first)) x y) (λ t. some (names_by t)) ≡ either_some join_content (some_then x (λ t. some (names_by t))) (some_then y (λ t. some (names_by t)))
groups_left none none = refl
groups_left none (some u) = refl
groups_left (some t) none = refl
groups_left (some t) (some u) = refl

pub join_trim : {k : Kind} {c d : Content (List ℕ)} → ContentFine k c → ContentFine k d → trim (join_content c d) ≡ either_some join_content (trim c) (trim d)
join_trim (single_fine g) (single_fine h) = refl
join_trim (names_fine_lem {t = t} g) (names_fine_lem {t = u} h) = rw (merge_unless_empty the_first t u) (names_left (unless_empty t) (unless_empty u))
join_trim (names_by_fine {t = t} g) (names_by_fine {t = u} h) =
    rw (keep_merged (merged the_first) (merged the_first) unless_empty (λ k v w _ _. merge_unless_empty the_first v w) t u g.sorted h.sorted, merge_unless_empty (merged the_first) (keep_rows unless_empty t) (keep_rows unless_empty u))
    (groups_left (unless_empty (keep_rows unless_empty t)) (unless_empty (keep_rows unless_empty u)))
join_trim whole_fine whole_fine = refl

-- It is no longer than both, with its size too
names_length : (t u : Table (List ℕ)) → length (write_table write_part (merged the_first t u)) ≤ length (write_table write_part t) + length (write_table write_part u)
names_length t u = merge_length the_first write_part (λ v w. omega arith) t u

pub join_length : {k : Kind} {c d : Content (List ℕ)} → ContentFine k c → ContentFine k d → length (write_content (join_content c d)) ≤ length (write_content c) + length (write_content d)
unfolding write_content
join_length (single_fine g) (single_fine h) = omega arith
join_length (names_fine_lem {t = t} g) (names_fine_lem {t = u} h) = names_length t u
join_length (names_by_fine {t = t} g) (names_by_fine {t = u} h) = merge_length (merged the_first) (write_table write_part) names_length t u
join_length whole_fine whole_fine = omega arith

pub join_part_length : (x y z : List ℕ) → length x ≤ length y + length z → length (write_part x) ≤ length (write_part y) + length (write_part z)
unfolding write_part
join_part_length x y z h = simp length-append (omega (arith, h, shortest_mono (length x) (length y + length z) h, shortest_sum (length y) (length z)))

-- It is the same of parts of what was lent and of their bytes
names_bare : (t u : Table Part) → map_table (λ p. p.bytes) (merged the_first t u) ≡ merged the_first (map_table (λ p. p.bytes) t) (map_table (λ p. p.bytes) u)
names_bare t u = map_merged the_first the_first (λ p. p.bytes) (λ v w. refl) t u

pub join_bare : (c d : Content Part) → bare (join_content c d) ≡ join_content (bare c) (bare d)
unfolding bare
join_bare (single x) d = refl
join_bare (names t) (single y) = refl
join_bare (names t) (names u) = ap names (names_bare t u)
join_bare (names t) (names_by u) = refl
join_bare (names t) (whole y) = refl
join_bare (names_by t) (single y) = refl
join_bare (names_by t) (names u) = refl
join_bare (names_by t) (names_by u) = ap names_by (map_merged (merged the_first) (merged the_first) (map_table (λ p. p.bytes)) names_bare t u)
join_bare (names_by t) (whole y) = refl
join_bare (whole x) d = refl
