-- Rules R10.5 and R10.6 of docs/RULES.md.
-- K3. "Add a writer of one canonical payload that answers every question, kept subsections too, as the pair does. Refusals: the separate payload's first, the answer saying whose; 15 for a joined subsection too large, then 13." Assumes nothing.
use Rattle.format.specs.declared.JoinRefusal.TheVariants.{Payload, Output}
use Rattle.std.specs.Prelude.{ℕ, Bool, true, cond, ◌&&◌, List, ◌≡◌, ltb, length, Ok, Err}
use Rattle.format.specs.Refusals.{number_of}
use Rattle.format.specs.Reading.{Judged, accepted, refused, map_judged}
use Rattle.format.specs.Numbers.{limit32}
use Rattle.format.specs.Parts.{Part}
use Rattle.format.specs.Tables.{Table, nil, row, map_table}
use Rattle.format.specs.Names.{Kind, Content, single, names, names_by, whole, judge_names}
use Rattle.format.specs.Canonical.{keep_rows, trim, bare, write_content, write_subsections}
use Rattle.format.specs.Lists.{provided}
use Rattle.format.specs.Outputs.{fitting, output_after}
use Rattle.format.specs.Pairs.{Paired, agreed, refused_by, both_judged, map_paired}
use Rattle.format.specs.Returned.{JoinWritten}
use Rattle.format.specs.declared.Reason.TheVariants.{SubsectionTooLarge}

-- the rows of two tables in the order of their numbers; where both have a number, one value is made of the two
unfoldable pub merged : {A : Type 0} → (A → A → A) → Table A → Table A → Table A
merged both nil u = u
merged both (row i v t) nil = row i v t
merged both (row i v t) (row j w u) =
    cond (ltb i j) (row i v (merged both t (row j w u)))
    (cond (ltb j i) (row j w (merged both (row i v t) u))
    (row i (both v w) (merged both t u)))

-- the separate payload's name
abbrev pub the_first : {A : Type 0} → A → A → A
the_first v w = v

-- of one subsection in both: maps index by index, groups by function and then index by index, all else the separate payload's
abbrev pub join_content : {X : Type 0} → Content X → Content X → Content X
join_content (single x) c = single x
join_content (names t) (names u) = names (merged the_first t u)
join_content (names t) (single y) = names t
join_content (names t) (names_by u) = names t
join_content (names t) (whole y) = names t
join_content (names_by t) (names_by u) = names_by (merged (merged the_first) t u)
join_content (names_by t) (single y) = names_by t
join_content (names_by t) (names u) = names_by t
join_content (names_by t) (whole y) = names_by t
join_content (whole x) c = whole x

unfoldable pub joined : {X : Type 0} → Table (Content X) → Table (Content X) → Table (Content X)
joined t u = merged join_content t u

-- what is left of it, in its fewest bytes
unfoldable pub joined_contents : Table (Content Part) → Table (Content Part) → Table (Content (List ℕ))
joined_contents t u = keep_rows trim (joined (map_table bare t) (map_table bare u))

-- no subsection is too large
unfoldable pub all_fit : Table (Content (List ℕ)) → Bool
all_fit nil = true
all_fit (row id c t) = ltb (length (write_content c)) limit32 && all_fit t

unfoldable pub write_joined : Table (Content Part) → Table (Content Part) → Judged (List ℕ)
write_joined t u = provided (all_fit (joined_contents t u)) SubsectionTooLarge (accepted (write_subsections (joined_contents t u)))

unfoldable pub join_names : (ℕ → Kind) → (separate own : List ℕ) → Paired (Judged (List ℕ))
join_names kind_of separate own = both_judged write_joined (judge_names kind_of 0 separate) (judge_names kind_of 0 own)

-- into an output of a length, which 13 asks last
unfoldable pub join_answer : ℕ → Paired (Judged (List ℕ)) → Paired (Judged ℕ)
join_answer room wanted = map_paired (λ j. map_judged length (fitting room j)) wanted

abbrev pub joined_over : Paired (Judged (List ℕ)) → List ℕ → List ℕ
joined_over (agreed j) old = output_after j old
joined_over (refused_by w n at) old = old

-- What the answer says
abbrev pub join_written_as : JoinWritten → Paired (Judged ℕ)
join_written_as (Ok n) = agreed (accepted n)
join_written_as (Err (Payload w r)) = refused_by w (number_of r.reason) r.offset.0
join_written_as (Err (Output r)) = agreed (refused (number_of r.reason) r.offset.0)

-- the answer, and the whole end state of the output
pub record JoinWrites (wanted : Paired (Judged (List ℕ))) (old new : List ℕ) (r : JoinWritten) : Type 0 where
  pub says : join_written_as r ≡ join_answer (length old) wanted
  pub leaves : new ≡ joined_over wanted old
