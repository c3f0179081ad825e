-- Every refusal of what is lent has one of the numbers that the demands list: 16 is the listing program's alone. A payload of older hints has a list of its own.
use Prim.Native.Nat.{ℕ, zero, suc, ◌+◌, ◌*◌, ◌%◌}
use Rattle.std.specs.Prelude.{Bool, true, false, cond, not, ◌&&◌, ◌||◌, ◌≡◌, ltb, leb, eqb, length}
use mathlib.Core.List.{List, [], ◌∷◌}
use Rattle.std.proofs.Math.Option.{Option, none, some}
use Rattle.std.proofs.Math.Path.{refl}
use Rattle.std.proofs.Common.{sym, arith, eqb-true}
use Rattle.format.specs.Bytes.{same}
use Rattle.format.specs.Laws.Outcomes.{not_accepted, by_test, false_true, on_both}
use Rattle.format.specs.Metadata.{hint_of, any_item, hint_item, metadata, judge_metadata}
use Rattle.format.specs.Names.{Kind, one_name, name_map, indirect_map, kept, contents, subsections, payload, judge_names}
use Rattle.format.specs.Numbers.{groups, number}
use Rattle.format.specs.Older.{times, vector, zero_byte, older_kind, older_hint, older_entry, judge_older}
use Rattle.format.specs.Options.{is_some}
use Rattle.format.specs.Parts.{Part, sized, name, remaining, go_on}
use Rattle.format.specs.Reading.{Outcome, got, stop, Reader, and_then, ◌>>◌, checked, at_end, filling, Judged, accepted, refused, judge}
use Rattle.format.specs.Refusals.{number_of}
use Rattle.format.specs.Tables.{rows, table}
use Rattle.format.specs.Text.{utf8}
use Rattle.format.specs.Through.{item_of}
use Rattle.format.specs.Walk.{preamble, begins, greatest_id, is_custom, is_data, rank, custom, branch_hint, name_row, before_code, row_of, Seen, nothing, seeing, id_rules, name_rules, section, sections, framing, walk}
use Rattle.format.specs.declared.Reason.{Reason}
use Rattle.promises.specs.Demands.{numbers, older_numbers, is_among}
use Rattle.promises.specs.RuledOut.{not_both}

abbrev pub Numbered : ℕ → Type 0
Numbered n = is_among numbers n ≡ true

-- an outcome, or a judgement, that refuses with a number of a list alone
pub record FairBy (listed : List ℕ) {A : Type 0} (r : Outcome A) : Type 0 where
  pub numbered : (n at : ℕ) → r ≡ stop n at → is_among listed n ≡ true

abbrev pub Fair : {A : Type 0} → Outcome A → Type 0
Fair r = FairBy numbers r

pub record FairlyJudgedBy (listed : List ℕ) {A : Type 0} (j : Judged A) : Type 0 where
  pub numbered : (n at : ℕ) → j ≡ refused n at → is_among listed n ≡ true

abbrev pub FairlyJudged : {A : Type 0} → Judged A → Type 0
FairlyJudged j = FairlyJudgedBy numbers j

module _ {listed : List ℕ} {A : Type 0} where
  pub fair_got : {v : A} {o : ℕ} {bs : List ℕ} → FairBy listed (got v o bs)
  fair_got = record { numbered = λ n at e. absurd (let z : ◌≡◌ {A = ℕ} 0 1 = cc in omega arith) }

  pub fair_stop : {n at : ℕ} → is_among listed n ≡ true → FairBy listed {A = A} (stop n at)
  fair_stop {n} l = record { numbered = λ m at e. let q : n ≡ m = cc in rw (← q) l }

  fair_either : {r s : Outcome A} (b : Bool) → FairBy listed r → FairBy listed s → FairBy listed (cond b r s)
  fair_either true f g = f
  fair_either false f g = g

  fair_end : is_among listed 10 ≡ true → (v : A) (o : ℕ) (bs : List ℕ) → FairBy listed (at_end v o bs)
  fair_end ten v o [] = fair_got
  fair_end ten v o (b ∷ bs) = fair_stop ten

  fair_part : (r : Outcome A) (o : ℕ) (bs : List ℕ) → FairBy listed r → FairBy listed (go_on r o bs)
  fair_part (got v o₁ r₁) o bs f = fair_got
  fair_part (stop n at) o bs f = f

module _ {listed : List ℕ} where
  pub fair_then : {A B : Type 0} (r : Outcome A) (f : A → Reader B) → FairBy listed r → ((v : A) (o : ℕ) (bs : List ℕ) → FairBy listed (f v o bs)) → FairBy listed (and_then r f)
  fair_then (got v o bs) f h k = k v o bs
  fair_then (stop n at) f h k = record { numbered = λ m at' e. h.numbered m at' (let c : n ≡ m = cc in let o : at ≡ at' = cc in rw (c, o)) }

  fair_check : (b : Bool) (why : Reason) (at o : ℕ) (bs : List ℕ) → is_among listed (number_of why) ≡ true → FairBy listed (checked b why at o bs)
  fair_check true why at o bs l = fair_got
  fair_check false why at o bs l = fair_stop l

  pub fair_after : {B : Type 0} (b : Bool) (why : Reason) (at o : ℕ) (bs : List ℕ) (f : Reader B) → is_among listed (number_of why) ≡ true → FairBy listed (f o bs) → FairBy listed ((checked b why at >> f) o bs)
  fair_after true why at o bs f l h = h
  fair_after false why at o bs f l h = fair_stop l

  -- Numbers are refused with 2 and 3
  module _ (two : is_among listed 2 ≡ true) (three : is_among listed 3 ≡ true) where
    groups_fair : (more first o : ℕ) (bs : List ℕ) → FairBy listed (groups more first o bs)
    unfolding groups
    groups_fair zero first o [] = fair_stop two
    groups_fair (suc more) first o [] = fair_stop two
    groups_fair zero first o (b ∷ bs) = fair_either (leb b 0x0F) fair_got (fair_stop three)
    groups_fair (suc more) first o (b ∷ bs) = fair_either (ltb b 128) fair_got (fair_then (groups more first (suc o) bs) (λ v o bs. got (b % 128 + 128 * v) o bs) (groups_fair more first (suc o) bs) (λ v o bs. fair_got))

    pub number_fair_by : (o : ℕ) (bs : List ℕ) → FairBy listed (number o bs)
    unfolding number
    number_fair_by o bs = groups_fair 4 o o bs

    pub sized_fair_by : (o : ℕ) (bs : List ℕ) → FairBy listed (sized o bs)
    unfolding sized
    sized_fair_by o bs = fair_then (number o bs) _ (number_fair_by o bs) λ n o₁ r₁. fair_after (leb n (length r₁)) _ _ _ _ _ two fair_got

    pub name_fair_by : is_among listed 4 ≡ true → (o : ℕ) (bs : List ℕ) → FairBy listed (name o bs)
    unfolding name
    name_fair_by four o bs = fair_then (sized o bs) _ (sized_fair_by o bs) λ p o₁ r₁. fair_after (utf8 p.bytes) _ _ _ _ _ four fair_got

    module _ {A : Type 0} (read : Reader A) (fair : (o : ℕ) (bs : List ℕ) → FairBy listed (read o bs)) where
      times_fair : (n o : ℕ) (bs : List ℕ) → FairBy listed (times read n o bs)
      unfolding times
      times_fair zero o bs = fair_got
      times_fair (suc n) o bs = fair_then (read o bs) _ (fair o bs) λ v o₁ r₁. fair_then (times read n o₁ r₁) _ (times_fair n o₁ r₁) λ vs o₂ r₂. fair_got

      pub vector_fair : (o : ℕ) (bs : List ℕ) → FairBy listed (vector read o bs)
      unfolding vector
      vector_fair o bs = fair_then (number o bs) _ (number_fair_by o bs) times_fair

  pub filling_fair_by : {A : Type 0} (read : Reader A) → is_among listed 10 ≡ true → ((o : ℕ) (bs : List ℕ) → FairBy listed (read o bs)) → (o : ℕ) (bs : List ℕ) → FairBy listed (filling read o bs)
  filling_fair_by read ten fair o bs = fair_then (read o bs) _ (fair o bs) (fair_end ten)

-- Numbers, parts and tables
number_fair : (o : ℕ) (bs : List ℕ) → Fair (number o bs)
number_fair = number_fair_by refl refl

sized_fair : (o : ℕ) (bs : List ℕ) → Fair (sized o bs)
sized_fair = sized_fair_by refl refl

name_fair : (o : ℕ) (bs : List ℕ) → Fair (name o bs)
name_fair = name_fair_by refl refl refl

module _ {A : Type 0} (read : Reader A) (fair : (o : ℕ) (bs : List ℕ) → Fair (read o bs)) where
  rows_fair : (n least o : ℕ) (bs : List ℕ) → Fair (rows read n least o bs)
  unfolding rows
  rows_fair zero least o bs = fair_got
  rows_fair (suc n) least o bs =
      fair_then (number o bs) _ (number_fair o bs) λ k o₁ r₁. fair_after (leb least k) _ _ _ _ _ refl
      (fair_then (read o₁ r₁) _ (fair o₁ r₁) λ v o₂ r₂. fair_then (rows read n (suc k) o₂ r₂) _ (rows_fair n (suc k) o₂ r₂) λ t o₃ r₃. fair_got)

  table_fair : (o : ℕ) (bs : List ℕ) → Fair (table read o bs)
  unfolding table
  table_fair o bs = fair_then (number o bs) _ (number_fair o bs) λ n o₁ r₁. rows_fair n 0 o₁ r₁

  filling_fair : (o : ℕ) (bs : List ℕ) → Fair (filling read o bs)
  filling_fair = filling_fair_by read refl fair

-- Name payloads
contents_fair : (k : Kind) (o : ℕ) (bs : List ℕ) → Fair (contents k o bs)
unfolding contents remaining
contents_fair one_name o bs = fair_then (filling name o bs) _ (filling_fair name name_fair o bs) λ v o₁ r₁. fair_got
contents_fair name_map o bs = fair_then (filling (table name) o bs) _ (filling_fair (table name) (table_fair name name_fair) o bs) λ v o₁ r₁. fair_got
contents_fair indirect_map o bs = fair_then (filling (table (table name)) o bs) _ (filling_fair (table (table name)) (table_fair (table name) (table_fair name name_fair)) o bs) λ v o₁ r₁. fair_got
contents_fair kept o bs = fair_got

subsections_fair : (kind_of : ℕ → Kind) (most least o : ℕ) (bs : List ℕ) → Fair (subsections kind_of most least o bs)
unfolding subsections
subsections_fair kind_of zero least o bs = fair_got
subsections_fair kind_of (suc most) least o [] = fair_got
subsections_fair kind_of (suc most) least o (id ∷ bs) =
    fair_after (leb least id) _ _ _ _ _ refl
    (fair_then (sized (suc o) bs) _ (sized_fair (suc o) bs) λ p o₁ r₁.
    fair_then (go_on (contents (kind_of id) p.at p.bytes) o₁ r₁) _ (fair_part (contents (kind_of id) p.at p.bytes) o₁ r₁ (contents_fair (kind_of id) p.at p.bytes)) λ c o₂ r₂.
    fair_then (subsections kind_of most (suc id) o₂ r₂) _ (subsections_fair kind_of most (suc id) o₂ r₂) λ t o₃ r₃. fair_got)

-- Judgements
module _ {listed : List ℕ} {A : Type 0} where
  pub fairly_accepted : {v : A} → FairlyJudgedBy listed (accepted v)
  fairly_accepted = record { numbered = λ n at e. absurd (not_accepted (sym e)) }

  pub fairly_judged : (r : Outcome A) → FairBy listed r → FairlyJudgedBy listed (judge r)
  fairly_judged (got v o bs) f = fairly_accepted
  fairly_judged (stop n at) f = record { numbered = λ m at' e. f.numbered m at' (let c : n ≡ m = cc in let o : at ≡ at' = cc in rw (c, o)) }

pub names_fair : (kind_of : ℕ → Kind) (at : ℕ) (p : List ℕ) → FairlyJudged (judge_names kind_of at p)
unfolding judge_names payload
names_fair kind_of at p = fairly_judged (payload kind_of at p) (subsections_fair kind_of (length p) 0 at p)

pub any_fair : (o : ℕ) (bs : List ℕ) → Fair (any_item o bs)
unfolding any_item
any_fair = sized_fair

pub hint_fair : (o : ℕ) (bs : List ℕ) → Fair (hint_item o bs)
unfolding hint_item
hint_fair o bs = fair_then (sized o bs) _ (sized_fair o bs) λ p o₁ r₁. fair_after (is_some (hint_of p.bytes)) _ _ _ _ _ refl fair_got

pub item_of_fair : (format : List ℕ) (o : ℕ) (bs : List ℕ) → Fair (item_of format o bs)
unfolding item_of
item_of_fair format o bs = by_test (same format branch_hint) (λ t. rw t (hint_fair o bs)) (λ t. rw t (any_fair o bs))

module _ {item : Reader Part} (fair : (o : ℕ) (bs : List ℕ) → Fair (item o bs)) where
  pub items_fair : (at : ℕ) (p : List ℕ) → FairlyJudged (judge_metadata item at p)
  unfolding judge_metadata metadata
  items_fair at p = fairly_judged (metadata item at p) (filling_fair (table (table item)) (table_fair (table item) (table_fair item fair)) at p)

-- Hints of the older edition, by their own list, and so by the other
abbrev OlderFair : {A : Type 0} → Reader A → Type 0
OlderFair read = (o : ℕ) (bs : List ℕ) → FairBy older_numbers (read o bs)

old_number_fair : OlderFair number
old_number_fair = number_fair_by refl refl

zero_byte_fair : OlderFair zero_byte
unfolding zero_byte
zero_byte_fair o [] = fair_stop refl
zero_byte_fair o (b ∷ bs) = fair_check (eqb b 0) _ _ _ _ refl

old_kind_fair : OlderFair older_kind
unfolding older_kind
old_kind_fair o bs = fair_then (number o bs) _ (old_number_fair o bs) λ k o₁ r₁. fair_after (leb k 1) _ _ _ _ _ refl fair_got

old_hint_fair : OlderFair older_hint
unfolding older_hint
old_hint_fair o bs = fair_then (older_kind o bs) _ (old_kind_fair o bs) λ k o₁ r₁. fair_then (number o₁ r₁) _ (old_number_fair o₁ r₁) λ n o₂ r₂. fair_got

old_entry_fair : OlderFair older_entry
unfolding older_entry
old_entry_fair o bs =
    fair_then (number o bs) _ (old_number_fair o bs) λ f o₁ r₁. fair_then (zero_byte o₁ r₁) _ (zero_byte_fair o₁ r₁) λ _ o₂ r₂.
    fair_then (vector older_hint o₂ r₂) _ (vector_fair refl refl older_hint old_hint_fair o₂ r₂) λ hs o₃ r₃. fair_got

pub older_fair_by : (at : ℕ) (p : List ℕ) → FairlyJudgedBy older_numbers (judge_older at p)
unfolding judge_older
older_fair_by at p = fairly_judged (filling (vector older_entry) at p) (filling_fair_by (vector older_entry) refl (vector_fair refl refl older_entry old_entry_fair) at p)

-- what is one of a list is one of all, where each of that list is
abbrev pub within : List ℕ → Bool
within [] = true
within (x ∷ xs) = is_among numbers x && within xs

pub among_all : (xs : List ℕ) → within xs ≡ true → (n : ℕ) → is_among xs n ≡ true → Numbered n
among_all [] h n l = false_true l
among_all (x ∷ xs) h n l = on_both (is_among numbers x) (within xs) h λ p q. by_test (eqb n x) (λ t. rw (eqb-true n x t) p) (λ t. among_all xs q n (rw t at l))

pub older_fair : (at : ℕ) (p : List ℕ) → FairlyJudged (judge_older at p)
older_fair at p = record { numbered = λ n o e. among_all older_numbers refl n ((older_fair_by at p).numbered n o e) }

-- and 15 is none of these
pub older_not_15 : (at : ℕ) (p : List ℕ) {o : ℕ} → judge_older at p ≡ refused 15 o → ⊥
older_not_15 at p {o} e = not_both (sym ((older_fair_by at p).numbered 15 o e))

-- The walk
begins_fair : (xs : List ℕ) (o : ℕ) (bs : List ℕ) → Fair (begins xs o bs)
unfolding begins
begins_fair [] o bs = fair_got
begins_fair (x ∷ xs) o [] = fair_stop refl
begins_fair (x ∷ xs) o (b ∷ bs) = fair_either (eqb x b) (begins_fair xs (suc o) bs) (fair_stop refl)

custom_fair : (id o : ℕ) (bs : List ℕ) → Fair (custom id o bs)
unfolding custom remaining
custom_fair zero o bs = fair_then (name o bs) _ (name_fair o bs) λ n o₁ r₁. fair_got
custom_fair (suc id) o bs = fair_got

id_rules_fair : (seen : Seen) (at id o : ℕ) (bs : List ℕ) → Fair (id_rules seen at id o bs)
unfolding id_rules
id_rules_fair seen at id o bs =
    fair_after (leb id greatest_id) _ _ _ _ _ refl
    (fair_after (is_custom id || ltb seen.rank (rank id)) _ _ _ _ _ refl
    (fair_check (not (is_data id && seen.there name_row)) _ _ _ _ refl))

name_rules_fair : (seen : Seen) (at : ℕ) (r : Option ℕ) (o : ℕ) (bs : List ℕ) → Fair (name_rules seen at r o bs)
unfolding name_rules
name_rules_fair seen at none o bs = fair_got
name_rules_fair seen at (some k) o bs =
    fair_after (not (seen.there k)) _ _ _ _ _ refl
    (fair_check (not (before_code k && seen.code)) _ _ _ _ refl)

section_fair : (seen : Seen) (at id o : ℕ) (bs : List ℕ) → Fair (section seen at id o bs)
unfolding section
section_fair seen at id o bs =
    fair_then (id_rules seen at id o bs) _ (id_rules_fair seen at id o bs) λ _ o₁ r₁. fair_then (sized o₁ r₁) _ (sized_fair o₁ r₁) λ p o₂ r₂.
    fair_then (go_on (custom id p.at p.bytes) o₂ r₂) _ (fair_part (custom id p.at p.bytes) o₂ r₂ (custom_fair id p.at p.bytes)) λ c o₃ r₃.
    fair_then (name_rules seen at (row_of c) o₃ r₃) _ (name_rules_fair seen at (row_of c) o₃ r₃) λ _ o₄ r₄. fair_got

sections_fair : (most : ℕ) (seen : Seen) (o : ℕ) (bs : List ℕ) → Fair (sections most seen o bs)
unfolding sections
sections_fair zero seen o bs = fair_got
sections_fair (suc most) seen o [] = fair_got
sections_fair (suc most) seen o (id ∷ bs) =
    fair_then (section seen o id (suc o) bs) _ (section_fair seen o id (suc o) bs) λ s o₁ r₁.
    fair_then (sections most (seeing seen s) o₁ r₁) _ (sections_fair most (seeing seen s) o₁ r₁) λ ss o₂ r₂. fair_got

pub walk_fair : (m : List ℕ) → FairlyJudged (walk m)
unfolding walk framing
walk_fair m = fairly_judged (framing 0 m) (fair_then (begins preamble 0 m) _ (begins_fair preamble 0 m) λ _ o bs. sections_fair (length m) nothing o bs)
