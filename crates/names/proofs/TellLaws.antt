-- Telling whether a payload is canonical: contents by their kind, and the loop over subsections.
use Rattle.std.specs.Prelude.{Ok, Some, None, Err}
use Prim.Native.Nat.{ℕ, suc, ◌+◌, ◌-◌, ◌≤◌, ◌<◌}
use mathlib.Core.Bool.{Bool, true, false}
use mathlib.Core.List.{List, [], ◌∷◌}
use mathlib.Core.Option.{none, some}
use mathlib.Core.Path.{◌≡◌, refl, sym, ap, ◌∙◌}
use native.Mathlib.Numerals.{add-one}
use native.Mathlib.Omega.{arith}
use borrow.Author.Rules.{rules}
use borrow.Author.Tests.{leb-true, leb-false}
use lib.Dec.{leb}
use lib.ListN.{length}
use lib.Seq.{slice-cons, length-slice}
use Rattle.format.specs.Bytes.{Bytes}
use Rattle.format.specs.Reading.{got, stop}
use Rattle.format.specs.Parts.{Part, sized, name}
use Rattle.format.specs.Tables.{table}
use Rattle.format.specs.Names.{Kind as AnyKind, contents, subsections, payload}
use Rattle.format.specs.Canonical.{write_part}
use Rattle.format.specs.Forms.{Told, behind, no, told, is_yes, part_form, table_form, content_form, payload_form}
use Rattle.format.specs.Telling.{as_few, names_are_canonical}
use Rattle.format.specs.Laws.Outcomes.{not_got, got_value, got_next, got_rest, by_test, by_outcome, false_true, in_turn, passed}
use Rattle.format.specs.Laws.Options.{not_some, some_is}
use Rattle.format.proofs.Nested.{nested}
use Rattle.format.specs.declared.Refusal.{Refusal}
use Rattle.format.proofs.Laws.Telling.{in_told}
use Rattle.format.proofs.Laws.TellingNames.{one_name_told, map_told, indirect_told, kept_told, contents_end, payload_told_end, payload_told_low, payload_told_none, payload_told_padded, payload_told_no, payload_told_on, payload_told}
use Rattle.reading.specs.Cursors.{Inside, over_all, left, part_of, PartReads}
use Rattle.reading.specs.declared.Cursor.{Cursor}
use Rattle.reading.specs.Returned.{PartRead}
use Rattle.reading.proofs.Laws.{over_inside, left_all}
use Rattle.tables.specs.Telling.{is_filled, Tells}
use Rattle.tables.specs.declared.Item.TheVariants.{Name}
use Rattle.tables.specs.Returned.{Tidy}
use Rattle.tables.proofs.TidySteps.{part_refused, part_padded, part_tidy, at_end}
use Rattle.names.specs.Contents.{kind_meant}
use Rattle.names.specs.Frames.{Headed, frame, FrameReads, behind_id}
use Rattle.names.specs.Telling.{TellsContent}
use Rattle.names.specs.Returned.{FrameRead}
use Rattle.names.specs.declared.kinds.Kind.{Kind}
use Rattle.names.specs.declared.kinds.Kind.TheVariants.{OneName, NameMap, IndirectMap, Kept}
use Rattle.names.proofs.JudgeLaws.{forward, frame_inside, frame_shorter}

-- One name
module _ {s : List ℕ} {c : Cursor} {x : PartRead} (n : PartReads name s c x) where
  pub name_refused : {r : Refusal} → x ≡ Err r → Tells name part_form s c None
  name_refused e = part_refused Name (rw e at n)

  module _ {part next : Cursor} {t : Bool} (e : x ≡ Ok (part, next, t)) where
    pub name_padded : t ≡ false → Tells name part_form s c None
    name_padded f = part_padded Name (rw e at n) f

    pub name_tidy : Inside s c → t ≡ true → Tells name part_form s c (Some next)
    name_tidy i f = part_tidy Name i (rw e at n) f

pub ruleset name_steps = (name_refused, name_padded, name_tidy, rules)

-- Contents
module _ {s : List ℕ} {part : Cursor} (i : Inside s part) {kind : Kind} {y : Tidy} {b : Bool} where
  pub tells_one : kind ≡ OneName → Tells name part_form s part y → b ≡ is_filled y → TellsContent (kind_meant kind) s part b
  tells_one e t q = rw e (record { says = q ∙ at_end i y t ∙ ap is_yes (sym (one_name_told part.at (left s part))) })

  pub tells_map : kind ≡ NameMap → Tells (table name) (table_form part_form) s part y → b ≡ is_filled y → TellsContent (kind_meant kind) s part b
  tells_map e t q = rw e (record { says = q ∙ at_end i y t ∙ ap is_yes (sym (map_told part.at (left s part))) })

  pub tells_indirect : kind ≡ IndirectMap → Tells (table (table name)) (table_form (table_form part_form)) s part y → b ≡ is_filled y → TellsContent (kind_meant kind) s part b
  tells_indirect e t q = rw e (record { says = q ∙ at_end i y t ∙ ap is_yes (sym (indirect_told part.at (left s part))) })

pub tells_kept : {s : List ℕ} {part : Cursor} {kind : Kind} → kind ≡ Kept → TellsContent (kind_meant kind) s part true
tells_kept {s} {part} e = rw e (record { says = ap is_yes (sym (kept_told part.at (left s part))) })

pub ruleset tell_contents = (tells_one, tells_map, tells_indirect, tells_kept, rules)

-- a frame that was read: its id stands first, and its size behind
in_frame {ℓ} : {C : Type ℓ} (least o : ℕ) (bs : List ℕ) {h : Headed} {o' : ℕ} {rest : List ℕ} → frame least o bs ≡ got (some h) o' rest → ((id : ℕ) (bs' : List ℕ) → bs ≡ id ∷ bs' → h.id ≡ id → least ≤ id → sized (suc o) bs' ≡ got h.value o' rest → C) → C
unfolding frame
in_frame least o [] e k = absurd (not_some (got_value e))
in_frame least o (id ∷ bs) e k =
    passed (leb least id) _ _ _ _ _ e λ t e₁. in_turn (sized (suc o) bs) _ e₁ λ p o₁ r₁ e₂ e₃.
    let is = some_is (got_value e₃) in
    k id bs refl (sym (ap (λ (h : Headed). h.id) is)) (leb-true least id t) (e₂ ∙ same_got (ap (λ (h : Headed). h.value) is) (got_next e₃) (got_rest e₃))
  where
    same_got : {p q : Part} {o o' : ℕ} {r r' : List ℕ} → p ≡ q → o ≡ o' → r ≡ r' → got p o r ≡ got q o' r'
    same_got a b c = cc

-- the end, and a refusal
at_the_end : (least o : ℕ) (bs : List ℕ) → got none o [] ≡ frame least o bs → bs ≡ []
unfolding frame
at_the_end least o [] e = refl
at_the_end least o (id ∷ bs) e =
    by_test (leb least id)
    (λ t. by_outcome (sized (suc o) bs) (λ p o₁ r₁ e₁. absurd (not_some (got_value (rw (t, e₁) at e)))) (λ n at e₁. absurd (not_got (sym (rw (t, e₁) at e)))))
    (λ t. absurd (not_got (sym (rw t at e))))

stops_inside : (least o : ℕ) (bs : List ℕ) {n at : ℕ} → frame least o bs ≡ stop n at → 0 < length bs
unfolding frame
stops_inside least o [] e = absurd (not_got (sym e))
stops_inside least o (id ∷ bs) e = omega arith

stops : (kind_of : ℕ → AnyKind) (most least o : ℕ) (bs : List ℕ) {n at : ℕ} → frame least o bs ≡ stop n at → told payload_form bs (subsections kind_of (suc most) least o bs) ≡ no
unfolding frame
stops kind_of most least o [] e = absurd (not_got (sym e))
stops kind_of most least o (id ∷ bs) e =
    by_test (leb least id)
    (λ t. by_outcome (sized (suc o) bs) (λ p o₁ r₁ e₁. absurd (not_got (sym (rw (t, e₁) at e)))) (λ n at e₁. payload_told_none kind_of most least o id bs e₁))
    (λ t. payload_told_low kind_of most least o id bs (leb-false least id t))

-- a yes or no, taken apart
not_yes : (x : Told) → is_yes x ≡ false → x ≡ no
not_yes (behind o rest) e = absurd (let z : ◌≡◌ {A = ℕ} 0 1 = cc in omega arith)
not_yes no e = refl

a_yes {ℓ} : {C : Type ℓ} (kind_of : ℕ → AnyKind) (id o : ℕ) (bs : List ℕ) → is_yes (told content_form bs (contents (kind_of id) o bs)) ≡ true → ((o₂ : ℕ) → told content_form bs (contents (kind_of id) o bs) ≡ behind o₂ [] → C) → C
a_yes {C = C} kind_of id o bs e k =
    by_told (told content_form bs (contents (kind_of id) o bs))
    (λ o₂ rest q. in_told content_form bs (contents (kind_of id) o bs) q λ c w e₁ _ _. k o₂ (q ∙ ap (behind o₂) (contents_end (kind_of id) o bs e₁)))
    (λ q. false_true (sym (ap is_yes q) ∙ e))
  where
    by_told : (x : Told) → ((o : ℕ) (rest : List ℕ) → x ≡ behind o rest → C) → (x ≡ no → C) → C
    by_told (behind o rest) f g = f o rest refl
    by_told no f g = g refl

-- The loop: whenever it is reached, what is left to tell is what the subsections to come are
pub record Telling (kind_of : ℕ → AnyKind) (s : List ℕ) (next : Cursor) (least : ℕ) : Type 0 where
  pub most : ℕ
  pub inside : Inside s next
  pub enough : next.end - next.at ≤ most
  pub same : names_are_canonical kind_of s ≡ is_yes (told payload_form (left s next) (subsections kind_of most least next.at (left s next)))

module _ {kind_of : ℕ → AnyKind} {s : List ℕ} where
  pub tell_begins : {c : Cursor} → Bytes s → c ≡ over_all s → Telling kind_of s c 0
  unfolding payload
  tell_begins h over = rw over (record { most = length s; inside = over_inside refl; enough = omega arith; same = rw (left_all s) (payload_told kind_of s h) })

  module _ {next : Cursor} {least : ℕ} {x : FrameRead} (t : Telling kind_of s next least) (f : FrameReads least s next x) where
    -- while bytes are left, one more may be read
    opened : 0 < length (left s next) → names_are_canonical kind_of s ≡ is_yes (told payload_form (left s next) (subsections kind_of (suc (t.most - 1)) least next.at (left s next)))
    opened h =
        let one : t.most ≡ suc (t.most - 1) = omega (arith, t.enough, length-slice next.at next.end s t.inside.within) in
        t.same ∙ ap (λ m. is_yes (told payload_form (left s next) (subsections kind_of m least next.at (left s next)))) one

    pub tell_ends : x ≡ Ok None → true ≡ names_are_canonical kind_of s
    tell_ends h =
        let nothing = at_the_end least next.at (left s next) (rw h at f.means) in
        sym (t.same ∙ rw nothing (ap is_yes (payload_told_end kind_of t.most least next.at)))

    pub tell_refused : {r : Refusal} → x ≡ Err r → false ≡ names_are_canonical kind_of s
    tell_refused e =
        let halted = sym (rw e at f.means) in
        sym (opened (stops_inside least next.at (left s next) halted) ∙ ap is_yes (stops kind_of (t.most - 1) least next.at (left s next) halted))

    module _ {id : ℕ} {part after : Cursor} {short : Bool} (e : x ≡ Ok (Some (id, part, after, short))) where
      -- what the frame says of the subsection's bytes
      head {ℓ} : {C : Type ℓ} → ((bs : List ℕ) → left s next ≡ id ∷ bs → least ≤ id → sized (suc next.at) bs ≡ got (part_of s part) after.at (left s after) → short ≡ as_few (write_part (left s part)) (left s after) bs → C) → C
      head k =
          in_frame least next.at (left s next) (sym (rw e at f.means)) λ id' bs is same above e₁.
          let first : left s next ≡ id ∷ bs = rw same is in
          let tail : bs ≡ left s (behind_id next) = tail_is bs first in
          k bs first (rw same above) e₁ (rw tail (rw e at f.tells))
        where
          tail_is : (bs : List ℕ) → left s next ≡ id ∷ bs → bs ≡ left s (behind_id next)
          tail_is bs first =
              let some_left : next.at < next.end = omega (arith, ap length first, length-slice next.at next.end s t.inside.within) in
              let cut = slice-cons next.at next.end s 0 some_left t.inside.within in
              let both = sym first ∙ cut in
              rw add-one (let z = both in cc)

      pub tell_padded : short ≡ false → false ≡ names_are_canonical kind_of s
      tell_padded g = head λ bs first above e₁ tells. sym (opened (rw first (omega arith)) ∙ rw first (ap is_yes (payload_told_padded kind_of (t.most - 1) least next.at id bs e₁ (sym tells ∙ g))))

      module _ {kind : AnyKind} {b : Bool} (k : kind ≡ kind_of id) (v : TellsContent kind s part b) where
        pub tell_not : b ≡ false → false ≡ names_are_canonical kind_of s
        tell_not g =
            head λ bs first above e₁ tells.
            let not_so = not_yes (told content_form (left s part) (contents (kind_of id) part.at (left s part))) (sym (rw k at v.says) ∙ g) in
            sym (opened (rw first (omega arith)) ∙ rw first (ap is_yes (payload_told_no kind_of (t.most - 1) least next.at id bs e₁ not_so)))

        pub tell_next : short ≡ true → b ≡ true → Telling kind_of s after (id + 1)
        tell_next g h =
            let far = forward f e in
            head λ bs first above e₁ tells.
            a_yes kind_of id part.at (left s part) (sym (rw k at v.says) ∙ h) λ o₂ yes.
            record {
              most = t.most - 1;
              inside = far.in_rest;
              enough = omega (arith, t.enough, far.moves, far.same_end, far.in_rest.ahead);
              same = opened (rw first (omega arith)) ∙ rw (first, add-one) (ap is_yes (payload_told_on kind_of (t.most - 1) least next.at id bs e₁ (sym tells ∙ g) above yes));
            }

pub ruleset tell_turns = (tell_begins, tell_ends, tell_refused, tell_padded, tell_not, tell_next, frame_inside, frame_shorter, over_inside, nested, rules)
