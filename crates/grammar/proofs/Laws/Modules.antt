-- The walk is exact: it accepts exactly the modules that the grammar has a meaning for.
use Rattle.std.specs.Prelude.{ℕ, zero, suc, ◌+◌, ◌≤◌, List, [], ◌∷◌, ◌++◌, ◌≡◌, refl, eqb, length}
use Rattle.std.proofs.Math.Option.{Option, none, some}
use Rattle.std.proofs.Common.{sym, ap, ap₂, ◌∙◌, arith, eqb-true, eq-eqb, length-append}
use Rattle.format.specs.Bytes.{Bytes}
use Rattle.format.specs.Reading.{got, accepted}
use Rattle.format.specs.Options.{map_some}
use Rattle.format.specs.Parts.{Part, sized, name, remaining}
use Rattle.format.specs.Walk.{preamble, begins, custom, Custom, Section, Seen, nothing, seeing, section, sections, framing, walk}
use Rattle.format.specs.Laws.Outcomes.{not_got, got_value, got_rest, by_test, in_turn, judged}
use Rattle.format.specs.Laws.Turns.{in_sections}
use Rattle.grammar.specs.Lists.{Sized}
use Rattle.grammar.specs.Modules.{magic, version, Section as BareSection, Framed, custom_section, other_section, Sections, no_section, a_section, Ordered, Module, a_module}
use Rattle.grammar.specs.Forgetting.{bare_custom, bare_section, bare_sections}
use Rattle.format.specs.Laws.Tight.{bytes_after}
use Rattle.grammar.specs.Laws.Exact.{read_bytes, left_bytes, no_longer}
use Rattle.grammar.proofs.Laws.Lists.{sized_exact, contents_bytes}
use Rattle.grammar.proofs.Laws.Names.{name_exact}
use Rattle.grammar.proofs.Laws.Order.{Allows, after, Run, end, step, ordered_run, run_ordered}
use Rattle.grammar.proofs.Laws.Checks.{in_section, section_reads, passed_allows, allows_passed, seeing_after}

-- one section
pub framed : (id : ℕ) (p : Part) {c : Option Custom} {o₂ : ℕ} {r₂ part : List ℕ} → Bytes p.bytes → Sized part p.bytes → custom id p.at p.bytes ≡ got c o₂ r₂ → Framed (id ∷ part) (record { id = id; contents = p.bytes; custom = map_some bare_custom c })
unfolding custom remaining
framed zero p h s e =
    in_turn (name p.at p.bytes) _ e λ n o₁ r₁ e₁ e₂.
    let text = name_exact.sound p.at p.bytes h e₁ in
    rw (← got_value e₂, text.is) (custom_section (rw text.is at s) text.means)
framed (suc id) p h s e = rw (← got_value e) (other_section {id = suc id} (λ q. omega (arith, q)) s)

pub record FramedRead (seen : Seen) (bs : List ℕ) (s : BareSection) (o : ℕ) (rest : List ℕ) : Type 0 where
  pub part : List ℕ
  pub is : bs ≡ s.id ∷ part
  pub value : Section
  pub next : ℕ
  pub reads : section seen o s.id (suc o) (part ++ rest) ≡ got value next rest
  pub same : bare_section value ≡ s

allowed_read : (seen : Seen) (o id : ℕ) (part rest : List ℕ) (p : Part) (c : Option Custom) (s : BareSection) {o₁ o₂ : ℕ} {r₂ : List ℕ} → sized (suc o) (part ++ rest) ≡ got p o₁ rest → custom id p.at p.bytes ≡ got c o₂ r₂ → bare_section (record { id = id; at = o; contents = p; custom = c }) ≡ s → Allows seen s → FramedRead seen (id ∷ part) s o rest
allowed_read seen o id part rest p c s e₁ e₂ same h =
    let read : Section = record { id = id; at = o; contents = p; custom = c } in
    rw (← same) (record { part = part; is = refl; value = read; next = _; reads = section_reads seen o id (part ++ rest) p c (allows_passed seen read (rw same h)) e₁ e₂; same = refl })

pub framed_complete : {bs : List ℕ} {s : BareSection} → Framed bs s → (seen : Seen) → Allows seen s → (o : ℕ) (rest : List ℕ) → FramedRead seen bs s o rest
unfolding custom remaining
framed_complete (custom_section {part = part} {name = nm} {payload = payload} s n) seen h o rest =
    let a = sized_exact.complete s (suc o) rest in
    let b = name_exact.complete n a.value.at payload in
    let c : Option Custom = some (record { name = b.value; payload = record { at = b.next; bytes = payload } }) in
    let reads : custom 0 a.value.at a.value.bytes ≡ got c (b.next + length payload) [] = rw (a.same, b.reads) in
    allowed_read seen o 0 part rest a.value c _ a.reads reads (rw (a.same, b.same)) h
framed_complete (other_section {id = zero} n s) seen h o rest = absurd (n refl)
framed_complete (other_section {id = suc id} {part = part} n s) seen h o rest =
    let a = sized_exact.complete s (suc o) rest in
    allowed_read seen o (suc id) part rest a.value none _ a.reads refl (rw a.same) h

-- sections up to the end
sections_sound : (most : ℕ) (seen : Seen) (o : ℕ) (bs : List ℕ) {ss : List Section} {o' : ℕ} {rest : List ℕ} → length bs ≤ most → Bytes bs → sections most seen o bs ≡ got ss o' rest → Sections bs (bare_sections ss) × Run seen (bare_sections ss)
unfolding sections
sections_sound zero seen o [] f h e = rw (← got_value e) (no_section, end)
sections_sound zero seen o (b ∷ bs) f h e = absurd (omega arith)
sections_sound (suc most) seen o [] f h e = rw (← got_value e) (no_section, end)
sections_sound (suc most) seen o (id ∷ bs) f h e =
    in_sections most seen o id bs e λ s o₁ r₁ more e₁ e₂ is. in_section seen o id bs e₁ λ p c o₂ r₂ checks e₃ e₄ is_s.
    let h₁ : Bytes bs = λ i. h (suc i) in
    let part = sized_exact.sound (suc o) bs h₁ e₃ in
    let frame = framed id p (contents_bytes part.means (read_bytes part h₁)) part.means e₄ in
    let ih = sections_sound most (seeing seen s) o₁ r₁ (omega (arith, no_longer part)) (left_bytes part h₁) e₂ in
    let read : Section = record { id = id; at = o; contents = p; custom = c } in
    let run : Run (after seen (bare_section read)) (bare_sections more) = rw (← is_s, seeing_after seen read) at ih.1 in
    rw (← is, ← is_s, part.is) (a_section frame ih.0, step (passed_allows seen read checks) run)

record SectionsRead (most : ℕ) (seen : Seen) (bs : List ℕ) (ss : List BareSection) (o : ℕ) : Type 0 where
  value : List Section
  next : ℕ
  reads : sections most seen o bs ≡ got value next []
  same : bare_sections value ≡ ss

sections_complete : {bs : List ℕ} {ss : List BareSection} → Sections bs ss → (most : ℕ) (seen : Seen) → length bs ≤ most → Run seen ss → (o : ℕ) → SectionsRead most seen bs ss o
unfolding sections
sections_complete no_section zero seen f r o = record { value = []; next = o; reads = refl; same = refl }
sections_complete no_section (suc most) seen f r o = record { value = []; next = o; reads = refl; same = refl }
sections_complete (a_section {bs = bs} {others = others} frame m) zero seen f (step h r) o =
    let a = framed_complete frame seen h o others in
    absurd (omega (arith, length-append bs others, ap length a.is))
sections_complete (a_section {bs = bs} {others = others} {s = s} frame m) (suc most) seen f (step h r) o =
    let a = framed_complete frame seen h o others in
    let now : seeing seen a.value ≡ after seen s = seeing_after seen a.value ∙ ap (after seen) a.same in
    let ih = sections_complete m most (seeing seen a.value) (omega (arith, length-append bs others, ap length a.is)) (rw now r) a.next in
    rw a.is (record {
      value = a.value ∷ ih.value;
      next = ih.next;
      reads = rw (a.reads, ih.reads);
      same = ap₂ (λ x xs. x ∷ xs) a.same ih.same;
    })

-- the preamble
pub begins_sound : (xs : List ℕ) (o : ℕ) (bs : List ℕ) {v : Unit {0}} {o' : ℕ} {rest : List ℕ} → begins xs o bs ≡ got v o' rest → bs ≡ xs ++ rest
unfolding begins
begins_sound [] o bs e = got_rest e
begins_sound (x ∷ xs) o [] e = absurd (not_got e)
begins_sound (x ∷ xs) o (b ∷ bs) e =
    by_test (eqb x b)
    (λ t. ap₂ (λ y ys. y ∷ ys) (sym (eqb-true x b t)) (begins_sound xs (suc o) bs (rw t at e)))
    (λ t. absurd (not_got (rw t at e)))

begins_complete : (xs : List ℕ) (o : ℕ) (rest : List ℕ) → (o' : ℕ) × (begins xs o (xs ++ rest) ≡ got tt o' rest)
unfolding begins
begins_complete [] o rest = (o, refl)
begins_complete (x ∷ xs) o rest = let (o', e) = begins_complete xs (suc o) rest in (o', rw (eq-eqb x x refl) e)

-- THE MODULE
pub preamble_bytes : (bs : List ℕ) → magic ++ version ++ bs ≡ preamble ++ bs
unfolding preamble
preamble_bytes bs = refl

pub walk_sound : (m : List ℕ) (ss : List Section) → Bytes m → walk m ≡ accepted ss → Module m (bare_sections ss)
unfolding walk framing
walk_sound m ss h e =
    judged (framing 0 m) e λ o rest e₁. in_turn (begins preamble 0 m) _ e₁ λ v o₁ r₁ e₂ e₃.
    let is = begins_sound preamble 0 m e₂ in
    let (read, run) = sections_sound (length m) nothing o₁ r₁ (omega (arith, ap length is, length-append preamble r₁)) (bytes_after preamble r₁ (rw is at h)) e₃ in
    rw (is ∙ sym (preamble_bytes r₁)) (a_module read (run_ordered run))

preamble_read : (bs : List ℕ) {ss : List BareSection} → Sections bs ss → Ordered ss → (read : List Section) × (walk (preamble ++ bs) ≡ accepted read) × (bare_sections read ≡ ss)
unfolding walk framing
preamble_read bs {ss} read ordered =
    let (o, e) = begins_complete preamble 0 bs in
    let r = sections_complete read (length (preamble ++ bs)) nothing (omega (arith, length-append preamble bs)) (ordered_run ss ordered) o in
    (r.value, rw (e, r.reads), r.same)

pub walk_complete : (m : List ℕ) (ss : List BareSection) → Module m ss → (read : List Section) × (walk m ≡ accepted read) × (bare_sections read ≡ ss)
walk_complete m ss (a_module {bs = bs} read ordered) = rw (preamble_bytes bs) (preamble_read bs read ordered)
