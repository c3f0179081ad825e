-- What stands at a place of a body, by the grammar: on a branch exactly where a br_if or an if begins, and else off it for the one reason or the other.
use Rattle.std.specs.Prelude.{ℕ, zero, suc, ◌+◌, ◌≤◌, ◌<◌, true, cond, List, [], ◌∷◌, ◌++◌, ◌↔◌, ◌≡◌, ltb, eqb}
use Rattle.std.proofs.Common.{append_assoc, sym, ◌∙◌, add-zero, arith}
use Rattle.std.proofs.Math.Path.{refl, ap}
use borrow.Author.Tests.{lt-ltb, le-ltb, ltb-true, eqb-true, eq-eqb, ne_eqb}
use Rattle.std.proofs.Math.ListN.{length, length-append}
use Rattle.format.specs.Bytes.{Bytes}
use Rattle.format.specs.Parts.{Part}
use Rattle.format.specs.Reading.{got, stop, Reader}
use Rattle.format.specs.Laws.Outcomes.{not_got, by_test, false_true, by_outcome}
use Rattle.format.proofs.Laws.Passing.{Reaches, reach, reach_step}
use Rattle.format.specs.Laws.Tight.{bytes_after}
use Rattle.grammar.specs.Laws.Exact.{Stretch, left_bytes}
use Rattle.instructions.specs.Immediates as Read
use Rattle.instructions.specs.Locals.{locals}
use Rattle.instructions.specs.Laws.Passing.{instruction_passes, locals_pass}
use Rattle.branches.specs.Bodies.{Seat, on_branch_lem, not_readable, elsewhere, is_branch, seat_then, seat_within, seat_from, seat_in}
use Rattle.branches.specs.Grammar.{Instruction, instruction, Instructions, no_instruction, an_instruction, Locals, Begins}
use Rattle.branches.specs.Rule.{Readable, CannotBeRead, the_locals, an_instruction as one_instruction, NotOnABranch}
use Rattle.branches.specs.Laws.Exactly.{Unread, Reads, instruction_exact, locals_exact}

pub not_elsewhere : elsewhere ≡ on_branch_lem → ⊥
not_elsewhere e = let z : ◌≡◌ {A = ℕ} 0 1 = cc in omega arith

pub not_unreadable : not_readable ≡ on_branch_lem → ⊥
not_unreadable e = let z : ◌≡◌ {A = ℕ} 0 1 = cc in omega arith

readable_elsewhere : elsewhere ≡ not_readable → ⊥
readable_elsewhere e = let z : ◌≡◌ {A = ℕ} 0 1 = cc in omega arith

by_seat {ℓ} : {C : Type ℓ} (s : Seat) → (s ≡ on_branch_lem → C) → (s ≡ not_readable → C) → (s ≡ elsewhere → C) → C
by_seat on_branch_lem f g h = f refl
by_seat not_readable f g h = g refl
by_seat elsewhere f g h = h refl

-- a piece that is read can be read, and one that stops cannot
module _ {read : Reader (Unit {0})} {G : List ℕ → Type 0} (exact : Reads read G) (o : ℕ) (bs : List ℕ) where
  read_readable : {v : Unit {0}} {o' : ℕ} {rest : List ℕ} → Bytes bs → read o bs ≡ got v o' rest → Readable G bs
  read_readable {rest = rest} h e = let s = exact.sound o bs h e in record { front = s.front; behind = rest; is = s.is; means = s.means }

  stopped_unreadable : {n at : ℕ} → read o bs ≡ stop n at → Readable G bs → ⊥
  stopped_unreadable e r = let a = exact.complete r.means o r.behind in not_got (sym (rw r.is at e) ∙ a.reads)

-- an instruction takes a byte at least, and goes as far as it is long
pub instruction_shorter : (o op : ℕ) (bs : List ℕ) {v : Unit {0}} {o' : ℕ} {rest : List ℕ} → Read.instruction o (op ∷ bs) ≡ got v o' rest → length rest ≤ length bs
instruction_shorter o op bs e = instruction_passes (λ _ r. length r ≤ length bs) (λ _ b r h. omega (arith, h)) o op bs (omega arith) e

instruction_far : (o op : ℕ) (bs : List ℕ) {v : Unit {0}} {o' : ℕ} {rest : List ℕ} → Read.instruction o (op ∷ bs) ≡ got v o' rest → o' + length rest ≡ o + suc (length bs)
instruction_far o op bs e = instruction_passes (Reaches (o + suc (length bs))) (reach_step (o + suc (length bs))) o op bs (omega arith) e

-- more than enough is as good as enough
pub seat_enough : (most most' place o : ℕ) (bs : List ℕ) → length bs ≤ most → length bs ≤ most' → seat_within most place o bs ≡ seat_within most' place o bs
unfolding seat_within
seat_enough zero zero place o bs h h' = refl
seat_enough zero (suc most') place o [] h h' = refl
seat_enough zero (suc most') place o (op ∷ bs) h h' = absurd (omega arith)
seat_enough (suc most) zero place o [] h h' = refl
seat_enough (suc most) zero place o (op ∷ bs) h h' = absurd (omega arith)
seat_enough (suc most) (suc most') place o [] h h' = refl
seat_enough (suc most) (suc most') place o (op ∷ bs) h h' =
    by_test (ltb o place)
    (λ t. by_outcome (Read.instruction o (op ∷ bs))
    (λ v o₁ r₁ e. let l = instruction_shorter o op bs e in rw (t, e) (seat_enough most most' place o₁ r₁ (omega (arith, l, h)) (omega (arith, l, h'))))
    (λ n at e. rw (t, e)))
    (λ t. rw t)

-- from the beginning of an instruction on: what is told at once, and one step
module _ (place o : ℕ) where
  pub seat_ended : seat_from place o [] ≡ elsewhere
  unfolding seat_from seat_within
  seat_ended = refl

  module _ (op : ℕ) (bs : List ℕ) where
    pub seat_past : place < o → seat_from place o (op ∷ bs) ≡ elsewhere
    unfolding seat_from seat_within
    seat_past h = rw (le-ltb o place (omega arith), ne_eqb o place (λ e. absurd (omega (arith, e))))

    pub seat_here : {s : Seat} → o ≡ place → cond (is_branch op) on_branch_lem elsewhere ≡ s → seat_from place o (op ∷ bs) ≡ s
    unfolding seat_from seat_within
    seat_here e is = rw (le-ltb o place (omega arith), eq-eqb o place e) is

    pub seat_steps : o < place → seat_from place o (op ∷ bs) ≡ seat_then (Read.instruction o (op ∷ bs)) (seat_from place)
    unfolding seat_from seat_within
    seat_steps h =
        by_outcome (Read.instruction o (op ∷ bs))
        (λ v o₁ r₁ e. rw (lt-ltb o place h, e) (seat_enough (length bs) (length r₁) place o₁ r₁ (instruction_shorter o op bs e) (omega arith)))
        (λ n at e. rw (lt-ltb o place h, e))

-- SOUND: instructions were stepped over up to one that decides, where it stands or because it cannot be read
data Decided (place o op : ℕ) (others : List ℕ) : Seat → Type 0 where
  there : is_branch op ≡ true → o ≡ place → Decided place o op others on_branch_lem
  stuck : o < place → (Readable Instruction (op ∷ others) → ⊥) → Decided place o op others not_readable

record Found (s : Seat) (place o : ℕ) (bs : List ℕ) : Type 0 where
  before : List ℕ
  op : ℕ
  others : List ℕ
  are_instructions : Instructions before
  is : bs ≡ before ++ (op ∷ others)
  at : ℕ
  far : at ≡ o + length before
  decided : Decided place at op others s

-- behind one instruction more
found_behind : {s : Seat} {place o o₁ : ℕ} {bs r₁ : List ℕ} (one : Stretch (Unread Instruction) tt r₁ bs) → o₁ + length r₁ ≡ o + length bs → Found s place o₁ r₁ → Found s place o bs
found_behind {r₁ = r₁} one far more = record {
  before = one.front ++ more.before;
  op = more.op;
  others = more.others;
  are_instructions = an_instruction one.means more.are_instructions;
  is = one.is ∙ ap (λ x. one.front ++ x) more.is ∙ sym (append_assoc one.front more.before (more.op ∷ more.others));
  at = more.at;
  far = omega (arith, more.far, far, ap length one.is, length-append one.front r₁, length-append one.front more.before);
  decided = more.decided;
}

seat_sound : {s : Seat} → (elsewhere ≡ s → ⊥) → (most place o : ℕ) (bs : List ℕ) → Bytes bs → seat_within most place o bs ≡ s → Found s place o bs
unfolding seat_within
seat_sound not zero place o bs h e = absurd (not e)
seat_sound not (suc most) place o [] h e = absurd (not e)
seat_sound {s} not (suc most) place o (op ∷ bs) h e =
    by_test (ltb o place)
    (λ t. by_outcome (Read.instruction o (op ∷ bs))
    (λ v o₁ r₁ e₁.
    let one = instruction_exact.sound o (op ∷ bs) h e₁ in
    found_behind one (instruction_far o op bs e₁) (seat_sound not most place o₁ r₁ (left_bytes one h) (rw (t, e₁) at e)))
    (λ n at e₁. let q : not_readable ≡ s = rw (t, e₁) at e in
    rw (← q) (here (stuck (ltb-true o place t) (stopped_unreadable instruction_exact o (op ∷ bs) e₁)))))
    (λ t. by_test (eqb o place)
    (λ q. by_test (is_branch op)
    (λ b. let q' : on_branch_lem ≡ s = rw (t, q, b) at e in rw (← q') (here (there b (eqb-true o place q))))
    (λ b. absurd (not (rw (t, q, b) at e))))
    (λ q. absurd (not (rw (t, q) at e))))
  where
    here : {s : Seat} → Decided place o op bs s → Found s place o (op ∷ bs)
    here d = record { before = []; op = op; others = bs; are_instructions = no_instruction; is = refl; at = o; far = omega arith; decided = d }

-- COMPLETE: instructions up to the place are stepped over
seat_behind : {is : List ℕ} → Instructions is → (place o : ℕ) (rest : List ℕ) → o + length is ≤ place → seat_from place o (is ++ rest) ≡ seat_from place (o + length is) rest
seat_behind no_instruction place o rest h = rw add-zero refl
seat_behind (an_instruction {others = more} (instruction {op = first} {bs = imm} g) is) place o rest h =
    let behind = more ++ rest in
    let a = instruction_exact.complete (instruction {op = first} {bs = imm} g) o behind in
    let far = instruction_far o first (imm ++ behind) a.reads in
    let next : a.next + length more ≡ o + length ((first ∷ imm) ++ more) = omega (arith, far, length-append imm behind, length-append imm more) in
    rw (append_assoc imm more rest) (seat_steps place o first (imm ++ behind) (omega (arith, h))
    ∙ rw a.reads (seat_behind is place a.next rest (omega (arith, next, h)) ∙ ap (λ x. seat_from place x rest) next))

-- THE PLACE of a hint, by the grammar
locals_far : (o : ℕ) (bs : List ℕ) {v : Unit {0}} {o' : ℕ} {rest : List ℕ} → locals o bs ≡ got v o' rest → o' + length rest ≡ o + length bs
locals_far o bs e = reach (λ end. locals_pass (Reaches end) (reach_step end)) o bs e

-- from where an instruction begins on, up to the place or at it
module _ (body : Part) (offset : ℕ) {place op : ℕ} (b : Begins body.bytes place op) where
  seat_begins : place ≤ offset → seat_in body offset ≡ seat_from (body.at + offset) (body.at + place) (op ∷ b.others)
  unfolding seat_in
  seat_begins l =
      let behind = b.instructions_bytes ++ (op ∷ b.others) in
      let a = locals_exact.complete b.are_locals body.at behind in
      let far = locals_far body.at (b.locals_bytes ++ behind) a.reads in
      let next : a.next + length b.instructions_bytes ≡ body.at + place = omega (arith, far, b.begins_there, length-append b.locals_bytes behind) in
      rw (b.body_is, a.reads) (seat_behind b.are_instructions (body.at + offset) a.next (op ∷ b.others) (omega (arith, next, l)) ∙ ap (λ x. seat_from (body.at + offset) x (op ∷ b.others)) next)

  seat_stuck : place < offset → (Readable Instruction (op ∷ b.others) → ⊥) → Bytes (op ∷ b.others) → seat_in body offset ≡ not_readable
  seat_stuck l cannot h =
      seat_begins (omega arith) ∙ seat_steps (body.at + offset) (body.at + place) op b.others (omega (arith, l))
      ∙ by_outcome (Read.instruction (body.at + place) (op ∷ b.others))
      (λ v o r e. absurd (cannot (read_readable instruction_exact (body.at + place) (op ∷ b.others) h e)))
      (λ n at e. rw e)

begun_bytes : {body : List ℕ} {place op : ℕ} (b : Begins body place op) → Bytes body → Bytes (op ∷ b.others)
begun_bytes {op = op} b h = bytes_after b.instructions_bytes (op ∷ b.others) (bytes_after b.locals_bytes (b.instructions_bytes ++ (op ∷ b.others)) (rw b.body_is at h))

module _ (body : Part) (offset : ℕ) (h : Bytes body.bytes) where
  abbrev OnABranch : Type 0
  OnABranch = (op : ℕ) × (is_branch op ≡ true) × Begins body.bytes offset op

  -- why it is not elsewhere
  seat_told {ℓ} : {C : Type ℓ} {s : Seat} → (elsewhere ≡ s → ⊥) → seat_in body offset ≡ s → (not_readable ≡ s → (Readable Locals body.bytes → ⊥) → C) → ((place op : ℕ) (b : Begins body.bytes place op) → Decided (body.at + offset) (body.at + place) op b.others s → C) → C
  unfolding seat_in seat_from
  seat_told {s = s} not e f g =
      by_outcome (locals body.at body.bytes)
      (λ v o r e₁.
      let ls = locals_exact.sound body.at body.bytes h e₁ in
      let found = seat_sound not (length r) (body.at + offset) o r (left_bytes ls h) (rw e₁ at e) in
      let far = locals_far body.at body.bytes e₁ in
      let place = length ls.front + length found.before in
      let there : found.at ≡ body.at + place = omega (arith, found.far, far, ap length ls.is, length-append ls.front r) in
      g place found.op (record {
        locals_bytes = ls.front;
        instructions_bytes = found.before;
        others = found.others;
        are_locals = ls.means;
        are_instructions = found.are_instructions;
        body_is = ls.is ∙ ap (λ x. ls.front ++ x) found.is;
        begins_there = refl;
      }) (rw there at found.decided))
      (λ n at e₁. f (rw e₁ at e) (stopped_unreadable locals_exact body.at body.bytes e₁))

  branch_sound : seat_in body offset ≡ on_branch_lem → OnABranch
  branch_sound e = seat_told not_elsewhere e (λ q _. absurd (not_unreadable q)) arrived
    where
      arrived : (place op : ℕ) (b : Begins body.bytes place op) → Decided (body.at + offset) (body.at + place) op b.others on_branch_lem → OnABranch
      arrived place op b (there is q) = let same : place ≡ offset = omega (arith, q) in (op, is, rw same at b)

  branch_complete : OnABranch → seat_in body offset ≡ on_branch_lem
  branch_complete (op, is, b) = seat_begins body offset b (omega arith) ∙ seat_here (body.at + offset) (body.at + offset) op b.others refl (rw is)

  pub branch_exactly : (seat_in body offset ≡ on_branch_lem) ↔ OnABranch
  branch_exactly = (branch_sound, branch_complete)

  unreadable_sound : seat_in body offset ≡ not_readable → CannotBeRead body.bytes offset
  unreadable_sound e = seat_told readable_elsewhere e (λ _ cannot. the_locals cannot) halted
    where
      halted : (place op : ℕ) (b : Begins body.bytes place op) → Decided (body.at + offset) (body.at + place) op b.others not_readable → CannotBeRead body.bytes offset
      halted place op b (stuck l cannot) = one_instruction b (omega (arith, l)) cannot

  unreadable_complete : CannotBeRead body.bytes offset → seat_in body offset ≡ not_readable
  unfolding seat_in
  unreadable_complete (the_locals cannot) =
      by_outcome (locals body.at body.bytes)
      (λ v o r e. absurd (cannot (read_readable locals_exact body.at body.bytes h e)))
      (λ n at e. rw e)
  unreadable_complete (one_instruction b l cannot) = seat_stuck body offset b l cannot (begun_bytes b h)

  pub unreadable_exactly : (seat_in body offset ≡ not_readable) ↔ CannotBeRead body.bytes offset
  unreadable_exactly = (unreadable_sound, unreadable_complete)

  elsewhere_sound : seat_in body offset ≡ elsewhere → NotOnABranch body.bytes offset
  elsewhere_sound e = record {
    locals_read = by_outcome (locals body.at body.bytes)
        (λ v o r e₁. read_readable locals_exact body.at body.bytes h e₁)
        (λ n at e₁. absurd (unread (the_locals (stopped_unreadable locals_exact body.at body.bytes e₁))));
    instructions_read = λ {place} {op} b l. by_outcome (Read.instruction place (op ∷ b.others))
        (λ v o r e₁. read_readable instruction_exact place (op ∷ b.others) (begun_bytes b h) e₁)
        (λ n at e₁. absurd (unread (one_instruction b l (stopped_unreadable instruction_exact place (op ∷ b.others) e₁))));
    no_branch = λ {op} b. by_test (is_branch op) (λ t. absurd (not_elsewhere (sym e ∙ branch_complete (op, t, b)))) (λ t. t);
  }
    where
      unread : CannotBeRead body.bytes offset → ⊥
      unread c = readable_elsewhere (sym e ∙ unreadable_complete c)

  elsewhere_complete : NotOnABranch body.bytes offset → seat_in body offset ≡ elsewhere
  elsewhere_complete r =
      by_seat (seat_in body offset)
      (λ e. let (op, is, b) = branch_sound e in false_true (sym (r.no_branch b) ∙ is))
      (λ e. absurd (could_be (unreadable_sound e)))
      (λ e. e)
    where
      could_be : CannotBeRead body.bytes offset → ⊥
      could_be (the_locals cannot) = cannot r.locals_read
      could_be (one_instruction b l cannot) = cannot (r.instructions_read b l)

  pub elsewhere_exactly : (seat_in body offset ≡ elsewhere) ↔ NotOnABranch body.bytes offset
  elsewhere_exactly = (elsewhere_sound, elsewhere_complete)
