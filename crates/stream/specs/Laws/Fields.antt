-- The struct loses nothing of the state: so all that is known of states is known of structs.
use Rattle.std.specs.Prelude.{ℕ, Bool, true, false, ◌≡◌, eqb}
use Rattle.std.proofs.Math.Option.{Option, none, some}
use Rattle.std.proofs.Math.Path.{refl}
use Rattle.std.proofs.Common.{ap}
use Rattle.format.specs.Reading.{accepted, refused}
use Rattle.walk.specs.Sections.{bit}
use Rattle.stream.specs.Contents.{Contents, sizing, naming, paying, failing}
use Rattle.stream.specs.Stream.{Summary, Done, Phase, starting, settled, measuring, skipping, in_custom_lem, State}
use Rattle.stream.specs.Fields.{flag, spot_of, rows_there, row_number, in_phase, held, place_from, first_row, contents_from, phase_from, state_from}
use Rattle.format.specs.declared.Place.{Place}

code_back : (b : Bool) → eqb (flag b) 1 ≡ b
code_back true = refl
code_back false = refl

pub row_back : (row : Option ℕ) → first_row (row_number row) ≡ row
row_back none = refl
row_back (some row) = refl

-- a summary's places, out of its spots and the bits of its rows
module _ (count : ℕ) where
  told : Option Place → Option Place → Option Place → Summary
  told name hints older = record { count = count; name = name; hints = hints; older = older }

  again : Summary → Summary
  again s = told (place_from (bit (rows_there s) 0) (spot_of s.name)) (place_from (bit (rows_there s) 1) (spot_of s.hints)) (place_from (bit (rows_there s) 2) (spot_of s.older))

  told_back : (name hints older : Option Place) → again (told name hints older) ≡ told name hints older
  unfolding again told
  told_back none none none = refl
  told_back none none (some r) = refl
  told_back none (some q) none = refl
  told_back none (some q) (some r) = refl
  told_back (some p) none none = refl
  told_back (some p) none (some r) = refl
  told_back (some p) (some q) none = refl
  told_back (some p) (some q) (some r) = refl

done_back : (d : Done) → ◌≡◌ {A = Done} (record { rank = d.rank; code = eqb (flag d.code) 1; told = again d.told.count d.told }) d
unfolding again told
done_back d = λ i. record { rank = d.rank; code = code_back d.code i; told = told_back d.told.count d.told.name d.told.hints d.told.older i }

contents_back : (o : ℕ) (d : Done) (at left : ℕ) (c : Contents) → phase_from (in_phase o (in_custom_lem d at left c)) ≡ in_custom_lem d at left c
unfolding phase_from contents_from again told
contents_back o d at left (sizing begins n) = ap (λ (d : Done). in_custom_lem d at left (sizing begins n)) (done_back d)
contents_back o d at left (naming begins text rest t m) = ap (λ (d : Done). in_custom_lem d at left (naming begins text rest t m)) (done_back d)
contents_back o d at left (paying row payload) = λ i. in_custom_lem (done_back d i) at left (paying (row_back row i) payload)
contents_back o d at left (failing n a) = ap (λ (d : Done). in_custom_lem d at left (failing n a)) (done_back d)

phase_back : (o : ℕ) (p : Phase) → phase_from (in_phase o p) ≡ p
unfolding phase_from again told
phase_back o starting = refl
phase_back o (settled (accepted d)) = ap (λ (d : Done). settled (accepted d)) (done_back d)
phase_back o (settled (refused n at)) = refl
phase_back o (measuring d id at n) = ap (λ (d : Done). measuring d id at n) (done_back d)
phase_back o (skipping d at left) = ap (λ (d : Done). skipping d at left) (done_back d)
phase_back o (in_custom_lem d at left c) = contents_back o d at left c

total_back : (o : ℕ) (p : Phase) → (in_phase o p).total ≡ o
total_back o starting = refl
total_back o (settled (accepted d)) = refl
total_back o (settled (refused n at)) = refl
total_back o (measuring d id at n) = refl
total_back o (skipping d at left) = refl
total_back o (in_custom_lem d at left (sizing begins n)) = refl
total_back o (in_custom_lem d at left (naming begins text rest t m)) = refl
total_back o (in_custom_lem d at left (paying row payload)) = refl
total_back o (in_custom_lem d at left (failing n a)) = refl

pub held_back : (s : State) → state_from (held s) ≡ s
unfolding state_from held
held_back s = λ i. record { total = total_back s.total s.phase i; phase = phase_back s.total s.phase i }

pub held_total : (s : State) → (held s).total ≡ s.total
unfolding held
held_total s = total_back s.total s.phase
