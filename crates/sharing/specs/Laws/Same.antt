-- Results that say the same are the same: a table by its arrays, and an answer with the lent buffer after the call.
use Rattle.std.specs.Prelude.{ℕ, List, [], ◌∷◌, map, ◌≡◌, refl, length, Ok, Err, Some, None}
use Rattle.std.proofs.Common.{sym, ap, ◌∙◌, arith}
use Rattle.format.specs.Laws.Refusals.{same_refusal}
use Rattle.format.specs.Returned.{Verdict, Written}
use Rattle.sharing.specs.Arrays.{marks_from, table_of, Full}
use Rattle.sharing.specs.Calls.{opened_as, asked_as, closed_as, tidied_as}
use Rattle.sharing.specs.Model.{Answer, refusal, granted, nothing, found, closed, tidied}
use Rattle.sharing.specs.Table.{Mark, Table}
use Rattle.sharing.specs.declared.Table.{Table as Arrays}
use Rattle.sharing.specs.Returned.{Told}

-- Tables

users_of : (us ns : List ℕ) → length us ≡ length ns → map (λ (m : Mark). m.users) (marks_from us ns) ≡ us
unfolding marks_from
users_of [] ns e = refl
users_of (u ∷ us) [] e = absurd (omega arith)
users_of (u ∷ us) (n ∷ ns) e = ap (λ (l : List ℕ). u ∷ l) (users_of us ns (omega arith))

sizes_of : (us ns : List ℕ) → length us ≡ length ns → map (λ (m : Mark). m.size) (marks_from us ns) ≡ ns
unfolding marks_from
sizes_of [] [] e = refl
sizes_of [] (n ∷ ns) e = absurd (omega arith)
sizes_of (u ∷ us) [] e = absurd (omega arith)
sizes_of (u ∷ us) (n ∷ ns) e = ap (λ (l : List ℕ). n ∷ l) (sizes_of us ns (omega arith))

pub same_table : (a b : Arrays) → Full a → Full b → table_of a ≡ table_of b → a ≡ b
same_table a b f g e =
    let x : length a.users ≡ length a.sizes = f.users ∙ sym f.sizes in
    let y : length b.users ≡ length b.sizes = g.users ∙ sym g.sizes in
    let us = sym (users_of a.users a.sizes x) ∙ ap (λ (t : Table). map (λ (m : Mark). m.users) t.marks) e ∙ users_of b.users b.sizes y in
    let ns = sym (sizes_of a.users a.sizes x) ∙ ap (λ (t : Table). map (λ (m : Mark). m.size) t.marks) e ∙ sizes_of b.users b.sizes y in
    let hs = ap (λ (t : Table). t.holds) e in
    let n = ap (λ (t : Table). t.bytes) e in
    λ i. record { holds = hs i; users = us i; sizes = ns i; bytes = n i }

-- Answers

abbrev which : Answer → ℕ
which (refusal number at buffer) = 0
which (granted hold work) = 1
which (nothing out) = 2
which (found size out) = 3
which closed = 4
which tidied = 5

apart : {a b : Answer} {A : Type 0} → a ≡ b → (which a ≡ which b → ⊥) → A
apart e f = absurd (f (ap which e))

pub same_opened : (a b : Written) (left other : List ℕ) → opened_as a left ≡ opened_as b other → (a ≡ b) × (left ≡ other)
same_opened (Ok h) (Ok k) left other e = let n : h ≡ k = cc in (ap Ok n, cc)
same_opened (Ok h) (Err s) left other e = apart e (λ z. omega arith)
same_opened (Err r) (Ok k) left other e = apart e (λ z. omega arith)
same_opened (Err r) (Err s) left other e = (ap Err (same_refusal r s (cc) (cc)), cc)

pub same_told : (a b : Told) (left other : List ℕ) → asked_as a left ≡ asked_as b other → (a ≡ b) × (left ≡ other)
same_told (Ok None) (Ok None) left other e = (refl, cc)
same_told (Ok None) (Ok (Some n)) left other e = apart e (λ z. omega arith)
same_told (Ok None) (Err s) left other e = apart e (λ z. omega arith)
same_told (Ok (Some n)) (Ok None) left other e = apart e (λ z. omega arith)
same_told (Ok (Some n)) (Ok (Some m)) left other e = let k : n ≡ m = cc in (ap (λ x. Ok (Some x)) k, cc)
same_told (Ok (Some n)) (Err s) left other e = apart e (λ z. omega arith)
same_told (Err r) (Ok None) left other e = apart e (λ z. omega arith)
same_told (Err r) (Ok (Some m)) left other e = apart e (λ z. omega arith)
same_told (Err r) (Err s) left other e = (ap Err (same_refusal r s (cc) (cc)), cc)

pub same_closed : (a b : Verdict) → closed_as a ≡ closed_as b → a ≡ b
same_closed (Ok _) (Ok _) e = refl
same_closed (Ok _) (Err s) e = apart e (λ z. omega arith)
same_closed (Err r) (Ok _) e = apart e (λ z. omega arith)
same_closed (Err r) (Err s) e = ap Err (same_refusal r s (cc) (cc))

pub same_tidied : (a b : Verdict) → tidied_as a ≡ tidied_as b → a ≡ b
same_tidied (Ok _) (Ok _) e = refl
same_tidied (Ok _) (Err s) e = apart e (λ z. omega arith)
same_tidied (Err r) (Ok _) e = apart e (λ z. omega arith)
same_tidied (Err r) (Err s) e = ap Err (same_refusal r s (cc) (cc))
