-- The forms of `format/specs/Determined.antt` for calls that are lent more, and of which more comes back: the shared table's.
use Rattle.format.proofs.Determined.{Determines, DeterminesThree3}

abbrev pub DeterminesThree4 : {A B C D Other Another Result : Type 0} → (A → B → C → D → Other → Another → Result → Type 0) → Type 0
DeterminesThree4 {A} promise = (a : A) → DeterminesThree3 (promise a)

abbrev pub DeterminesThree5 : {A B C D E Other Another Result : Type 0} → (A → B → C → D → E → Other → Another → Result → Type 0) → Type 0
DeterminesThree5 {A} promise = (a : A) → DeterminesThree4 (promise a)

-- where four things come back: the table after the call, two lists, and the answer last
abbrev pub DeterminesFour : {One Other Another Result : Type 0} → (One → Other → Another → Result → Type 0) → Type 0
DeterminesFour {One} {Other} {Another} {Result} promise = Determines (λ (back : Result × One × Other × Another). promise back.1 back.2 back.3 back.0)

abbrev pub DeterminesFour5 : {A B C D E One Other Another Result : Type 0} → (A → B → C → D → E → One → Other → Another → Result → Type 0) → Type 0
DeterminesFour5 {A} {B} {C} {D} {E} promise = (a : A) (b : B) (c : C) (d : D) (e : E) → DeterminesFour (promise a b c d e)
