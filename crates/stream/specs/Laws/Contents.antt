-- Contents that arrive byte by byte come to what the walk makes of them.
use Rattle.std.specs.Prelude.{ℕ, zero, suc, ◌+◌, ◌-◌, cond, List, [], ◌∷◌, ◌≡◌, refl, length}
use Rattle.std.proofs.Math.Option.{Option}
use Rattle.std.proofs.Common.{ap, ◌∙◌, arith}
use Rattle.format.specs.Refusals.{number_of}
use Rattle.format.specs.Reading.{Outcome, got, stop, Judged, accepted, refused}
use Rattle.format.specs.Laws.Outcomes.{by_test}
use Rattle.format.specs.declared.Reason.TheVariants.{PastItsPart, NotText}
use Rattle.stream.specs.Counting.{Counted, whole, partly, over, counted}
use Rattle.stream.specs.Texts.{Text, none_wanted, text_byte, text_ends}
use Rattle.stream.specs.Naming.{Names, none_met, meet}
use Rattle.stream.specs.Contents.{Called, Contents, sizing, naming, paying, failing, named, name, sized, content, name_ends, content_ends}
use Rattle.stream.specs.Laws.Window.{within, within_none, within_byte, within_short}
use Rattle.stream.specs.Laws.Counting.{counting, onward, counting_byte, counting_short}
use Rattle.stream.specs.Laws.Texts.{is_text, text_byte_lem, text_ends_lem}
use Rattle.stream.specs.Laws.Naming.{meeting, meeting_byte, meeting_ends}

-- Once the rest of the section is known, by the walk's own rules

-- what a whole name comes to
unfoldable pub verdict : (text : ℕ) → Text → Names → List ℕ → ℕ → List ℕ → Judged Called
verdict text t m xs o rest = cond (is_text t xs) (accepted (record { row = meeting m xs; at = o; length = length rest })) (refused (number_of NotText) text)

unfoldable pub name_then : (begins text left : ℕ) → Text → Names → (o : ℕ) → List ℕ → Judged Called
name_then begins text left t m o bs = within left (verdict text t m) (refused (number_of PastItsPart) begins) o bs

unfoldable pub size_then : (begins : ℕ) → Outcome ℕ → Judged Called
size_then begins (got n o bs) = name_then begins o n none_wanted none_met o bs
size_then begins (stop n at) = refused n at

unfoldable pub content_then : Contents → (o : ℕ) → List ℕ → Judged Called
content_then (sizing begins n) o bs = size_then begins (counting begins n o bs)
content_then (naming begins text left t m) o bs = name_then begins text left t m o bs
content_then (paying row at) o bs = accepted (record { row = row; at = at; length = o + length bs - at })
content_then (failing n at) o bs = refused n at

called : {w w' : Option ℕ} {a n n' : ℕ} → w ≡ w' → n ≡ n' → ◌≡◌ {A = Judged Called} (accepted (record { row = w; at = a; length = n })) (accepted (record { row = w'; at = a; length = n' }))
called {a = a} p q = λ i. accepted (record { row = p i; at = a; length = q i })

verdict_byte : (text : ℕ) (t : Text) (m : Names) (b : ℕ) (xs : List ℕ) (o : ℕ) (rest : List ℕ) → verdict text t m (b ∷ xs) o rest ≡ verdict text (text_byte t b) (meet m b) xs o rest
unfolding verdict
verdict_byte text t m b xs o rest = λ i. cond (text_byte_lem t b xs i) (accepted (record { row = meeting_byte m b xs i; at = o; length = length rest })) (refused (number_of NotText) text)

named_then : (text : ℕ) (t : Text) (m : Names) (o : ℕ) (bs : List ℕ) → verdict text t m [] o bs ≡ content_then (named text t m o) o bs
unfolding verdict named content_then
named_then text t m o bs =
    rw (text_ends_lem t)
    (by_test (text_ends t)
    (λ p. rw p (called (meeting_ends m) (omega arith)))
    (λ p. rw p))

name_none : (begins text : ℕ) (t : Text) (m : Names) (o : ℕ) (bs : List ℕ) → name_then begins text 0 t m o bs ≡ content_then (named text t m o) o bs
unfolding name_then
name_none begins text t m o bs = within_none (verdict text t m) (refused (number_of PastItsPart) begins) o bs ∙ named_then text t m o bs

name_then_lem : (begins text left : ℕ) (t : Text) (m : Names) (o : ℕ) (bs : List ℕ) → name_then begins text left t m o bs ≡ content_then (name begins text left t m o) o bs
unfolding name content_then
name_then_lem begins text zero t m o bs = name_none begins text t m o bs
name_then_lem begins text (suc left) t m o bs = refl

name_byte : (begins text left : ℕ) (t : Text) (m : Names) (o b : ℕ) (bs : List ℕ) → name_then begins text (suc left) t m o (b ∷ bs) ≡ name_then begins text left (text_byte t b) (meet m b) (suc o) bs
unfolding name_then
name_byte begins text left t m o b bs =
    within_byte (verdict text t m) (refused (number_of PastItsPart) begins) left o b bs
    ∙ λ i. within left (λ xs o' rest. verdict_byte text t m b xs o' rest i) (refused (number_of PastItsPart) begins) (suc o) bs

sized_then : (begins : ℕ) (c : Counted) (o : ℕ) (bs : List ℕ) → size_then begins (onward begins c o bs) ≡ content_then (sized begins c o) o bs
unfolding size_then onward sized content_then
sized_then begins (whole n) o bs = name_then_lem begins o n none_wanted none_met o bs
sized_then begins (partly n) o bs = refl
sized_then begins over o bs = refl

-- behind a name that is whole every byte is the payload's
named_stays : (text : ℕ) (t : Text) (m : Names) (o b : ℕ) (bs : List ℕ) → content_then (named text t m o) o (b ∷ bs) ≡ content_then (named text t m o) (suc o) bs
unfolding named content_then
named_stays text t m o b bs = by_test (text_ends t) (λ p. rw p (called refl (omega arith))) (λ p. rw p)

-- a byte
pub content_byte : (c : Contents) (o b : ℕ) (bs : List ℕ) → content_then c o (b ∷ bs) ≡ content_then (content c o b) (suc o) bs
unfolding content_then content
content_byte (sizing begins n) o b bs = ap (size_then begins) (counting_byte begins n o b bs) ∙ sized_then begins (counted n b) (suc o) bs
content_byte (naming begins text zero t m) o b bs = name_none begins text t m o (b ∷ bs) ∙ named_stays text t m o b bs
content_byte (naming begins text (suc left) t m) o b bs = name_byte begins text left t m o b bs ∙ name_then_lem begins text left (text_byte t b) (meet m b) (suc o) bs
content_byte (paying row at) o b bs = called refl (omega arith)
content_byte (failing n at) o b bs = refl

-- the end
name_ends_lem : (text : ℕ) (t : Text) (m : Names) (o : ℕ) → verdict text t m [] o [] ≡ name_ends text t m o
unfolding verdict name_ends
name_ends_lem text t m o = λ i. cond (text_ends_lem t i) (accepted (record { row = meeting_ends m i; at = o; length = 0 })) (refused (number_of NotText) text)

pub content_ends_lem : (c : Contents) (o : ℕ) → content_then c o [] ≡ content_ends c o
unfolding content_then content_ends name_then size_then
content_ends_lem (sizing begins n) o = ap (size_then begins) (counting_short begins n o)
content_ends_lem (naming begins text zero t m) o = within_none (verdict text t m) (refused (number_of PastItsPart) begins) o [] ∙ name_ends_lem text t m o
content_ends_lem (naming begins text (suc left) t m) o = within_short (verdict text t m) (refused (number_of PastItsPart) begins) left o
content_ends_lem (paying row at) o = called refl (omega arith)
content_ends_lem (failing n at) o = refl
