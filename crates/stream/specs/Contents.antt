-- Rule R14.4 of docs/RULES.md.
-- The contents of a custom section as they arrive: the number of the name's bytes, the name, the payload. What is wrong with them is known early and told late: the section's size may yet be what is refused. Assumes nothing.
use Rattle.std.specs.Prelude.{ℕ, zero, suc, ◌-◌, cond}
use Rattle.std.proofs.Math.Option.{Option}
use Rattle.format.specs.Refusals.{number_of}
use Rattle.format.specs.Reading.{Judged, accepted, refused}
use Rattle.format.specs.declared.Reason.TheVariants.{PastItsPart, NumberTooLarge, NotText}
use Rattle.stream.specs.Counting.{Number, Counted, whole, partly, over, counted}
use Rattle.stream.specs.Texts.{Text, none_wanted, text_byte, text_ends}
use Rattle.stream.specs.Naming.{Names, none_met, meet, met}

-- what a custom section turns out to be: its row in the walk's table, and where its payload lies
pub record Called : Type 0 where
  pub row : Option ℕ
  pub at : ℕ
  pub length : ℕ

pub data Contents : Type 0 where
  -- in the number of the name's bytes, which begins at an offset
  sizing : (begins : ℕ) → Number → Contents
  -- in the name: where its number begins, where its text begins, how many bytes are left of it
  naming : (begins text left : ℕ) → Text → Names → Contents
  -- in the payload, which begins at an offset
  paying : Option ℕ → (at : ℕ) → Contents
  -- refused, should all of the section arrive
  failing : (number at : ℕ) → Contents

-- One byte, which stands at an offset

-- the name is whole, and the payload begins at `o`
unfoldable pub named : (text : ℕ) → Text → Names → (o : ℕ) → Contents
named text t m o = cond (text_ends t) (paying (met m) o) (failing (number_of NotText) text)

-- so many bytes of the name are left
unfoldable pub name : (begins text left : ℕ) → Text → Names → (o : ℕ) → Contents
name begins text zero t m o = named text t m o
name begins text (suc left) t m o = naming begins text (suc left) t m

unfoldable pub sized : (begins : ℕ) → Counted → (o : ℕ) → Contents
sized begins (whole n) o = name begins o n none_wanted none_met o
sized begins (partly n) o = sizing begins n
sized begins over o = failing (number_of NumberTooLarge) begins

unfoldable pub content : Contents → (o b : ℕ) → Contents
content (sizing begins n) o b = sized begins (counted n b) (suc o)
content (naming begins text zero t m) o b = named text t m o
content (naming begins text (suc left) t m) o b = name begins text left (text_byte t b) (meet m b) (suc o)
content (paying row at) o b = paying row at
content (failing n at) o b = failing n at

-- The section ends before offset `o`
unfoldable pub name_ends : (text : ℕ) → Text → Names → (o : ℕ) → Judged Called
name_ends text t m o = cond (text_ends t) (accepted (record { row = met m; at = o; length = 0 })) (refused (number_of NotText) text)

unfoldable pub content_ends : Contents → (o : ℕ) → Judged Called
content_ends (sizing begins n) o = refused (number_of PastItsPart) begins
content_ends (naming begins text zero t m) o = name_ends text t m o
content_ends (naming begins text (suc left) t m) o = refused (number_of PastItsPart) begins
content_ends (paying row at) o = accepted (record { row = row; at = at; length = o - at })
content_ends (failing n at) o = refused n at
