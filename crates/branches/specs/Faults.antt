-- Rules R15.4 to R15.7 of docs/RULES.md.
-- K6. The import list and the list of bodies (core specification 1.0, 5.5.5 Import Section and 5.5.13 Code Section), by their grammar, and their faults: "faults in the import list, then in the list of sized bodies, as 2, 3, 4 and 10, with 29 for an import kind above 3 or a limits flag above 1, at that byte (a missing byte is 2 at its place; other type bytes go unchecked)". Assumes nothing.
use Rattle.std.specs.Prelude.{ℕ, zero, suc}
use Rattle.grammar.specs.Numbers.{Grammar, U32}
use Rattle.grammar.specs.Lists.{Sized}
use Rattle.grammar.specs.Names.{Name}
use Rattle.grammar.specs.Older.{Vector}
use Rattle.grammar.specs.Faults.Numbers.{Faults, NumberFault}
use Rattle.grammar.specs.Faults.Parts.{SizedFault, NameFault, FillingFault}
use Rattle.grammar.specs.Faults.Older.{VectorFault}
use Rattle.grammar.specs.Faults.Sequences.{Then, ThenFault, AnyByte, ByteFault, ByteUpTo, UpToFault}

-- limits ::= 0x00 n:u32 | 0x01 n:u32 m:u32
abbrev pub Bounds : (flag : ℕ) → Grammar ℕ
Bounds zero = U32
Bounds (suc flag) = Then U32 (λ _. U32)

abbrev pub BoundsFault : (flag : ℕ) → Faults
BoundsFault zero = NumberFault
BoundsFault (suc flag) = ThenFault U32 NumberFault (λ _. NumberFault)

abbrev pub Limits : Grammar ℕ
Limits = Then (ByteUpTo 1) Bounds

-- R18.29: "29 for .. a limits flag above 1, at that byte"
abbrev pub LimitsFault : Faults
LimitsFault = ThenFault (ByteUpTo 1) (UpToFault 1 29) BoundsFault

-- importdesc ::= 0x00 x:typeidx | 0x01 tt:tabletype | 0x02 mt:memtype | 0x03 gt:globaltype: what stands behind the kind. tabletype ::= elemtype limits, memtype ::= limits, globaltype ::= valtype mut
abbrev pub Description : (kind : ℕ) → Grammar ℕ
Description zero = U32
Description (suc zero) = Then AnyByte (λ _. Limits)
Description (suc (suc zero)) = Limits
Description (suc (suc (suc kind))) = Then AnyByte (λ _. AnyByte)

abbrev pub DescriptionFault : (kind : ℕ) → Faults
DescriptionFault zero = NumberFault
DescriptionFault (suc zero) = ThenFault AnyByte ByteFault (λ _. LimitsFault)
DescriptionFault (suc (suc zero)) = LimitsFault
DescriptionFault (suc (suc (suc kind))) = ThenFault AnyByte ByteFault (λ _. ByteFault)

-- import ::= mod:name nm:name d:importdesc
abbrev pub ImportKind : Grammar ℕ
ImportKind = Then Name (λ _. Then Name (λ _. ByteUpTo 3))

-- R18.29: "29 for an import kind above 3 .., at that byte"
abbrev pub ImportKindFault : Faults
ImportKindFault = ThenFault Name NameFault (λ _. ThenFault Name NameFault (λ _. UpToFault 3 29))

abbrev pub Import : Grammar ℕ
Import = Then ImportKind Description

abbrev pub ImportFault : Faults
ImportFault = ThenFault ImportKind ImportKindFault DescriptionFault

-- importsec ::= vec(import), which fills its section
abbrev pub ImportsFault : Faults
ImportsFault = FillingFault (Vector Import) (VectorFault Import ImportFault)

-- codesec ::= vec(code), code ::= size:u32 code:func (if size = ||func||): here the bodies are parts of a size
abbrev pub BodiesFault : Faults
BodiesFault = FillingFault (Vector Sized) (VectorFault Sized SizedFault)
