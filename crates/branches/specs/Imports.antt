-- Rules R15.4 to R15.6 of docs/RULES.md.
-- K6. The import list (core specification 1.0, 5.5.5 Import Section), read to count the functions that are imported. "Faults in the import list .. as 2, 3, 4 and 10, with 29 for an import kind above 3 or a limits flag above 1, at that byte (a missing byte is 2 at its place; other type bytes go unchecked)". Assumes nothing.
use Rattle.std.specs.Prelude.{ℕ, zero, suc, ◌+◌, [], ◌∷◌, leb}
use Rattle.format.specs.Reading.{◌>>=◌, ◌>>◌, got, Reader, return, here, refuse, checked, filling}
use Rattle.format.specs.Numbers.{number}
use Rattle.format.specs.Parts.{name}
use Rattle.format.specs.declared.Reason.TheVariants.{PastItsPart, NotImport}

unfoldable pub byte : Reader ℕ
byte o [] = refuse PastItsPart o o []
byte o (b ∷ bs) = got b (suc o) bs

-- a number; with flag 1 a second one
unfoldable pub bounds : (flag : ℕ) → Reader ℕ
bounds zero = number
bounds (suc flag) = number >> number

-- limits ::= 0x00 n:u32 | 0x01 n:u32 m:u32
unfoldable pub limits : Reader ℕ
limits = do
  at ← here
  flag ← byte
  checked (leb flag 1) NotImport at
  bounds flag

-- tabletype ::= elemtype limits, globaltype ::= valtype mut: their bytes go unchecked
unfoldable pub table_type : Reader ℕ
table_type = byte >> limits

unfoldable pub global_type : Reader ℕ
global_type = byte >> byte

-- what stands behind the kind: of a function its type, of a memory its limits
unfoldable pub description : (kind : ℕ) → Reader ℕ
description zero = number
description (suc zero) = table_type
description (suc (suc zero)) = limits
description (suc (suc (suc kind))) = global_type

unfoldable pub kind_byte : Reader ℕ
kind_byte = do
  at ← here
  kind ← byte
  checked (leb kind 3) NotImport at
  return kind

-- two names and the kind
unfoldable pub import_kind : Reader ℕ
import_kind = do
  name
  name
  kind_byte

unfoldable pub import_entry : Reader ℕ
import_entry = do
  kind ← import_kind
  description kind
  return kind

-- kind 0 is a function
abbrev pub functions_in : (kind : ℕ) → ℕ
functions_in zero = 1
functions_in (suc kind) = 0

-- so many entries, with so many functions before them: how many functions there are in all
unfoldable pub import_entries : (n before : ℕ) → Reader ℕ
import_entries zero before = return before
import_entries (suc n) before = do
  kind ← import_entry
  import_entries n (before + functions_in kind)

unfoldable pub import_list : Reader ℕ
import_list = do
  n ← number
  import_entries n 0

unfoldable pub imports : Reader ℕ
imports = filling import_list
