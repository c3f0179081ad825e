-- Rules R18.1 to R18.30 of docs/RULES.md.
-- Refusal numbers: what each is given for. Where its offset points is said where it is given. Assumes nothing.
use Rattle.std.specs.Prelude.{ℕ}
use Rattle.format.specs.declared.Reason.{Reason}
use Rattle.format.specs.declared.Reason.TheVariants.{NoPreamble, PastItsPart, NumberTooLarge, NotText, SectionUnknown, SectionOrder, SectionTwice, SectionTooLate, SubsectionOrder, LeftOver, NotAbove, NotHint, OutputTooShort, ListsDisagree, SubsectionTooLarge, InputTooLarge, NotZero, AfterFinish, NoBody, NotReadable, NotOnBranch, NotMarkers, NoCustomer, NotOpen, HoldsInUse, NoRoom, Damaged, TotalTooLarge, NotImport, NotTheStore}

abbrev pub number_of : Reason → ℕ
-- R18.1: preamble missing or different
number_of NoPreamble = 1
-- R18.2: a number, name or sized part runs past its enclosing part
number_of PastItsPart = 2
-- R18.3: fifth byte of a number above 0x0F
number_of NumberTooLarge = 3
-- R18.4: text not UTF-8
number_of NotText = 4
-- R18.5: section id above 13
number_of SectionUnknown = 5
-- R18.6: section repeated or out of order
number_of SectionOrder = 6
-- R18.7: second `name`, `metadata.code.branch_hint` or `branchHints`
number_of SectionTwice = 7
-- R18.8: data after `name`; hints after code
number_of SectionTooLate = 8
-- R18.9: subsection id not above the one before
number_of SubsectionOrder = 9
-- R18.10: bytes left over in a subsection, a metadata payload or older hints
number_of LeftOver = 10
-- R18.11: index or offset not above the one before
number_of NotAbove = 11
-- R18.12: hint of size other than 1, or data above 1; kind of an older hint above 1
number_of NotHint = 12
-- R18.13: output shorter than needed
number_of OutputTooShort = 13
-- R18.14: lists disagree: unequal counts, or lengths that don't add up to the text
number_of ListsDisagree = 14
-- R18.15: subsection would exceed 4,294,967,295 bytes
number_of SubsectionTooLarge = 15
-- R18.16: program input above 65,536 bytes
number_of InputTooLarge = 16
-- R18.17: the byte behind a function index of the older hints not zero
number_of NotZero = 17
-- R18.18: a part of an upload or its finish after the finish
number_of AfterFinish = 18
-- R18.19: a hint for a function that is imported or has no body
number_of NoBody = 19
-- R18.20: locals, or an instruction that starts before a hinted place, that version 1.0 of the core specification cannot read
number_of NotReadable = 20
-- R18.21: a hint on something else than br_if or if
number_of NotOnBranch = 21
-- R18.22: markers of unequal counts, with an end outside the payload, not rising, or not below the end
number_of NotMarkers = 22
-- R18.23: no such customer of a shared table
number_of NoCustomer = 23
-- R18.24: a hold that is not open, or above 7
number_of NotOpen = 24
-- R18.25: all eight holds of a customer in use
number_of HoldsInUse = 25
-- R18.26: no run of free blocks that is long enough for a payload that is not stored yet
number_of NoRoom = 26
-- R18.27: a block whose check is wrong, or a stored payload that is no longer accepted
number_of Damaged = 27
-- R18.28: a part that takes the total above 18,446,744,073,709,551,615 bytes
number_of TotalTooLarge = 28
-- R18.29: an import kind above 3, or a limits flag above 1
number_of NotImport = 29
-- R18.30: a store of another length than at the start, or not of 1 to 128 blocks
number_of NotTheStore = 30
