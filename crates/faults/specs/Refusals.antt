-- The numbers by which refusals are known outside: the one place where they are attached.
use Rattle.std.specs.Prelude.{ℕ}
use Rattle.faults.specs.declared.refusal.Refusal.{Refusal}
use Rattle.faults.specs.declared.refusal.Refusal.TheVariants.{CatalogueForm, CatalogueLimit, SourceNamedTwice, QueryForm, UnfitLiteral, QueryLimit, VariableInTwoKinds, HeadVariableMissing, ConstantTooLarge, NoExecutableOrder, MemoryTooShort, NotInCatalogue, Spent, Unverified, Unsound, NumberForm, HeaderRange, RowsNotAscending, TooManyMatches, BytesLeftOver, DivisorZero}

abbrev pub number : Refusal → ℕ
number CatalogueForm = 1
number CatalogueLimit = 2
number SourceNamedTwice = 3
number QueryForm = 11
number UnfitLiteral = 12
number QueryLimit = 13
number VariableInTwoKinds = 14
number HeadVariableMissing = 15
number ConstantTooLarge = 16
number NoExecutableOrder = 17
number MemoryTooShort = 21
number NotInCatalogue = 23
number Spent = 31
number Unverified = 32
number Unsound = 33
number NumberForm = 41
number HeaderRange = 42
number RowsNotAscending = 43
number TooManyMatches = 44
number BytesLeftOver = 45
number DivisorZero = 46
