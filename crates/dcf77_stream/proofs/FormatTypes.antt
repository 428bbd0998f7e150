-- What the checker asks of the types that a minute's reader is made for: that of the format, the number of its symbols, and that of what is
-- said. It is shown here, so that no theorem on stand-ins has to assume it.
use mathlib.Core.List.{[], ◌∷◌}
use denote.Param.Laws.{Laws, IsCopy, of_field, of_copyable}
use denote.Param.Shared.{copy_shared}
use denote.Struct.Field.{u16-field}
use denote.Struct.Laws.{u16-laws, u16-copy}
use denote.Struct.Tuple.{Tuple, tuple_laws, tuple_copy}
use denote.Builtin.{u16}
use denote.RattleType.{RattleType}
use mir.Val.{Fits}
use mir.Syntax.{w64}
use native.Mathlib.Omega.{arith}
use Rattle.dcf77_stream.specs.contracts.Minutes as minutes
use Rattle.dcf77_stream.proofs.Minutes.TheLaws as minutes-laws
use Rattle.std.specs.contracts.option.Option.{the_row as OptionOf}
use Rattle.std.specs.contracts.result.Result.{the_row as ResultOf}
use Rattle.reading.specs.contracts.Reading.{the_row as reading_row}
use Rattle.reading.specs.contracts.Refusal.{the_row as refusal_row}
use Rattle.reading.proofs.Reading.TheLaws as reading-laws
use Rattle.reading.proofs.Refusal.TheLaws as refusal-laws
use Rattle.std.proofs.option.Option.TheLaws as option-laws
use Rattle.std.proofs.result.Result.TheLaws as result-laws
use mathlib.Core.Path.{refl}
use Rattle.dcf77_stream.specs.Said.{kept}

pub fits : Fits w64 kept
fits = omega arith

pub format_laws : Laws minutes.the_row
format_laws = minutes-laws.the_row_laws

-- a time and the marks at the head of its minute
abbrev time_row : RattleType
time_row = Tuple (reading_row ∷ u16 ∷ [])

head_laws : Laws u16
head_laws = of_field u16-field u16-laws refl (copy_shared u16-field u16-copy)

head_copy : IsCopy u16
head_copy = of_copyable u16-field u16-copy

time_laws : Laws time_row
time_laws = tuple_laws (reading_row ∷ u16 ∷ []) (reading-laws.the_row_laws, (head_laws, tt))

time_copy : IsCopy time_row
time_copy = tuple_copy (reading_row ∷ u16 ∷ []) (reading-laws.the_row_copy, (head_copy, tt))

-- what a reader says when it says something
abbrev told_row : RattleType
told_row = ResultOf time_row refusal_row

told_laws : Laws told_row
told_laws = result-laws.the_row_laws time_row refusal_row time_laws refusal-laws.the_row_laws

told_copy : IsCopy told_row
told_copy = result-laws.the_row_copy time_row refusal_row time_laws refusal-laws.the_row_laws time_copy refusal-laws.the_row_copy

abbrev pub said_row : RattleType
said_row = OptionOf told_row

pub said_laws : Laws said_row
said_laws = option-laws.the_row_laws told_row told_laws

pub said_copy : IsCopy said_row
said_copy = option-laws.the_row_copy told_row told_laws told_copy
