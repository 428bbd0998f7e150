-- What the checker asks of the types that a frame's reader is made for: that of the format, the number of its pulses, and that of what is
-- said. It is shown here, so that no theorem on stand-ins has to assume it.
use denote.Param.Laws.{Laws, IsCopy}
use denote.RattleType.{RattleType}
use mir.Val.{Fits}
use mir.Syntax.{w64}
use native.Mathlib.Omega.{arith}
use Rattle.irig_stream.specs.contracts.Frames as frames
use Rattle.irig_stream.proofs.Frames.TheLaws as frames-laws
use Rattle.std.specs.contracts.option.Option.{the_row as OptionOf}
use Rattle.std.specs.contracts.result.Result.{the_row as ResultOf}
use Rattle.reading.specs.contracts.Reading.{the_row as reading_row}
use Rattle.reading.specs.contracts.Refusal.{the_row as refusal_row}
use Rattle.reading.proofs.Reading.TheLaws as reading-laws
use Rattle.reading.proofs.Refusal.TheLaws as refusal-laws
use Rattle.std.proofs.option.Option.TheLaws as option-laws
use Rattle.std.proofs.result.Result.TheLaws as result-laws
use Rattle.irig_stream.specs.Said.{kept}

pub fits : Fits w64 kept
fits = omega arith

pub format_laws : Laws frames.the_row
format_laws = frames-laws.the_row_laws

abbrev pub said_row : RattleType
said_row = OptionOf (ResultOf reading_row refusal_row)

-- what a reader says when it says something
abbrev told_row : RattleType
told_row = ResultOf reading_row refusal_row

told_laws : Laws told_row
told_laws = result-laws.the_row_laws reading_row refusal_row reading-laws.the_row_laws refusal-laws.the_row_laws

told_copy : IsCopy told_row
told_copy = result-laws.the_row_copy reading_row refusal_row reading-laws.the_row_laws refusal-laws.the_row_laws reading-laws.the_row_copy refusal-laws.the_row_copy

pub said_laws : Laws said_row
said_laws = option-laws.the_row_laws told_row told_laws

pub said_copy : IsCopy said_row
said_copy = option-laws.the_row_copy told_row told_laws told_copy
