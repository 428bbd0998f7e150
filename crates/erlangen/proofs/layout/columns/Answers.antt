-- The columns of `erlangen` say the paper's layout. Assumes nothing.
use mathlib.Core.Path.{refl}
use Rattle.wire.specs.Layout.{packed, exactly, from, either, columns}
use Rattle.erlangen.specs.Layout.{layout}
use Rattle.erlangen.proofs.layout.columns.Goals as goal

pub returns : goal.returns
unfolding layout packed exactly from either columns
returns c = refl
