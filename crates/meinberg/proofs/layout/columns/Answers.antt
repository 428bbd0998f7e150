-- The columns of `meinberg` say the paper's layout. Assumes nothing.
use mathlib.Core.Path.{refl}
use Rattle.wire.specs.Layout.{packed, exactly, from, either, one_of, columns}
use Rattle.meinberg.specs.Layout.{layout}
use Rattle.meinberg.proofs.layout.columns.Goals as goal

pub returns : goal.returns
unfolding layout packed exactly from either one_of columns
returns c = refl
