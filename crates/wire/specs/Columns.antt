-- The layout that four columns say.
use Rattle.std.specs.Prelude.{List, ℕ}
use Rattle.wire.specs.Layout.{columns}
use Rattle.wire.specs.declared.layout.Columns.{Columns}

-- one number a place, up to the end of the shortest column
abbrev pub entries : Columns → List ℕ
entries c = columns c.low.now c.high.now c.other.now c.third.now
