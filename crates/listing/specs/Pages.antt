-- A page: a lent buffer that text is written into, from its start on.
use Rattle.std.specs.Prelude.{List, ℕ, ◌+◌, ◌≤◌, ◌≡◌, length}
use Rattle.wire.specs.Put.{stored}
use Rattle.listing.specs.declared.Page.{Page}

-- there is room for a text behind what is written
abbrev pub HasRoom : List ℕ → Page → Type 0
HasRoom text page = page.end + length text ≤ length page.bytes.now

-- a page before and after a text was written behind what was there: the same buffer holds it, and the end is behind it
pub record Writes (text : List ℕ) (before after : Page) : Type 0 where
  pub ends : after.end ≡ before.end + length text
  pub holds : after.bytes.now ≡ stored before.end text before.bytes.now
  pub same : after.bytes.ghost_name ≡ before.bytes.ghost_name
