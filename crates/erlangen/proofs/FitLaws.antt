-- The bytes of a reading that a writer carries fit the layout, row by row.
use mathlib.Core.Bool.{Bool, true, false, cond}
use mathlib.Core.List.{List, [], ◌∷◌, ◌++◌}
use mathlib.Core.Logic.{inl, inr}
use mathlib.Core.Path.{◌≡◌, refl, ap}
use Prim.Native.Nat.{ℕ, suc, ◌/◌, ◌%◌, ◌<◌}
use native.Mathlib.Omega.{arith}
use lib.Dec.{T, eqb, ltb, ltb→lt}
use lib.IntN.{ℤ}
use lib.ListN.{length, replicate}
use Rattle.wire.specs.Layout.{exactly, from, either, allowed, good_places, printables}
use Rattle.wire.specs.Digits.{tens, ones}
use Rattle.wire.proofs.EntryLaws.{exactly_allows, from_allows, either_allows}
use Rattle.wire.proofs.LayoutLaws.{printable_at, all-printable, printable_is}
use Rattle.wire.proofs.DigitLaws.{tens_is_digit, ones_is_digit}
use Rattle.calendar.specs.Calendar.{weekday_of}
use Rattle.reading.specs.declared.Reading.{Reading}
use Rattle.reading.specs.Universal.{date_of}
use Rattle.erlangen.specs.Layout.{
  position_size,
  stx,
  etx,
  space,
  dot,
  colon,
  semicolon,
  plus,
  minus,
  hash,
  star,
  letter_s,
  bang,
  letter_a,
  letter_l,
  decimal,
  date_layout,
  time_layout,
  offset_layout,
  flag_layout,
  layout,
}
use Rattle.erlangen.specs.Offset.{is_behind, minutes_of}
use Rattle.erlangen.specs.Writing.{date_bytes, time_bytes, offset_bytes, flag_bytes, bytes_of}

-- ---- a text that fits its layout, byte by byte

pub data Fit : List ℕ → List ℕ → Type 0 where
  none : Fit [] []
  more : {e b : ℕ} {layout text : List ℕ} → allowed e b ≡ true → Fit layout text → Fit (e ∷ layout) (b ∷ text)

pub fit_good : {l t : List ℕ} → Fit l t → good_places l t ≡ length t
unfolding good_places
fit_good none = refl
fit_good (more e f) = rw e (ap suc (fit_good f))

fit_append : {k l t u : List ℕ} → Fit k t → Fit l u → Fit (k ++ l) (t ++ u)
fit_append none g = g
fit_append (more e f) g = more e (fit_append f g)

fixed : (b : ℕ) → T (ltb b 256) → {l t : List ℕ} → Fit l t → Fit (exactly b ∷ l) (b ∷ t)
fixed b h f = more (exactly_allows b b (ltb→lt b 256 h) refl) f

one : (v : ℕ) {l t : List ℕ} → Fit l t → Fit (decimal ∷ l) (ones v ∷ t)
one v f = let d = ones_is_digit v in more (from_allows 48 57 (ones v) (omega arith) d.0 d.1) f

two : (v : ℕ) {l t : List ℕ} → Fit l t → Fit (decimal ∷ decimal ∷ l) (tens v ∷ ones v ∷ t)
two v f = let d = tens_is_digit v in more (from_allows 48 57 (tens v) (omega arith) d.0 d.1) (one v f)

mark : (b : Bool) (x y : ℕ) → T (ltb x 256) → T (ltb y 256) → {l t : List ℕ} → Fit l t → Fit (either x y ∷ l) (cond b x y ∷ t)
mark true x y h k f = more (either_allows x y x (ltb→lt x 256 h) (ltb→lt y 256 k) (inl refl)) f
mark false x y h k f = more (either_allows x y y (ltb→lt x 256 h) (ltb→lt y 256 k) (inr refl)) f

printed : (t : List ℕ) → ((i : ℕ) → i < length t → printable_at t i ≡ true) → Fit (replicate (length t) (from 32 126)) t
printed [] f = none
printed (b ∷ t) f =
    let p = printable_is b (f 0 (omega arith)) in
    more (from_allows 32 126 b (omega arith) p.0 p.1) (printed t (λ i h. f (suc i) (omega arith)))

-- ---- the rows

date_fits : (r : Reading) → Fit date_layout (date_bytes r)
unfolding date_bytes
date_fits r =
    fixed stx tt (two r.day (fixed dot tt (two r.month (fixed dot tt (two (r.year % 100) (fixed semicolon tt (fixed space tt
    (one (weekday_of (date_of r)) (fixed semicolon tt (fixed space tt none))))))))))

time_fits : (r : Reading) → Fit time_layout (time_bytes r)
unfolding time_bytes
time_fits r = two r.hour (fixed colon tt (two r.minute (fixed colon tt (two r.second (fixed semicolon tt (fixed space tt none))))))

offset_fits : (z : ℤ) → Fit offset_layout (offset_bytes z)
unfolding offset_bytes
offset_fits z =
    mark (is_behind z) minus plus tt tt (two (minutes_of z / 60) (fixed colon tt (two (minutes_of z % 60) (fixed semicolon tt (fixed space tt none)))))

flag_fits : (r : Reading) (coasting : Bool) → Fit flag_layout (flag_bytes r coasting)
unfolding flag_bytes
flag_fits r coasting =
    mark (eqb r.quality 15) hash space tt tt (mark coasting star space tt tt (mark r.summer letter_s space tt tt (mark r.change bang space tt tt
    (mark r.leap letter_a space tt tt (fixed space tt (mark (eqb r.second 60) letter_l space tt tt (fixed semicolon tt (fixed space tt none))))))))

-- a position of the right length and printable stands where the layout has it
position_fits : (position : List ℕ) → length position ≡ position_size → printables position ≡ length position → Fit (replicate position_size (from 32 126)) position
position_fits position l e = rw l at (printed position (all-printable position e))

pub bytes_fit : (r : Reading) (coasting : Bool) (position : List ℕ) → length position ≡ position_size → printables position ≡ length position
    → Fit layout (bytes_of r coasting position)
unfolding layout bytes_of
bytes_fit r coasting position l e =
    let head = fit_append (fit_append (fit_append (date_fits r) (time_fits r)) (offset_fits r.offset.0)) (flag_fits r coasting) in
    fit_append (fit_append head (position_fits position l e)) (fixed etx tt none)
