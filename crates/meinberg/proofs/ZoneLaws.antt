-- The three zones and their letters name each other. None of these laws knows a zone's offset: where one matters it is computed.
use mathlib.Core.Bool.{Bool, true, false, cond, beq, ◌||◌}
use mathlib.Core.Logic.{◌⊎◌, inl, inr}
use mathlib.Core.Path.{◌≡◌, refl, sym}
use Prim.Native.Nat.{ℕ}
use lib.Dec.{eqb}
use lib.IntN.{ℤ}
use Rattle.laws.proofs.Bools.{both, holds, same_bool}
use Rattle.laws.specs.Tests.{same}
use Rattle.laws.proofs.Signed.{same_is}
use Rattle.reading.specs.Offset.{west, east, offset_good}
use Rattle.reading.proofs.OffsetLaws.{WholeHours}
use Rattle.meinberg.specs.Layout.{space, letter_s, letter_u}
use Rattle.meinberg.specs.Zones.{offset_of, summer_of, is_zone, zone_carried, zone_letter}

-- "x is `U`, space or `S`"
abbrev pub ZoneByte : ℕ → Type 0
ZoneByte x = (x ≡ letter_u) ⊎ ((x ≡ space) ⊎ (x ≡ letter_s))

-- ---- what a zone is

zone_is : (x : ℕ) (z : ℤ) (summer : Bool) → is_zone x z summer ≡ true → (offset_of x ≡ z) × (summer_of x ≡ summer)
unfolding is_zone
zone_is x z summer e =
    let p = both (same z (offset_of x)) (beq summer (summer_of x)) e in
    (sym (same_is z (offset_of x) (holds (same z (offset_of x)) p.0)), sym (same_bool summer (summer_of x) (holds (beq summer (summer_of x)) p.1)))

-- ---- from a zone to its letter and back

letter_named : (z : ℤ) (summer : Bool) → zone_carried z summer ≡ true → is_zone (zone_letter z summer) z summer ≡ true
unfolding zone_carried zone_letter
letter_named z summer = go (is_zone letter_u z summer) (is_zone letter_s z summer) refl refl
  where
    go : (a b : Bool) → is_zone letter_u z summer ≡ a → is_zone letter_s z summer ≡ b → (a || b || is_zone space z summer) ≡ true
        → is_zone (cond a letter_u (cond b letter_s space)) z summer ≡ true
    go true b p q e = p
    go false true p q e = q
    go false false p q e = e

-- the letter of a carried zone reads back as the zone
pub zone_back : (z : ℤ) (summer : Bool) → zone_carried z summer ≡ true → (offset_of (zone_letter z summer) ≡ z) × (summer_of (zone_letter z summer) ≡ summer)
zone_back z summer e = zone_is (zone_letter z summer) z summer (letter_named z summer e)

-- what is written is one of the three letters, whatever the zone
pub letter_is : (z : ℤ) (summer : Bool) → ZoneByte (zone_letter z summer)
unfolding zone_letter
letter_is z summer = go (is_zone letter_u z summer) (is_zone letter_s z summer)
  where
    go : (a b : Bool) → ZoneByte (cond a letter_u (cond b letter_s space))
    go true b = inl refl
    go false true = inr (inr refl)
    go false false = inr (inl refl)

-- ---- from a letter to its zone and back

pub letter_back : (x : ℕ) → ZoneByte x → zone_letter (offset_of x) (summer_of x) ≡ x
unfolding zone_letter is_zone offset_of summer_of
letter_back x (inl e) = rw e
letter_back x (inr (inl e)) = rw e
letter_back x (inr (inr e)) = rw e

pub letter_carried : (x : ℕ) → ZoneByte x → zone_carried (offset_of x) (summer_of x) ≡ true
unfolding zone_carried is_zone offset_of summer_of
letter_carried x (inl e) = rw e
letter_carried x (inr (inl e)) = rw e
letter_carried x (inr (inr e)) = rw e

-- each zone's offset is one that a reading may have
pub letter_good : (x : ℕ) → offset_good (offset_of x) ≡ true
unfolding offset_of offset_good west east
letter_good x = go (eqb x letter_u) (eqb x letter_s)
  where
    go : (a b : Bool) → offset_good (cond a (offset_of letter_u) (cond b (offset_of letter_s) (offset_of space))) ≡ true
    go true b = refl
    go false true = refl
    go false false = refl

-- and whole hours
pub letter_whole_hours : (x : ℕ) → WholeHours (offset_of x)
unfolding offset_of west east
letter_whole_hours x = go (eqb x letter_u) (eqb x letter_s)
  where
    go : (a b : Bool) → WholeHours (cond a (offset_of letter_u) (cond b (offset_of letter_s) (offset_of space)))
    go true b = refl
    go false true = refl
    go false false = refl
