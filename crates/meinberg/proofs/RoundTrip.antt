-- What is written reads back, what is read writes back, and nothing else is read. All of it at every base year.
use Rattle.std.specs.Prelude.{Err, Ok}
use mathlib.Core.Bool.{Bool, true, false}
use mathlib.Core.List.{List}
use mathlib.Core.Path.{◌≡◌, refl, sym, subst, ap, ◌∙◌}
use Prim.Native.Nat.{ℕ, ◌≤◌}
use native.Mathlib.Omega.{arith}
use lib.ListN.{length, get_or, take, drop}
use lib.Seq.{take_at}
use Rattle.reading.specs.declared.Reading.{Reading}
use Rattle.reading.specs.declared.Fault.{Fault}
use Rattle.reading.specs.declared.Refusal.{Refusal}
use Rattle.reading.specs.declared.Fault.TheVariants.{OutsideYears}
use Rattle.reading.specs.Faults.{number, no_fault}
use Rattle.reading.specs.Universal.{utc_of}
use Rattle.reading.specs.Checks.{checked_of}
use Rattle.reading.specs.Stamps.{has_stamp, stamp_number, stamp_of}
use Rattle.reading.specs.Writing.{filled}
use Rattle.reading.proofs.OffsetLaws.{WholeHours}
use Rattle.reading.proofs.CheckLaws.{Checked, checked_is, is_checked, clash}
use Rattle.reading.proofs.StampLaws.{is_stamp, refused_by_12}
use Rattle.reading.proofs.YearLaws.{year_in_lem}
use Rattle.wire.specs.Digits.{pair, digit}
use Rattle.strings.proofs.CheckLaws.{Sound}
use Rattle.meinberg.specs.Layout.{text_length, places, year_place, failure_place, zone_place, announcement_place}
use Rattle.meinberg.specs.Meaning.{meaning, read_meinberg}
use Rattle.meinberg.specs.Writing.{bytes_of, write_fault}
use Rattle.meinberg.proofs.ZoneLaws.{letter_carried, letter_good, letter_whole_hours}
use Rattle.meinberg.proofs.FieldLaws.{quality_two, one_announced}
use Rattle.meinberg.proofs.ReadLaws.{Accepted, accepted, is_accepted, Told, told_is, is_told}
use Rattle.meinberg.proofs.WriteLaws.{Carried, Writable, writable, is_writable, bytes-length}
use Rattle.meinberg.proofs.WrittenLaws.{bytes_allowed, meaning_back, coasting_said_lem, weekday_said_lem}
use Rattle.meinberg.proofs.SpelledLaws.{failure_there, zone_there, announcement_there, spelled_back}

-- ---- what is written reads back

module _ (base : ℕ) (r : Reading) (coasting : Bool) (checked : Checked base r) (carried : Carried r) where
  said : Sound r (digit (get_or (bytes_of r coasting) places.weekday 0)) false false
  said =
      record {
        hour = checked.hour;
        minute = checked.minute;
        second = checked.second;
        date = checked.date;
        weekday = weekday_said_lem base r coasting checked carried;
        offset_good = refl;
        mark_good = refl;
        leap = checked.leap;
      }

  bytes_accepted : Accepted base (bytes_of r coasting)
  bytes_accepted =
      record {
        base_good = checked.base_good;
        whole = bytes-length r coasting;
        bytes = bytes_allowed r coasting;
        says = rw (meaning_back base r coasting checked carried) said;
      }

  bytes_read : read_meinberg base (bytes_of r coasting) ≡ Ok (r, coasting)
  bytes_read =
      is_told base (bytes_of r coasting) r coasting
      (record {
        good = is_accepted base (bytes_of r coasting) bytes_accepted;
        time = meaning_back base r coasting checked carried;
        coasts = coasting_said_lem base r coasting checked carried;
      })

module _ (base : ℕ) (r : Reading) (coasting : Bool) where
  pub bytes_told : (room : ℕ) → write_fault base r room ≡ no_fault → read_meinberg base (bytes_of r coasting) ≡ Ok (r, coasting)
  bytes_told room e = let w = writable base r room e in bytes_read base r coasting (checked_is base r w.checked) w.carried

  -- "What you write reads back as the same time with the same flags", whatever the buffer held before
  pub written_reads : (buffer : List ℕ) → write_fault base r (length buffer) ≡ no_fault
      → read_meinberg base (take text_length (filled (write_fault base r (length buffer)) (bytes_of r coasting) buffer)) ≡ Ok (r, coasting)
  written_reads buffer e =
      let text = bytes_of r coasting in
      rw (e, take_at text (drop (length text) buffer) text_length (bytes-length r coasting)) (bytes_told (length buffer) e)

-- ---- what is read writes back

module _ (base : ℕ) (s : List ℕ) (p : Accepted base s) where
  meaning_checked : Checked base (meaning base s)
  unfolding meaning
  meaning_checked =
      record {
        base_good = p.base_good;
        hour = p.says.hour;
        minute = p.says.minute;
        second = p.says.second;
        year = year_in_lem base (pair s year_place);
        date = p.says.date;
        quality = (quality_two (get_or s failure_place 0) (failure_there base s p)).0;
        offset = letter_good (get_or s zone_place 0);
        leap = p.says.leap;
      }

  meaning_carried : Carried (meaning base s)
  unfolding meaning
  meaning_carried =
      record {
        zone = letter_carried (get_or s zone_place 0) (zone_there base s p);
        announced = one_announced (get_or s announcement_place 0) (announcement_there base s p);
        quality = (quality_two (get_or s failure_place 0) (failure_there base s p)).1;
      }

  meaning_writable : (room : ℕ) → text_length ≤ room → Writable base (meaning base s) room
  meaning_writable room h = record { enough = h; checked = is_checked base (meaning base s) meaning_checked; carried = meaning_carried }

module _ (base : ℕ) (s : List ℕ) (r : Reading) (coasting : Bool) (read : read_meinberg base s ≡ Ok (r, coasting)) where
  told : Told base s r coasting
  told = told_is base s r coasting read

  string_accepted : Accepted base s
  string_accepted = accepted base s told.good

  -- "Meinberg, 32 bytes"
  pub accepted-length : length s ≡ text_length
  accepted-length = string_accepted.whole

  -- "and what you read writes back to the same bytes"
  pub read_writes : bytes_of r coasting ≡ s
  read_writes = rw (← told.time, ← told.coasts) (spelled_back base s string_accepted)

  -- and no writer with room for them refuses
  pub read_writable : (room : ℕ) → text_length ≤ room → write_fault base r room ≡ no_fault
  read_writable room h =
      subst (λ (m : Reading). write_fault base m room ≡ no_fault) told.time
      (is_writable base (meaning base s) room (meaning_writable base s string_accepted room h))

  -- an accepted reading passes the checks of every reading
  pub accepted_checked : checked_of base r ≡ no_fault
  accepted_checked = (writable base r text_length (read_writable text_length (omega arith))).checked

  -- so that stamping refuses it by 12 alone
  pub accepted_stamped : (n : Refusal) → stamp_of base r ≡ Err n → n ≡ number OutsideYears
  accepted_stamped n e = go (has_stamp (utc_of r).date.year) refl
    where
      go : (b : Bool) → has_stamp (utc_of r).date.year ≡ b → n ≡ number OutsideYears
      go true h =
          let s = is_stamp base r (stamp_number (utc_of r) r.second) (record { checked = accepted_checked; year = h; value = refl }) in
          let z : ◌≡◌ {A = ℕ} 0 1 = cc in
          clash z
      go false h = let s = refused_by_12 base r accepted_checked h in cc

  -- its offset is whole hours from UTC
  pub accepted_whole_hours : WholeHours r.offset.0
  unfolding meaning
  accepted_whole_hours = subst (λ (m : Reading). WholeHours m.offset.0) told.time (letter_whole_hours (get_or s zone_place 0))

-- ---- "Accept exactly the strings that document 01 draws": a string says a time where it is the bytes of a reading that is written

pub exactly : (base : ℕ) (s : List ℕ) (r : Reading) (coasting : Bool)
    → (read_meinberg base s ≡ Ok (r, coasting) → (write_fault base r text_length ≡ no_fault) × (s ≡ bytes_of r coasting))
    × ((write_fault base r text_length ≡ no_fault) × (s ≡ bytes_of r coasting) → read_meinberg base s ≡ Ok (r, coasting))
exactly base s r coasting = (
  λ e. (read_writable base s r coasting e text_length (omega arith), sym (read_writes base s r coasting e)),
  λ p. ap (read_meinberg base) p.1 ∙ bytes_told base r coasting text_length p.0,
)

-- a refusal "leaves all lent memory untouched"
pub refused_untouched : (base : ℕ) (r : Reading) (coasting : Bool) (buffer : List ℕ) (x : Fault) → write_fault base r (length buffer) ≡ Err x
    → filled (write_fault base r (length buffer)) (bytes_of r coasting) buffer ≡ buffer
refused_untouched base r coasting buffer x e = rw e
