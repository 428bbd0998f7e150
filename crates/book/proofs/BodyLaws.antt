-- What a body that its reader accepts tells: its reading passes the checks of every reading, so that it has a stamp or its
-- stamp is refused by 12 alone; and what every body meets with another base than the two.
use Rattle.std.specs.Prelude.{Err, Ok}
use mathlib.Core.Path.{◌≡◌, refl, ap, sym}
use mathlib.Core.Bool.{Bool, true, false, cond, ◌||◌}
use mathlib.Core.List.{List}
use mathlib.Core.Logic.{◌⊎◌, inl, inr}
use Prim.Native.Nat.{ℕ}
use lib.Dec.{eqb}
use lib.ListN.{length}
use Rattle.dcf77.proofs.ReadLaws.{other_base_lem as minute-other-base}
use Rattle.irig.proofs.RefusalLaws.{other_base_lem as frame-other-base}
use Rattle.reading.specs.Years.{is_base}
use Rattle.reading.specs.declared.Reading.{Reading}
use Rattle.reading.specs.declared.Fault.TheVariants.{OutsideYears, OtherBase}
use Rattle.reading.specs.Faults.{number, no_fault}
use Rattle.reading.specs.Universal.{utc_of}
use Rattle.reading.specs.Checks.{checked_of}
use Rattle.reading.specs.Stamps.{has_stamp, stamp_number}
use Rattle.reading.proofs.CheckLaws.{clash}
use Rattle.reading.proofs.StampLaws.{is_stamp, refused_by_12}
use Rattle.clock_string.specs.declared.Told.TheVariants.{Meinberg, Erlangen}
use Rattle.clock_string.specs.Reader.{read_string, whichever, Answer as StringAnswer}
use Rattle.clock_string.proofs.ReadLaws.{accepted_checked as string-checked, other_base_lem as string-other-base}
use Rattle.irig.specs.Faults.{read_frame}
use Rattle.dcf77.specs.Reader.{read_dcf77, length_bad, Answer as MinuteAnswer}
use Rattle.irig.proofs.RoundTrip.{accepted_checked as frame-checked}
use Rattle.dcf77.proofs.RoundTrip.{accepted_checked as minute-checked}
use Rattle.book.specs.Body.{of_string, of_minute, read_body, body_length, accepted}
use Rattle.book.specs.Stamps.{stamping_of, stamped, unstamped}

string_time : (a : StringAnswer) (r : Reading) → of_string a ≡ Ok r → (c : Bool) × (whichever a ≡ Ok (r, c))
string_time (Ok (Meinberg q c)) r e = (c, cc)
string_time (Ok (Erlangen q c)) r e = (c, cc)
string_time (Err x) r e = let z : ◌≡◌ {A = ℕ} 0 1 = cc in clash z

minute_time : (a : MinuteAnswer) (r : Reading) → of_minute a ≡ Ok r → (h : ℕ) × (a ≡ Ok (r, h))
minute_time (Ok (q, h)) r e = (h, cc)
minute_time (Err x) r e = let z : ◌≡◌ {A = ℕ} 0 1 = cc in clash z

pub accepted_checked : (base kind : ℕ) (s : List ℕ) (r : Reading) → read_body base kind s ≡ Ok r → checked_of base r ≡ no_fault
unfolding read_body
accepted_checked base kind s r e = go (eqb kind 1 || eqb kind 2) (eqb kind 3) e
  where
    go : (a b : Bool) → cond a (of_string (read_string base s)) (cond b (read_frame base s) (of_minute (read_dcf77 base s))) ≡ Ok r
        → checked_of base r ≡ no_fault
    go true b e = let p = string_time (read_string base s) r e in string-checked base s r p.0 p.1
    go false true e = frame-checked base s r e
    go false false e = let p = minute_time (read_dcf77 base s) r e in minute-checked base s r p.0 p.1

-- "An accepted body whose stamp is refused is listed as `no 12 0`."
pub stamped_or_12 : (base kind : ℕ) (s : List ℕ) (r : Reading) → read_body base kind s ≡ Ok r
    → (stamping_of base (accepted kind r) ≡ stamped kind (record { 0 = stamp_number (utc_of r) r.second }))
    ⊎ (stamping_of base (accepted kind r) ≡ unstamped kind (number OutsideYears))
stamped_or_12 base kind s r e = go (has_stamp (utc_of r).date.year) refl
  where
    checked : checked_of base r ≡ no_fault
    checked = accepted_checked base kind s r e

    go : (b : Bool) → has_stamp (utc_of r).date.year ≡ b
        → (stamping_of base (accepted kind r) ≡ stamped kind (record { 0 = stamp_number (utc_of r) r.second }))
        ⊎ (stamping_of base (accepted kind r) ≡ unstamped kind (number OutsideYears))
    go true h = inl (rw (is_stamp base r (stamp_number (utc_of r) r.second) (record { checked = checked; year = h; value = refl })))
    go false h = inr (rw (refused_by_12 base r checked h))

-- ---- another base than the two: each body of the length that its kind fixes is refused by 19

string_other : (base : ℕ) (s : List ℕ) → is_base base ≡ false → (length s ≡ 32) ⊎ (length s ≡ 68) → of_string (read_string base s) ≡ Err (number OtherBase)
string_other base s g l = ap of_string (string-other-base base s l g)

frame_other : (base : ℕ) (s : List ℕ) → is_base base ≡ false → length s ≡ 100 → read_frame base s ≡ Err (number OtherBase)
frame_other base s g l = frame-other-base base s l g

minute_other : (base : ℕ) (s : List ℕ) → is_base base ≡ false → length_bad (length s) ≡ false → of_minute (read_dcf77 base s) ≡ Err (number OtherBase)
minute_other base s g l = ap of_minute (sym (minute-other-base base s (number OtherBase) l g refl))

pub other_base_body : (base kind : ℕ) (s : List ℕ) → is_base base ≡ false → (body_length kind ≡ 0 → ⊥) → length s ≡ body_length kind
    → read_body base kind s ≡ Err (number OtherBase)
unfolding read_body body_length length_bad
other_base_body base kind s g known l =
    go (eqb kind 1) (eqb kind 2) (eqb kind 3) (eqb kind 4) (eqb kind 5) known l
  where
    go : (a b c d e : Bool) → (◌≡◌ {A = ℕ} (cond a 32 (cond b 68 (cond c 100 (cond d 60 (cond e 61 0))))) 0 → ⊥)
        → length s ≡ cond a 32 (cond b 68 (cond c 100 (cond d 60 (cond e 61 0))))
        → cond (a || b) (of_string (read_string base s)) (cond c (read_frame base s) (of_minute (read_dcf77 base s))) ≡ Err (number OtherBase)
    go true b c d e k l = string_other base s g (inl l)
    go false true c d e k l = string_other base s g (inr l)
    go false false true d e k l = frame_other base s g l
    go false false false true e k l = minute_other base s g (rw l)
    go false false false false true k l = minute_other base s g (rw l)
    go false false false false false k l = absurd (k refl)
