-- Codes 13 and 14 are the book's own: no reader and no stamp answers with them, so that they alone tell a caller that the
-- walk is over.
use Rattle.book.specs.declared.Stamping.{Stamping}
use Rattle.std.specs.Prelude.{Err, Ok, None, Some, Option, option_map}
use mathlib.Core.Path.{◌≡◌, refl, sym, ap, ◌∙◌}
use mathlib.Core.Bool.{Bool, true, false, cond, ◌||◌}
use mathlib.Core.List.{List, [], ◌∷◌}
use mathlib.Core.Logic.{◌⊎◌, inl, inr}
use Prim.Native.Nat.{ℕ, suc}
use lib.Dec.{eqb}
use Rattle.laws.specs.Tests.{among}
use Rattle.laws.proofs.Bools.{never}
use Rattle.reading.specs.declared.Reading.{Reading}
use Rattle.reading.specs.declared.Refusal.{Refusal}
use Rattle.reading.specs.declared.Since2000.{Since2000}
use Rattle.reading.specs.declared.Fault.TheVariants.{OutsideYears, CutShort, UnknownKind}
use Rattle.reading.specs.Faults.{number}
use Rattle.reading.specs.Universal.{utc_of}
use Rattle.reading.specs.Stamps.{Stamp, stamp_number, stamp_of}
use Rattle.reading.proofs.CheckLaws.{clash}
use Rattle.strings.specs.Checks.{AnswerOwed as StringOwed}
use Rattle.clock_string.specs.Reader.{read_string, whichever, Answer as StringAnswer}
use Rattle.clock_string.specs.Objections.{read_objections as stringObjections, read_codes as stringCodes}
use Rattle.clock_string.proofs.OwedLaws.{read_owed as string-owed}
use Rattle.irig.specs.Faults.{read_frame, Answer as FrameAnswer}
use Rattle.irig.specs.Objections.{read_objections as frameObjections, read_codes as frameCodes, AnswerOwed as FrameOwed}
use Rattle.irig.proofs.OwedLaws.{read_owed as frame-owed}
use Rattle.dcf77.specs.Reader.{read_dcf77, Answer as MinuteAnswer}
use Rattle.dcf77.specs.Objections.{read_objections as minuteObjections, read_codes as minuteCodes, AnswerOwed as MinuteOwed}
use Rattle.dcf77.proofs.OwedLaws.{read_owed as minute-owed}
use Rattle.book.specs.declared.Record.{Record}
use Rattle.book.specs.Body.{of_string, of_minute, read_body, record_of, Said, accepted, refused}
use Rattle.book.specs.Book.{kind_at, body_at, record_at}
use Rattle.book.specs.Stamps.{stamping_of, stamped, unstamped, stamp_said}
use Rattle.book.proofs.PlaceLaws.{Whole, whole_there}
use Rattle.book.proofs.BodyLaws.{stamped_or_12}
use Rattle.book.proofs.BookLaws.{Place, beyond, strange, short, whole, place, accepted_there, found_one, turns, over_again, over_after_14, over_after_13}

-- ---- no body is refused by 13 or 14

-- a refusal that is not the book's own
abbrev pub NotOwn : Refusal → Type 0
NotOwn x = (x ≡ number CutShort → ⊥) × (x ≡ number UnknownKind → ⊥)

-- one by codes that 13 and 14 are not among
not_own : (codes : List ℕ) → among 13 codes ≡ false → among 14 codes ≡ false → (x : Refusal) → among x.code codes ≡ true → NotOwn x
unfolding number
not_own codes a b x m = (
  (λ e. never (sym a ∙ ap (λ (z : Refusal). among z.code codes) (sym e) ∙ m)),
  λ e. never (sym b ∙ ap (λ (z : Refusal). among z.code codes) (sym e) ∙ m),
)

by_12 : (x : Refusal) → x ≡ number OutsideYears → NotOwn x
unfolding number
by_12 x e = not_own (12 ∷ []) refl refl x (ap (λ (z : Refusal). among z.code (12 ∷ [])) e)

string_refused : (s : List ℕ) (base : ℕ) (x : Refusal) → of_string (read_string base s) ≡ Err x → NotOwn x
string_refused s base x e = go (read_string base s) (string-owed base s) e
  where
    go : (a : StringAnswer) → StringOwed (stringObjections base s) stringCodes (whichever a) → of_string a ≡ Err x → NotOwn x
    go (Ok told) p e = let z : ◌≡◌ {A = ℕ} 0 1 = cc in clash z
    go (Err y) p e = not_own stringCodes refl refl x (let same : y ≡ x = cc in rw (sym same) p.1)

frame_refused : (s : List ℕ) (base : ℕ) (x : Refusal) → read_frame base s ≡ Err x → NotOwn x
frame_refused s base x e = go (read_frame base s) (frame-owed base s) e
  where
    go : (a : FrameAnswer) → FrameOwed (frameObjections base s) frameCodes a → a ≡ Err x → NotOwn x
    go (Ok r) p e = let z : ◌≡◌ {A = ℕ} 0 1 = cc in clash z
    go (Err y) p e = not_own frameCodes refl refl x (let same : y ≡ x = cc in rw (sym same) p.1)

minute_refused : (s : List ℕ) (base : ℕ) (x : Refusal) → of_minute (read_dcf77 base s) ≡ Err x → NotOwn x
minute_refused s base x e = go (read_dcf77 base s) (minute-owed base s) e
  where
    go : (a : MinuteAnswer) → MinuteOwed (minuteObjections base s) minuteCodes a → of_minute a ≡ Err x → NotOwn x
    go (Ok (r, h)) p e = let z : ◌≡◌ {A = ℕ} 0 1 = cc in clash z
    go (Err y) p e = not_own minuteCodes refl refl x (let same : y ≡ x = cc in rw (sym same) p.1)

pub refused_by_reader : (base kind : ℕ) (s : List ℕ) (x : Refusal) → read_body base kind s ≡ Err x → NotOwn x
unfolding read_body
refused_by_reader base kind s x e = go (eqb kind 1 || eqb kind 2) (eqb kind 3) e
  where
    go : (a b : Bool) → cond a (of_string (read_string base s)) (cond b (read_frame base s) (of_minute (read_dcf77 base s))) ≡ Err x → NotOwn x
    go true b e = string_refused s base x e
    go false true e = frame_refused s base x e
    go false false e = minute_refused s base x e

pub refused_whole : (base : ℕ) (b : List ℕ) (at k : ℕ) (x : Refusal) → Whole b at → record_at base b at ≡ Some (refused k x) → NotOwn x
refused_whole base b at k x w e = refused_by_reader base kind (body_at b at) x (ap (λ (z : Record). z.said) same)
  where
    kind : ℕ
    kind = kind_at b at

    there : Some (record_of kind (read_body base kind (body_at b at))) ≡ Some (refused k x)
    there = sym (whole_there base b at w) ∙ e

    same : record_of kind (read_body base kind (body_at b at)) ≡ refused k x
    same = found_one _ _ there

-- ---- the answer alone tells that the walk is over

pub over_after_own : (base : ℕ) (b : List ℕ) (at k : ℕ) (x : Refusal) (n : ℕ)
    → record_at base b at ≡ Some (refused k x) → (x ≡ number CutShort) ⊎ (x ≡ number UnknownKind) → record_at base b (turns b (suc n) at) ≡ None
over_after_own base b at k x n e own = go (place b at) own
  where
    go : Place b at → (x ≡ number CutShort) ⊎ (x ≡ number UnknownKind) → record_at base b (turns b (suc n) at) ≡ None
    go (beyond h) own = over_again base b (suc n) at h
    go (strange h u) own = (over_after_14 base b n at h u).1
    go (short h d l) own = (over_after_13 base b n at h d l).1
    go (whole w) (inl p) = absurd ((refused_whole base b at k x w e).0 p)
    go (whole w) (inr p) = absurd ((refused_whole base b at k x w e).1 p)

-- and so does the answer with its stamp: an accepted body's stamp is refused by 12 alone
pub over_after_own_listed : (base : ℕ) (b : List ℕ) (at k : ℕ) (x : Refusal) (n : ℕ)
    → option_map (stamping_of base) (record_at base b at) ≡ Some (unstamped k x) → (x ≡ number CutShort) ⊎ (x ≡ number UnknownKind)
    → record_at base b (turns b (suc n) at) ≡ None
over_after_own_listed base b at k x n e own = go (record_at base b at) refl e
  where
    not-12 : NotOwn x → (x ≡ number CutShort) ⊎ (x ≡ number UnknownKind) → record_at base b (turns b (suc n) at) ≡ None
    not-12 d (inl p) = absurd (d.0 p)
    not-12 d (inr p) = absurd (d.1 p)

    no-stamp : (kind : ℕ) (m : Since2000) (r : Reading) → stamp_of base r ≡ Err x
        → (stamping_of base (accepted kind r) ≡ stamped kind m) ⊎ (stamping_of base (accepted kind r) ≡ unstamped kind (number OutsideYears))
        → record_at base b (turns b (suc n) at) ≡ None
    no-stamp kind m r f (inl s) =
        let t : stamp_of base r ≡ Ok m = ap (λ (z : Stamping). z.stamp) s in
        let z : ◌≡◌ {A = ℕ} 0 1 = cc in clash z
    no-stamp kind m r f (inr s) =
        let t : stamp_of base r ≡ Err (number OutsideYears) = ap (λ (z : Stamping). z.stamp) s in
        not-12 (by_12 x (cc)) own

    said : (kind : ℕ) (a : Said) → record_at base b at ≡ Some (record_of kind a) → stamp_said base a ≡ Err x → record_at base b (turns b (suc n) at) ≡ None
    said kind (Ok r) p f =
        no-stamp kind (record { 0 = stamp_number (utc_of r) r.second }) r f (stamped_or_12 base kind (body_at b at) r (accepted_there base b at kind r p).said)
    said kind (Err y) p f =
        let g : ◌≡◌ {A = Stamp} (Err y) (Err x) = f in
        let same : y ≡ x = cc in
        over_after_own base b at kind x n (rw same at p) own

    go : (found : Option Record) → record_at base b at ≡ found → option_map (stamping_of base) found ≡ Some (unstamped k x)
        → record_at base b (turns b (suc n) at) ≡ None
    go None p f = let z : ◌≡◌ {A = ℕ} 0 1 = cc in clash z
    go (Some found) p f =
        let s : stamping_of base found ≡ unstamped k x = cc in
        said found.kind found.said p (ap (λ (z : Stamping). z.stamp) s)
