-- What a walk over a book finds: an accepted record is a whole body that its reader accepts, an answer depends on what stands
-- from its place on, the places rise, and after the end, an unknown kind or a body cut short there is nothing more.
use Rattle.reading.specs.declared.Refusal.{Refusal}
use Rattle.book.specs.declared.Record.{Record}
use Rattle.std.specs.Prelude.{Err, Ok, None, Some, Option}
use Rattle.std.specs.Iterator.{MakesProgress}
use mathlib.Core.Path.{◌≡◌, refl, sym, ap, ◌∙◌}
use mathlib.Core.Bool.{Bool, true, false, cond}
use mathlib.Core.List.{List, [], ◌∷◌}
use Prim.Native.Nat.{ℕ, zero, suc, ◌+◌, ◌-◌, ◌≤◌, ◌<◌}
use native.Mathlib.Omega.{arith}
use native.Mathlib.Decide.{ℕ_discrete}
use lib.ListN.{length, get_or, drop, length-drop}
use lib.Seq.{get_or-drop, drop-drop}
use borrow.Author.Tests.{leb-true, leb-false, ltb-true, ltb-false, le-leb, lt-leb}
use Rattle.reading.specs.declared.Reading.{Reading}
use Rattle.reading.specs.declared.Fault.TheVariants.{CutShort, UnknownKind}
use Rattle.reading.specs.Faults.{number}
use Rattle.reading.proofs.CheckLaws.{clash}
use Rattle.book.specs.declared.Walk.{Walk}
use Rattle.book.specs.declared.Taken.{Taken}
use Rattle.book.specs.Body.{read_body, record_of, Said, accepted, refused}
use Rattle.book.specs.Book.{kind_at, length_at, body_at, past, unknown, cut_short, record_at, next_at, Entry, records_within, records_from, standing_at}
use Rattle.book.specs.Walking.{turned, at_most_bytes}
use Rattle.book.proofs.PlaceLaws.{
  Whole,
  over_there,
  unknown_there,
  cut_there,
  whole_there,
  from_past,
  from_unknown,
  from_cut,
  from_whole,
}

-- ---- the four things that can stand at a place

pub data Place (b : List ℕ) (at : ℕ) : Type 0 where
  beyond : length b ≤ at → Place b at
  strange : at < length b → length_at b at ≡ 0 → Place b at
  short : at < length b → (length_at b at ≡ 0 → ⊥) → length b - (at + 1) < length_at b at → Place b at
  whole : Whole b at → Place b at

pub place : (b : List ℕ) (at : ℕ) → Place b at
place b at = go (past b at) refl (ℕ_discrete (length_at b at) 0) (cut_short b at) refl
  where
    go : (p : Bool) → past b at ≡ p → Dec (length_at b at ≡ 0) → (s : Bool) → cut_short b at ≡ s → Place b at
    go true e u s f = beyond (leb-true (length b) at e)
    go false e (yes k) s f = strange (leb-false (length b) at e) k
    go false e (no d) true f = short (leb-false (length b) at e) d (ltb-true (length b - (at + 1)) (length_at b at) f)
    go false e (no d) false f =
        whole (record { inside = leb-false (length b) at e; known = d; room = ltb-false (length b - (at + 1)) (length_at b at) f })

-- ---- what an accepted record tells: its body is whole, and its reader accepts exactly that part of the book with that reading

pub record BodyRead (base : ℕ) (b : List ℕ) (at kind : ℕ) (r : Reading) : Type 0 where
  pub there : Whole b at
  pub same : kind ≡ kind_at b at
  pub said : read_body base kind (body_at b at) ≡ Ok r

-- a record that stands there is one
pub found_one : (x y : Record) → ◌≡◌ {A = Option Record} (Some x) (Some y) → x ≡ y
found_one x y e = cc

-- where a record stands, the place is one of the book's, and past it nothing stands
pub there_is : (base : ℕ) (b : List ℕ) (at : ℕ) (found : Record) → record_at base b at ≡ Some found → (at < length b) × (found ≡ standing_at base b at)
unfolding record_at
there_is base b at found e = go (past b at) refl e
  where
    go : (p : Bool) → past b at ≡ p → cond p None (Some (standing_at base b at)) ≡ Some found → (at < length b) × (found ≡ standing_at base b at)
    go true k f = let z : ◌≡◌ {A = ℕ} 0 1 = cc in clash z
    go false k f = (leb-false (length b) at k, sym (found_one _ _ f))

pub nothing_is : (base : ℕ) (b : List ℕ) (at : ℕ) → record_at base b at ≡ None → length b ≤ at
unfolding record_at
nothing_is base b at e = go (past b at) refl e
  where
    go : (p : Bool) → past b at ≡ p → cond p None (Some (standing_at base b at)) ≡ None → length b ≤ at
    go true k f = leb-true (length b) at k
    go false k f = let z : ◌≡◌ {A = ℕ} 0 1 = cc in clash z

pub accepted_there : (base : ℕ) (b : List ℕ) (at kind : ℕ) (r : Reading) → record_at base b at ≡ Some (accepted kind r) → BodyRead base b at kind r
accepted_there base b at kind r e = go (place b at)
  where
    said : ℕ → Said
    said k = read_body base k (body_at b at)

    refused_not : {x : Refusal} → record_at base b at ≡ Some (refused (kind_at b at) x) → BodyRead base b at kind r
    refused_not o =
        let s = found_one _ _ (sym e ∙ o) in
        let t : ◌≡◌ {A = Said} (Ok r) (Err _) = ap (λ (z : Record). z.said) s in
        let z : ◌≡◌ {A = ℕ} 0 1 = cc in clash z

    go : Place b at → BodyRead base b at kind r
    go (beyond h) = let o = over_there base b at h in let z : ◌≡◌ {A = ℕ} 0 1 = cc in clash z
    go (strange h u) = refused_not (unknown_there base b at h u)
    go (short h d l) = refused_not (cut_there base b at h d l)
    go (whole w) =
        let f : Some (record_of (kind_at b at) (said (kind_at b at))) ≡ Some (accepted kind r) = sym (whole_there base b at w) ∙ e in
        let same = found_one _ _ f in
        let k : kind_at b at ≡ kind = ap (λ (z : Record). z.kind) same in
        record { there = w; same = sym k; said = ap said (sym k) ∙ ap (λ (z : Record). z.said) same }

-- ---- "offsets rise strictly"

pub next_rises : (b : List ℕ) (at : ℕ) → at < length b → at < next_at b at
next_rises b at h = go (place b at)
  where
    go : Place b at → at < next_at b at
    go (beyond k) = omega arith
    go (strange i u) = omega (arith, from_unknown b at i u)
    go (short i d l) = omega (arith, from_cut b at i d l)
    go (whole w) = omega (arith, from_whole b at w)

pub next_inside : (b : List ℕ) (at : ℕ) → next_at b at ≤ length b
next_inside b at = go (place b at)
  where
    go : Place b at → next_at b at ≤ length b
    go (beyond k) = omega (arith, from_past b at k)
    go (strange i u) = omega (arith, from_unknown b at i u)
    go (short i d l) = omega (arith, from_cut b at i d l)
    go (whole w) = omega (arith, from_whole b at w)

-- ---- an answer depends only on what stands from its place on

module _ (b : List ℕ) (at : ℕ) where
  rest_past : past (drop at b) 0 ≡ past b at
  rest_past = go (past b at) refl
    where
      go : (p : Bool) → past b at ≡ p → past (drop at b) 0 ≡ p
      go true e = le-leb (length (drop at b)) 0 (omega (arith, length-drop at b, leb-true (length b) at e))
      go false e = lt-leb (length (drop at b)) 0 (omega (arith, length-drop at b, leb-false (length b) at e))

  rest_kind : kind_at (drop at b) 0 ≡ kind_at b at
  rest_kind = let z : at + 0 ≡ at = omega arith in get_or-drop at b 0 0 ∙ ap (λ (n : ℕ). get_or b n 0) z

  rest_room : length (drop at b) - (0 + 1) ≡ length b - (at + 1)
  rest_room = omega (arith, length-drop at b)

  rest_body : drop (0 + 1) (drop at b) ≡ drop (at + 1) b
  rest_body = drop-drop 1 at b

pub from_there_on : (base : ℕ) (b : List ℕ) (at : ℕ) → record_at base b at ≡ record_at base (drop at b) 0
unfolding record_at standing_at
from_there_on base b at = rw (rest_past b at, rest_kind b at, rest_room b at, rest_body b at)

pub next_from_there_on : (b : List ℕ) (at : ℕ) → at ≤ length b → next_at b at ≡ at + next_at (drop at b) 0
unfolding next_at
next_from_there_on b at h = rw (rest_past b at, rest_kind b at, rest_room b at) (go (past b at) (unknown b at) (cut_short b at))
  where
    go : (p u c : Bool)
        → cond p (length b) (cond u (length b) (cond c (length b) (at + 1 + length_at b at)))
        ≡ at + cond p (length (drop at b)) (cond u (length (drop at b)) (cond c (length (drop at b)) (0 + 1 + length_at b at)))
    go true u c = omega (arith, length-drop at b)
    go false true c = omega (arith, length-drop at b)
    go false false true = omega (arith, length-drop at b)
    go false false false = omega arith

-- ---- "after 13 or 14, as at the book's end, it answers that the walk is over", over and over again

-- the place of a walk after n turns
abbrev pub turns : List ℕ → ℕ → ℕ → ℕ
turns b zero at = at
turns b (suc n) at = turns b n (next_at b at)

module _ (base : ℕ) (b : List ℕ) where
  pub over_again : (n at : ℕ) → length b ≤ at → record_at base b (turns b n at) ≡ None
  over_again zero at h = over_there base b at h
  over_again (suc n) at h = over_again n (next_at b at) (omega (arith, from_past b at h))

  pub over_after_14 : (n at : ℕ) → at < length b → length_at b at ≡ 0
      → (record_at base b at ≡ Some (refused (kind_at b at) (number UnknownKind))) × (record_at base b (turns b (suc n) at) ≡ None)
  over_after_14 n at h u = (unknown_there base b at h u, over_again n (next_at b at) (omega (arith, from_unknown b at h u)))

  pub over_after_13 : (n at : ℕ) → at < length b → (length_at b at ≡ 0 → ⊥) → length b - (at + 1) < length_at b at
      → (record_at base b at ≡ Some (refused (kind_at b at) (number CutShort))) × (record_at base b (turns b (suc n) at) ≡ None)
  over_after_13 n at h d l = (cut_there base b at h d l, over_again n (next_at b at) (omega (arith, from_cut b at h d l)))

-- ---- all the records of a book

module _ (base : ℕ) (b : List ℕ) where
  -- more steps than there are bytes find no more
  enough : (m n at : ℕ) → length b ≤ at + m → length b ≤ at + n → records_within base b m at ≡ records_within base b n at
  enough zero zero at h k = refl
  enough zero (suc n) at h k = rw (le-leb (length b) at (omega arith))
  enough (suc m) zero at h k = rw (le-leb (length b) at (omega arith))
  enough (suc m) (suc n) at h k = go (past b at) refl (enough m n (next_at b at))
    where
      go : (p : Bool) → past b at ≡ p
          → (length b ≤ next_at b at + m → length b ≤ next_at b at + n → records_within base b m (next_at b at) ≡ records_within base b n (next_at b at))
          → records_within base b (suc m) at ≡ records_within base b (suc n) at
      go true e more = rw e
      go false e more =
          let l = next_rises b at (leb-false (length b) at e) in
          let tail = more (omega arith) (omega arith) in
          rw (e, tail)

  pub records_end : (at : ℕ) → length b ≤ at → records_from base b at ≡ []
  unfolding records_from
  records_end at h = let z : length b - at ≡ 0 = omega arith in rw z

  pub records_step : (at : ℕ) → at < length b
      → records_from base b at ≡ record { place = at; found = standing_at base b at } ∷ records_from base b (next_at b at)
  unfolding records_from
  records_step at h =
      let n = length b - suc at in
      let z : length b - at ≡ suc n = omega arith in
      let l = next_rises b at h in
      let tail = enough n (length b - next_at b at) (next_at b at) (omega arith) (omega arith) in
      rw (z, lt-leb (length b) at h, tail)

-- the places of the entries rise strictly from a place on, and are places of a book of n bytes
abbrev pub Rising : ℕ → ℕ → List Entry → Type 0
Rising n at [] = Unit {0}
Rising n at (e ∷ l) = (at ≤ e.place) × (e.place < n) × Rising n (suc e.place) l

sooner : (n p q : ℕ) (l : List Entry) → p ≤ q → Rising n q l → Rising n p l
sooner n p q [] h r = tt
sooner n p q (e ∷ l) h r = (omega arith, r.1, r.2)

rise_within : (base : ℕ) (b : List ℕ) (n at : ℕ) → Rising (length b) at (records_within base b n at)
rise_within base b zero at = tt
rise_within base b (suc n) at = go (past b at) refl (rise_within base b n (next_at b at))
  where
    go : (p : Bool) → past b at ≡ p → Rising (length b) (next_at b at) (records_within base b n (next_at b at))
        → Rising (length b) at (records_within base b (suc n) at)
    go true e more = rw e tt
    go false e more =
        let h = leb-false (length b) at e in
        let l = next_rises b at h in
        rw e (omega arith, h, sooner (length b) (suc at) (next_at b at) (records_within base b n (next_at b at)) (omega arith) more)

pub records_rise : (base : ℕ) (b : List ℕ) (at : ℕ) → Rising (length b) at (records_from base b at)
unfolding records_from
records_rise base b at = rise_within base b (length b - at) at

-- a walk that is turned until it is over finds the records of its book, one a turn, all with the base that it was started with
pub turn_finds : (w : Walk) → w.at < length w.book.now
    → (found : Record)
    × ((turned w).found ≡ Some found)
    × (records_from w.base w.book.now w.at
    ≡ record { place = w.at; found = found } ∷ records_from (turned w).walk.base w.book.now (turned w).walk.at)
unfolding record_at
turn_finds w h =
    (standing_at w.base w.book.now w.at, rw (lt-leb (length w.book.now) w.at h), records_step w.base w.book.now w.at h)

-- a turn that finds a record leaves fewer bytes of the book
pub turn_goes : (w : Walk) (taken : Taken) → taken ≡ turned w → MakesProgress (λ _. Unit {0}) at_most_bytes w taken.found taken.walk
turn_goes w taken e = rw e (go (record_at w.base w.book.now w.at) refl)
  where
    go : (found : Option Record) → record_at w.base w.book.now w.at ≡ found → MakesProgress (λ _. Unit {0}) at_most_bytes w found (turned w).walk
    go None e = record { on = λ _. tt; keeps = tt; rests = λ _. tt }
    go (Some found) e =
        let h = there_is w.base w.book.now w.at found e in
        let r = next_rises w.book.now w.at h.0 in
        record { on = λ _. (tt, tt, omega arith); keeps = tt; rests = λ _. tt }
