-- An accepted string, byte by byte: it is what is written for the reading that it says.
use mathlib.Core.Bool.{true}
use mathlib.Core.List.{List, [], ◌∷◌}
use mathlib.Core.Logic.{◌⊎◌}
use mathlib.Core.Path.{◌≡◌, refl, sym, ap, ◌∙◌}
use Prim.Native.Nat.{ℕ, zero, suc, ◌+◌, ◌<◌}
use native.Mathlib.Omega.{arith}
use lib.Dec.{T, ltb, ltb→lt}
use lib.ListN.{length, get_or, drop}
use lib.Seq.{drop-cons, drop-length}
use Rattle.calendar.specs.Calendar.{weekday_of}
use Rattle.reading.specs.Universal.{date_of}
use Rattle.reading.specs.Years.{year_of}
use Rattle.wire.specs.Digits.{pair, tens, ones}
use Rattle.wire.specs.Layout.{exactly, allowed}
use Rattle.wire.proofs.EntryLaws.{exactly_is, from_is, either_is, one_of_is}
use Rattle.wire.proofs.LayoutLaws.{all-allowed}
use Rattle.meinberg.specs.Layout.{
  text_length,
  stx,
  etx,
  space,
  bang,
  hash,
  star,
  dot,
  colon,
  semicolon,
  letter_a,
  letter_d,
  letter_s,
  letter_t,
  letter_u,
  digit as digitEntry,
  layout,
  places,
  year_place,
  failure_place,
  coasting_place,
  zone_place,
  announcement_place,
}
use Rattle.meinberg.specs.Meaning.{coasting_in, meaning}
use Rattle.meinberg.specs.Writing.{year_digits, bytes_of}
use Rattle.meinberg.proofs.ZoneLaws.{ZoneByte, letter_back}
use Rattle.meinberg.proofs.FieldLaws.{
  Digit,
  AnnouncementByte,
  tens_of_pair,
  ones_of_pair,
  year_of_pair,
  one_back,
  failure_back,
  star_back,
  announcement_back,
}
use Rattle.meinberg.proofs.ReadLaws.{Accepted}

-- ---- a list, spelled out from place i on

unfoldable spelled : List ℕ → ℕ → ℕ → List ℕ
spelled s i zero = []
spelled s i (suc n) = get_or s i 0 ∷ spelled s (suc i) n

spelled_is : (s : List ℕ) (i n : ℕ) → length s ≡ i + n → spelled s i n ≡ drop i s
unfolding spelled
spelled_is s i zero e = let z : i ≡ length s = omega arith in rw z (sym (drop-length s))
spelled_is s i (suc n) e = ap (λ (l : List ℕ). get_or s i 0 ∷ l) (spelled_is s (suc i) n (omega arith)) ∙ sym (drop-cons s i 0 (omega arith))

-- one byte more is the same
infixr 20 ◌▸◌
◌▸◌ : {a b : ℕ} {l t : List ℕ} → a ≡ b → l ≡ t → (a ∷ l) ≡ (b ∷ t)
p ▸ q = rw (p, q)

-- ---- what each place of an accepted string holds

module _ (base : ℕ) (s : List ℕ) (p : Accepted base s) where
  allowed_there : (i : ℕ) → i < text_length → allowed (get_or layout i 0) (get_or s i 0) ≡ true
  allowed_there i h = all-allowed layout s (p.bytes ∙ sym p.whole) i (omega (arith, p.whole))

  fixed : (i b : ℕ) → T (ltb i text_length) → T (ltb b 256) → get_or layout i 0 ≡ exactly b → b ≡ get_or s i 0
  fixed i b t u e = sym (exactly_is b (get_or s i 0) (ltb→lt b 256 u) (rw e at (allowed_there i (ltb→lt i text_length t))))

  digit_there : (i : ℕ) → T (ltb i text_length) → get_or layout i 0 ≡ digitEntry → Digit (get_or s i 0)
  digit_there i t e = from_is 48 57 (get_or s i 0) (omega arith) (omega arith) (rw e at (allowed_there i (ltb→lt i text_length t)))

  pair_there : (i : ℕ) → T (ltb i text_length) → T (ltb (i + 1) text_length) → get_or layout i 0 ≡ digitEntry → get_or layout (i + 1) 0 ≡ digitEntry
      → (tens (pair s i) ≡ get_or s i 0) × (ones (pair s i) ≡ get_or s (i + 1) 0)
  pair_there i t u e f = let a = digit_there i t e in let b = digit_there (i + 1) u f in (tens_of_pair s i a b, ones_of_pair s i a b)

  year_there : year_digits (year_of base (pair s year_place)) ≡ pair s year_place
  unfolding layout
  year_there = year_of_pair s year_place (digit_there year_place tt refl) (digit_there (year_place + 1) tt refl) base

  weekday_there : ones (weekday_of (date_of (meaning base s))) ≡ get_or s places.weekday 0
  unfolding layout
  weekday_there = ap ones (sym p.says.weekday) ∙ one_back (get_or s places.weekday 0) (digit_there places.weekday tt refl)

  pub failure_there : (get_or s failure_place 0 ≡ hash) ⊎ (get_or s failure_place 0 ≡ space)
  unfolding layout
  failure_there = either_is hash space (get_or s failure_place 0) (omega arith) (omega arith) (allowed_there failure_place (omega arith))

  coasting_there : (get_or s coasting_place 0 ≡ star) ⊎ (get_or s coasting_place 0 ≡ space)
  unfolding layout
  coasting_there = either_is star space (get_or s coasting_place 0) (omega arith) (omega arith) (allowed_there coasting_place (omega arith))

  pub zone_there : ZoneByte (get_or s zone_place 0)
  unfolding layout
  zone_there = one_of_is letter_u space letter_s (get_or s zone_place 0) (omega arith) (omega arith) (allowed_there zone_place (omega arith))

  pub announcement_there : AnnouncementByte (get_or s announcement_place 0)
  unfolding layout
  announcement_there =
      one_of_is bang letter_a space (get_or s announcement_place 0) (omega arith) (omega arith) (allowed_there announcement_place (omega arith))

  -- ---- and all of them

  spelled_out : bytes_of (meaning base s) (coasting_in s) ≡ spelled s 0 text_length
  unfolding bytes_of meaning coasting_in layout spelled
  spelled_out =
      let day = pair_there places.day tt tt refl refl in
      let month = pair_there places.month tt tt refl refl in
      let year = pair_there year_place tt tt refl refl in
      let hour = pair_there places.hour tt tt refl refl in
      let minute = pair_there places.minute tt tt refl refl in
      let second = pair_there places.second tt tt refl refl in
      fixed 0 stx tt tt refl
      ▸ fixed 1 letter_d tt tt refl ▸ fixed 2 colon tt tt refl ▸ day.0 ▸ day.1 ▸ fixed 5 dot tt tt refl ▸ month.0 ▸ month.1
      ▸ fixed 8 dot tt tt refl ▸ (ap tens year_there ∙ year.0) ▸ (ap ones year_there ∙ year.1) ▸ fixed 11 semicolon tt tt refl
      ▸ fixed 12 letter_t tt tt refl ▸ fixed 13 colon tt tt refl ▸ weekday_there ▸ fixed 15 semicolon tt tt refl
      ▸ fixed 16 letter_u tt tt refl ▸ fixed 17 colon tt tt refl ▸ hour.0 ▸ hour.1 ▸ fixed 20 dot tt tt refl ▸ minute.0 ▸ minute.1
      ▸ fixed 23 dot tt tt refl ▸ second.0 ▸ second.1 ▸ fixed 26 semicolon tt tt refl
      ▸ failure_back (get_or s failure_place 0) failure_there ▸ star_back (get_or s coasting_place 0) coasting_there
      ▸ letter_back (get_or s zone_place 0) zone_there ▸ announcement_back (get_or s announcement_place 0) announcement_there
      ▸ fixed 31 etx tt tt refl
      ▸ refl

  pub spelled_back : bytes_of (meaning base s) (coasting_in s) ≡ s
  spelled_back = spelled_out ∙ spelled_is s 0 text_length p.whole
