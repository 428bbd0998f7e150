-- Demand 3 for every format: after every pulse a fresh reader says what is owed to the pulses that came, and no damage lasts longer
-- than the pulses that it keeps.
use mathlib.Core.Bool.{Bool, true, false, cond}
use mathlib.Core.List.{List, [], ◌++◌}
use mathlib.Core.Path.{◌≡◌, refl, sym, ap, ◌∙◌}
use Prim.Native.Nat.{ℕ, ◌-◌, ◌≤◌}
use lib.Dec.{ltb}
use lib.ListN.{length, drop, replicate, length-replicate}
use Rattle.streams.specs.Stream.{push, place_of, unrolled, last_of, window_of, fed, said_by, owed_to}
use Rattle.streams.specs.Reader.{filler, unfed, oldest_at, kept_by, taken, by_its_base, answers}
use Rattle.streams.specs.declared.reader.PulseReader.{PulseReader}
use Rattle.streams.proofs.RingLaws.{place_small, unrolled-length, unrolled_first, taken_pushes}
use Rattle.streams.proofs.Runs as runs

module _ (F : Type 0) (n : ℕ) where
  pub kept_fresh : (base : ℕ) → kept_by F n (unfed F n base) ≡ replicate n filler
  unfolding kept_by place_of
  kept_fresh base = go (ltb 0 n)
    where
      go : (b : Bool) → unrolled (replicate n filler) (cond b 0 0) ≡ replicate n filler
      go true = unrolled_first (replicate n filler)
      go false = unrolled_first (replicate n filler)

  pub kept-length : (reader : PulseReader F n) → length (kept_by F n reader) ≡ length reader.ring
  unfolding kept_by
  kept-length reader = unrolled-length reader.ring (oldest_at F n reader)

  module _ (one : 1 ≤ n) where
    pub kept_taken : (reader : PulseReader F n) (p : ℕ) → length (kept_by F n reader) ≡ n → kept_by F n (taken F n reader p) ≡ push (kept_by F n reader) p
    unfolding kept_by taken
    kept_taken reader p l = taken_pushes n reader.ring (oldest_at F n reader) p (sym (kept-length reader) ∙ l) (place_small n reader.next one)

    -- once so many pulses have come, a reader keeps the last of them, whatever it kept before
    pub keeps_last : (reader : PulseReader F n) → length reader.ring ≡ n → (pulses : List ℕ) → n ≤ length pulses
        → kept_by F n (fed (taken F n) reader pulses) ≡ last_of n pulses
    keeps_last reader l pulses k = runs.keeps_last n one (kept_by F n) (taken F n) kept_taken reader pulses (kept-length reader ∙ l) k

    module _ {A : Type 0} (say_of : ℕ → List ℕ → A) (base : ℕ) where
      of_base : (reader : PulseReader F n) → reader.base ≡ base → (pulses : List ℕ)
          → said_by (taken F n) (by_its_base F n say_of) reader pulses
          ≡ said_by (taken F n) (λ reader p. say_of base (push (kept_by F n reader) p)) reader pulses
      unfolding taken
      of_base =
          runs.said_alike (taken F n) (by_its_base F n say_of) (λ reader p. say_of base (push (kept_by F n reader) p)) (λ reader. reader.base ≡ base) (λ reader p h. h)
          (λ reader p h. ap (λ (b : ℕ). say_of b (push (kept_by F n reader) p)) h)

      -- after every pulse of every stream
      pub fresh_says_owed : (owed : List ℕ → A) → ((h : List ℕ) → say_of base (window_of n filler h) ≡ owed h) → (pulses : List ℕ)
          → answers F n say_of base pulses ≡ owed_to owed [] pulses
      unfolding answers
      fresh_says_owed owed due pulses =
          of_base (unfed F n base) refl pulses
          ∙ runs.run n one (kept_by F n) (taken F n) kept_taken (say_of base) filler owed due (unfed F n base) (kept_fresh base) pulses

      -- any two readers of one base, whatever states they were in when they were fed g and h
      pub any-two_readers : (a b : PulseReader F n) → a.base ≡ base → b.base ≡ base → length a.ring ≡ n → length b.ring ≡ n
          → (g h : List ℕ) → n ≤ length g → n ≤ length h → last_of n g ≡ last_of n h → (pulses : List ℕ)
          → drop (length g - 1) (said_by (taken F n) (by_its_base F n say_of) a (g ++ pulses))
          ≡ drop (length h - 1) (said_by (taken F n) (by_its_base F n say_of) b (h ++ pulses))
      any-two_readers a b e f k l g h i j same pulses =
          rw (of_base a e (g ++ pulses), of_base b f (h ++ pulses))
          (runs.two_readers n one (kept_by F n) (taken F n) kept_taken (say_of base) a b (kept-length a ∙ k) (kept-length b ∙ l) g h i j same pulses)

      -- "So two readers whose last n pulses agree .. say the same from then on while they are fed alike": from the answer to the last pulse of each on
      pub two_readers : (g h : List ℕ) → n ≤ length g → n ≤ length h → last_of n g ≡ last_of n h → (pulses : List ℕ)
          → drop (length g - 1) (answers F n say_of base (g ++ pulses)) ≡ drop (length h - 1) (answers F n say_of base (h ++ pulses))
      unfolding answers
      two_readers =
          any-two_readers (unfed F n base) (unfed F n base) refl refl (length-replicate n filler) (length-replicate n filler)
