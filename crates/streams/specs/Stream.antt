-- A stream of pulses, the window that a reader keeps of it in a ring, and the answers after each pulse.
use Rattle.std.specs.Prelude.{cond, List, [], ◌∷◌, ◌++◌, ℕ, ◌-◌, ltb, length, take, drop, replicate}

-- a window without its oldest pulse, with p as its newest
unfoldable pub push : List ℕ → ℕ → List ℕ
push w p = drop 1 w ++ (p ∷ [])

-- the last n of the pulses that came
unfoldable pub last_of : ℕ → List ℕ → List ℕ
last_of n h = drop (length h - n) h

-- a window after the pulses h: as many of its oldest have gone
abbrev pub slid : List ℕ → List ℕ → List ℕ
slid w h = drop (length h) (w ++ h)

-- the window of n pulses after the pulses h, where a fresh reader's window is full of a filler
unfoldable pub window_of : ℕ → ℕ → List ℕ → List ℕ
window_of n filler h = slid (replicate n filler) h

-- the place in a ring of n pulses that a number stands for: from n on the first
unfoldable pub place_of : ℕ → ℕ → ℕ
place_of n next = cond (ltb next n) next 0

-- the pulses of a ring whose oldest stands at place k, the oldest first
unfoldable pub unrolled : List ℕ → ℕ → List ℕ
unrolled ring k = drop k ring ++ take k ring

module _ {S : Type 0} where
  -- the state of a reader after the pulses that came, where each pulse taken gives the next state
  unfoldable pub fed : (S → ℕ → S) → S → List ℕ → S
  fed takes s [] = s
  fed takes s (p ∷ ps) = fed takes (takes s p) ps

module _ {A : Type 0} where
  -- the answers of a reader to the pulses that come, one a pulse: what a state says to a pulse, and the next state
  unfoldable pub said_by : {S : Type 0} → (S → ℕ → S) → (S → ℕ → A) → S → List ℕ → List A
  said_by takes says s [] = []
  said_by takes says s (p ∷ ps) = says s p ∷ said_by takes says (takes s p) ps

  -- the answers of a step function, whose result holds the next reader and what is said
  abbrev pub answers_of : {S R : Type 0} → (R → S) → (R → A) → (S → ℕ → R) → S → List ℕ → List A
  answers_of reader said step s ps = said_by (λ s p. reader (step s p)) (λ s p. said (step s p)) s ps

  -- the newest of the answers, and a where there is none
  unfoldable pub newest_of : A → List A → A
  newest_of a [] = a
  newest_of a (b ∷ bs) = newest_of b bs

  -- what is owed after each of the pulses that come after the pulses h
  unfoldable pub owed_to : (List ℕ → A) → List ℕ → List ℕ → List A
  owed_to owed h [] = []
  owed_to owed h (p ∷ ps) = owed (h ++ (p ∷ [])) ∷ owed_to owed (h ++ (p ∷ [])) ps
