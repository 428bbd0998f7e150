-- What a stand-in for a pulse reader does, in 01's words: `answer` is what it says after the pulses that came, `silence` the answer
-- "nothing", and `Tells a r` that the answer a is the time r.
use Rattle.std.specs.Prelude.{List, ◌∷◌, ◌++◌, ◌≡◌, ℕ, ◌<◌, length}

module _ {A : Type 0} (answer : List ℕ → A) where
  -- it says nothing, whatever comes
  abbrev pub SilentEver : A → Type 0
  SilentEver silence = (pulses : List ℕ) → answer pulses ≡ silence

  -- "Restarting at each mark": what it says goes by the pulses from a 2 on, whatever came before that
  abbrev pub RestartsAtTwos : Type 0
  RestartsAtTwos = (before after : List ℕ) → answer (before ++ (2 ∷ after)) ≡ answer (2 ∷ after)

  module _ {R : Type 0} (Tells : A → R → Type 0) where
    -- it refuses whatever it speaks of
    abbrev pub RefusesAll : Type 0
    RefusesAll = (pulses : List ℕ) (r : R) → Tells (answer pulses) r → ⊥

    -- "decodes its first frame and then repeats it": after a time it tells no other
    abbrev pub RepeatsFirst : Type 0
    RepeatsFirst = (pulses more : List ℕ) (r q : R) → Tells (answer pulses) r → Tells (answer (pulses ++ more)) q → q ≡ r

    -- "or stays silent": after a time it tells none
    abbrev pub SilentAfterFirst : Type 0
    SilentAfterFirst = (pulses more : List ℕ) (r q : R) → Tells (answer pulses) r → 0 < length more → Tells (answer (pulses ++ more)) q → ⊥

    -- "Dropping the closing mark": after a time it tells none before n more pulses have come
    abbrev pub SilentBefore : ℕ → Type 0
    SilentBefore n = (pulses more : List ℕ) (r q : R) → Tells (answer pulses) r → 0 < length more → length more < n → Tells (answer (pulses ++ more)) q → ⊥
