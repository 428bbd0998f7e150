-- Which refusal is given where several things are wrong: that of the code which stands first in the order of the codes, and within one
-- code that of the lowest place.
use Rattle.std.specs.Prelude.{Bool, true, false, cond, not, ◌&&◌, ◌||◌, List, [], ◌∷◌, ◌≡◌, ℕ, suc, eqb, ltb}
use Rattle.laws.specs.Tests.{among}
use Rattle.reading.specs.declared.Refusal.{Refusal}

-- the order in which codes are judged. 01: "The lowest applicable code is given"; amended by L5: "15, 16 and 17 stand in 5's position,
-- in that order; 5 is retired." L8: "18 comes after 1 and before 5's successors". L12: 19 comes "straight after 1". A book's own codes, 13
-- and 14, are judged beside no other.
abbrev pub order : List ℕ
order = 1 ∷ 19 ∷ 18 ∷ 2 ∷ 3 ∷ 4 ∷ 15 ∷ 16 ∷ 17 ∷ 6 ∷ 7 ∷ 8 ∷ 9 ∷ 10 ∷ 11 ∷ 12 ∷ []

-- something that can be wrong: whether it is, and the code and place that it is refused with. The condition is one of the whole input,
-- so that it holds or not also where another one holds.
pub record Objection : Type 0 where
  pub holds : Bool
  pub code : ℕ
  pub place : ℕ

abbrev pub objection : Bool → ℕ → ℕ → Objection
objection holds code place = record { holds = holds; code = code; place = place }

-- how many codes of a list stand before a code
abbrev pub stands_at : List ℕ → ℕ → ℕ
stands_at [] code = 0
stands_at (c ∷ rest) code = cond (eqb code c) 0 (suc (stands_at rest code))

-- an objection goes before a refusal: its code stands earlier in the order, or it has the same code and a lower place: "the place of the
-- first byte of the lowest offending field"
abbrev pub goes_before : Objection → Refusal → Bool
goes_before o x = ltb (stands_at order o.code) (stands_at order x.code) || (eqb o.code x.code && ltb o.place x.place)

-- one of the objections holds and has the code and the place of a refusal: a code is given "only where its condition holds"
unfoldable pub raised : List Objection → Refusal → Bool
raised [] x = false
raised (o ∷ rest) x = (o.holds && (eqb o.code x.code && eqb o.place x.place)) || raised rest x

-- none of the objections that hold goes before a refusal
unfoldable pub unpreceded : List Objection → Refusal → Bool
unpreceded [] x = true
unpreceded (o ∷ rest) x = not (o.holds && goes_before o x) && unpreceded rest x

-- a refusal is the one to give
unfoldable pub due : List Objection → Refusal → Bool
due objections x = raised objections x && unpreceded objections x

-- none of the objections holds
unfoldable pub quiet : List Objection → Bool
quiet [] = true
quiet (o ∷ rest) = not o.holds && quiet rest

-- what is promised of a refusal: it is the one to give, and its code is one of those that can be given at all
abbrev pub Owed : List Objection → List ℕ → Refusal → Type 0
Owed objections codes x = (due objections x ≡ true) × (among x.code codes ≡ true)
