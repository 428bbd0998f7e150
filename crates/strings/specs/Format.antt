-- What a format of clock strings is, and the answer to a string in one.
use Rattle.std.specs.Prelude.{Bool, not, List, ◌≡◌, ℕ, ◌+◌, eqb, ltb, length}
use Rattle.reading.specs.declared.Reading.{Reading}
use Rattle.reading.specs.declared.Fault.TheVariants.{Length, Byte}
use Rattle.reading.specs.Faults.{first, Verdict}
use Rattle.reading.specs.Checks.{on_base}
use Rattle.wire.specs.Layout.{good_places}
use Rattle.strings.specs.declared.Places.{Places}
use Rattle.strings.specs.Checks.{fault_of, answer_of, Answer}

pub record Format : Type 0 where
  -- how many bytes a string has, and what may stand at each place
  pub size : ℕ
  pub layout : List ℕ
  -- where the fields stand whose faults have a place
  pub places : Places
  -- what a string says: with a base its reading; its weekday; that its offset is none, that its mark of a leap second stands against
  -- the second; its coasting mark
  pub reading : ℕ → List ℕ → Reading
  pub weekday : List ℕ → ℕ
  pub offset_wrong : List ℕ → Bool
  pub mark_wrong : List ℕ → Bool
  pub coasting : List ℕ → Bool

-- n is the length of a format's strings, last the largest place in them, and each place has its entry in the layout
pub record Fits (f : Format) (n last : ℕ) : Type 0 where
  pub size_is : n ≡ f.size
  pub last_is : last + 1 ≡ f.size
  pub layout_is : length f.layout ≡ f.size

-- the first fault of what a string says, where its reading is r
abbrev pub said_fault : Format → Reading → List ℕ → Verdict
said_fault f r s = fault_of r (f.weekday s) (f.offset_wrong s) (f.mark_wrong s) f.places

-- the first fault of a string: its length, the base, its lowest bad byte, then what it says
abbrev pub fault_in : Format → ℕ → List ℕ → Verdict
fault_in f base s =
    first (not (eqb (length s) f.size)) Length
    (on_base base
    (first (ltb (good_places f.layout s) f.size) (Byte (good_places f.layout s))
    (said_fault f (f.reading base s) s)))

-- the time that a string says with its coasting mark, or the refusal of its first fault
abbrev pub read_as : Format → ℕ → List ℕ → Answer
read_as f base s = answer_of (fault_in f base s) (f.reading base s) (f.coasting s)
