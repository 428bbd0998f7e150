-- The table of pulses as document 01 prints it, row by row, and the field and weight of each pulse by the crate's own table.
use Rattle.std.specs.Prelude.{Bool, cond, ◌&&◌, ◌||◌, List, [], ◌∷◌, ℕ, ◌+◌, ◌-◌, ◌*◌, ◌%◌, eqb, leb, ltb, length, get_or}
use Rattle.pulses.specs.Row.{group_of, weight_of}
use Rattle.irig_table.specs.declared.Pulse.{Pulse}
use Rattle.irig_table.specs.Table.{frame_pulses}

-- ---- the fields

-- a pulse that is always 0
abbrev pub none : ℕ
none = 0

-- a position mark
abbrev pub position_mark : ℕ
position_mark = 1

abbrev pub second : ℕ
second = 2

abbrev pub minute : ℕ
minute = 3

abbrev pub hour : ℕ
hour = 4

abbrev pub day_of_year : ℕ
day_of_year = 5

abbrev pub year : ℕ
year = 6

abbrev pub leap_pending : ℕ
leap_pending = 7

abbrev pub deletion : ℕ
deletion = 8

abbrev pub change_pending : ℕ
change_pending = 9

abbrev pub summer : ℕ
summer = 10

-- the sign of the offset
abbrev pub sign : ℕ
sign = 11

abbrev pub offset_hours : ℕ
offset_hours = 12

abbrev pub half_hour : ℕ
half_hour = 13

abbrev pub quality : ℕ
quality = 14

abbrev pub parity : ℕ
parity = 15

abbrev pub second_of_day : ℕ
second_of_day = 16

-- ---- the paper's rows

-- consecutive pulses of one field, with their weights, from a place on
pub record Run : Type 0 where
  pub field : ℕ
  pub from : ℕ
  pub weights : List ℕ

abbrev run : ℕ → ℕ → List ℕ → Run
run f a w = record { field = f; from = a; weights = w }

-- the weights of a decimal digit, and of the tens and hundreds
abbrev ones : List ℕ
ones = 1 ∷ 2 ∷ 4 ∷ 8 ∷ []

abbrev tens_to40 : List ℕ
tens_to40 = 10 ∷ 20 ∷ 40 ∷ []

abbrev tens_to80 : List ℕ
tens_to80 = 10 ∷ 20 ∷ 40 ∷ 80 ∷ []

-- the rows of the paper's table
unfoldable pub rows : List Run
rows =
    run second 1 ones ∷ run second 6 tens_to40
    ∷ run minute 10 ones ∷ run minute 15 tens_to40
    ∷ run hour 20 ones ∷ run hour 25 (10 ∷ 20 ∷ [])
    ∷ run day_of_year 30 ones ∷ run day_of_year 35 tens_to80 ∷ run day_of_year 40 (100 ∷ 200 ∷ [])
    ∷ run year 50 ones ∷ run year 55 tens_to80
    ∷ run leap_pending 60 (1 ∷ []) ∷ run deletion 61 (1 ∷ []) ∷ run change_pending 62 (1 ∷ []) ∷ run summer 63 (1 ∷ [])
    ∷ run sign 64 (1 ∷ []) ∷ run offset_hours 65 ones ∷ run half_hour 70 (1 ∷ [])
    ∷ run quality 71 ones
    ∷ run parity 75 (1 ∷ [])
    ∷ run second_of_day 80 (1 ∷ 2 ∷ 4 ∷ 8 ∷ 16 ∷ 32 ∷ 64 ∷ 128 ∷ 256 ∷ [])
    ∷ run second_of_day 90 (512 ∷ 1024 ∷ 2048 ∷ 4096 ∷ 8192 ∷ 16384 ∷ 32768 ∷ 65536 ∷ [])
    ∷ []

-- "Marks at 0, 9, 19, .. 99."
abbrev pub mark_due : ℕ → Bool
mark_due i = eqb i 0 || eqb (i % 10) 9

-- place i is one of the run
abbrev pub reaches : Run → ℕ → Bool
reaches w i = leb w.from i && ltb i (w.from + length w.weights)

-- the pulse at place i: that of its row, else a mark, and "All others are 0."
unfoldable pub in_rows : List Run → ℕ → Pulse
in_rows [] i = record { field = cond (mark_due i) position_mark none; weight = 0 }
in_rows (w ∷ l) i =
    cond (reaches w i) (record { field = w.field; weight = get_or w.weights (i - w.from) 0 }) (in_rows l i)

-- ---- the same by the table that drives reader and writer

-- the field of each group
abbrev pub fields : List ℕ
fields =
    none ∷ none ∷ position_mark
    ∷ second ∷ second ∷ minute ∷ minute ∷ hour ∷ hour
    ∷ day_of_year ∷ day_of_year ∷ day_of_year ∷ year ∷ year
    ∷ leap_pending ∷ deletion ∷ change_pending ∷ summer
    ∷ sign ∷ offset_hours ∷ half_hour ∷ quality ∷ parity ∷ second_of_day
    ∷ []

unfoldable pub field_of : ℕ → ℕ
field_of g = get_or fields g none

-- what the weights of a group are to be multiplied by: 1, 10 or 100, for ones, tens and hundreds
abbrev pub factors : List ℕ
factors = 1 ∷ 1 ∷ 1 ∷ 1 ∷ 10 ∷ 1 ∷ 10 ∷ 1 ∷ 10 ∷ 1 ∷ 10 ∷ 100 ∷ 1 ∷ 10 ∷ []

unfoldable pub factor_of : ℕ → ℕ
factor_of g = get_or factors g 1

-- field and weight of the pulse at a place; beyond the frame there is none
unfoldable pub pulse_at : ℕ → Pulse
pulse_at i = record {
  field = field_of (group_of (get_or frame_pulses i 0));
  weight = factor_of (group_of (get_or frame_pulses i 0)) * weight_of (get_or frame_pulses i 0);
}
