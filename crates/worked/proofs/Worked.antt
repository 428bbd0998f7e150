-- "Cases 1 to 10 are proved of the written definitions by a single statement over a list of them." The same statement holds of
-- a second list, which pins codes, letters and pulses that the cases leave open, of a third of month ends, of a fourth of places, of
-- a fifth of telegrams, of a sixth of both clock strings, of a seventh of coasting marks, of an eighth of quarter hours, and of
-- a ninth of the nineties.
use mathlib.Core.List.{List, map}
use mathlib.Core.Path.{◌≡◌, refl}
use Rattle.calendar.specs.Calendar.{leap_year, days_in, days_before, year_length, days_before_year, day_of_year, day_number, weekday_of, is_month, last_day, is_day, is_date, day_before, day_after, year_after, month_up_to, in_year, month_day}
use Rattle.reading.specs.Faults.{number}
use Rattle.reading.specs.Offset.{west, east, offset_good, local_of}
use Rattle.reading.specs.Years.{is_base, first_year, in_hundred, year_of}
use Rattle.reading.specs.Universal.{utc_minutes, on_day, utc_of, minute_after, within_day, local_minutes, shown_at, local_at}
use Rattle.reading.specs.Leap.{closes_with_leap, leap_minute, sixty_bad, within_minute, leap_window, change_window, after_leap}
use Rattle.reading.specs.Checks.{time_bad, date_bad, sound_of, checked_of, day_bad, month_bad, weekday_wrong}
use Rattle.reading.specs.Stamps.{has_stamp, count_of, count_zero, stamp_number, stamp_at, stamp_of}
use Rattle.wire.specs.Digits.{digit, pair, tens, ones}
use Rattle.wire.specs.Layout.{packed, exactly, from, either, one_of, within, beside, allowed, good_places, printable, printables}
use Rattle.strings.specs.Checks as strings
use Rattle.meinberg.specs.Layout as meinberg-layout
use Rattle.meinberg.specs.Zones as zones
use Rattle.meinberg.specs.Meaning as meinberg
use Rattle.meinberg.specs.Writing as meinberg-writing
use Rattle.erlangen.specs.Layout as erlangen-layout
use Rattle.erlangen.specs.Offset as erlangen-offset
use Rattle.erlangen.specs.Meaning as erlangen
use Rattle.erlangen.specs.Writing as erlangen-writing
use Rattle.pulses.specs.Row.{group_of, weight_of, pulse_allowed, pulse_of, digit_of, pulse_for, row, good_pulses, share_of, sum_of, sums_of, up_to, ones_from, lies_within, ones_of}
use Rattle.irig_table.specs.Table.{frame_pulses}
use Rattle.irig.specs.Offset.{odd_quarter}
use Rattle.irig.specs.Meaning as frame
use Rattle.irig.specs.Faults as frame-faults
use Rattle.irig.specs.Writing as frame-writing
use Rattle.dcf77_table.specs.Table.{shared_marks, last_marks, minute_marks}
use Rattle.dcf77.specs.Zones as minute-zones
use Rattle.dcf77.specs.Forms as forms
use Rattle.dcf77.specs.Reader as minute
use Rattle.dcf77.specs.Writer as minute-writing
use Rattle.clock_string.specs.Reader.{read_string}
use Rattle.clock_string.specs.Position.{position_of}
use Rattle.bridge.specs.Bridge.{pending_of, quality_by, graded, carried_by, bridge_answer, bridge_filled}
use Rattle.summer.specs.Changes.{days_until, change_date, changed, is_summer, hour_before, announces_change}
use Rattle.summer.specs.Rules as rules
use Rattle.telegram.specs.Telegram.{utc_sent, named_minute, named_summer, same_date, announces_leap, telegram_reading}
use Rattle.telegram.specs.Faults as sending
use Rattle.text.specs.Decimal.{digits_before, decimal}
use Rattle.book.specs.Body.{body_length, read_body}
use Rattle.book.specs.Book.{standing_at, next_at, records_from}
use Rattle.listing.specs.Listing.{line_at, lines_of, body_text, listing}
use Rattle.worked.specs.Questions.{Case, answer_by, answer_to}
use Rattle.worked.specs.Given.{with_ones, turned}
use Rattle.worked.specs.Cases.{cases}
use Rattle.worked.specs.Pinned.{pinned}
use Rattle.worked.specs.MonthEnds.{month_ends}
use Rattle.worked.specs.Places.{places}
use Rattle.worked.specs.Telegrams.{telegrams}
use Rattle.worked.specs.ClockStrings.{clock_strings}
use Rattle.worked.specs.CoastingMarks.{coasting_marks}
use Rattle.worked.specs.Quarters.{quarters}
use Rattle.worked.specs.Nineties.{nineties}

-- each question of the list is answered as the paper answers it
abbrev pub AsPaper : List Case → Type 0
AsPaper l = map (λ (c : Case). answer_to c.asked) l ≡ map (λ (c : Case). c.answer) l

pub worked : AsPaper cases × AsPaper pinned × AsPaper month_ends × AsPaper places × AsPaper telegrams × AsPaper clock_strings × AsPaper coasting_marks × AsPaper quarters × AsPaper nineties
unfolding cases pinned month_ends places telegrams clock_strings coasting_marks quarters nineties with_ones turned answer_by answer_to
    stamp_of stamp_at count_of count_zero stamp_number has_stamp sound_of checked_of time_bad date_bad sixty_bad leap_minute closes_with_leap after_leap within_minute leap_window change_window
    utc_of on_day utc_minutes is_base first_year in_hundred year_of west east offset_good local_of number
    leap_year days_in days_before year_length days_before_year day_of_year day_number weekday_of
    is_month last_day is_day is_date day_before day_after year_after month_up_to in_year month_day
    digit pair tens ones packed exactly from either one_of within beside allowed good_places printable printables
    day_bad month_bad weekday_wrong strings.weekday_bad strings.fault_of
    meinberg-layout.layout zones.offset_of zones.summer_of zones.is_zone zones.zone_carried zones.zone_letter
    meinberg.quality_of meinberg.coasting_in meinberg.meaning meinberg.fault_in meinberg.read_meinberg
    meinberg-writing.announcement meinberg-writing.bytes_of meinberg-writing.not_carried meinberg-writing.write_fault
    erlangen-layout.layout erlangen-offset.whole_units erlangen-offset.units_of erlangen-offset.too_far erlangen-offset.offset_bad
    erlangen-offset.signed erlangen-offset.offset_of erlangen-offset.is_behind erlangen-offset.minutes_of
    erlangen.shows erlangen.weekday_said erlangen.coasting_said erlangen.offset_wrong erlangen.mark_wrong erlangen.reading_of
    erlangen.fault_in erlangen.read_erlangen
    erlangen-writing.date_bytes erlangen-writing.time_bytes erlangen-writing.offset_bytes erlangen-writing.flag_bytes erlangen-writing.bytes_of
    erlangen-writing.not_carried erlangen-writing.length_bad erlangen-writing.carried_of erlangen-writing.write_fault
    group_of weight_of pulse_allowed pulse_of digit_of pulse_for row good_pulses share_of sum_of sums_of up_to ones_from lies_within ones_of
    frame_pulses frame.second_in frame.minute_in frame.hour_in frame.day_in frame.digits_in frame.halves_in frame.added_in frame.year_in
    frame.month_day_in frame.reading_of frame.day_bad frame.second_of_day_wrong frame.offset_bad
    frame-faults.is_odd frame-faults.fields_fault frame-faults.values_fault frame-faults.fault_in frame-faults.read_frame
    odd_quarter frame-writing.groups_of frame-writing.values_of frame-writing.parity_of frame-writing.frame_of frame-writing.carried_of frame-writing.write_fault
    shared_marks last_marks minute_marks minute-zones.offset_in minute-zones.zone_of minute-zones.zone_bad
    forms.length_of forms.last_of forms.due_long
    minute.is_long minute.table_for minute.says minute.reading_of minute.length_bad minute.digit_fault minute.odd minute.parity_fault
    minute.field_fault minute.rule_fault minute.said_fault minute.read_fault minute.read_dcf77
    minute-writing.plain_of minute-writing.evened minute-writing.with_parity minute-writing.values_of minute-writing.bytes_of
    minute-writing.head_bad minute-writing.checked_with minute-writing.not_carried minute-writing.carry_fault
    minute-writing.needed minute-writing.room_fault minute-writing.write_fault
    read_string position_of pending_of quality_by graded carried_by bridge_answer bridge_filled
    minute_after within_day local_minutes shown_at local_at
    days_until change_date changed is_summer hour_before announces_change
    rules.weekday_bad rules.date_bad rules.too_late rules.set_day_bad rules.day_in rules.crossed rules.rule_bad
    utc_sent named_minute named_summer same_date announces_leap telegram_reading
    sending.time_bad sending.leap_date_bad sending.outside sending.fault_with sending.send_fault sending.telegram_fault
    body_length read_body standing_at next_at records_from decimal digits_before line_at lines_of body_text listing
worked = (refl, refl, refl, refl, refl, refl, refl, refl, refl)
