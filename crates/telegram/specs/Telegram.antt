-- The reading that a telegram names. L8: "Given the UTC minute being sent, write the telegram that names the following minute."
use Rattle.std.specs.Prelude.{Bool, false, ◌&&◌, ℕ, ◌+◌, ◌*◌, eqb, leb, None, Some, Option}
use Rattle.calendar.specs.declared.Date.{Date}
use Rattle.reading.specs.declared.Reading.{Reading}
use Rattle.reading.specs.declared.Utc.{Utc}
use Rattle.reading.specs.Universal.{minute_after, local_at}
use Rattle.reading.specs.Leap.{last_minute}
use Rattle.dcf77.specs.Zones.{offset_in}
use Rattle.summer.specs.Changes.{is_summer, announces_change}
use Rattle.telegram.specs.declared.Sent.{Sent}
use Rattle.telegram.specs.declared.Sender.{Sender}

-- the leap second that a plant has configured: none, or one that closes a day of UTC
abbrev pub LeapSecond : Type 0
LeapSecond = Option Date

-- the minute that is being sent
unfoldable pub utc_sent : Sent → Utc
utc_sent sent = record { date = sent.date; minute = sent.hour * 60 + sent.minute }

-- "the following minute"
unfoldable pub named_minute : Sent → Utc
named_minute sent = minute_after (utc_sent sent)

-- "The zone is that of the named minute"
unfoldable pub named_summer : Sender → Sent → Bool
named_summer sender sent = is_summer sender.rule (named_minute sent).date (named_minute sent).minute

unfoldable pub same_date : Date → Date → Bool
same_date s t = eqb s.year t.year && (eqb s.month t.month && eqb s.day t.day)

-- 23:00
abbrev pub last_hour : ℕ
last_hour = 1380

-- leap announced "likewise before the configured leap second, if any": in the hour before it, from 23:00 to 23:59 UTC of its day
unfoldable pub announces_leap : LeapSecond → Utc → Bool
announces_leap None u = false
announces_leap (Some t) u = same_date t u.date && leb last_hour u.minute

-- the minute that the configured leap second closes: 23:59 of its day
unfoldable pub closed_minute : LeapSecond → Utc → Bool
closed_minute None u = false
closed_minute (Some t) u = same_date t u.date && eqb u.minute last_minute

-- local time of the named minute, and what is announced in the minute that is being sent
unfoldable pub telegram_reading : Sender → Sent → Reading
telegram_reading sender sent =
    let local = local_at (named_minute sent) (offset_in (named_summer sender sent)) in
    record {
      year = local.year;
      month = local.month;
      day = local.day;
      hour = local.hour;
      minute = local.minute;
      second = 0;
      offset = local.offset;
      summer = named_summer sender sent;
      leap = announces_leap sender.leap (utc_sent sent);
      change = announces_change sender.rule sent.date (utc_sent sent).minute;
      quality = 0;
    }
