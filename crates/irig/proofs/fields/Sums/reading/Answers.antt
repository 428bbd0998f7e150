-- `irig::fields::Sums::reading` meets its contract. Assumes nothing.
use Rattle.std.proofs.Common.{rules}
use Rattle.irig.specs.Meaning.{year_in, month_day_in, second_in, minute_in, hour_in, digits_in, added_in, reading_of}
use Rattle.irig.proofs.fields.Sums.reading.Goals as goal

pub returns : goal.returns
unfolding digits_in year_in month_day_in added_in hour_in minute_in second_in reading_of
returns c = search rules
