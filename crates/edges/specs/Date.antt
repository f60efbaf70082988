-- The text of a moment, by the Gregorian calendar.
use Rattle.std.specs.Prelude.{ℕ, zero, suc, ◌+◌, ◌-◌, ◌/◌, ◌%◌, Bool, true, false, not, ◌&&◌, ◌||◌, ◌==◌, nat_lt, if◌then◌else◌, List, [], ◌∷◌, ◌++◌, codes}

-- every fourth year is a leap year, but of the centuries only every fourth
abbrev pub is_leap_year : ℕ → Bool
is_leap_year year = (year % 4 == 0) && (not (year % 100 == 0) || (year % 400 == 0))

abbrev pub days_in_year : ℕ → ℕ
days_in_year year = if is_leap_year year then 366 else 365

-- thirty days have September, April, June and November
abbrev pub days_in_month : ℕ → ℕ → ℕ
days_in_month year month =
    if month == 2 then (if is_leap_year year then 29 else 28)
    else (if (month == 4) || (month == 6) || (month == 9) || (month == 11) then 30 else 31)

pub record CivilDate : Type 0 where
  pub year : ℕ
  pub month : ℕ
  pub day : ℕ

-- the date so many days after the first of a month; the first number counts the months that may follow it
unfoldable pub from_month : ℕ → ℕ → ℕ → ℕ → CivilDate
from_month zero year month days = record { year = year; month = month; day = days + 1 }
from_month (suc more) year month days =
    elim (nat_lt days (days_in_month year month)) [
      | true ↦ record { year = year; month = month; day = days + 1 }
      | false ↦ from_month more year (month + 1) (days - days_in_month year month)
    ]

-- the date so many days after 1 January of a year; the first number counts the years that may follow it
unfoldable pub from_year : ℕ → ℕ → ℕ → CivilDate
from_year zero year days = from_month 11 year 1 days
from_year (suc more) year days =
    elim (nat_lt days (days_in_year year)) [
      | true ↦ from_month 11 year 1 days
      | false ↦ from_year more (year + 1) (days - days_in_year year)
    ]

-- the date so many days after 1 January 1970, of no more years than days
unfoldable pub civil_date : ℕ → CivilDate
civil_date days = from_year days 1970 days

-- a number in so many decimal digits
unfoldable pub digits : ℕ → ℕ → List ℕ
digits zero n = []
digits (suc width) n = digits width (n / 10) ++ (48 + n % 10) ∷ []

-- YYYY-MM-DD
unfoldable pub day_text : CivilDate → List ℕ
day_text date = digits 4 date.year ++ codes "-" ++ digits 2 date.month ++ codes "-" ++ digits 2 date.day

-- HH:MM:SS.mmm, of the milliseconds since midnight
unfoldable pub time_text : ℕ → List ℕ
time_text millis =
    digits 2 (millis / 3_600_000) ++ codes ":" ++ digits 2 (millis / 60_000 % 60) ++ codes ":"
    ++ digits 2 (millis / 1_000 % 60) ++ codes "." ++ digits 3 (millis % 1_000)

-- YYYY-MM-DDTHH:MM:SS.mmmZ, of the milliseconds since 1970 began
unfoldable pub date_of : ℕ → List ℕ
date_of millis =
    day_text (civil_date (millis / 86_400_000)) ++ codes "T" ++ time_text (millis % 86_400_000) ++ codes "Z"
