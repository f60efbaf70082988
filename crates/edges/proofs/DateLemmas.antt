-- The date so many days after 1 January 1970 is the one that the calendar crate gives.
use Rattle.std.proofs.Common.{◌≡◌, ℕ, zero, suc, ◌+◌, ◌-◌, ◌/◌, ◌%◌, ◌<◌, ◌≤◌, inl, inr, [], ◌++◌, ◌∷◌, refl, sym, ap, ◌∙◌, arith, pos, ◌≤ℤ◌, unsigned_abs}
use Rattle.std.proofs.lemmas.Bool.{lt-ltb, le-ltb, cases_order}
use Rattle.std.proofs.lemmas.Int.{by_lt_z}
use Rattle.jiff_core.specs.declared.civil.date.Date.{Date}
use Rattle.jiff_core.specs.Calendar.{day_count, days_in_year, days_in_month, days_of_months, day_of_year, IsCivilDate}
use Rattle.jiff_core.specs.Date.{epoch_day}
use Rattle.jiff_core.proofs.SignedLemmas.{signed_arith, unsigned_abs-parts, one_part}
use Rattle.jiff_core.proofs.CalendarLemmas.{days_from_civil-day_count, day_count-epoch, day_count-day_of_year, day_count-next_year, day_count-later_year, day_count-lt_year, days_of_months_more, days_of_months_mono, days_of_months-zero, day_of_year_bound, days_in_year_bounds}
use Rattle.jiff_core.proofs.DateLemmas.{civil}
use Rattle.edges.specs.Date.{CivilDate, from_month, from_year, civil_date, digits}
use Rattle.edges.specs.CalendarDate.{IsDateOf}

-- one more digit
pub digits_more : (width n : ℕ) → 0 < width → digits width n ≡ digits (width - 1) (n / 10) ++ (48 + n % 10) ∷ []
unfolding digits
digits_more zero n h = absurd (omega arith)
digits_more (suc width) n h = let back : suc width - 1 ≡ width = omega arith in rw back refl

-- a month that ends before the day
from_month_later : (more year month days : ℕ) → days_in_month (pos year) month ≤ days → from_month (suc more) year month days ≡ from_month more year (month + 1) (days - days_in_month (pos year) month)
unfolding from_month
from_month_later more year month days h = rw (le-ltb days (days_in_month (pos year) month) h, from_month) refl

-- the month with the day
from_month_here : (more year month days : ℕ) → days < days_in_month (pos year) month → from_month more year month days ≡ record { year = year; month = month; day = days + 1 }
unfolding from_month
from_month_here zero year month days h = refl
from_month_here (suc more) year month days h = rw (lt-ltb days (days_in_month (pos year) month) h, from_month) refl

from_year_later : (more year days : ℕ) → days_in_year (pos year) ≤ days → from_year (suc more) year days ≡ from_year more (year + 1) (days - days_in_year (pos year))
unfolding from_year
from_year_later more year days h = rw (le-ltb days (days_in_year (pos year)) h, from_year) refl

from_year_here : (more year days : ℕ) → days < days_in_year (pos year) → from_year more year days ≡ from_month 11 year 1 days
unfolding from_year
from_year_here zero year days h = refl
from_year_here (suc more) year days h = rw (lt-ltb days (days_in_year (pos year)) h, from_year) refl

-- the days of the year before a month are those before the month before, and that month's
whole_month : (year month m d : ℕ) → 1 ≤ month → month < m → 1 ≤ d → days_of_months (pos year) (month - 1) + days_in_month (pos year) month + 1 ≤ day_of_year (pos year) m d
whole_month year month m d low before first =
    omega (arith, days_of_months_more (pos year) month low, days_of_months_mono (pos year) month (m - 1) (omega arith))

from_month_last : (more year m d days : ℕ) → d ≤ days_in_month (pos year) m → days + 1 ≡ d → from_month more year m days ≡ record { year = year; month = m; day = d }
from_month_last more year m d days last e =
    from_month_here more year m days (omega arith) ∙ ap (λ (x : ℕ). let r : CivilDate = record { year = year; month = m; day = x } in r) e

-- counted from a month that begins before the day, the day is found
from_month-is : (more year month m d days : ℕ) → 1 ≤ month → month ≤ m → m ≤ month + more → 1 ≤ d → d ≤ days_in_month (pos year) m → days + days_of_months (pos year) (month - 1) + 1 ≡ day_of_year (pos year) m d → from_month more year month days ≡ record { year = year; month = m; day = d }
from_month-is zero year month m d days low within enough first last e =
    let same : month ≡ m = omega arith in
    rw same (from_month_last zero year m d days last (let f = rw same at e in omega arith))
from_month-is (suc more) year month m d days low within enough first last e =
    elim (cases_order month m) [
      | inl same ↦ rw same (from_month_last (suc more) year m d days last (let f = rw same at e in omega arith))
      | inr (inl before) ↦
          let whole = whole_month year month m d low before first in
          let back : month + 1 - 1 ≡ month = omega arith in
          let more_days = days_of_months_more (pos year) month low in
          from_month_later more year month days (omega arith)
          ∙ from_month-is more year (month + 1) m d (days - days_in_month (pos year) month) (omega arith) (omega arith) (omega arith) first last (rw back (omega arith))
      | inr (inr after) ↦ absurd (omega arith)
    ]

from_year_last : (more year m d days : ℕ) → IsCivilDate (pos year) m d → days + day_count (pos year) 1 1 ≡ day_count (pos year) m d → from_year more year days ≡ record { year = year; month = m; day = d }
from_year_last more year m d days is e =
    let place = day_count-day_of_year (pos year) m d is.2.0 in
    let bound = day_of_year_bound (pos year) m d is in
    let none = days_of_months-zero (pos year) in
    from_year_here more year days (omega arith)
    ∙ from_month-is 11 year 1 m d days (omega arith) is.1.0 (omega (arith, is.1.1)) is.2.0 is.2.1 (omega arith)

-- a date of a later year lies past all days of this one
whole_year : (year y m d : ℕ) → year < y → IsCivilDate (pos y) m d → (day_count (pos year) 1 1 + days_in_year (pos year) ≤ day_count (pos y) m d) × (365 ≤ days_in_year (pos year))
whole_year year y m d before is =
    let later = day_count-later_year (pos year) (pos y) (omega (arith, signed_arith)) (omega (arith, signed_arith)) in
    let place = day_count-day_of_year (pos y) m d is.2.0 in
    let long = days_in_year_bounds (pos year) in
    let day : 1 ≤ day_of_year (pos y) m d = omega (arith, is.2.0) in
    (omega arith, omega arith)

-- counted from a year that begins before the day, the year is found
from_year-is : (more year y m d days : ℕ) → year ≤ y → days ≤ more → IsCivilDate (pos y) m d → days + day_count (pos year) 1 1 ≡ day_count (pos y) m d → from_year more year days ≡ record { year = y; month = m; day = d }
from_year-is zero year y m d days within enough is e =
    elim (cases_order year y) [
      | inl same ↦ rw same (from_year_last zero y m d days is (rw same at e))
      | inr (inl before) ↦ absurd (let whole = whole_year year y m d before is in omega arith)
      | inr (inr after) ↦ absurd (omega arith)
    ]
from_year-is (suc more) year y m d days within enough is e =
    elim (cases_order year y) [
      | inl same ↦ rw same (from_year_last (suc more) y m d days is (rw same at e))
      | inr (inl before) ↦
          let whole = whole_year year y m d before is in
          let long = days_in_year_bounds (pos year) in
          let next = day_count-next_year (pos year) (pos (year + 1)) (omega (arith, signed_arith)) (omega (arith, signed_arith)) in
          from_year_later more year days (omega arith)
          ∙ from_year-is more (year + 1) y m d (days - days_in_year (pos year)) (omega arith) (omega arith) is (omega arith)
      | inr (inr after) ↦ absurd (omega arith)
    ]

pub civil_date-is : (days : ℕ) (d : Date) → epoch_day d ≡ pos days → IsDateOf (civil_date days) d
unfolding civil_date
civil_date-is days d e =
    let count = days_from_civil-day_count d.year d.month d.day in
    let counted : day_count d.year d.month d.day ≡ days + 4_371_953 = omega (arith, signed_arith, rw e at count) in
    let late : pos 1970 ≤ℤ d.year = by_lt_z d.year (pos 1970)
    (λ lt. absurd (let early = day_count-lt_year d.year d.month d.day (pos 1970) 1 1 (civil d) (omega arith) lt in omega (arith, day_count-epoch)))
    (λ le. le) in
    let y = unsigned_abs d.year in
    let same : d.year ≡ pos y = omega (arith, signed_arith, unsigned_abs-parts d.year, one_part d.year) in
    let found = from_year-is days 1970 y d.month d.day days (omega (arith, signed_arith)) (omega arith) (rw same at (civil d)) (rw (← same) (omega (arith, day_count-epoch))) in
    (same ∙ ap (λ (r : CivilDate). pos r.year) (sym found), ap (λ (r : CivilDate). r.month) (sym found), ap (λ (r : CivilDate). r.day) (sym found))
