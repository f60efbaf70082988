-- Dates that are known.
use Rattle.std.proofs.Common.{◌≡◌, refl}
use Rattle.std.specs.Prelude.{codes}
use Rattle.edges.specs.Date.{from_month, from_year, civil_date, digits, day_text, time_text, date_of}

pub first : date_of 0 ≡ codes "1970-01-01T00:00:00.000Z"
unfolding from_month from_year civil_date digits day_text time_text date_of
first = refl

pub in_2023 : date_of 1_700_000_000_000 ≡ codes "2023-11-14T22:13:20.000Z"
unfolding from_month from_year civil_date digits day_text time_text date_of
in_2023 = refl

pub leap_day : date_of 951_782_400_000 ≡ codes "2000-02-29T00:00:00.000Z"
unfolding from_month from_year civil_date digits day_text time_text date_of
leap_day = refl

pub before_2000 : date_of 946_684_799_999 ≡ codes "1999-12-31T23:59:59.999Z"
unfolding from_month from_year civil_date digits day_text time_text date_of
before_2000 = refl

pub last : date_of 253_402_300_799_999 ≡ codes "9999-12-31T23:59:59.999Z"
unfolding from_month from_year civil_date digits day_text time_text date_of
last = refl
