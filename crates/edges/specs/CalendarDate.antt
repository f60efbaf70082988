-- Dates of the calendar crate.
use Rattle.std.specs.Prelude.{◌≡◌, pos}
use Rattle.jiff_core.specs.declared.civil.date.Date.{Date}
use Rattle.edges.specs.Date.{CivilDate}

-- the calendar crate's date is this one
abbrev pub IsDateOf : CivilDate → Date → Type 0
IsDateOf date d = (d.year ≡ pos date.year) × (d.month ≡ date.month) × (d.day ≡ date.day)
