-- The value that one with a borrowed text is.
use Rattle.cluster_defs.specs.declared.filter.Scalar.{Scalar}
use Rattle.cluster_defs.specs.declared.filter.Scalar.TheVariants.{Null, Text, Number}
use Rattle.db_query.specs.declared.shown.Shown.{Shown}
use Rattle.db_query.specs.declared.shown.Shown.TheVariants.{Null as NullShown, Text as TextShown, Number as NumberShown}

abbrev pub shown_as : Shown → Scalar
shown_as NullShown = Null
shown_as (TextShown text) = Text text.now
shown_as (NumberShown number) = Number number
