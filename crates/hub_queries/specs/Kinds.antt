-- Which records a reply lists.
use Rattle.std.specs.Prelude.{Bool, not}
use Rattle.cluster_types.specs.declared.record.Record.{Record}
use Rattle.cluster_defs.specs.RecordAnswers.{waits_in}
use Rattle.hub_queries.specs.declared.scan.ListedKind.{ListedKind}
use Rattle.hub_queries.specs.declared.scan.ListedKind.TheVariants.{Kept, Waiting}

abbrev pub is_kind : ListedKind → Record → Bool
is_kind Kept r = not r.purged
is_kind Waiting r = waits_in r
