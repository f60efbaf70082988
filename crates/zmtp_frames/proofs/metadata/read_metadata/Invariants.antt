use Rattle.std.proofs.Common.{◌≡◌, ◌-◌}
use Rattle.zmtp_frames.specs.Command.{AreNamesOf, metadata_from, metadata}
use Rattle.zmtp_frames.proofs.metadata.read_metadata.Given as goal

-- what is left, behind the properties so far, gives what all octets give
abbrev pub invariant-loop : goal.invariant-loop
invariant-loop l = record {
  names : AreNamesOf l.names l.list;
  going : metadata_from (l.end - l.counter) l.list l.rest ≡ metadata l.octets;
}
