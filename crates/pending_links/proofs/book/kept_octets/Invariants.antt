use Rattle.std.proofs.Common.{◌≡◌, ◌-◌, ◌^◌, min, take}
use Rattle.pending_links.specs.Pending.{kept_octets}
use Rattle.pending_links.proofs.book.kept_octets.Given as goal

abbrev pub invariant-loop-link : goal.invariant-loop-link
invariant-loop-link l = l.octets ≡ min (kept_octets (take l.link-index l.links)) (2 ^ 64 - 1)
