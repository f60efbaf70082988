use Rattle.std.proofs.Common.{◌≡◌, drop}
use Rattle.tape_drive.specs.Places.{place_from}
use Rattle.tape_drive.proofs.links.place_of.Given as goal

abbrev pub invariant-loop-place : goal.invariant-loop-place
invariant-loop-place l = place_from l.place l.conn (drop l.place l.links) ≡ place_from 0 l.conn l.links
