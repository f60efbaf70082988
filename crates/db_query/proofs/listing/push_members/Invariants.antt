use Rattle.std.proofs.Common.{◌≡◌, ◌++◌, map, take, string_bytes}
use Rattle.cluster_defs.specs.Texts.{parted}
use Rattle.cluster_defs.specs.FilterContents.{field_member}
use Rattle.db_query.proofs.listing.push_members.Given as goal

abbrev pub invariant-loop-place : goal.invariant-loop-place
invariant-loop-place l = string_bytes l.text ≡ string_bytes l.fn.text ++ parted (map (field_member l.task) (take l.place l.keys))
