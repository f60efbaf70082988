use Rattle.std.proofs.Common.{◌≡◌, ◌++◌, map, take, string_bytes}
use Rattle.json.specs.Print.{quoted}
use Rattle.cluster_defs.specs.Texts.{parted}
use Rattle.jupyter_header.proofs.contents.push_ids.Given as goal

abbrev pub invariant-loop-place : goal.invariant-loop-place
invariant-loop-place l = string_bytes l.text ≡ string_bytes l.fn.text ++ parted (map quoted (take l.place l.ids))
