use Rattle.std.proofs.Common.{◌≡◌, ◌++◌, map, take, string_bytes}
use Rattle.cluster_defs.specs.Texts.{parted}
use Rattle.engine_core.specs.Contents.{shown_member}
use Rattle.engine_core.proofs.contents.push_all.Given as goal

abbrev pub invariant-loop-place : goal.invariant-loop-place
invariant-loop-place l = string_bytes l.text ≡ string_bytes l.fn.text ++ parted (map shown_member (take l.place l.shown))
