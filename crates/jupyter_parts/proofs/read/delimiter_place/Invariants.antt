use Rattle.std.proofs.Common.{◌≡◌, ◌++◌, take, drop}
use Rattle.jupyter_parts.specs.Signed.{behind, identities}
use Rattle.jupyter_parts.proofs.read.delimiter_place.Given as goal

abbrev pub invariant-loop-place : goal.invariant-loop-place
invariant-loop-place l = record {
  rest : behind l.frames ≡ behind (drop l.place l.frames);
  front : identities l.frames ≡ take l.place l.frames ++ identities (drop l.place l.frames);
}
