use Rattle.std.proofs.Common.{◌≡◌, take}
use Rattle.array_maps.specs.Gathering.{plain_submissions}
use Rattle.array_maps.proofs.sending.plain_submissions.Given as goal

abbrev pub invariant-loop-code : goal.invariant-loop-code
invariant-loop-code l = l.submissions ≡ plain_submissions (take l.code-index l.codes)
