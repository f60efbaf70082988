use Rattle.std.proofs.Common.{◌≡◌, false, take}
use Rattle.std.specs.List.{list_any}
use Rattle.signed_links.specs.Signing.{is_signed}
use Rattle.signed_links.proofs.signing.has_signed.Given as goal

-- none so far is signed
abbrev pub invariant-loop-frames : goal.invariant-loop-frames
invariant-loop-frames l = list_any (is_signed l.key) (take l.frames-index l.messages) ≡ false
