use Rattle.std.proofs.Common.{◌≡◌}
use Rattle.std.specs.Prelude.{string_bytes}
use Rattle.array_maps.specs.Codes.{settings}
use Rattle.array_maps.proofs.texts.settings.Given as goal

abbrev pub invariant-loop-i : goal.invariant-loop-i
invariant-loop-i l = string_bytes l.text ≡ settings l.name l.values l.start l.i
