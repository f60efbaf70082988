-- One more member of an object, whose members are parted by commas.
use Rattle.std.proofs.Common.{◌≡◌, ◌<◌, ◌≤◌, ◌+◌, ◌==◌, ℕ, suc, List, [], ◌∷◌, ◌++◌, length, take, map, get_or, false, arith, sym, ap, ◌∙◌, append_assoc, append-nil, length-take-le}
use Rattle.std.proofs.lemmas.List.{take_more, map-append, length-map}
use Rattle.std.proofs.lemmas.List.Concat.{flat_map-append}
use Rattle.std.specs.List.{flat_map}
use Rattle.cluster_defs.specs.Texts.{parted}
use Rattle.jupyter_header.specs.Comma.{comma}
use Rattle.jupyter_header.proofs.Commas.{parted_more}
