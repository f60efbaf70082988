-- How many octets numbers take.
use Rattle.std.proofs.Common.{◌≡◌, ℕ, length, refl}
use Rattle.edges.specs.Spelling.{be64}

pub be64_width : (n : ℕ) → length (be64 n) ≡ 8
unfolding be64
be64_width n = refl
