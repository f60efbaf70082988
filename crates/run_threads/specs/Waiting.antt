-- What the caller of a run waits for.
use Rattle.std.specs.Prelude.{◌≡◌, ℕ, length}
use Rattle.array_maps.specs.Gathering.{Gathering}

-- so many codes are waited for, under the numbers from 0 on
pub record IsCounted (g : Gathering) (total : ℕ) : Type 0 where
  pub first : g.first ≡ 0
  pub all : length g.answers ≡ total
