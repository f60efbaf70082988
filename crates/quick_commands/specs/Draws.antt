-- Numbers that are drawn from a seed.
use Rattle.std.specs.Prelude.{ℕ, zero, suc, ◌+◌, ◌*◌, ◌%◌, ◌^◌}

-- the number that is drawn after another
unfoldable pub next_draw : ℕ → ℕ
next_draw x = (1103515245 * x + 12345) % 2 ^ 31

-- x(k), where x(0) is the seed
abbrev pub draw : ℕ → ℕ → ℕ
draw seed zero = seed
draw seed (suc k) = next_draw (draw seed k)
