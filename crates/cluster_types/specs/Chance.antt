-- Random words, one after another.
use Rattle.std.specs.Prelude.{ℕ, ◌+◌, ◌*◌, ◌%◌}

-- the word after a word: Knuth's MMIX generator, modulo 2 ^ 64
unfoldable pub next_word : ℕ → ℕ
next_word word = (word * 6364136223846793005 + 1442695040888963407) % 18446744073709551616
