-- The greatest of some numbers, where one more comes.
use Rattle.std.specs.Prelude.{ℕ, max, Option, Some, None}

abbrev pub greater : Option ℕ → ℕ → Option ℕ
greater None number = Some number
greater (Some best) number = Some (max best number)
