-- The codes that set names, and that read them.
use Rattle.std.specs.Prelude.{ℕ, ℤ, pos, negsuc, ◌==◌, ◌++◌, List, length, map, codes, get_or, if◌then◌else◌}
use Rattle.std.specs.Fmt.{signed_decimal}
use Rattle.std.specs.List.{join_by, range_with_len}
use Rattle.array_maps.specs.Blocks.{block_start, block_length}
use Rattle.array_maps.specs.Names.{element}

-- a number as an expression: its decimal text, and -2^63, whose digits are no constant, as a difference
abbrev pub number_text : ℤ → List ℕ
number_text (pos n) = signed_decimal (pos n)
number_text (negsuc n) = if n == 9223372036854775807 then codes "-9223372036854775807-1" else signed_decimal (negsuc n)

-- a name gets a number
abbrev pub setting : List ℕ → ℤ → List ℕ
setting name value = name ++ codes "=" ++ number_text value

-- `x` gets a value, and the body follows
abbrev pub map_code : List ℕ → ℤ → List ℕ
map_code body value = setting (codes "x") value ++ codes ";" ++ body

-- a code for each value
abbrev pub map_codes : List ℕ → List ℤ → List (List ℕ)
map_codes body values = map (map_code body) values

-- element k gets value k
abbrev pub element_setting : List ℕ → List ℤ → ℕ → List ℕ
element_setting name values k = setting (element name k) (get_or values k (pos 0))

-- these many elements from one on get their values, one after another
abbrev pub settings : List ℕ → List ℤ → ℕ → ℕ → List ℕ
settings name values start count = join_by (element_setting name values) (codes ";") (range_with_len start count)

-- the elements of a part's block get their values
abbrev pub scatter_code : List ℕ → List ℤ → ℕ → ℕ → List ℕ
scatter_code name values parts part = settings name values (block_start (length values) parts part) (block_length (length values) parts part)

-- a code for each part
abbrev pub scatter_codes : List ℕ → List ℤ → ℕ → List (List ℕ)
scatter_codes name values parts = map (scatter_code name values parts) (range_with_len 0 parts)

-- a code for each element, which reads it
abbrev pub gather_codes : List ℕ → ℕ → List (List ℕ)
gather_codes name n = map (element name) (range_with_len 0 n)
