-- The names of an array's elements.
use Rattle.std.specs.Prelude.{ℕ, suc, zero, ◌++◌, Bool, true, ◌&&◌, List, length, nat_le, codes}
use Rattle.std.specs.Fmt.{decimal}
use Rattle.std.specs.List.{list_all}
use Rattle.arith_syntax.specs.Tree.{begins_name, is_word}

-- whether a text is a name of arithmetic: a letter or `_`, then letters, digits and `_`, at most 255
abbrev pub is_name : List ℕ → Bool
is_name name = begins_name name && list_all is_word name && nat_le (length name) 255

-- the name of element k: NAME_k
abbrev pub element : List ℕ → ℕ → List ℕ
element name k = name ++ codes "_" ++ decimal k

-- the name of the last of n elements is one, if there are any
abbrev pub is_last_name : List ℕ → ℕ → Bool
is_last_name name zero = true
is_last_name name (suc k) = is_name (element name k)

-- an array of n elements may have this name
abbrev pub is_array_name : List ℕ → ℕ → Bool
is_array_name name n = is_name name && is_last_name name n
