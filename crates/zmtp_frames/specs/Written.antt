-- What is written: of the two forms of a size, the short one where it holds the size.
use Rattle.std.specs.Prelude.{ℕ, ◌+◌, nat_le, List, [], ◌∷◌, ◌++◌, length, codes, Bool, if◌then◌else◌}
use Rattle.zmtp_frames.specs.declared.metadata.Property.{Property}
use Rattle.edges.specs.Spelling.{be64, str8, blob}

-- flags and a size, with the flag that says which form the size has
abbrev pub sized_head : ℕ → ℕ → List ℕ
sized_head flags size = if nat_le size 255 then flags ∷ size ∷ [] else (flags + 2) ∷ be64 size

-- a body behind its flags and its size
abbrev pub sized_body : ℕ → List ℕ → List ℕ
sized_body flags body = sized_head flags (length body) ++ body

abbrev pub more_flag : Bool → ℕ
more_flag more = if more then 1 else 0

-- a frame of a message
abbrev pub written : Bool → List ℕ → List ℕ
written more body = sized_body (more_flag more) body

-- a command
abbrev pub written_command : List ℕ → List ℕ
written_command body = sized_body 4 body

-- a property of READY
abbrev pub written_property : List ℕ → List ℕ → List ℕ
written_property name value = str8 name ++ blob value

abbrev pub written_properties : List Property → List ℕ
written_properties [] = []
written_properties (p ∷ list) = written_property p.name p.value ++ written_properties list

-- the READY of a ROUTER
abbrev pub own_ready : List ℕ
own_ready = written_command (str8 (codes "READY") ++ written_property (codes "Socket-Type") (codes "ROUTER"))

-- an ERROR
abbrev pub written_error : List ℕ → List ℕ
written_error reason = written_command (str8 (codes "ERROR") ++ str8 reason)
