-- The greeting (RFC 23, Greeting): a signature of ff, eight octets of padding and 7f; the version, major and minor;
-- 20 octets of mechanism; as-server; and a filler of 31 octets.
use Rattle.std.specs.Prelude.{ℕ, zero, suc, nat_lt, ◌==◌, List, [], ◌∷◌, ◌++◌, take, drop, codes, slice_index, Option, Some, if◌then◌else◌, option_map}
use Rattle.zmtp_frames.specs.declared.fault.FrameFault.{FrameFault}
use Rattle.zmtp_frames.specs.declared.fault.FrameFault.TheVariants.{BadSignature, BadVersion, BadMechanism}
use Rattle.edges.specs.Difference.{difference}

abbrev pub zeros : ℕ → List ℕ
zeros zero = []
zeros (suc n) = 0 ∷ zeros n

abbrev pub null_mechanism : List ℕ
null_mechanism = codes "NULL" ++ zeros 16

-- the first fault of 64 octets as a greeting
abbrev pub greeting_fault : List ℕ → Option FrameFault
greeting_fault octets =
    if slice_index octets 0 == 255 then
    if slice_index octets 9 == 127 then
    if nat_lt (slice_index octets 10) 3 then Some (BadVersion 10)
    else option_map BadMechanism (difference 12 null_mechanism (take 20 (drop 12 octets)))
    else Some (BadSignature 9)
    else Some (BadSignature 0)

-- the greeting that is written: version 3.0, and zeros wherever a reader looks at nothing
abbrev pub own_greeting : List ℕ
own_greeting = 255 ∷ (zeros 8 ++ 127 ∷ 3 ∷ 0 ∷ (null_mechanism ++ zeros 32))
