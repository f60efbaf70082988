-- Commands (RFC 23, Commands and The NULL mechanism): a name behind its length, then data. The data of READY is
-- metadata: properties, each a name behind its length in one octet and a value behind its length in four. Names are
-- compared without regard to ASCII case.
use Rattle.std.specs.Prelude.{◌≡◌, ℕ, zero, suc, ◌<◌, ◌^◌, nat_le, ◌==◌, List, [], ◌∷◌, ◌++◌, length, codes, bytes_eq, Option, Some, None, Result, Ok, Err, Bool, false, ◌||◌, if◌then◌else◌, option_map}
use Rattle.std.specs.Option.{option_and_then}
use Rattle.std.specs.List.{list_any, find}
use Rattle.std.specs.Str.{str_to_ascii_lowercase}
use Rattle.edges.specs.Reading.{Read, str8_at, blob_at, ◌>>=◌}
use Rattle.zmtp_frames.specs.declared.command.Command.{Command}
use Rattle.zmtp_frames.specs.declared.command.Command.TheVariants.{Ready, Error, Other}
use Rattle.zmtp_frames.specs.declared.command.Props.{Props}
use Rattle.zmtp_frames.specs.declared.command.CommandError.{CommandError}
use Rattle.zmtp_frames.specs.declared.command.CommandError.TheVariants.{OutOfMemory, BadCommand}
use Rattle.zmtp_frames.specs.declared.metadata.Property.{Property}

-- what stands at the front, if anything does
abbrev pub read_off : {A : Type 0} → Read A → Option (A × List ℕ)
read_off (Ok x) = Some x
read_off (Err stop) = None

abbrev pub same_name : List ℕ → List ℕ → Bool
same_name a b = bytes_eq (str_to_ascii_lowercase a) (str_to_ascii_lowercase b)

-- a property at the front
unfoldable pub property_at : List ℕ → Read Property
property_at octets = do
  name ← str8_at octets
  value ← blob_at name.1
  Ok (record { name = name.0; value = value.0 }, value.1)

-- the first property of this name
abbrev pub property_named : List ℕ → List Property → Option Property
property_named name list = find (λ p. same_name name p.name) list

-- these properties and one more, whose name has an octet at least and didn't come before
abbrev pub with_property : List Property → Property → Option (List Property)
with_property list p =
    if length p.name == 0 || list_any (λ q. same_name p.name q.name) list then None
    else Some (list ++ p ∷ [])

-- these properties with the one at the front of the octets, and the octets after it
abbrev pub metadata_step : List Property → List ℕ → Option (List Property × List ℕ)
metadata_step list octets =
    option_and_then (λ p. option_map (λ more. (more, p.1)) (with_property list p.0)) (read_off (property_at octets))

-- these properties and those of the octets, which are at most so many
abbrev pub metadata_from : ℕ → List Property → List ℕ → Option (List Property)
metadata_from n list [] = Some list
metadata_from zero list (x ∷ xs) = None
metadata_from (suc n) list (x ∷ xs) = option_and_then (λ s. metadata_from n s.0 s.1) (metadata_step list (x ∷ xs))

-- the properties that octets are: no more than there are octets
abbrev pub metadata : List ℕ → Option (List Property)
metadata octets = metadata_from (length octets) [] octets

-- properties that may stand behind others: each has a name of 1 to 255 octets that didn't come before, and a value whose
-- length has four octets
abbrev pub MayStand : List Property → List Property → Type 0
MayStand before [] = Unit {0}
MayStand before (p ∷ list) =
    (0 < length p.name) × (length p.name < 256) × (length p.value < 2 ^ 32) × (list_any (λ q. same_name p.name q.name) before ≡ false)
    × MayStand (before ++ p ∷ []) list

-- an identity may be absent, and has at most 255 octets
abbrev pub identity_of : Option Property → Option (Option (List ℕ))
identity_of None = Some None
identity_of (Some p) = if nat_le (length p.value) 255 then Some (Some p.value) else None

abbrev pub props_with : Property → Option (List ℕ) → Props
props_with p identity = record { socket_type = p.value; identity = identity }

-- what READY says: a socket type, and maybe an identity
abbrev pub props_of : List Property → Option Props
props_of list =
    option_and_then (λ p. option_map (props_with p) (identity_of (property_named (codes "Identity") list))) (property_named (codes "Socket-Type") list)

abbrev pub ready_of : List ℕ → Option Props
ready_of octets = option_and_then props_of (metadata octets)

-- the reason of an ERROR, behind its length
abbrev pub error_of : List ℕ → Option (List ℕ)
error_of octets = option_map (λ x. x.0) (read_off (str8_at octets))

-- what the command of this name says with these data
abbrev pub command_named : List ℕ → List ℕ → Option Command
command_named name rest =
    if length name == 0 then None
    else if same_name name (codes "READY") then option_map Ready (ready_of rest)
    else if same_name name (codes "ERROR") then option_map Error (error_of rest)
    else Some Other

-- the command that a body is, or None where it is faulty
abbrev pub command_of : List ℕ → Option Command
command_of body = option_and_then (λ x. command_named x.0 x.1) (read_off (str8_at body))

-- an error says that nothing is read, unless memory ran out
abbrev pub Refuses : {A : Type 0} → CommandError → Option A → Type 0
Refuses OutOfMemory read = Unit {0}
Refuses BadCommand read = read ≡ None

-- what a function returned, seen by `view`, is what is read, unless memory ran out
abbrev pub Gives : {X Y : Type 0} → (X → Y) → Result X CommandError → Option Y → Type 0
Gives view (Ok x) read = read ≡ Some (view x)
Gives view (Err e) read = Refuses e read

-- these lower-case names are those of the properties
abbrev pub AreNamesOf : List (List ℕ) → List Property → Type 0
AreNamesOf names list = (q : List ℕ) → list_any (bytes_eq q) names ≡ list_any (λ p. bytes_eq q (str_to_ascii_lowercase p.name)) list
