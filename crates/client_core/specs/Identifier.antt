-- The id of a request: a UUID of version 4 (RFC 9562, section 5.4).
use Rattle.std.specs.Prelude.{ℕ, List}
use Rattle.uuid.specs.Parts.{with_version, with_variant}
use Rattle.uuid.specs.Text.{lower, hyphenated_text}
use Rattle.uuid.specs.declared.Version.TheVariants.{Random}
use Rattle.uuid.specs.declared.Variant.TheVariants.{RFC4122}

-- sixteen random octets, with the version 4 in the four high bits of octet 6, and the variant, binary 10, in the two high bits of octet 8
abbrev pub version_4 : List ℕ → List ℕ
version_4 random = with_version (with_variant random RFC4122) Random

-- its text of 8, 4, 4, 4 and 12 hexadecimal digits in lower case, with hyphens between them
unfoldable pub client_id : List ℕ → List ℕ
client_id random = hyphenated_text lower (version_4 random)
