-- HMAC-SHA256: RFC 2104, section 2, over the hash function of FIPS 180-4, whose blocks have 64 octets.
use Rattle.std.specs.Prelude.{ℕ, ◌-◌, List, ◌++◌, length, map, replicate, bit_xor, nat_le, if◌then◌else◌}
use Rattle.sha2.specs.Sha256.{sha256}
use Rattle.hex.specs.Hex.{encode_lower}

-- zeros are appended up to a block
abbrev pub filled : List ℕ → List ℕ
filled octets = octets ++ replicate (64 - length octets) 0

-- the key as a block: one that is longer than a block is hashed first
abbrev pub key_block : List ℕ → List ℕ
key_block key = if nat_le (length key) 64 then filled key else filled (sha256 key)

-- K XOR pad, octet by octet
abbrev pub with_pad : ℕ → List ℕ → List ℕ
with_pad pad key = map (λ b. bit_xor b pad) (key_block key)

-- H(K XOR opad, H(K XOR ipad, text))
unfoldable pub hmac : List ℕ → List ℕ → List ℕ
hmac key text = sha256 (with_pad 0x5c key ++ sha256 (with_pad 0x36 key ++ text))

-- a tag is the HMAC in lower-case hexadecimal digits
abbrev pub tag_of : List ℕ → List ℕ → List ℕ
tag_of key text = encode_lower (hmac key text)
