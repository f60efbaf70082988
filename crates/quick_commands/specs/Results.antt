-- The results that a client is sent.
use Rattle.std.specs.Prelude.{◌≡◌, ◌⊎◌, ℕ, ℤ, pos, ◌+ℤ◌, ◌==◌, Bool, true, false, List, Option, Some, None, codes, option_and_then, FitsSigned}
use Rattle.std.specs.Int.{w64, int_wrap}
use Rattle.std.specs.Str.Parse.{IsNumeral, without_leading_sign, signed_digits_value}
use Rattle.serde_json.specs.Find.{get, as_str}
use Rattle.cluster_types.specs.declared.out.Out.{Out}
use Rattle.cluster_types.specs.declared.out.Out.TheVariants.{Pass, Made}
use Rattle.cluster_defs.specs.Outs.{conn_of}
use Rattle.cluster_defs.specs.Json.{json_of}

abbrev pub content_of : Out → List ℕ
content_of (Pass conn message) = message.content
content_of (Made conn moment msg_id msg_type parent content buffers) = content

-- the text that is the member `result` of a content
abbrev pub result_text : List ℕ → Option (List ℕ)
result_text content = option_and_then as_str (option_and_then (get (codes "result")) (json_of content))

-- a text writes an integer of 64 bits: digits behind a sign or none
abbrev pub Writes : List ℕ → ℤ → Type 0
Writes text value = (IsNumeral 10 (without_leading_sign text) × FitsSigned w64 (signed_digits_value 10 text)) × (value ≡ signed_digits_value 10 text)

-- the integer that a text writes, or 0 where it writes none
abbrev pub IsInteger : Option (List ℕ) → ℤ → Type 0
IsInteger None value = value ≡ pos 0
IsInteger (Some text) value = Writes text value ⊎ (((written : ℤ) → Writes text written → ⊥) × (value ≡ pos 0))

-- the client's connection
abbrev pub is_to_client : Out → Bool
is_to_client out = conn_of out == 5

abbrev pub IsAddedAs : Bool → List ℕ → ℤ → ℤ → Type 0
IsAddedAs false content sum later = later ≡ sum
IsAddedAs true content sum later = (value : ℤ) × IsInteger (result_text content) value × (later ≡ int_wrap w64 (sum +ℤ value))

-- the result in what the client is sent is added to a sum, which wraps; nothing else is
abbrev pub IsAdded : Out → ℤ → ℤ → Type 0
IsAdded out sum later = IsAddedAs (is_to_client out) (content_of out) sum later
