-- What a content answers.
use Rattle.std.specs.Prelude.{ℕ, ℤ, ◌^◌, Bool, false, ◌&&◌, nat_lt, if◌then◌else◌, List, [], Option, Some, None, bytes_eq, codes, option_and_then}
use Rattle.std.specs.Fmt.{signed_decimal}
use Rattle.std.specs.Int.Signed.{mag}
use Rattle.std.specs.Result.{result_ok}
use Rattle.std.specs.Str.Parse.{signed_digits_value}
use Rattle.serde_json.specs.Data.{Data}
use Rattle.serde_json.specs.Find.{get, as_str}
use Rattle.cluster_defs.specs.Fields.{text_from}
use Rattle.cluster_defs.specs.Json.{read_object}
use Rattle.client_core.specs.declared.answered.Answered.{Answered}
use Rattle.client_core.specs.declared.answered.Answered.TheVariants.{Value, Failed}

-- whether this is the decimal text of a number of 64 bits, which is from -2^63 to 2^63-1
abbrev pub is_text_of : List ℕ → ℤ → Bool
is_text_of text number = nat_lt (mag number) (2 ^ 63) && bytes_eq text (signed_decimal number)

-- the number of 64 bits whose decimal text this is
abbrev pub number_in : List ℕ → Option ℤ
number_in text = if is_text_of text (signed_digits_value 10 text) then Some (signed_digits_value 10 text) else None

abbrev pub is_ok : Option (List ℕ) → Bool
is_ok None = false
is_ok (Some word) = bytes_eq word (codes "ok")

-- whether the status is `ok`
abbrev pub says_ok : Data → Bool
says_ok value = is_ok (option_and_then as_str (get (codes "status") value))

-- the number that is the result, where the status is `ok`
abbrev pub result_in : Data → Option ℤ
result_in value = if says_ok value then option_and_then number_in (option_and_then as_str (get (codes "result") value)) else None

-- the number, or else the error's name and what it is about
abbrev pub answered_by : Option ℤ → List ℕ → List ℕ → Answered
answered_by (Some number) ename evalue = Value number
answered_by None ename evalue = Failed ename evalue

abbrev pub answered_in : Option Data → Answered
answered_in (Some value) = answered_by (result_in value) (text_from (get (codes "ename") value)) (text_from (get (codes "evalue") value))
answered_in None = Failed [] []

-- what a content answers: the number that is its result where its status is `ok`, else its error, with empty texts for those that aren't there
unfoldable pub answered : List ℕ → Answered
answered content = answered_in (result_ok (read_object content))
