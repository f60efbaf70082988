use Rattle.std.proofs.Common.{◌≡◌, Bool, true, false, refl, sym, ◌∙◌, ap}
use Rattle.std.specs.Str.{is_utf8}
use Rattle.std.proofs.lemmas.Str.{IsUtf8-from_is_utf8, is_utf8-from_IsUtf8}
use Rattle.serde_json.specs.Read.{read}
use Rattle.quick_commands.proofs.results.json_of.Goals as goal

is_false : (b : Bool) → (b ≡ true → ⊥) → b ≡ false
is_false true h = absurd (h refl)
is_false false h = refl

pub returns-in_default : goal.returns-in_default
returns-in_default c =
    let not_text : is_utf8 c.args.octets.now ≡ false = is_false _ (λ t. c.in_default.ensures.cases.0 (IsUtf8-from_is_utf8 c.args.octets.now t)) in
    rw not_text refl

pub returns-in-Ok-from_str : goal.returns-in-Ok-from_str
returns-in-Ok-from_str c =
    let text : is_utf8 c.args.octets.now ≡ true = is_utf8-from_IsUtf8 c.args.octets.now c.in-Ok.ensures.cases.1 in
    rw text (sym (ap read (sym c.in-Ok.ensures.cases.0) ∙ c.in-Ok-from_str.ensures.ok))
