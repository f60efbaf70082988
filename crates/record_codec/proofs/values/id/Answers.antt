use Rattle.std.proofs.Common.{◌≡◌, Bool, true, false, refl}
use Rattle.std.specs.Str.{is_utf8}
use Rattle.std.proofs.lemmas.Str.{IsUtf8-from_is_utf8, is_utf8-from_IsUtf8}
use Rattle.record_codec.specs.Reading.{id_at}
use Rattle.record_codec.proofs.values.id.Goals as goal

is_false : (b : Bool) → (b ≡ true → ⊥) → b ≡ false
is_false true h = absurd (h refl)
is_false false h = refl

pub returns-in-Err : goal.returns-in-Err
unfolding id_at
returns-in-Err c =
    let not_text : is_utf8 c.in_ok-name.name.now ≡ false = is_false _ (λ t. c.in-Err.ensures.cases.0 (IsUtf8-from_is_utf8 c.in_ok-name.name.now t)) in
    rw (c.in_ok-name.ensures, not_text) refl

pub returns-in_ok-new-in-Ok : goal.returns-in_ok-new-in-Ok
unfolding id_at
returns-in_ok-new-in-Ok c =
    let text : is_utf8 c.in_ok-name.name.now ≡ true = is_utf8-from_IsUtf8 c.in_ok-name.name.now c.in-Ok.ensures.cases.1 in
    rw (c.in_ok-name.ensures, text, c.in_ok-new-in-Ok.ensures, c.in-Ok.ensures.cases.0) refl
