use Rattle.std.proofs.Common.{subst, ◌≡◌, List, ℕ, true}
use Rattle.std.specs.Str.{is_utf8}
use Rattle.std.proofs.lemmas.Str.{is_utf8-from_IsUtf8}
use Rattle.record_codec.proofs.writing.text_of.Goals as goal

pub returns-clause-utf8 : goal.returns-clause-utf8
returns-clause-utf8 c = subst (λ (text : List ℕ). is_utf8 text ≡ true) c.as_str.ensures (is_utf8-from_IsUtf8 c.as_str.result.now c.as_str.utf8)
