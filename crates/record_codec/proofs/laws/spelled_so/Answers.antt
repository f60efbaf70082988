use Rattle.std.proofs.Common.{List, ℕ, ◌++◌, ap, ◌∙◌}
use Rattle.record_codec.proofs.Takes.{entry_takes}
use Rattle.record_codec.proofs.laws.spelled_so.Goals as goal

pub returns : goal.returns
returns c = λ octets e rest bytes read. let t = entry_takes octets e rest bytes read in (t.1 ∙ ap (λ (z : List ℕ). z ++ rest) t.2.0, t.2.1)
