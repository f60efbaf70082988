use Rattle.std.proofs.Common.{◌≡◌, length, drop, refl, sym, ap, ◌∙◌, arith, length-append}
use Rattle.std.proofs.lemmas.List.{drop_at}
use Rattle.record_codec.proofs.Takes.{entry_takes}
use Rattle.task_journal.specs.Versions.{entry_in}
use Rattle.task_journal.proofs.window.front_record.Goals as goal

pub returns-then-not-knows-clause-value : goal.returns-then-not-knows-clause-value
unfolding entry_in
returns-then-not-knows-clause-value c = let other = sym c.knows.ensures ∙ c.if-not-knows.true in rw (c.in_ok-entry.ensures, other) refl

pub returns-clause-value : goal.returns-clause-value
unfolding entry_in
returns-clause-value c =
    let t = entry_takes c.args.octets.now c.in_ok-entry.entry c.in_ok-entry.rest.now (λ i. omega (arith, c.type_inv.octets i)) c.in_ok-entry.ensures in
    let long : length t.0 ≡ c.saturating_sub.result = omega (arith, ap length t.1, length-append t.0 c.in_ok-entry.rest.now) in
    let rest : drop c.saturating_sub.result c.args.octets.now ≡ c.in_ok-entry.rest.now = ap (drop c.saturating_sub.result) t.1 ∙ drop_at t.0 c.in_ok-entry.rest.now c.saturating_sub.result long in
    let known = sym c.knows.ensures ∙ c.if-not-knows.false in
    rw (c.in_ok-entry.ensures, known, rest) refl

pub returns-clause-has : goal.returns-clause-has
returns-clause-has c = let t = entry_takes c.args.octets.now c.in_ok-entry.entry c.in_ok-entry.rest.now (λ i. omega (arith, c.type_inv.octets i)) c.in_ok-entry.ensures in t.2.1
