use Rattle.std.proofs.Common.{◌≡◌, ◌+◌, min, drop, refl, sym, ap, ◌∙◌, arith, ℕ, List}
use Rattle.task_journal.specs.declared.gate.GateState.TheVariants.{Open}
use Rattle.task_journal.specs.Window.{span}
use Rattle.task_journal.specs.Journal.{gate_in, found_from}
use Rattle.task_journal.specs.Cursor.{batch_then}
use Rattle.task_journal.proofs.Gates.{step_past, step_closed, step_short, step_open, open_fits, gate_read, drop_saturated}
use Rattle.task_journal.proofs.cursor.open_gate.Goals as goal

pub returns-then-size-gate-clause-value : goal.returns-then-size-gate-clause-value
returns-then-size-gate-clause-value g c = λ told version. step_past version c.args.size c.args.gate (g.D.Disk.content c.args.disk.now) (c.requires told) (omega arith)

pub returns-in-Closed-clause-value : goal.returns-in-Closed-clause-value
returns-in-Closed-clause-value g c = λ told version.
    let disk = g.D.Disk.content c.args.disk.now in
    let octets = rw c.restart.ensures at (c.in_ok-read_more.ensures.octets told) in
    let gate : gate_in (drop c.args.gate disk) ≡ c.gate_at.result = sym (gate_read c.args.size c.args.gate c.min.result disk c.octets.result.now (c.requires told) c.min.ensures (c.octets.ensures ∙ octets)) ∙ sym c.gate_at.ensures in
    (omega arith, step_closed version c.args.size c.args.gate disk (c.requires told) (omega arith) (gate ∙ c.in-Closed.is))

pub returns-in-Short-clause-value : goal.returns-in-Short-clause-value
returns-in-Short-clause-value g c = λ told version.
    let disk = g.D.Disk.content c.args.disk.now in
    let octets = rw c.restart.ensures at (c.in_ok-read_more.ensures.octets told) in
    let gate : gate_in (drop c.args.gate disk) ≡ c.gate_at.result = sym (gate_read c.args.size c.args.gate c.min.result disk c.octets.result.now (c.requires told) c.min.ensures (c.octets.ensures ∙ octets)) ∙ sym c.gate_at.ensures in
    step_short version c.args.size c.args.gate disk (c.requires told) (omega arith) (gate ∙ c.in-Short.is)

pub returns-in-Open-clause-value : goal.returns-in-Open-clause-value
returns-in-Open-clause-value g c = λ told version.
    let disk = g.D.Disk.content c.args.disk.now in
    let is = c.requires told in
    let octets = rw c.restart.ensures at (c.in_ok-read_more.ensures.octets told) in
    let gate : gate_in (drop c.args.gate disk) ≡ Open c.in-Open.len c.in-Open.count = sym (gate_read c.args.size c.args.gate c.min.result disk c.octets.result.now is c.min.ensures (c.octets.ensures ∙ octets)) ∙ sym c.gate_at.ensures ∙ c.in-Open.is in
    let fits = open_fits version c.args.size c.args.gate disk is (omega arith) c.in-Open.len c.in-Open.count gate in
    let from : c.saturating_add-from.result ≡ c.args.gate + 10 = omega (arith, c.saturating_add-from.ensures, fits, c.ranges.size) in
    let end : c.min-in-Open.result ≡ min (c.args.gate + 10 + c.in-Open.len) c.args.size = omega (arith, c.min-in-Open.ensures, c.saturating_add-next.ensures, c.from.ensures, from, c.ranges.size) in
    let whole = step_open version c.args.size c.args.gate disk is (omega arith) c.in-Open.len c.in-Open.count c.min-in-Open.result gate end in
    let next : drop c.saturating_add-next.result disk ≡ drop (c.args.gate + 10 + c.in-Open.len) disk =
    ap (λ (n : ℕ). drop n disk) (c.saturating_add-next.ensures ∙ sums _ _ _ _ 18446744073709551615 from c.from.ensures) ∙ drop_saturated (c.args.gate + 10 + c.in-Open.len) 18446744073709551615 disk (omega (arith, c.ranges.size, is)) in (
      omega (arith, from, end, fits),
      omega (arith, end),
      whole ∙ ap (λ (z : List ℕ). batch_then version c.in-Open.count (span (c.args.gate + 10) c.min-in-Open.result disk) c.min-in-Open.result (found_from version c.args.size 0 z)) (sym next)
          ∙ ap (λ (n : ℕ). batch_then version c.in-Open.count (span n c.min-in-Open.result disk) c.min-in-Open.result (found_from version c.args.size 0 (drop c.saturating_add-next.result disk))) (sym from),
    )
  where
    sums : (a b m n last : ℕ) → a ≡ b → m ≡ n → min (a + m) last ≡ min (b + n) last
    sums a b m n last e f = rw (e, f) refl
