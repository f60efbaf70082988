use Rattle.std.proofs.Common.{◌≡◌, ◌∙◌, ◌<◌, ◌^◌, ℕ, length, sym, ap, subst}
use Rattle.cluster_defs.specs.Histories.{History}
use Rattle.cluster_defs.specs.Lives.{sendings_to}
use Rattle.cluster_core.specs.declared.size.HistorySize.{HistorySize}
use Rattle.tape_drive.proofs.Quiet.{opened_quiet}
use Rattle.tape_drive.proofs.drive.Drive.begin.Goals as goal

pub invariant_of-result : goal.invariant_of-result
invariant_of-result g c =
    let opened = c.in-Ok.ensures.history in
    record {
      told_all = λ x. c.in-Ok.ensures.fresh.0 x ∙ sym (ap length (ap (λ (h : History). sendings_to h x) opened.is ∙ opened_quiet c.args.config 0 _ x));
      safe = λ fine. c.in-Ok.ensures.mark;
      short = subst (λ (l : HistorySize). l.bytes < 2 ^ 32) (sym c.in-Ok.ensures.limits) c.requires;
    }
