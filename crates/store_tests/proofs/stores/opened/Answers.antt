use Rattle.std.proofs.Common.{◌≡◌, ◌∙◌, length, sym, ap}
use Rattle.cluster_defs.specs.Histories.{History}
use Rattle.cluster_defs.specs.Lives.{sendings_to}
use Rattle.tape_drive.proofs.Quiet.{opened_quiet}
use Rattle.store_tests.proofs.stores.opened.Goals as goal

pub returns-in-Ok : goal.returns-in-Ok
returns-in-Ok g c =
    let opened = c.in-Ok.ensures.history in
    record { calm = λ x. c.in-Ok.ensures.fresh.0 x ∙ sym (ap length (ap (λ (h : History). sendings_to h x) opened.is ∙ opened_quiet c.args.config 0 _ x)) }
