use Rattle.std.proofs.Common.{◌≡◌, false, sym, ap, ◌∙◌}
use Rattle.std.specs.Option.{option_copied}
use Rattle.cluster_defs.specs.declared.acceptance.Acceptance.TheVariants.{Again}
use Rattle.cluster_state.specs.Stands.{plain}
use Rattle.cluster_state.proofs.Accepting.{accepting_known, accepting_new}
use Rattle.cluster_state.proofs.state.State.acceptance.Goals as goal

pub returns-in-Some-2 : goal.returns-in-Some-2
returns-in-Some-2 c =
    let unpurged : c.in-Some.task.now.row.purged ≡ false = sym (ap (λ r. r.purged) c.row.ensures) ∙ c.if-row.false in
    ap Again c.is_same.ensures
    ∙ sym (accepting_known (plain c.args.self.now) (record { direct = c.args.direct; submission = c.args.submission.now }) c.args.message.now c.in-Some.task.now
    (sym c.is_reserved.ensures ∙ c.if-is_reserved.false) (sym c.find.ensures ∙ ap option_copied c.in-Some.is) unpurged)

pub returns-in-None : goal.returns-in-None
returns-in-None c =
    c.acceptance_new.ensures c.args.submission.now
    ∙ sym (accepting_new (plain c.args.self.now) (record { direct = c.args.direct; submission = c.args.submission.now }) c.args.message.now
    (sym c.is_reserved.ensures ∙ c.if-is_reserved.false) (sym c.find.ensures ∙ ap option_copied c.in-None.is))
