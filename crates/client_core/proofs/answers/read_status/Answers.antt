use Rattle.std.proofs.Common.{rules, ◌≡◌, ◌⊎◌, Err, inl, inr, ⊎_elim}
use Rattle.cluster_defs.specs.declared.fault.ReadError.{ReadError}
use Rattle.cluster_defs.specs.Reply.{read_status}
use Rattle.client_core.proofs.Parts.{no_status}
use Rattle.client_core.proofs.answers.read_status.Goals as goal

pub returns-in_err-reply-clause-err : goal.returns-in_err-reply-clause-err
returns-in_err-reply-clause-err c =
    let e = c.in_err-reply.field-0.0 in
    let faults : (e ≡ ReadError.OutOfMemory) ⊎ (read_status c.args.content.now ≡ Err e) = ⊎_elim (λ h. inl h) (λ h. inr (no_status c.args.content.now e h)) c.in_err-reply.ensures.err in
    let same = c.from_residual.ensures in
    search (rules, faults, same)
