use Rattle.std.proofs.Common.{None, Some, ⊎_elim, inl, inr}
use Rattle.link_commands.proofs.Ends.{served, rose_above}
use Rattle.link_commands.proofs.engine.run_engine.Goals as goal

pub returns-in-Ended : goal.returns-in-Ended
returns-in-Ended g c =
    let w = c.serve_engine-end.ensures.ended c.in-Ended.is in
    (c.in-Pair.ensures.channel, served _ c.args.key.now c.args.uuid.now None _ _ _ _ _ _ (c.in-Pair.ensures.accepts, c.in-Pair.ensures.fresh) c.in-Ok.ensures.ok w.0, w.1)

pub returns-in-ZmtpFault : goal.returns-in-ZmtpFault
returns-in-ZmtpFault g c =
    let w = c.serve_engine-end.ensures.fault c.in-ZmtpFault.fault c.in-ZmtpFault.is in
    (c.in-Pair.ensures.channel, served _ c.args.key.now c.args.uuid.now (Some c.in-ZmtpFault.fault) _ _ _ _ _ _ (c.in-Pair.ensures.accepts, c.in-Pair.ensures.fresh) c.in-Ok.ensures.ok w)

pub returns-in-LinkFault : goal.returns-in-LinkFault
returns-in-LinkFault g c =
    (c.in-Pair.ensures.channel, ⊎_elim (λ rose. inl (rose_above _ _ c.in-Pair.ensures.fresh.0 rose)) (λ rose. inr (rose_above _ _ c.in-Pair.ensures.fresh.1 rose)) (c.serve_engine-end.ensures.cause c.in-LinkFault.is))
