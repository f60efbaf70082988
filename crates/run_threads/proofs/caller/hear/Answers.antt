use Rattle.std.proofs.Common.{sym, subst}
use Rattle.array_maps.specs.Gathering.{Gathering}
use Rattle.run_threads.specs.Answering.{AreAnswered}
use Rattle.run_threads.specs.Waiting.{IsCounted}
use Rattle.run_threads.proofs.Gathering.{gathers, counts}
use Rattle.run_threads.proofs.caller.hear.Goals as goal

pub returns-clause-counted : goal.returns-clause-counted
returns-clause-counted g c =
    subst (λ (x : Gathering). IsCounted x c.args.awaited.now.total) (sym c.in_ok-take.ensures.gathered)
    (counts c.args.awaited.now.gathered c.args.awaited.now.total c.args.message.now c.in_ok-take.field-0 c.requires.counted)

pub returns-clause-gathered : goal.returns-clause-gathered
returns-clause-gathered g c h are passed =
    subst (AreAnswered h) (sym c.in_ok-take.ensures.gathered)
    (gathers h c.args.awaited.now.gathered c.args.awaited.now.client.used c.args.message.now c.in_ok-take.field-0 are passed c.in_ok-take.ensures.took)
