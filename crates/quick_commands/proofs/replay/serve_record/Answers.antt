use Rattle.std.proofs.Common.{◌≡◌, ◌∙◌, ◌++◌, ◌∷◌, [], List, ℕ, sym, ap, subst}
use Rattle.edges.specs.Streams.{AddedFront}
use Rattle.tape.specs.Spelling.{all_spelled}
use Rattle.tape_drive.specs.Drive.{Stand, outs}
use Rattle.quick_commands.specs.Replays.{IsServed}
use Rattle.quick_commands.proofs.ServedRecords.{one_whole, one_cut}
use Rattle.quick_commands.proofs.replay.serve_record.Goals as goal
use Rattle.tape_drive.proofs.Way.{holds_more}

pub returns-in-Ok-clause-served : goal.returns-in-Ok-clause-served
returns-in-Ok-clause-served g c =
    let text : c.as_slice.result.now ≡ all_spelled (outs c.args.key.now c.args.drive.now.stand c.args.item.now) =
    c.as_slice.ensures.value ∙ c.in-Ok.ensures.octets ∙ ap (λ (xs : List ℕ). xs ++ all_spelled (outs c.args.key.now c.args.drive.now.stand c.args.item.now)) c.clear.ensures.items in
    subst (λ (s : Stand). IsServed c.args.key.now c.args.drive.now.stand (c.args.item.now ∷ []) (g.K.Sink.written c.args.output.now) (g.K.Sink.written c.put.new.output) s.history) (sym c.in-Ok.ensures.stand)
    (one_whole c.args.key.now c.args.drive.now.stand c.args.item.now (g.K.Sink.written c.args.output.now) (g.K.Sink.written c.put.new.output)
    (subst (λ (xs : List ℕ). AddedFront xs (g.K.Sink.written c.args.output.now) (g.K.Sink.written c.put.new.output)) text c.put.ensures.front))

pub returns-in-Err-DiskFault-clause-left : goal.returns-in-Err-DiskFault-clause-left
returns-in-Err-DiskFault-clause-left g c =
    λ tells is x now.
    holds_more x (λ h way. one_cut c.args.key.now c.args.drive.now.stand c.args.item.now (g.K.Sink.written c.args.output.now) h way) ((c.serve.ensures.any_moment tells c.requires.working).left is x now)
