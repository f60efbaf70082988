use Rattle.std.proofs.Common.{List, ℕ, ◌∙◌, subst}
use Rattle.std.specs.Prelude.{OnOk}
use Rattle.link_commands.specs.Asking.{request_octets}
use Rattle.link_commands.proofs.AskingPieces.{written_front}
use Rattle.link_commands.proofs.asking.write_request.Goals as goal
use Rattle.edges.specs.Streams.{Added}
use Rattle.link_messages.proofs.Fronts.{front_none}
use Rattle.cluster_types.proofs.Options.{at_err}

pub returns-in_err-octets-clause-err : goal.returns-in_err-octets-clause-err
returns-in_err-octets-clause-err g c = at_err _ (front_none _ _)

pub returns-clause-ok : goal.returns-clause-ok
returns-clause-ok g c =
    subst (λ (xs : List ℕ). OnOk c.write.result (Added xs (g.K.Sink.written c.args.writer.now) (g.K.Sink.written c.write.new.writer))) (c.as_slice.ensures.value ∙ c.in_ok-octets.ensures) c.write.ensures.ok

pub returns-clause-err : goal.returns-clause-err
returns-clause-err g c =
    written_front c.write.result c.as_slice.result.now (request_octets c.args.key.now c.args.request.now) (g.K.Sink.written c.args.writer.now) (g.K.Sink.written c.write.new.writer) (c.as_slice.ensures.value ∙ c.in_ok-octets.ensures) c.write.ensures.err
