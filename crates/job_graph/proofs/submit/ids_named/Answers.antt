use Rattle.std.proofs.Common.{sym}
use Rattle.job_graph.specs.Held.{id_named}
use Rattle.job_graph.proofs.Submitted.{named_more}
use Rattle.job_graph.proofs.submit.ids_named.Goals as goal

pub loop-name-preserved : goal.loop-name-preserved
loop-name-preserved c =
    named_more (id_named c.args.tasks.now c.args.ids.now) c.args.names.now c.as_slice-name-items.result.now c.loop-name.name-index c.name-item.result c.loop-name.found c.push_some.new.ids _ c.as_slice-name-items.ensures
    c.loop-name-test.true (sym c.name-item.is) c.id_named.ensures c.loop-name.invariant c.in_ok-push_some.ensures
