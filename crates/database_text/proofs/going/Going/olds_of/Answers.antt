use Rattle.std.proofs.Common.{◌∙◌, not, bytes_eq, ap}
use Rattle.std.specs.List.{list_any}
use Rattle.database_text.specs.Going.{gone_by}
use Rattle.database_text.proofs.Holding.{olds_more}
use Rattle.database_text.proofs.going.Going.olds_of.Goals as goal

pub loop-copy-preserved : goal.loop-copy-preserved
loop-copy-preserved c = λ q.
    let gone = gone_by c.args.self.now in
    ap (list_any (λ d. bytes_eq d.now q)) c.in_ok-push_if.ensures
    ∙ olds_more gone c.args.copies.now c.loop-copy.copy-index c.copy-item.result q c.loop-copy.olds.items c.old.result (not c.lets_go.result) c.loop-copy-test.true c.copy-item.is c.old.ensures
    (ap not (c.lets_go.ensures ∙ ap gone c.new_id.ensures)) (c.loop-copy.invariant q)
