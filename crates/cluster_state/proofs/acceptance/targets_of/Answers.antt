use Rattle.std.proofs.Common.{◌≡◌, ◌++◌, [], ◌∷◌, take, if◌then◌else◌, sym, ap, ◌∙◌}
use Rattle.cluster_defs.specs.Words.{is_listed}
use Rattle.cluster_defs.specs.Requests.{targets_of}
use Rattle.cluster_state.proofs.Targets.{none_where_empty, one_more}
use Rattle.cluster_state.proofs.acceptance.targets_of.Goals as goal

pub returns-then-is_empty : goal.returns-then-is_empty
returns-then-is_empty c = c.new-targets.ensures ∙ none_where_empty c.args.live.now c.args.uuids.now (sym c.is_empty.ensures ∙ c.if-is_empty.true)

pub loop-engine-preserved : goal.loop-engine-preserved
loop-engine-preserved c =
    let live = c.args.live.now in
    let uuids = c.args.uuids.now in
    let at = c.loop-engine.engine-index in
    let e = c.engine-item.result in
    let test : c.is_in.result ≡ is_listed e.uuid uuids = c.is_in.ensures ∙ c.in_ok-listed.ensures e.uuid in
    c.in_ok-push_if.ensures
    ∙ ap (λ front. front ++ (if c.is_in.result then e.number ∷ [] else [])) c.loop-engine.invariant
    ∙ ap (λ b. targets_of (take at live) uuids ++ (if b then e.number ∷ [] else [])) test
    ∙ sym (one_more live uuids at e c.loop-engine-test.true c.engine-item.is)
