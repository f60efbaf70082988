use Rattle.std.proofs.Common.{ap, ◌∙◌, reverse, arith, List, ◌++◌}
use Rattle.cluster_types.specs.declared.entry.Entry.{Entry}
use Rattle.cluster_types.specs.declared.entry.Entry.TheVariants.{Input}
use Rattle.cluster_core.proofs.Plans.{reverse_added}
use Rattle.cluster_core.proofs.machine.add_step.Goals as goal

pub returns : goal.returns
returns c =
    let ok = c.append.ensures.succeeds (omega (arith, c.requires, c.push_reserved.ensures.len, c.push_reserved.ensures.capacity)) in
    let items = rw ok at c.append.ensures.items in
    ap reverse items ∙ ap (λ (xs : List Entry). reverse (xs ++ c.args.decisions.items)) c.push_reserved.ensures.items
    ∙ reverse_added c.args.entries.now.items c.args.decisions.items (Input c.args.input)
