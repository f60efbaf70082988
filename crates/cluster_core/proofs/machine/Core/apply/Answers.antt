use Rattle.std.proofs.Common.{◌∙◌, sym, ap, reverse, length, arith}
use Rattle.cluster_types.specs.declared.entry.Entry.TheVariants.{Input}
use Rattle.cluster_state.specs.Plain.{Plain}
use Rattle.cluster_state.specs.Stands.{plain}
use Rattle.cluster_core.specs.declared.size.HistorySize.{HistorySize}
use Rattle.cluster_core.specs.Steps.{IsReadOff, planned}
use Rattle.cluster_core.specs.Size.{size_since}
use Rattle.cluster_core.specs.Growth.{size_next, sizes_next}
use Rattle.cluster_core.proofs.Sizes.{planned_size}
use Rattle.cluster_core.proofs.Plans.{applied_in, room_in, only_some}
use Rattle.cluster_core.proofs.machine.Core.apply.Goals as goal

pub add_step-requires : goal.add_step-requires
add_step-requires c =
    let room = room_in c.args.self.now c.args.plan _ _ c.self.view_is c.plan.view_is c.requires in
    omega (arith, room)

pub invariant_of-self : goal.invariant_of-self
invariant_of-self c =
    let a = applied_in c.args.self.now c.args.plan _ _ (reverse c.add_step.new.entries.items) c.self.view_is c.plan.view_is c.requires c.add_step.ensures in (
      record {
        legal = a.stands.legal;
        rests = a.rests;
        time = a.stands.time;
        live_is = c.live-self-inside.ensures ∙ ap (λ (p : Plain). length p.connections) a.stands.data_are;
        stops_is = a.stops;
        size_is = c.size_behind-self-inside.ensures
            ∙ ap (λ (s : HistorySize). sizes_next (size_next s (Input c.args.plan.input)) c.args.plan.decisions) c.self.invariant.0.size_is
            ∙ planned_size (reverse c.self.inside.entries.items) c.args.plan
            ∙ ap size_since (ap (planned (reverse c.self.inside.entries.items)) (sym c.plan.view_is) ∙ sym c.add_step.ensures);
      },
      only_some (λ k. IsReadOff (reverse c.add_step.new.entries.items) (plain k.state) k.place) c.plan.inside.known a.stands,
    )

pub returns-clause-history : goal.returns-clause-history
returns-clause-history c =
    (applied_in c.args.self.now c.args.plan _ _ (reverse c.add_step.new.entries.items) c.self.view_is c.plan.view_is c.requires c.add_step.ensures).history

pub returns-clause-outs : goal.returns-clause-outs
returns-clause-outs c =
    c.from_vec.ensures ∙ (applied_in c.args.self.now c.args.plan _ _ (reverse c.add_step.new.entries.items) c.self.view_is c.plan.view_is c.requires c.add_step.ensures).outs

pub returns-clause-kept : goal.returns-clause-kept
returns-clause-kept c =
    c.from_vec-2.ensures ∙ (applied_in c.args.self.now c.args.plan _ _ (reverse c.add_step.new.entries.items) c.self.view_is c.plan.view_is c.requires c.add_step.ensures).kept
