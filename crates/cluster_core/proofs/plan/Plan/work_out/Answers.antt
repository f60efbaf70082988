use Rattle.std.proofs.Common.{◌∙◌, ap, reverse}
use Rattle.cluster_state.specs.Stands.{plain}
use Rattle.cluster_core.specs.Steps.{stops_after}
use Rattle.cluster_core.proofs.Goes.{begun_rests}
use Rattle.cluster_core.proofs.Growing.{plain_time}
use Rattle.cluster_core.proofs.plan.Plan.work_out.Goals as goal

pub begin-requires-clause-next : goal.begin-requires-clause-next
begin-requires-clause-next g c = record {
  history = reverse c.args.history.now;
  legal = (c.requires.allowed, c.requires.stands.legal);
  is = c.requires.stands.data_are;
}

pub begin-requires-clause-now : goal.begin-requires-clause-now
begin-requires-clause-now g c = plain_time (reverse c.args.history.now) (plain c.args.known.state) c.args.known.place c.requires.stands

pub decide-requires : goal.decide-requires
decide-requires g c =
    let e = c.in_ok-plan.ensures in
    begun_rests (reverse c.args.history.now) (plain c.args.known.state) c.args.known.place c.in_ok-plan.plan c.args.input c.args.meaning.now.event c.requires.stands e.input (record {
      allowed = c.requires.allowed;
      time = c.requires.time;
      event_is = c.requires.event;
      alone = e.decisions;
      place = e.place;
      plain = e.«data»;
      outs = e.outs;
      kept = e.kept;
      stops = e.stops ∙ ap (λ was. stops_after was c.args.input c.args.meaning.now.event) c.requires.stopping;
    })
