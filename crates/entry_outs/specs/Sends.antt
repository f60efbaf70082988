-- What messages and settles send.
use Rattle.std.specs.Prelude.{ℕ, List, ◌++◌, Option}
use Rattle.cluster_types.specs.declared.config.Channel.{Channel}
use Rattle.cluster_types.specs.declared.message.Message.{Message}
use Rattle.cluster_types.specs.declared.event.Event.{Event}
use Rattle.cluster_types.specs.declared.out.Out.{Out}
use Rattle.cluster_types.specs.declared.entry.Entry.TheVariants.{Settle}
use Rattle.cluster_types.specs.declared.verdict.Verdict.{Verdict}
use Rattle.cluster_types.specs.declared.verdict.Cause.{Cause}
use Rattle.std.specs.Prelude.{None}
use Rattle.cluster_defs.specs.Texts.{submit_refused}
use Rattle.cluster_defs.specs.Words.{Id}
use Rattle.cluster_defs.specs.declared.answer.Answer.{Answer}
use Rattle.cluster_defs.specs.Facts.{Facts}
use Rattle.cluster_defs.specs.Steps.{step}
use Rattle.cluster_defs.specs.Acceptance.{Demand, acceptance}
use Rattle.cluster_defs.specs.Outcomes.{outcome}
use Rattle.cluster_defs.specs.Queries.{answer_type, answer_event, demand_answer}
use Rattle.cluster_defs.specs.Outs.{answer_out, repeated, repeat_out, pass_to, owner_conn}
use Rattle.entry_outs.specs.declared.answers.Slip.{Slip}

-- an answer that goes as a slip says
abbrev pub slip_out : Slip → (msg_type header : List ℕ) → Option Answer → List Out
slip_out slip = answer_out slip.opens slip.place slip.conn slip.moment

-- a message of a type with a meaning: its answer, and the outcome that it asks for again
abbrev pub event_sends : Slip → Facts → Channel → Message → Event → List Out
event_sends slip f channel message event =
    slip_out slip (answer_type channel message event) message.header (answer_event f slip.conn channel message event)
    ++ repeated f slip.conn message event

-- a request for a task: its refusal, or the outcome where it comes again
abbrev pub demand_sends : Slip → Facts → Demand → Message → List Out
demand_sends slip f d message =
    slip_out slip submit_refused message.header (demand_answer d.submission.id message.target (acceptance f d message))
    ++ repeat_out f slip.conn d.submission.id (acceptance f d message)

-- a settle: the outcome, to the owner
abbrev pub settle_sends : Facts → Id → Verdict → Cause → List Out
settle_sends f id verdict cause = pass_to (owner_conn f (f.request_of id)) (outcome (step f (Settle id verdict cause) None) id)
