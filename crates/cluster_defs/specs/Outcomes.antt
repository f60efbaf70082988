-- The message that answers a task once it is settled, and the message that hands it out.
use Rattle.std.specs.Prelude.{ℕ, suc, [], Option, bytes_eq, option_map}
use Rattle.std.specs.List.{position_or_len}
use Rattle.std.specs.Option.{option_and_then}
use Rattle.cluster_types.specs.Verdicts.{cause_ename, cause_value}
use Rattle.cluster_types.specs.declared.message.Message.{Message}
use Rattle.cluster_types.specs.declared.verdict.Cause.{Cause}
use Rattle.cluster_types.specs.declared.verdict.Cause.TheVariants.{Reply}
use Rattle.edges.specs.Date.{date_of}
use Rattle.cluster_defs.specs.Texts.{made_header, reply_type, outcome_id, empty_object, outcome_content}
use Rattle.cluster_defs.specs.Words.{Id}
use Rattle.cluster_defs.specs.declared.settled.Settled.{Settled}
use Rattle.cluster_defs.specs.Requests.{Request, Body}
use Rattle.cluster_defs.specs.Facts.{Facts}

-- the number of a known id, from 1
abbrev pub number_of : Facts → Id → ℕ
number_of f id = suc (position_or_len (λ i. bytes_eq i id) f.known)

-- HAND-OUTS

-- a request is handed out as it came, without identity frames; one that was resubmitted has a header of its own
abbrev pub handed_message : Request → Body → Message
handed_message r b = record { target = []; header = r.header; parent = r.parent; metadata = r.metadata; content = b.content; buffers = b.buffers }

abbrev pub handed_with : Request → Option Body → Option Message
handed_with r = option_map (handed_message r)

abbrev pub hand_out : Facts → Id → Option Message
hand_out f id = option_and_then (λ r. handed_with r (f.body_of id)) (f.request_of id)

-- OUTCOMES

-- the outcome that the controller makes: its parent is the header of the request as it was handed out
abbrev pub made_outcome : ℕ → Settled → Request → Message
made_outcome number s r = record {
  target = [];
  header = made_header (outcome_id number) (reply_type r.msg_type) (date_of s.moment);
  parent = r.header;
  metadata = empty_object;
  content = outcome_content (cause_ename s.cause) (cause_value s.cause s.engine);
  buffers = [];
}

-- with the cause Reply the valid reply that ended the last attempt, as it came; else a message that the controller makes
abbrev pub outcome_by : Facts → Id → Settled → Cause → Option Message
outcome_by f id s Reply = f.reply_of id
outcome_by f id s _ = option_map (made_outcome (number_of f id) s) (f.request_of id)

-- the outcome of a settled id
abbrev pub outcome : Facts → Id → Option Message
outcome f id = option_and_then (λ s. outcome_by f id s s.cause) (f.settled id)
