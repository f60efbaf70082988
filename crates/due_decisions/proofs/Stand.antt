-- Data that stand for a history are its data.
use Rattle.std.proofs.Common.{◌≡◌, ap, ◌∙◌}
use Rattle.cluster_defs.specs.Facts.{Facts}
use Rattle.cluster_defs.specs.Histories.{History, facts}
use Rattle.cluster_defs.specs.Scheduling.{due}
use Rattle.cluster_state.specs.declared.state.State.{State}
use Rattle.cluster_state.specs.Plain.{plain_of}
use Rattle.cluster_state.specs.Stands.{Stands, plain, Knows}
use Rattle.due_decisions.specs.Table.{due_in}
use Rattle.due_decisions.proofs.Whole.{due_same}

plain_is : (s : State) (f : Facts) → Stands s f → plain s ≡ plain_of f
plain_is s f st = λ i. record {
  begun = st.begun i;
  opens = st.opens i;
  scheme = st.scheme i;
  hwm = st.hwm i;
  misses = st.misses i;
  now = st.now i;
  moment = st.moment i;
  word = st.word i;
  beats = st.beats i;
  connections = st.connections i;
  engines = record { live = st.engines i; next = st.next_engine i };
  by_use = st.by_use i;
  tasks = st.tasks i;
}

-- what the data say is due, is due after each history that they stand for
pub due_known : (s : State) (h : History) → Knows s h → due_in (plain s) ≡ due (facts h)
due_known s h knows = ap due_in (plain_is s (facts h) knows.1) ∙ due_same h knows.0
