-- The data stand for a history: they hold all that is read off it.
use Rattle.std.specs.Prelude.{◌≡◌}
use Rattle.cluster_defs.specs.Facts.{Facts}
use Rattle.cluster_defs.specs.Histories.{History, facts, Legal}
use Rattle.cluster_state.specs.declared.state.State.{State}
use Rattle.cluster_state.specs.Plain.{Plain, tasks_of}

pub record Stands (s : State) (f : Facts) : Type 0 where
  pub begun : s.begun ≡ f.begun
  pub opens : s.opens ≡ f.opens
  pub scheme : s.scheme ≡ f.scheme
  pub hwm : s.hwm ≡ f.hwm
  pub misses : s.misses ≡ f.misses
  pub now : s.clock ≡ f.now
  pub moment : s.moment ≡ f.moment
  pub word : s.word ≡ f.word
  pub beats : s.beats ≡ f.beats
  pub connections : s.connections.items ≡ f.connections
  pub engines : s.engines ≡ f.engines.live
  pub next_engine : s.next_engine ≡ f.engines.next
  pub by_use : s.by_use.items ≡ f.by_use
  pub tasks : s.tasks ≡ tasks_of f

-- the data as lists
abbrev pub plain : State → Plain
plain s = record {
  begun = s.begun;
  opens = s.opens;
  scheme = s.scheme;
  hwm = s.hwm;
  misses = s.misses;
  now = s.clock;
  moment = s.moment;
  word = s.word;
  beats = s.beats;
  connections = s.connections.items;
  engines = record { live = s.engines; next = s.next_engine };
  by_use = s.by_use.items;
  tasks = s.tasks;
}

-- the data stand for a legal history
abbrev pub Knows : State → History → Type 0
Knows s history = Legal history × Stands s (facts history)
