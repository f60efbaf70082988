-- A connection that is taken down.
use Rattle.std.proofs.Common.{◌≡◌, ℕ, ◌==◌, List, [], ◌∷◌, ◌++◌, Bool, true, false, not, cond, Option, None, Result, Ok, Err, refl, sym, ap, ◌∙◌, subst}
use Rattle.std.specs.Prelude.{option_map}
use Rattle.std.specs.List.{list_any}
use Rattle.std.specs.Option.{is_some}
use Rattle.cluster_types.specs.declared.entry.Input.TheVariants.{Down}
use Rattle.cluster_types.specs.declared.entry.Entry.{Entry}
use Rattle.cluster_types.specs.declared.entry.Entry.TheVariants.{Input, Hand, Settle, Lose}
use Rattle.cluster_defs.specs.declared.connection.Connection.{Connection}
use Rattle.cluster_defs.specs.Connections.{connection_on, without_connection}
use Rattle.cluster_defs.specs.Histories.{History, facts}
use Rattle.cluster_store.specs.Stores.{StoreView, is_live}
use Rattle.history_lock.specs.declared.known.View.{View}
use Rattle.controller_desk.specs.declared.fault.ActError.{ActError}
use Rattle.controller_desk.specs.Calls.{is_input, HasStepped, HasClosed}
use Rattle.controller_desk.specs.Turns.{InTurn}
use Rattle.session_threads.specs.Passes.{AddsBehind}
use Rattle.session_threads.specs.Reading.{IsDown, TakesDown}
use Rattle.session_threads.proofs.Turns.{entries_of, turn_adds, turn_list, step_inputs, stay_adds}
use Rattle.session_threads.proofs.Entering.{refused_adds}

-- decisions leave the connections as they are
same_connections : (ds : List Entry) (h : History) → list_any is_input ds ≡ false → (facts (ds ++ h)).connections ≡ (facts h).connections
same_connections [] h off = refl
same_connections (Input input ∷ ds) h off = cc
same_connections (Hand id n ∷ ds) h off = same_connections ds h off
same_connections (Settle id v c ∷ ds) h off = same_connections ds h off
same_connections (Lose n ∷ ds) h off = same_connections ds h off

none_on : (live : List Connection) (conn : ℕ) → connection_on (without_connection conn live) conn ≡ None
none_on [] conn = refl
none_on (c ∷ live) conn =
    elim (c.number == conn) as (λ b. (c.number == conn) ≡ b → connection_on (cond (not b) (c ∷ without_connection conn live) (without_connection conn live)) conn ≡ None) [
      | true ↦ λ is. none_on live conn
      | false ↦ λ is. rw is (none_on live conn)
    ] refl

not_live : (h : History) (conn : ℕ) → connection_on (facts h).connections conn ≡ None → is_live h conn ≡ false
not_live h conn is = ap (λ (o : Option Connection). is_some (option_map (λ (c : Connection). c.channel) o)) is

down_gone : {D : Type 0} (before after : StoreView D) (conn moment word : ℕ) → HasStepped before (Down conn moment word) after → is_live after.history conn ≡ false
down_gone before after conn moment word s =
    let same = same_connections s.decisions (Input (Down conn moment word) ∷ before.history) s.no_inputs in
    ap (λ (h : History). is_live h conn) s.list
    ∙ not_live (s.decisions ++ Input (Down conn moment word) ∷ before.history) conn (ap (λ (live : List Connection). connection_on live conn) same ∙ none_on (facts before.history).connections conn)

still : {D : Type 0} (before after : StoreView D) (conn : ℕ) → after ≡ before → is_live before.history conn ≡ false → is_live after.history conn ≡ false
still before after conn same off = ap (λ (v : StoreView _). is_live v.history conn) same ∙ off

closed_gone : {D : Type 0} (before after : StoreView D) (conn moment word : ℕ) (b : Bool) → HasClosed before moment word conn (Ok b) after → is_live after.history conn ≡ false
closed_gone before after conn moment word true c = down_gone before after conn moment word c.1
closed_gone before after conn moment word false c = still before after conn c.1 c.0

-- the connection isn't live, by what a pass has seen
pub turn_gone : {D : Type 0} (faults : D → ℕ) (u w : View) (before after : StoreView D) (conn : ℕ) → InTurn faults u before after w → is_live after.history conn ≡ false → is_live w.seen.list conn ≡ false
turn_gone faults u w before after conn t off = ap (λ (h : History). is_live h conn) (turn_list faults u w before after t) ∙ off

pub taken_gone : {D : Type 0} (faults : D → ℕ) (u w : View) (before after : StoreView D) (conn moment word : ℕ) (b : Bool) → InTurn faults u before after w → HasClosed before moment word conn (Ok b) after → is_live w.seen.list conn ≡ false
taken_gone faults u w before after conn moment word b t c = turn_gone faults u w before after conn t (closed_gone before after conn moment word b c)

down_stays : {D : Type 0} (faults : D → ℕ) (u w : View) (before after : StoreView D) (conn : ℕ) → AddsBehind [] u w → TakesDown conn u w
down_stays faults u w before after conn adds = record { entries = []; adds = adds; is_down = tt }

pub takes_down : {D : Type 0} (faults : D → ℕ) (u w : View) (before after : StoreView D) (conn moment word : ℕ) (r : Result Bool ActError) → InTurn faults u before after w → HasClosed before moment word conn r after → TakesDown conn u w
takes_down faults u w before after conn moment word (Ok true) t c = record {
  entries = entries_of before after;
  adds = turn_adds faults u w before after t;
  is_down = subst (IsDown conn) (sym (step_inputs before after (Down conn moment word) c.1)) refl;
}
takes_down faults u w before after conn moment word (Ok false) t c = down_stays faults u w before after conn (stay_adds faults u w before after t (ap (λ (v : StoreView _). v.history) c.1))
takes_down faults u w before after conn moment word (Err e) t c = down_stays faults u w before after conn (refused_adds faults u w before after (Down conn moment word) e t c.1)
