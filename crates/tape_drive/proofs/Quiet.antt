-- An Open and its decisions send nothing: no connection and no engine is there.
use Rattle.std.proofs.Common.{◌≡◌, ℕ, List, [], ◌∷◌, ◌++◌, map, Option, Some, None, refl, sym, ap, ◌∙◌, subst}
use Rattle.std.specs.Option.{option_and_then}
use Rattle.cluster_types.specs.declared.config.Config.{Config}
use Rattle.cluster_types.specs.declared.entry.Input.TheVariants.{Open}
use Rattle.cluster_types.specs.declared.entry.Entry.{Entry}
use Rattle.cluster_types.specs.declared.entry.Entry.TheVariants.{Input, Hand, Settle, Lose}
use Rattle.cluster_types.specs.declared.message.Message.{Message}
use Rattle.cluster_types.specs.declared.out.Out.{Out}
use Rattle.cluster_defs.specs.declared.connection.Connection.{Connection}
use Rattle.cluster_defs.specs.declared.engine.Engine.{Engine}
use Rattle.cluster_defs.specs.declared.connection.Owner.{Owner}
use Rattle.cluster_defs.specs.Connections.{reached}
use Rattle.cluster_defs.specs.Engines.{conn_in, without_number}
use Rattle.cluster_defs.specs.Facts.{Facts}
use Rattle.cluster_defs.specs.Requests.{Request}
use Rattle.cluster_defs.specs.Scheduling.{due}
use Rattle.cluster_defs.specs.Histories.{History, facts, decide_all}
use Rattle.cluster_defs.specs.Lives.{sendings, sendings_to}
use Rattle.cluster_defs.specs.Outs.{outs, outs_on, pass_to, owner_conn}
use Rattle.cluster_defs.specs.Runs.{Decided}
use Rattle.cluster_defs.proofs.Says.{due_says}
use Rattle.cluster_store.specs.Openings.{opened}
use Rattle.cluster_store.proofs.Fits.{decides_to}

-- a history behind an Open in which nobody is there, and nothing was sent
record IsQuiet (h : History) : Type 0 where
  pub connections : (facts h).connections ≡ []
  pub engines : (facts h).engines.live ≡ []
  pub silent : (conn : ℕ) → sendings_to h conn ≡ []

nobody_owns : (f : Facts) (r : Option Request) → f.connections ≡ [] → owner_conn f r ≡ None
nobody_owns f None is = refl
nobody_owns f (Some r) is = by r.owner
  where
    by : (o : Option Owner) → option_and_then (reached f.connections) o ≡ None
    by None = refl
    by (Some p) = ap (λ (live : List Connection). reached live p) is

passes_none : (o : Option ℕ) (m : Option Message) → o ≡ None → pass_to o m ≡ []
passes_none None m is = refl
passes_none (Some n) m is = cc

one_more : (h : History) (d : Entry) (conn : ℕ) → sendings_to h conn ≡ [] → outs (d ∷ h) ≡ [] → sendings_to h conn ++ sendings (d ∷ h) (outs_on conn (outs (d ∷ h))) ≡ []
one_more h d conn none silent = ap (λ xs. xs ++ sendings (d ∷ h) (outs_on conn (outs (d ∷ h)))) none ∙ ap (λ (os : List Out). sendings (d ∷ h) (outs_on conn os)) silent

decided_quiet : (h : History) (d : Entry) → due (facts h) ≡ Some d → IsQuiet h → IsQuiet (d ∷ h)
decided_quiet h (Input input) is q = absurd (due_says (facts h) (Input input) is)
decided_quiet h (Hand id n) is q =
    let silent : outs (Hand id n ∷ h) ≡ [] = passes_none (conn_in n (facts h).engines.live) _ (ap (conn_in n) q.engines) in
    record { connections = q.connections; engines = q.engines; silent = λ conn. one_more h (Hand id n) conn (q.silent conn) silent }
decided_quiet h (Settle id v k) is q =
    let silent : outs (Settle id v k ∷ h) ≡ [] = passes_none (owner_conn (facts h) ((facts h).request_of id)) _ (nobody_owns (facts h) ((facts h).request_of id) q.connections) in
    record { connections = q.connections; engines = q.engines; silent = λ conn. one_more h (Settle id v k) conn (q.silent conn) silent }
decided_quiet h (Lose n) is q =
    record { connections = q.connections; engines = ap (λ live. (without_number n (record { live = live; next = (facts h).engines.next })).live) q.engines; silent = λ conn. one_more h (Lose n) conn (q.silent conn) refl }

all_quiet : (h : History) (ds : List Entry) → Decided h ds → IsQuiet h → IsQuiet (ds ++ h)
all_quiet h [] each q = q
all_quiet h (d ∷ ds) each q = decided_quiet (ds ++ h) d each.0 (all_quiet h ds each.1 q)

pub opened_quiet : (config : Config) (moment : ℕ) (history : History) (conn : ℕ) → sendings_to (opened config moment history) conn ≡ []
opened_quiet config moment history conn =
    let first = Input (Open moment config.scheme config.hwm config.misses) ∷ history in
    let to = decides_to (Input (Open moment config.scheme config.hwm config.misses) ∷ history) in
    let start : IsQuiet (Input (Open moment config.scheme config.hwm config.misses) ∷ history) = record { connections = refl; engines = refl; silent = λ c. refl } in
    let quiet = subst IsQuiet (sym to.appended) (all_quiet (Input (Open moment config.scheme config.hwm config.misses) ∷ history) to.decisions to.each_due start) in
    quiet.silent conn
