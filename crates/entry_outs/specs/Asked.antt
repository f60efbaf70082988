-- What of an entry and of the cluster an answer depends on.
use Rattle.std.specs.Prelude.{ℕ, List, [], Option, Some, None}
use Rattle.cluster_types.specs.declared.entry.Entry.{Entry}
use Rattle.cluster_types.specs.declared.entry.Entry.TheVariants.{Input}
use Rattle.cluster_types.specs.declared.entry.Input.TheVariants.{In}
use Rattle.cluster_types.specs.declared.event.Event.{Event}
use Rattle.cluster_types.specs.declared.event.Query.{Query}
use Rattle.cluster_types.specs.declared.event.Query.TheVariants.{Connection, Queue}
use Rattle.cluster_defs.specs.Header.{message_type}

-- the type of the message in an entry, empty where there is none
abbrev pub type_on : Entry → List ℕ
type_on (Input (In conn moment word m)) = message_type m
type_on _ = []

-- a type, where its message means something
abbrev pub told_type : Option Event → List ℕ → List ℕ
told_type None msg_type = []
told_type (Some event) msg_type = msg_type

-- the live engines, where the answer tells them
abbrev pub asked_live : Query → List (ℕ × List ℕ) → List (ℕ × List ℕ)
asked_live Connection live = live
asked_live (Queue targets verbose) live = live
asked_live _ live = []
