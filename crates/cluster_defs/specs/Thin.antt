-- The history without the contents that a purge lets go.
use Rattle.std.specs.Prelude.{ℕ, List, [], ◌∷◌, Option, Some, None, Bool, true, false, not, ◌&&◌, ◌||◌, if◌then◌else◌, bytes_eq, codes}
use Rattle.std.specs.List.{list_all}
use Rattle.cluster_types.specs.declared.message.Message.{Message}
use Rattle.cluster_types.specs.declared.event.Event.{Event}
use Rattle.cluster_types.specs.declared.event.Event.TheVariants.{Reply}
use Rattle.cluster_types.specs.declared.entry.Input.TheVariants.{In}
use Rattle.cluster_types.specs.declared.entry.Entry.{Entry}
use Rattle.cluster_types.specs.declared.entry.Entry.TheVariants.{Input}
use Rattle.cluster_defs.specs.Words.{Id}
use Rattle.cluster_defs.specs.Tasks.{counts}
use Rattle.cluster_defs.specs.Requests.{Body}
use Rattle.cluster_defs.specs.Facts.{Facts, event_in}
use Rattle.cluster_defs.specs.Acceptance.{Demand, accepted}
use Rattle.cluster_defs.specs.Purges.{Copy, copied_by}
use Rattle.cluster_defs.specs.Histories.{History, facts}

-- what stands for the content of a request, and for that of a reply
unfoldable pub no_content : List ℕ
no_content = codes "{}"

unfoldable pub short_reply : Bool → List ℕ
short_reply true = codes "{\"status\":\"ok\"}"
short_reply false = codes "{\"status\":\"error\"}"

-- a message with another content and no buffers
abbrev pub with_content : List ℕ → Message → Message
with_content content m = record m { content = content; buffers = [] }

-- an accepted request whose id is let go
abbrev pub thin_request : (Id → Bool) → Option Demand → Message → Message
thin_request gone None m = m
thin_request gone (Some d) m = if gone d.submission.id then with_content no_content m else m

-- a valid reply for a purged id keeps its status alone
abbrev pub thin_reply : (Id → Bool) → Facts → ℕ → Option Event → Message → Message
thin_reply purged f conn (Some (Reply task header ok declined)) m =
    if purged task && counts f.engines.live conn header (f.task task) then with_content (short_reply ok) m else m
thin_reply purged f conn _ m = m

-- an entry without what is let go: the requests by one test, the replies by another
abbrev pub thin_entry : (Id → Bool) → (Id → Bool) → Facts → Entry → Option Event → Entry
thin_entry gone purged f (Input (In conn moment word m)) event =
    Input (In conn moment word (thin_reply purged f conn event (thin_request gone (accepted f m event) m)))
thin_entry gone purged f e event = e

abbrev pub thin_by : (Id → Bool) → (Id → Bool) → History → History
thin_by gone purged [] = []
thin_by gone purged (e ∷ older) = thin_entry gone purged (facts older) e (event_in (facts older) e) ∷ thin_by gone purged older

-- WHICH REQUESTS ARE LET GO

-- what may go, less an old id from which a copy was made that may not
abbrev pub narrowed : (Id → Bool) → List Copy → Id → Bool
narrowed gone copies id = gone id && list_all (λ c. not (bytes_eq c.old id) || gone c.new) copies

abbrev pub copies_of : Option (List Copy) → List Copy
copies_of None = []
copies_of (Some copies) = copies

-- what may go after all copies that the entries made, the newest first
abbrev pub gone_from : (Id → Bool) → History → Id → Bool
gone_from gone [] = gone
gone_from gone (e ∷ older) = gone_from (narrowed gone (copies_of (copied_by (facts older) (event_in (facts older) e)))) older

-- what is purged, and from which nothing that isn't purged was resubmitted, directly or through others
abbrev pub let_go : History → Id → Bool
let_go history = gone_from (facts history).purged history

abbrev pub thin : History → History
thin history = thin_by (let_go history) (facts history).purged history

-- the same facts with other bodies and replies
abbrev pub with_bodies : Facts → (Id → Option Body) → (Id → Option Message) → Facts
with_bodies f bodies replies = record f { body_of = bodies; reply_of = replies }
