-- Safe words: five properties of a history that name its Hands and Settles alone.
use Rattle.std.specs.Prelude.{◌≡◌, ◌≤◌, ◌+◌, ℕ, true, false, Bool, [], ◌∷◌, not, ◌&&◌, ◌||◌, Option, Some, None, bytes_eq, if◌then◌else◌}
use Rattle.cluster_types.specs.declared.event.Event.{Event}
use Rattle.cluster_types.specs.declared.event.Event.TheVariants.{Reply}
use Rattle.cluster_types.specs.declared.entry.Input.TheVariants.{In}
use Rattle.cluster_types.specs.declared.entry.Entry.{Entry}
use Rattle.cluster_types.specs.declared.entry.Entry.TheVariants.{Input, Hand, Settle}
use Rattle.cluster_defs.specs.Words.{Id, is_number}
use Rattle.cluster_defs.specs.Tasks.{counts}
use Rattle.cluster_defs.specs.Dependencies.{met, on_engine}
use Rattle.cluster_defs.specs.Requests.{Request, is_direct, is_target}
use Rattle.cluster_defs.specs.Facts.{Facts, event_in, is_settled, is_direct_id}
use Rattle.cluster_defs.specs.Scheduling.{is_live}
use Rattle.cluster_defs.specs.Histories.{History, facts}

-- Once: each id has at most one Settle, and no Hand after it
abbrev pub Once : History → Type 0
Once [] = Unit {0}
Once (Settle id verdict cause ∷ older) = (is_settled (facts older) id ≡ false) × Once older
Once (Hand id engine ∷ older) = (is_settled (facts older) id ≡ false) × Once older
Once (_ ∷ older) = Once older

-- a Submit's `after` is met by what is finished; a Direct has none
abbrev pub after_met : Facts → Option Request → Bool
after_met f None = false
after_met f (Some r) = is_direct r || met r.after f.settled

-- AfterHeld: at each Hand of a Submit its `after` is met over the entries before
abbrev pub AfterHeld : History → Type 0
AfterHeld [] = Unit {0}
AfterHeld (Hand id engine ∷ older) = (after_met (facts older) ((facts older).request_of id) ≡ true) × AfterHeld older
AfterHeld (_ ∷ older) = AfterHeld older

abbrev pub follow_met : Facts → ℕ → Option Request → Bool
follow_met f n None = false
follow_met f n (Some r) = is_direct r || met r.follow (λ i. on_engine n (f.settled i))

-- FollowHeld: at each Hand of a Submit its `follow` is met by the ids finished on that engine
abbrev pub FollowHeld : History → Type 0
FollowHeld [] = Unit {0}
FollowHeld (Hand id engine ∷ older) = (follow_met (facts older) engine ((facts older).request_of id) ≡ true) × FollowHeld older
FollowHeld (_ ∷ older) = FollowHeld older

-- of a Direct the engine that had the target's uuid at acceptance; else, where targets are listed, one that was live
-- then with a listed uuid
abbrev pub fits_target : ℕ → Option Request → Bool
fits_target n None = false
fits_target n (Some r) = if is_direct r then is_number n r.direct_to else is_target n r

-- TargetsHeld: each Hand goes to a live engine, and to a target
abbrev pub TargetsHeld : History → Type 0
TargetsHeld [] = Unit {0}
TargetsHeld (Hand id engine ∷ older) =
    (is_live (facts older) engine ≡ true) × (fits_target engine ((facts older).request_of id) ≡ true) × TargetsHeld older
TargetsHeld (_ ∷ older) = TargetsHeld older

abbrev pub one_if : Bool → ℕ
one_if true = 1
one_if false = 0

-- how often an id was handed out
abbrev pub hands : History → Id → ℕ
hands [] id = 0
hands (Hand name engine ∷ older) id = one_if (bytes_eq name id) + hands older id
hands (_ ∷ older) id = hands older id

-- whether a message is a valid reply by which an engine declines a Submit
abbrev pub declines_in : Facts → ℕ → Id → Option Event → Bool
declines_in f conn id (Some (Reply name header ok declined)) =
    (bytes_eq name id && counts f.engines.live conn header (f.task id)) && (declined && not (is_direct_id f id))
declines_in f conn id _ = false

abbrev pub is_declined : Facts → Entry → Id → Bool
is_declined f (Input (In conn moment word message)) id = declines_in f conn id (event_in f (Input (In conn moment word message)))
is_declined f _ id = false

-- how many of its attempts were declined without being spent
abbrev pub declines : History → Id → ℕ
declines [] id = 0
declines (e ∷ older) id = one_if (is_declined (facts older) e id) + declines older id

-- how often an id may be handed out without being declined
abbrev pub allowance : Option Request → ℕ
allowance None = 0
allowance (Some r) = r.retries + 1

-- Tries: the Hands of an id, less those that were declined without being spent, are at most one plus its retries
abbrev pub Tries : History → Type 0
Tries history = (id : Id) → hands history id ≤ allowance ((facts history).request_of id) + declines history id

-- the five together
pub record Safe (history : History) : Type 0 where
  pub once : Once history
  pub after_held : AfterHeld history
  pub follow_held : FollowHeld history
  pub targets_held : TargetsHeld history
  pub tries : Tries history
