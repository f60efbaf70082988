-- What entries tell of a connection.
use Rattle.std.specs.Prelude.{ℕ, ◌==◌, [], ◌∷◌, Option, Some, None, if◌then◌else◌}
use Rattle.cluster_types.specs.declared.config.Channel.{Channel}
use Rattle.cluster_types.specs.declared.entry.Entry.{Entry}
use Rattle.cluster_types.specs.declared.entry.Entry.TheVariants.{Input}
use Rattle.cluster_types.specs.declared.entry.Input.TheVariants.{Open, Up, Down}
use Rattle.cluster_defs.specs.Histories.{History}

-- what an entry tells of a connection: nothing, or the channel that it has after it, none where it isn't live
abbrev pub told_by : Entry → ℕ → Option (Option Channel)
told_by (Input (Open moment scheme hwm misses)) number = Some None
told_by (Input (Up conn channel moment word identity)) number = if conn == number then Some (Some channel) else None
told_by (Input (Down conn moment word)) number = if conn == number then Some None else None
told_by _ number = None

-- the newest entry that tells of it decides
abbrev pub or_before : Option (Option Channel) → Option Channel → Option Channel
or_before (Some channel) before = channel
or_before None before = before

abbrev pub told : History → ℕ → Option Channel
told [] number = None
told (e ∷ older) number = or_before (told_by e number) (told older number)
