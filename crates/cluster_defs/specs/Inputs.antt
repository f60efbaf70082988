-- When an input comes, and the word that comes with it.
use Rattle.std.specs.Prelude.{ℕ}
use Rattle.cluster_types.specs.declared.entry.Input.{Input}
use Rattle.cluster_types.specs.declared.entry.Input.TheVariants.{Open, Up, Down, In, Beat, Time}

-- the moment of an input
abbrev pub moment_of : Input → ℕ
moment_of (Open moment scheme hwm misses) = moment
moment_of (Up conn channel moment word identity) = moment
moment_of (Down conn moment word) = moment
moment_of (In conn moment word message) = moment
moment_of (Beat moment word) = moment
moment_of (Time moment word) = moment

-- the word of an input; an Open has none, and 0 stands for it
abbrev pub word_of : Input → ℕ
word_of (Open moment scheme hwm misses) = 0
word_of (Up conn channel moment word identity) = word
word_of (Down conn moment word) = word
word_of (In conn moment word message) = word
word_of (Beat moment word) = word
word_of (Time moment word) = word
