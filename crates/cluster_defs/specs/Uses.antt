-- Where engines were last used, and the word of the newest input, read off the list: what the facts keep otherwise.
use Rattle.std.specs.Prelude.{◌≡◌, true, ℕ, suc, nat_lt, ◌==◌, List, [], ◌∷◌, length, Option, Some, None, Bool, false, not, ◌&&◌, if◌then◌else◌}
use Rattle.std.specs.List.{list_all}
use Rattle.cluster_types.specs.declared.entry.Input.TheVariants.{In}
use Rattle.cluster_types.specs.declared.entry.Entry.{Entry}
use Rattle.cluster_types.specs.declared.entry.Entry.TheVariants.{Input, Hand}
use Rattle.cluster_defs.specs.Inputs.{moment_of, word_of}
use Rattle.cluster_defs.specs.Engines.{joined}
use Rattle.cluster_defs.specs.Facts.{Facts, event_in, is_direct_id}
use Rattle.cluster_types.specs.Chance.{next_word}
use Rattle.cluster_defs.specs.Histories.{History, facts}

abbrev pub joins_as : ℕ → Option (List ℕ) → ℕ → Bool
joins_as next None m = false
joins_as next (Some uuid) m = next == m

-- whether an entry uses an engine: it is its Join, or a Hand of a Submit to it
abbrev pub is_use : Facts → Entry → ℕ → Bool
is_use f (Hand id engine) m = engine == m && not (is_direct_id f id)
is_use f (Input (In conn moment word message)) m = joins_as f.engines.next (joined f.engines conn (event_in f (Input (In conn moment word message)))) m
is_use f _ m = false

-- the place of the last use of an engine, counted from 1 over the whole list; 0 for never
abbrev pub last_use : History → ℕ → ℕ
last_use [] m = 0
last_use (e ∷ older) m = if is_use (facts older) e m then suc (length older) else last_use older m

-- numbers that ascend by a measure
abbrev pub Ascends : (ℕ → ℕ) → List ℕ → Type 0
Ascends f [] = Unit {0}
Ascends f (n ∷ ns) = (list_all (λ m. nat_lt (f n) (f m)) ns ≡ true) × Ascends f ns

-- the word that a Hand draws by, by the letter: the newest input's, whether it is kept or not, and the next after each Hand
abbrev pub newest_word : History → ℕ
newest_word [] = 0
newest_word (Input input ∷ older) = word_of input
newest_word (Hand id engine ∷ older) = next_word (newest_word older)
newest_word (_ ∷ older) = newest_word older

-- the moment of the newest input, whether it is kept or not
abbrev pub newest_moment : History → ℕ
newest_moment [] = 0
newest_moment (Input input ∷ older) = moment_of input
newest_moment (_ ∷ older) = newest_moment older
