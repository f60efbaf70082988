-- A standby that is opened in place of its primary.
use Rattle.std.specs.Prelude.{◌≡◌, ℕ, List, ◌∷◌, length, reverse, true, false}
use Rattle.cluster_types.specs.declared.config.Config.{Config}
use Rattle.cluster_types.specs.declared.entry.Input.TheVariants.{Open}
use Rattle.cluster_types.specs.declared.entry.Entry.{Entry}
use Rattle.cluster_types.specs.declared.entry.Entry.TheVariants.{Input}
use Rattle.cluster_defs.specs.Histories.{History, Legal, kept}
use Rattle.cluster_defs.specs.Lives.{World, Move, Grow, Crash, IsWholeFront, moved_by, world, Life, Belongs}

-- the Open of a promotion
abbrev pub opening : Config → ℕ → Entry
opening config moment = Input (Open moment config.scheme config.hwm config.misses)

-- the world after a promotion: of the primary's world a crash left the standby's list, whose entries stand in the order in
-- which they came, and the Open came
abbrev pub promoted : World → List Entry → Entry → World
promoted w list open_entry = moved_by (record w { history = reverse list; mark = length list; down = true }) (Grow open_entry)

-- a list is what is kept of a front of a world's history that has all that is safe, and after which no decision is due
pub record IsKeptOf (w : World) (list : List Entry) : Type 0 where
  pub front : History
  pub whole : IsWholeFront w front
  pub is : list ≡ reverse (kept front)

-- a promotion is a crash of the primary's life and the Grow by the Open
abbrev pub PromotedIsLife : Type 0
PromotedIsLife =
    (moves : List Move) (list : List Entry) (config : Config) (moment : ℕ) → Life moves → (world moves).down ≡ false → (k : IsKeptOf (world moves) list) →
    Life (Grow (opening config moment) ∷ Crash k.front ∷ moves)
    × (world (Grow (opening config moment) ∷ Crash k.front ∷ moves) ≡ promoted (world moves) list (opening config moment))

-- the history that goes on is legal
abbrev pub PromotedIsLegal : Type 0
PromotedIsLegal =
    (moves : List Move) (list : List Entry) (config : Config) (moment : ℕ) → Life moves → (world moves).down ≡ false → IsKeptOf (world moves) list →
    Legal (opening config moment ∷ reverse list)

-- and all that the primary ever sent belongs to it
abbrev pub PromotedBelongs : Type 0
PromotedBelongs =
    (moves : List Move) (list : List Entry) (config : Config) (moment : ℕ) → Life moves → (world moves).down ≡ false → IsKeptOf (world moves) list →
    Belongs (opening config moment ∷ reverse list) (world moves).sent
