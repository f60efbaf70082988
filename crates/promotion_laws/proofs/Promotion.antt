-- A promotion is a crash and the Grow by an Open.
use Rattle.std.proofs.Common.{◌≡◌, ℕ, List, ◌∷◌, length, reverse, true, false, None, refl, sym, ap, ◌∙◌, subst}
use Rattle.std.proofs.lemmas.List.{length-reverse, reverse-reverse}
use Rattle.cluster_types.specs.declared.config.Config.{Config}
use Rattle.cluster_types.specs.declared.entry.Entry.{Entry}
use Rattle.cluster_defs.specs.Scheduling.{due}
use Rattle.cluster_defs.specs.Histories.{History, facts, Legal, kept}
use Rattle.cluster_defs.specs.Lives.{World, Move, Grow, Crash, moved_by, world, Life, Belongs}
use Rattle.cluster_laws.proofs.Kept.{kept_facts}
use Rattle.cluster_laws.proofs.Life.{life_legal, life_belongs}
use Rattle.promotion_laws.specs.Promoted.{opening, promoted, IsKeptOf}

module _ (moves : List Move) (list : List Entry) (config : Config) (moment : ℕ) (life : Life moves) (up : (world moves).down ≡ false) (k : IsKeptOf (world moves) list) where
  -- the list is what the crash leaves
  left : kept k.front ≡ reverse list
  left = sym (ap reverse k.is ∙ reverse-reverse (kept k.front))

  pub is_life : Life (Grow (opening config moment) ∷ Crash k.front ∷ moves)
  is_life =
      let none : due (facts (kept k.front)) ≡ None = ap due (kept_facts k.front) ∙ k.whole.2 in
      (((none, refl), refl), ((k.whole, up), life))

  crashed : World → History → ℕ → World
  crashed w h n = record w { history = h; mark = n; down = true }

  pub is_promoted : world (Grow (opening config moment) ∷ Crash k.front ∷ moves) ≡ promoted (world moves) list (opening config moment)
  unfolding crashed
  is_promoted =
      ap (λ (h : History). moved_by (crashed (world moves) h (length h)) (Grow (opening config moment))) left
      ∙ ap (λ (n : ℕ). moved_by (crashed (world moves) (reverse list) n) (Grow (opening config moment))) (length-reverse list)

  pub is_legal : Legal (opening config moment ∷ reverse list)
  is_legal = subst (λ (h : History). Legal (opening config moment ∷ h)) left (life_legal (Grow (opening config moment) ∷ Crash k.front ∷ moves) is_life)

  pub belongs : Belongs (opening config moment ∷ reverse list) (world moves).sent
  belongs = subst (λ (h : History). Belongs (opening config moment ∷ h) (world moves).sent) left (life_belongs (Grow (opening config moment) ∷ Crash k.front ∷ moves) is_life)
