-- Moves after moves.
use Rattle.std.proofs.Common.{◌≡◌, List, [], ◌∷◌, ◌++◌, map, reverse, append_assoc, refl, sym, ap, ◌∙◌, subst}
use Rattle.std.proofs.lemmas.List.{map-append, reverse-append}
use Rattle.cluster_types.specs.declared.out.Out.{Out}
use Rattle.cluster_defs.specs.Histories.{History}
use Rattle.cluster_defs.specs.Lives.{World, Move, Sending, May, Life, moved_by, world}
use Rattle.cluster_store.specs.Worlds.{MayGo, world_after}
use Rattle.tape_drive.specs.Sent.{IsAtRest, HasSent, GoesOn, outs_of}

pub world_on : (w : World) (later moves : List Move) → world_after w (later ++ moves) ≡ world_after (world_after w moves) later
world_on w [] moves = refl
world_on w (m ∷ later) moves = ap (λ (v : World). moved_by v m) (world_on w later moves)

pub may_on : (w : World) (later moves : List Move) → MayGo w moves → MayGo (world_after w moves) later → MayGo w (later ++ moves)
may_on w [] moves first then = first
may_on w (m ∷ later) moves first then = (subst (λ (v : World). May v m) (sym (world_on w later moves)) then.0, may_on w later moves first then.1)

pub outs_on : (later sent : List Sending) → outs_of (later ++ sent) ≡ outs_of sent ++ outs_of later
outs_on later sent = ap reverse (map-append (λ (s : Sending). s.1) later sent) ∙ reverse-append (map (λ (s : Sending). s.1) later) (map (λ (s : Sending). s.1) sent)

pub joined : (a b c d : List Out) → a ≡ c → b ≡ d → a ++ b ≡ c ++ d
joined a b c d p q = ap (λ (x : List Out). x ++ b) p ∙ ap (λ (x : List Out). c ++ x) q

pub sent_on : (a b c : World) (first rest : List Out) → HasSent a b first → HasSent b c rest → HasSent a c (first ++ rest)
sent_on a b c first rest f r = record {
  newer = r.newer ++ f.newer;
  sent = r.sent ∙ ap (λ (xs : List Sending). r.newer ++ xs) f.sent ∙ sym (append_assoc r.newer f.newer a.sent);
  outs_are = outs_on r.newer f.newer ∙ joined (outs_of f.newer) (outs_of r.newer) first rest f.outs_are r.outs_are;
}

pub sent_none : (a b : World) → b.sent ≡ a.sent → HasSent a b []
sent_none a b same = record { newer = []; sent = same; outs_are = refl }

pub goes_on : (w : World) (mid new : History) (first rest : List Out) (g : GoesOn w mid first) → GoesOn (world_after w g.moves) new rest → GoesOn w new (first ++ rest)
goes_on w mid new first rest g then =
    let is = world_on w then.moves g.moves in
    record {
      moves = then.moves ++ g.moves;
      may = may_on w then.moves g.moves g.may then.may;
      history_is = ap (λ (v : World). v.history) is ∙ then.history_is;
      sends = subst (λ (v : World). HasSent w v (first ++ rest)) (sym is) (sent_on w (world_after w g.moves) (world_after (world_after w g.moves) then.moves) first rest g.sends then.sends);
      rests = subst IsAtRest (sym is) then.rests;
    }

pub goes_nowhere : (w : World) (history : History) → w.history ≡ history → IsAtRest w → GoesOn w history []
goes_nowhere w history is rests = record { moves = []; may = tt; history_is = is; sends = sent_none w w refl; rests = rests }

-- A WHOLE LIFE

pub world_of : (later moves : List Move) → world (later ++ moves) ≡ world_after (world moves) later
world_of [] moves = refl
world_of (m ∷ later) moves = ap (λ (v : World). moved_by v m) (world_of later moves)

pub life_on : (later moves : List Move) → Life moves → MayGo (world moves) later → Life (later ++ moves)
life_on [] moves life may = life
life_on (m ∷ later) moves life may = (subst (λ (v : World). May v m) (sym (world_of later moves)) may.0, life_on later moves life may.1)
