-- Runs, move by move.
use Rattle.std.proofs.Common.{◌≡◌, ℕ, suc, ◌+◌, ◌∷◌, [], length, refl, arith}
use Rattle.quick_commands.specs.Work.{Work, Moves, IsReached, IsReachedBy}

pub no_moves : (w : Work) → IsReachedBy 0 w w
no_moves w = record { path = []; count = refl; leads = refl }

pub one_more : (n : ℕ) (start w next : Work) → IsReachedBy n start w → Moves w next → IsReachedBy (n + 1) start next
one_more n start w next r m = record {
  path = w ∷ r.path;
  count =
      let long : length (w ∷ r.path) ≡ suc (length r.path) = refl in
      let was = r.count in
      omega (arith, long, was);
  leads = (r.leads, m);
}

pub is_reached : (n : ℕ) (start w : Work) → IsReachedBy n start w → IsReached start w
is_reached n start w r = record { path = r.path; leads = r.leads }
