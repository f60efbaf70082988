use Rattle.std.proofs.Common.{◌≡◌, ◌+◌, ◌++◌, ◌∷◌, [], List, ℕ, length, take, drop, ap, refl, ◌∙◌, arith, length-append}
use Rattle.std.proofs.lemmas.List.{length-take-le}
use Rattle.task_journal.specs.Batch.{entries_in}
use Rattle.task_journal.proofs.Batches.{short_of, cleared}
use Rattle.task_journal.proofs.batch.Batch.clear.Goals as goal

pub push_reserved-requires : goal.push_reserved-requires
push_reserved-requires c =
    let long = short_of c.self.inside.octets.items (entries_in c.self.inside.count (drop 9 c.self.inside.octets.items)) c.self.invariant.0 in
    omega (arith, long, c.truncate.ensures.len, c.truncate.ensures.capacity, c.self.inside.octets.ok.0, c.self.inside.octets.ok.1)

pub put_front-requires : goal.put_front-requires
put_front-requires c =
    let octets = c.self.inside.octets.items in
    let long = short_of octets (entries_in c.self.inside.count (drop 9 octets)) c.self.invariant.0 in
    let one : c.push_reserved.new.self.items ≡ take 9 octets ++ 0 ∷ [] = c.push_reserved.ensures.items ∙ ap (λ (z : List ℕ). z ++ 0 ∷ []) c.truncate.ensures.items in
    let size = ap length one in
    omega (arith, size, length-append (take 9 octets) (0 ∷ []), length-take-le 9 octets (omega (arith, long)))

pub invariant_of-self : goal.invariant_of-self
invariant_of-self c =
    let octets = c.self.inside.octets.items in
    let one : c.push_reserved.new.self.items ≡ take 9 octets ++ 0 ∷ [] = c.push_reserved.ensures.items ∙ ap (λ (z : List ℕ). z ++ 0 ∷ []) c.truncate.ensures.items in
    (cleared octets c.push_reserved.new.self.items c.put_front.new.octets.items (entries_in c.self.inside.count (drop 9 octets)) c.self.invariant.0 one c.put_front.ensures, refl)
