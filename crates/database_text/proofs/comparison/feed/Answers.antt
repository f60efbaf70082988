use Rattle.std.proofs.Common.{◌≡◌, List, ℕ, sym, ◌∙◌, ap}
use Rattle.std.specs.Prelude.{Some, None}
use Rattle.database_text.specs.Comparison.{first_difference}
use Rattle.database_text.proofs.Feeding.{stand_more, stand_differs, stand_on}
use Rattle.database_text.proofs.comparison.feed.Goals as goal

pub returns-then-is_some-clause-ok : goal.returns-then-is_some-clause-ok
returns-then-is_some-clause-ok c own other =
    stand_more own other c.args.difference.now c.args.same.now c.args.own_ahead.now.items c.args.other_ahead.now.items c.args.piece.now (sym c.is_some.ensures ∙ c.if-is_some.true)

pub returns-in-Some-clause-ok : goal.returns-in-Some-clause-ok
returns-in-Some-clause-ok c own other stand =
    let at : first_difference 0 c.args.piece.now c.args.other_ahead.now.items ≡ Some c.in-Some.place = ap (λ (ys : List ℕ). first_difference 0 c.args.piece.now ys) (sym c.as_slice.ensures) ∙ sym c.in-Some.ensures in
    stand_differs own other c.args.difference.now c.args.same.now c.args.own_ahead.now.items c.args.other_ahead.now.items c.args.piece.now c.in-Some.place (sym c.is_some.ensures ∙ c.if-is_some.false) at stand
    ∙ ap (λ (n : ℕ). Some n) (sym c.place_on.ensures)

pub returns-clause-ok : goal.returns-clause-ok
returns-clause-ok c own other stand =
    let at : first_difference 0 c.args.piece.now c.args.other_ahead.now.items ≡ None = ap (λ (ys : List ℕ). first_difference 0 c.args.piece.now ys) (sym c.as_slice.ensures) ∙ sym c.in_default.ensures in
    rw (c.place_on-2.ensures, c.in_ok-front.ensures.own, c.in_ok-front.ensures.other)
    (stand_on own other c.args.difference.now c.args.same.now c.args.own_ahead.now.items c.args.other_ahead.now.items c.args.piece.now c.in_ok-front.front (sym c.is_some.ensures ∙ c.if-is_some.false) at c.in_ok-front.ensures.front stand)
