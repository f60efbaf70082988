use Rattle.std.proofs.Common.{◌≡◌, ap, sym, ◌∙◌}
use Rattle.std.specs.Option.{option_and_then}
use Rattle.cluster_state.specs.Stands.{plain}
use Rattle.due_decisions.specs.Table.{rooms_in, hand_of, hand_in}
use Rattle.due_decisions.proofs.due.hand_step.Goals as goal

pub returns : goal.returns
returns g c =
    let s = c.args.state.now in
    let ts = s.tasks in
    let uses : rooms_in ts s.engines s.hwm c.deref.result.now ≡ rooms_in ts s.engines s.hwm s.by_use.items =
    ap (rooms_in ts s.engines s.hwm) c.deref.ensures.value in
    let rooms : c.deref-2.result.now ≡ rooms_in ts s.engines s.hwm s.by_use.items = c.deref-2.ensures.value ∙ c.in_ok-rooms.ensures ∙ uses in
    c.in_ok-hand.ensures ∙ ap (λ rs. hand_in ts rs s.scheme s.word) rooms

pub returns-then-none_waits : goal.returns-then-none_waits
returns-then-none_waits g c =
    let p = plain c.args.state.now in
    let rooms = rooms_in p.tasks p.engines.live p.hwm p.by_use in
    sym (ap (option_and_then (hand_of p.tasks rooms p.scheme p.word)) (c.none_waits.ensures c.if-none_waits.true rooms))
