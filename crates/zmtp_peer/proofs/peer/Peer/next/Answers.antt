use Rattle.std.proofs.Common.{◌≡◌, arith}
use Rattle.zmtp_peer.proofs.Bodies.{first_octet}
use Rattle.zmtp_peer.proofs.peer.Peer.next.Goals as goal

pub returns-clause-talked : goal.returns-clause-talked
returns-clause-talked c =
    let none : c.in_ok-taken.taken ≡ 0 = omega (arith, c.if-taken-gt0.false) in
    (first_octet c.args.self.now.talk c.fill.new.self.talk c.octet.new.self.talk c.args.rest.now c.in_ok-taken.taken c.in_ok-gave.gave c.in_ok-taken.ensures.talked none c.requires.some c.in_ok-gave.ensures.ok).talked

pub returns-clause-sent : goal.returns-clause-sent
returns-clause-sent c =
    let none : c.in_ok-taken.taken ≡ 0 = omega (arith, c.if-taken-gt0.false) in
    (first_octet c.args.self.now.talk c.fill.new.self.talk c.octet.new.self.talk c.args.rest.now c.in_ok-taken.taken c.in_ok-gave.gave c.in_ok-taken.ensures.talked none c.requires.some c.in_ok-gave.ensures.ok).sent

pub returns-clause-ready : goal.returns-clause-ready
returns-clause-ready c =
    let none : c.in_ok-taken.taken ≡ 0 = omega (arith, c.if-taken-gt0.false) in
    (first_octet c.args.self.now.talk c.fill.new.self.talk c.octet.new.self.talk c.args.rest.now c.in_ok-taken.taken c.in_ok-gave.gave c.in_ok-taken.ensures.talked none c.requires.some c.in_ok-gave.ensures.ok).ready

pub returns-clause-message : goal.returns-clause-message
returns-clause-message c =
    let none : c.in_ok-taken.taken ≡ 0 = omega (arith, c.if-taken-gt0.false) in
    (first_octet c.args.self.now.talk c.fill.new.self.talk c.octet.new.self.talk c.args.rest.now c.in_ok-taken.taken c.in_ok-gave.gave c.in_ok-taken.ensures.talked none c.requires.some c.in_ok-gave.ensures.ok).message
