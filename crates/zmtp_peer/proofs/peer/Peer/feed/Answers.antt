use Rattle.std.proofs.Common.{◌≡◌, List, ℕ, Option, sym, ap, subst, ◌∙◌}
use Rattle.std.specs.Prelude.{IfSome}
use Rattle.std.proofs.lemmas.List.Elements.{All-same}
use Rattle.zmtp_peer.specs.Limits.{IsShortMessage, IsShortIdentity, IsSound}
use Rattle.zmtp_peer.specs.PeerStream.{Talk, Held, talked, messages}
use Rattle.zmtp_peer.proofs.Sound.{talked_sound, messages_short, identity_short}
use Rattle.zmtp_peer.proofs.peer.Peer.feed.Goals as goal

pub invariant_of-self-2 : goal.invariant_of-self-2
invariant_of-self-2 c = λ _.
    let t : Talk = record { phase = c.self.inside.phase; greeting = c.self.inside.greeting.items; reader = c.self.inside.reader; parts = c.self.inside.parts } in
    let new : Talk = record { phase = c.self-2.inside.phase; greeting = c.self-2.inside.greeting.items; reader = c.self-2.inside.reader; parts = c.self-2.inside.parts } in
    let is : new ≡ talked t c.args.piece.now = ap (λ (h : Held). h.talk) c.self-2.view_is ∙ c.in_ok-fed.ensures.talked in
    subst IsSound (sym is) (talked_sound t c.args.piece.now (c.self.invariant c.if-self.false))

pub returns-clause-short_identity : goal.returns-clause-short_identity
returns-clause-short_identity c =
    let t : Talk = record { phase = c.self.inside.phase; greeting = c.self.inside.greeting.items; reader = c.self.inside.reader; parts = c.self.inside.parts } in
    subst (λ (o : Option (List ℕ)). IfSome o IsShortIdentity) (sym c.in_ok-fed.ensures.ready) (identity_short t c.args.piece.now (c.self.invariant c.if-self.false))

pub returns-clause-short_messages : goal.returns-clause-short_messages
returns-clause-short_messages c =
    let t : Talk = record { phase = c.self.inside.phase; greeting = c.self.inside.greeting.items; reader = c.self.inside.reader; parts = c.self.inside.parts } in
    All-same IsShortMessage c.in_ok-fed.fed.messages (messages t c.args.piece.now) c.in_ok-fed.ensures.messages (messages_short t c.args.piece.now (c.self.invariant c.if-self.false))
