use Rattle.std.proofs.Common.{rules, ◌≡◌, ◌≤◌, ◌-◌, ◌∙◌, List, ℕ, ap, take, drop, length, arith}
use Rattle.std.proofs.lemmas.List.{length-drop}
use Rattle.zmtp_peer.specs.PeerStream.{listed, talked, sent, identity, messages}
use Rattle.zmtp_peer.proofs.Pieces.{talked_on, sent_on, identity_on, messages_on, rest_of}
use Rattle.zmtp_peer.proofs.peer.Peer.octets.Goals as goal

pub loop-at-preserved : goal.loop-at-preserved
loop-at-preserved c =
    let u = c.loop-at.self.talk in
    let v = c.next.new.self.talk in
    let n = c.in_ok-taken.taken in
    let at = c.loop-at.at in
    let piece : List ℕ = c.args.piece.now in
    let rest : List ℕ = take (length piece - at) (drop at piece) in
    let whole : rest ≡ drop at piece = rest_of at piece in
    let gave = c.in_ok-taken.gave in
    let is : v ≡ talked u (take n (drop at piece)) = c.in_ok-taken.ensures.talked ∙ ap (λ (zs : List ℕ). talked u (take n zs)) whole in
    let long : length rest ≡ length piece - at = ap length whole ∙ length-drop at piece in
    let few : n ≤ length rest = c.in_ok-taken.ensures.taken.1 in
    record {
      within = omega (arith, long, few, c.loop-at.invariant.within);
      talked = talked_on u v n at piece is ∙ c.loop-at.invariant.talked;
      sent = sent_on u v n at piece is c.loop-at.send.items gave.send c.keep.new.send.items c.in_ok-keep.ensures.send (c.in_ok-taken.ensures.sent ∙ ap (λ (zs : List ℕ). sent u (take n zs)) whole) ∙ c.loop-at.invariant.sent;
      ready = identity_on u v n at piece is c.loop-at.ready gave.ready c.keep.new.ready c.in_ok-keep.ensures.ready (c.in_ok-taken.ensures.ready ∙ ap (λ (zs : List ℕ). identity u (take n zs)) whole) ∙ c.loop-at.invariant.ready;
      messages = messages_on u v n at piece is c.loop-at.messages (listed gave.message) c.keep.new.messages c.in_ok-keep.ensures.messages (c.in_ok-taken.ensures.message ∙ ap (λ (zs : List ℕ). messages u (take n zs)) whole) ∙ c.loop-at.invariant.messages;
      spent = search rules;
    }
