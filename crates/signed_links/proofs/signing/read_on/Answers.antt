use Rattle.std.proofs.Common.{◌≡◌, ◌∙◌, List, ℕ, Option, Some, None, Ok, Err, refl, sym, ap, subst, arith, le_refl}
use Rattle.link_messages.specs.declared.end.SessionEnd.TheVariants.{ZmtpFault}
use Rattle.zmtp_peer.specs.PeerStream.{fault_of}
use Rattle.std.specs.List.{list_any}
use Rattle.signed_links.specs.Signing.{IsReadUnsigned, is_signed}
use Rattle.signed_links.proofs.Unsigned.{unsigned_begins, unsigned_more, signed_now}
use Rattle.signed_links.proofs.signing.read_on.Goals as goal

pub loop-init : goal.loop-init
loop-init g c = record { unsigned = unsigned_begins _ _ _ _ c.requires.unsigned c.requires.faultless; identity = refl; reads = le_refl _ }

pub returns-in-End-clause-ended : goal.returns-in-End-clause-ended
returns-in-End-clause-ended g c =
    λ _. (
      (c.loop.peer.talk, subst (λ (r : Option (List ℕ)). IsReadUnsigned c.args.key.now c.args.greeted.early c.args.greeted.peer.talk c.loop.peer.talk None (g.S.Source.left c.args.reader.now) r) (sym c.in-End.ensures.reads.1) c.loop.invariant.unsigned),
      λ octets is. c.in-End.ensures.reads.0 octets (sym c.in-End.ensures.reads.1 ∙ is),
    )

pub returns-in-Failed-clause-cause : goal.returns-in-Failed-clause-cause
returns-in-Failed-clause-cause g c = λ _. let cause = c.in-Failed.ensures.cause.1 in let before = c.loop.invariant.reads in omega (arith, cause, before)

pub returns-then-branch-clause-ok : goal.returns-then-branch-clause-ok
returns-then-branch-clause-ok g c =
    signed_now _ _ _ c.loop.peer.talk _ _ _ _ _ _ c.loop.invariant.unsigned c.in-Bytes.ensures.reads.2 c.in_ok-fed.ensures.talked c.in_ok-fed.ensures.messages (ap (list_any (is_signed c.args.key.now)) (sym c.as_slice.ensures) ∙ sym c.in_ok-has_signed.ensures ∙ c.if-branch.true)

pub returns-in-Some-fault-clause-fault : goal.returns-in-Some-fault-clause-fault
returns-in-Some-fault-clause-fault g c =
    λ f is.
    let same : c.in-Some-fault.fault ≡ f = cc in (
      c.feed.new.self.talk,
      unsigned_more _ _ _ c.loop.peer.talk _ _ (Some f) _ _ _ c.loop.invariant.unsigned c.in-Bytes.ensures.reads.2 c.in_ok-fed.ensures.talked (ap (list_any (is_signed c.args.key.now)) (sym c.in_ok-fed.ensures.messages ∙ sym c.as_slice.ensures) ∙ sym c.in_ok-has_signed.ensures ∙ c.if-branch.false)
          (sym c.in_ok-fed.ensures.fault ∙ c.in-Some-fault.is ∙ ap Some same),
    )

pub loop-preserved : goal.loop-preserved
loop-preserved g c = record {
  unsigned = unsigned_more _ _ _ c.loop.peer.talk _ _ None _ _ _ c.loop.invariant.unsigned c.in-Bytes.ensures.reads.2 c.in_ok-fed.ensures.talked (ap (list_any (is_signed c.args.key.now)) (sym c.in_ok-fed.ensures.messages ∙ sym c.as_slice.ensures) ∙ sym c.in_ok-has_signed.ensures ∙ c.if-branch.false)
      (sym c.in_ok-fed.ensures.fault ∙ c.in-None-fault.is);
  identity = c.loop.invariant.identity;
  reads = let cause = c.in-Bytes.ensures.cause in let before = c.loop.invariant.reads in omega (arith, cause, before);
}

pub returns-then-branch-clause-identity : goal.returns-then-branch-clause-identity
returns-then-branch-clause-identity g c = c.loop.invariant.identity
