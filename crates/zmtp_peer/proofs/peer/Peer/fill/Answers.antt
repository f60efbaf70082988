use Rattle.std.proofs.Common.{◌≡◌, true, false, take, length, subst, sym, ap, ◌∙◌, rules}
use Rattle.std.specs.Prelude.{is_some}
use Rattle.std.proofs.lemmas.List.{length-take-le}
use Rattle.zmtp_frames.specs.Stream.{Reading, begun_at, Fills}
use Rattle.zmtp_peer.specs.PeerStream.{Talk, talked, Held, IsQuiet, hears, begun_fault}
use Rattle.zmtp_peer.proofs.Bodies.{Passes, talk_passes, with_reader}
use Rattle.zmtp_peer.proofs.peer.Peer.fill.Goals as goal
use Rattle.cluster_types.proofs.Options.{none_of}

passed : (c : goal.In_ok-taken) → Passes (record { phase = c.self.inside.phase; greeting = c.self.inside.greeting.items; reader = c.self.inside.reader; parts = c.self.inside.parts }) (take c.in_ok-taken.taken c.args.rest.now)
passed c =
    let t : Talk = record { phase = c.self.inside.phase; greeting = c.self.inside.greeting.items; reader = c.self.inside.reader; parts = c.self.inside.parts } in
    let xs = take c.in_ok-taken.taken c.args.rest.now in
    let long : length xs ≡ c.in_ok-taken.taken = length-take-le c.in_ok-taken.taken c.args.rest.now c.in_ok-taken.ensures.some in
    let on : hears c.self.inside.phase ≡ true = search rules in
    let off : is_some (begun_fault c.self.inside.phase c.self.inside.parts (begun_at c.self.inside.reader.stage)) ≡ false = search rules in
    talk_passes t xs on (none_of _ off) (subst (λ n. Fills c.self.inside.reader.stage n) (sym long) c.in_ok-taken.ensures.fills)

pub returns-clause-quiet : goal.returns-clause-quiet
returns-clause-quiet c = subst (λ (h : Held). IsQuiet h.talk (take c.in_ok-taken.taken c.args.rest.now)) c.self.view_is (passed c).quiet

pub returns-clause-talked : goal.returns-clause-talked
returns-clause-talked c =
    let t : Talk = record { phase = c.self.inside.phase; greeting = c.self.inside.greeting.items; reader = c.self.inside.reader; parts = c.self.inside.parts } in
    let xs = take c.in_ok-taken.taken c.args.rest.now in
    ap (λ (r : Reading). with_reader t r) c.in_ok-taken.ensures.after ∙ sym (passed c).talked ∙ ap (λ (h : Held). talked h.talk xs) c.self.view_is
