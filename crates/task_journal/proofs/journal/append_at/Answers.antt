use Rattle.std.proofs.Common.{◌≡◌, ◌+◌, ◌++◌, ◌∷◌, inl, length, drop, take, sym, ap, subst, ◌∙◌, arith, ℕ, List, length-append}
use Rattle.std.proofs.lemmas.List.{length-take}
use Rattle.disk_model.specs.Crashes.{Written, Only}
use Rattle.task_journal.specs.Journal.{StandsFor}
use Rattle.task_journal.specs.Settled.{Outcome}
use Rattle.task_journal.proofs.Moments.{starts, goes, stays}
use Rattle.task_journal.proofs.Crash.{opened, gate_inside, first_image, gate_image, first_done, gate_done, stands_after, settled_after}
use Rattle.task_journal.proofs.journal.append_at.Goals as goal

pub write_at-requires : goal.write_at-requires
write_at-requires g c = λ told. let ready = c.requires told in omega (arith, gate_inside (g.D.Disk.content c.args.disk.now) c.args.gate ready.settled, ready.settled.room, c.saturating_add-behind.ensures)

pub write_at-requires-2 : goal.write_at-requires-2
write_at-requires-2 g c = λ told.
    let ready = c.requires told in
    let disk = g.D.Disk.content c.args.disk.now in
    let size = ap length (c.sync.ensures.same ∙ c.in_ok-write_at.ensures.written told) in
    let front = gate_inside disk c.args.gate ready.settled in
    omega (arith, size, front, ready.settled.room, c.saturating_add-behind.ensures, length-append (take c.saturating_add-behind.result disk ++ c.args.octets.now) (drop (c.saturating_add-behind.result + length c.args.octets.now) disk), length-append (take c.saturating_add-behind.result disk) c.args.octets.now, length-take c.saturating_add-behind.result disk)

-- the first write leaves the entries as they were
pub returns-in_err-write_at-clause-any_moment : goal.returns-in_err-write_at-clause-any_moment
returns-in_err-write_at-clause-any_moment g c = λ told list es is_batch stands.
    let ready = c.requires told in
    let disk = g.D.Disk.content c.args.disk.now in
    let o = opened disk c.args.gate list ready.settled stands in
    let at : c.saturating_add-behind.result ≡ c.args.gate + 1 = omega (arith, ready.settled.room, c.saturating_add-behind.ensures) in
    let P = Outcome list es in
    let begun = starts g.D.Disk.moment g.D.Disk.image g.D.Disk.image_since g.met.D.Disk.counts_now g.met.D.Disk.widens c.args.disk.now P (g.met.D.Disk.only_now c.args.disk.now) (λ f now. inl (subst (λ (z : List ℕ). StandsFor z list) (sym (ready.durable f now)) stands)) in
    let first = first_image disk c.args.gate list o c.saturating_add-behind.result (length c.args.octets.now) (g.D.Disk.image c.args.disk.now) (g.D.Disk.image c.write_at.new.self) at ready.durable c.write_at.ensures.images in
    let behind = goes g.D.Disk.moment g.D.Disk.image g.D.Disk.image_since g.met.D.Disk.counts_now g.met.D.Disk.widens c.args.disk.now c.args.disk.now c.write_at.new.self P begun c.write_at.ensures.time (λ f now. inl (first f now)) in
    behind.leaves

pub returns-in_err-sync-clause-any_moment : goal.returns-in_err-sync-clause-any_moment
returns-in_err-sync-clause-any_moment g c = λ told list es is_batch stands.
    let ready = c.requires told in
    let disk = g.D.Disk.content c.args.disk.now in
    let o = opened disk c.args.gate list ready.settled stands in
    let at : c.saturating_add-behind.result ≡ c.args.gate + 1 = omega (arith, ready.settled.room, c.saturating_add-behind.ensures) in
    let P = Outcome list es in
    let begun = starts g.D.Disk.moment g.D.Disk.image g.D.Disk.image_since g.met.D.Disk.counts_now g.met.D.Disk.widens c.args.disk.now P (g.met.D.Disk.only_now c.args.disk.now) (λ f now. inl (subst (λ (z : List ℕ). StandsFor z list) (sym (ready.durable f now)) stands)) in
    let first = first_image disk c.args.gate list o c.saturating_add-behind.result (length c.args.octets.now) (g.D.Disk.image c.args.disk.now) (g.D.Disk.image c.write_at.new.self) at ready.durable c.write_at.ensures.images in
    let behind = goes g.D.Disk.moment g.D.Disk.image g.D.Disk.image_since g.met.D.Disk.counts_now g.met.D.Disk.widens c.args.disk.now c.args.disk.now c.write_at.new.self P begun c.write_at.ensures.time (λ f now. inl (first f now)) in
    let kept = stays g.D.Disk.moment g.D.Disk.image g.D.Disk.image_since g.met.D.Disk.counts_now g.met.D.Disk.widens c.args.disk.now c.write_at.new.self c.sync.new.self P behind c.sync.ensures.time c.sync.ensures.images in
    kept.leaves

-- the second leaves them with the batch or without
pub returns-in_err-write_at-2-clause-any_moment : goal.returns-in_err-write_at-2-clause-any_moment
returns-in_err-write_at-2-clause-any_moment g c = λ told list es is_batch stands.
    let ready = c.requires told in
    let disk = g.D.Disk.content c.args.disk.now in
    let o = opened disk c.args.gate list ready.settled stands in
    let at : c.saturating_add-behind.result ≡ c.args.gate + 1 = omega (arith, ready.settled.room, c.saturating_add-behind.ensures) in
    let P = Outcome list es in
    let begun = starts g.D.Disk.moment g.D.Disk.image g.D.Disk.image_since g.met.D.Disk.counts_now g.met.D.Disk.widens c.args.disk.now P (g.met.D.Disk.only_now c.args.disk.now) (λ f now. inl (subst (λ (z : List ℕ). StandsFor z list) (sym (ready.durable f now)) stands)) in
    let first = first_image disk c.args.gate list o c.saturating_add-behind.result (length c.args.octets.now) (g.D.Disk.image c.args.disk.now) (g.D.Disk.image c.write_at.new.self) at ready.durable c.write_at.ensures.images in
    let behind = goes g.D.Disk.moment g.D.Disk.image g.D.Disk.image_since g.met.D.Disk.counts_now g.met.D.Disk.widens c.args.disk.now c.args.disk.now c.write_at.new.self P begun c.write_at.ensures.time (λ f now. inl (first f now)) in
    let kept = stays g.D.Disk.moment g.D.Disk.image g.D.Disk.image_since g.met.D.Disk.counts_now g.met.D.Disk.widens c.args.disk.now c.write_at.new.self c.sync.new.self P behind c.sync.ensures.time c.sync.ensures.images in
    let rest = drop (c.args.gate + 1 + length c.args.octets.now) disk in
    let staged : g.D.Disk.content c.write_at.new.self ≡ o.front ++ o.shut ∷ (c.args.octets.now ++ rest) = first_done disk c.args.gate list o c.args.octets.now (g.D.Disk.content c.write_at.new.self) (subst (λ (n : ℕ). Written disk n c.args.octets.now (g.D.Disk.content c.write_at.new.self)) at (c.in_ok-write_at.ensures.written told)) in
    let second = gate_image disk c.args.gate list o es c.args.octets.now rest (g.D.Disk.content c.write_at.new.self) (g.D.Disk.image c.sync.new.self) (g.D.Disk.image c.write_at-2.new.self) is_batch staged c.in_ok-sync.ensures.durable c.write_at-2.ensures.images in
    let over = goes g.D.Disk.moment g.D.Disk.image g.D.Disk.image_since g.met.D.Disk.counts_now g.met.D.Disk.widens c.args.disk.now c.sync.new.self c.write_at-2.new.self P kept c.write_at-2.ensures.time second in
    over.leaves

pub returns-in_err-sync-2-clause-any_moment : goal.returns-in_err-sync-2-clause-any_moment
returns-in_err-sync-2-clause-any_moment g c = λ told list es is_batch stands.
    let ready = c.requires told in
    let disk = g.D.Disk.content c.args.disk.now in
    let o = opened disk c.args.gate list ready.settled stands in
    let at : c.saturating_add-behind.result ≡ c.args.gate + 1 = omega (arith, ready.settled.room, c.saturating_add-behind.ensures) in
    let P = Outcome list es in
    let begun = starts g.D.Disk.moment g.D.Disk.image g.D.Disk.image_since g.met.D.Disk.counts_now g.met.D.Disk.widens c.args.disk.now P (g.met.D.Disk.only_now c.args.disk.now) (λ f now. inl (subst (λ (z : List ℕ). StandsFor z list) (sym (ready.durable f now)) stands)) in
    let first = first_image disk c.args.gate list o c.saturating_add-behind.result (length c.args.octets.now) (g.D.Disk.image c.args.disk.now) (g.D.Disk.image c.write_at.new.self) at ready.durable c.write_at.ensures.images in
    let behind = goes g.D.Disk.moment g.D.Disk.image g.D.Disk.image_since g.met.D.Disk.counts_now g.met.D.Disk.widens c.args.disk.now c.args.disk.now c.write_at.new.self P begun c.write_at.ensures.time (λ f now. inl (first f now)) in
    let kept = stays g.D.Disk.moment g.D.Disk.image g.D.Disk.image_since g.met.D.Disk.counts_now g.met.D.Disk.widens c.args.disk.now c.write_at.new.self c.sync.new.self P behind c.sync.ensures.time c.sync.ensures.images in
    let rest = drop (c.args.gate + 1 + length c.args.octets.now) disk in
    let staged : g.D.Disk.content c.write_at.new.self ≡ o.front ++ o.shut ∷ (c.args.octets.now ++ rest) = first_done disk c.args.gate list o c.args.octets.now (g.D.Disk.content c.write_at.new.self) (subst (λ (n : ℕ). Written disk n c.args.octets.now (g.D.Disk.content c.write_at.new.self)) at (c.in_ok-write_at.ensures.written told)) in
    let second = gate_image disk c.args.gate list o es c.args.octets.now rest (g.D.Disk.content c.write_at.new.self) (g.D.Disk.image c.sync.new.self) (g.D.Disk.image c.write_at-2.new.self) is_batch staged c.in_ok-sync.ensures.durable c.write_at-2.ensures.images in
    let over = goes g.D.Disk.moment g.D.Disk.image g.D.Disk.image_since g.met.D.Disk.counts_now g.met.D.Disk.widens c.args.disk.now c.sync.new.self c.write_at-2.new.self P kept c.write_at-2.ensures.time second in
    let ended = stays g.D.Disk.moment g.D.Disk.image g.D.Disk.image_since g.met.D.Disk.counts_now g.met.D.Disk.widens c.args.disk.now c.write_at-2.new.self c.sync-2.new.self P over c.sync-2.ensures.time c.sync-2.ensures.images in
    ended.leaves

pub returns-clause-any_moment : goal.returns-clause-any_moment
returns-clause-any_moment g c = λ told list es is_batch stands.
    let ready = c.requires told in
    let disk = g.D.Disk.content c.args.disk.now in
    let o = opened disk c.args.gate list ready.settled stands in
    let at : c.saturating_add-behind.result ≡ c.args.gate + 1 = omega (arith, ready.settled.room, c.saturating_add-behind.ensures) in
    let P = Outcome list es in
    let begun = starts g.D.Disk.moment g.D.Disk.image g.D.Disk.image_since g.met.D.Disk.counts_now g.met.D.Disk.widens c.args.disk.now P (g.met.D.Disk.only_now c.args.disk.now) (λ f now. inl (subst (λ (z : List ℕ). StandsFor z list) (sym (ready.durable f now)) stands)) in
    let first = first_image disk c.args.gate list o c.saturating_add-behind.result (length c.args.octets.now) (g.D.Disk.image c.args.disk.now) (g.D.Disk.image c.write_at.new.self) at ready.durable c.write_at.ensures.images in
    let behind = goes g.D.Disk.moment g.D.Disk.image g.D.Disk.image_since g.met.D.Disk.counts_now g.met.D.Disk.widens c.args.disk.now c.args.disk.now c.write_at.new.self P begun c.write_at.ensures.time (λ f now. inl (first f now)) in
    let kept = stays g.D.Disk.moment g.D.Disk.image g.D.Disk.image_since g.met.D.Disk.counts_now g.met.D.Disk.widens c.args.disk.now c.write_at.new.self c.sync.new.self P behind c.sync.ensures.time c.sync.ensures.images in
    let rest = drop (c.args.gate + 1 + length c.args.octets.now) disk in
    let staged : g.D.Disk.content c.write_at.new.self ≡ o.front ++ o.shut ∷ (c.args.octets.now ++ rest) = first_done disk c.args.gate list o c.args.octets.now (g.D.Disk.content c.write_at.new.self) (subst (λ (n : ℕ). Written disk n c.args.octets.now (g.D.Disk.content c.write_at.new.self)) at (c.in_ok-write_at.ensures.written told)) in
    let second = gate_image disk c.args.gate list o es c.args.octets.now rest (g.D.Disk.content c.write_at.new.self) (g.D.Disk.image c.sync.new.self) (g.D.Disk.image c.write_at-2.new.self) is_batch staged c.in_ok-sync.ensures.durable c.write_at-2.ensures.images in
    let over = goes g.D.Disk.moment g.D.Disk.image g.D.Disk.image_since g.met.D.Disk.counts_now g.met.D.Disk.widens c.args.disk.now c.sync.new.self c.write_at-2.new.self P kept c.write_at-2.ensures.time second in
    let ended = stays g.D.Disk.moment g.D.Disk.image g.D.Disk.image_since g.met.D.Disk.counts_now g.met.D.Disk.widens c.args.disk.now c.write_at-2.new.self c.sync-2.new.self P over c.sync-2.ensures.time c.sync-2.ensures.images in
    ended.leaves

-- and then the batch is on the disk
pub returns-clause-stands : goal.returns-clause-stands
returns-clause-stands g c = λ told list es is_batch stands.
    let ready = c.requires told in
    let disk = g.D.Disk.content c.args.disk.now in
    let o = opened disk c.args.gate list ready.settled stands in
    let at : c.saturating_add-behind.result ≡ c.args.gate + 1 = omega (arith, ready.settled.room, c.saturating_add-behind.ensures) in
    let rest = drop (c.args.gate + 1 + length c.args.octets.now) disk in
    let staged : g.D.Disk.content c.write_at.new.self ≡ o.front ++ o.shut ∷ (c.args.octets.now ++ rest) = first_done disk c.args.gate list o c.args.octets.now (g.D.Disk.content c.write_at.new.self) (subst (λ (n : ℕ). Written disk n c.args.octets.now (g.D.Disk.content c.write_at.new.self)) at (c.in_ok-write_at.ensures.written told)) in
    let done : g.D.Disk.content c.write_at-2.new.self ≡ o.front ++ 167 ∷ (c.args.octets.now ++ rest) = gate_done disk c.args.gate list o c.args.octets.now rest (g.D.Disk.content c.sync.new.self) (g.D.Disk.content c.write_at-2.new.self) (c.sync.ensures.same ∙ staged) (c.in_ok-write_at-2.ensures.written told) in
    stands_after disk c.args.gate list o es c.args.octets.now rest (g.D.Disk.content c.sync-2.new.self) is_batch (c.sync-2.ensures.same ∙ done)

pub returns-clause-ready : goal.returns-clause-ready
returns-clause-ready g c = λ told list es is_batch stands.
    let ready = c.requires told in
    let disk = g.D.Disk.content c.args.disk.now in
    let o = opened disk c.args.gate list ready.settled stands in
    let at : c.saturating_add-behind.result ≡ c.args.gate + 1 = omega (arith, ready.settled.room, c.saturating_add-behind.ensures) in
    let rest = drop (c.args.gate + 1 + length c.args.octets.now) disk in
    let staged : g.D.Disk.content c.write_at.new.self ≡ o.front ++ o.shut ∷ (c.args.octets.now ++ rest) = first_done disk c.args.gate list o c.args.octets.now (g.D.Disk.content c.write_at.new.self) (subst (λ (n : ℕ). Written disk n c.args.octets.now (g.D.Disk.content c.write_at.new.self)) at (c.in_ok-write_at.ensures.written told)) in
    let done : g.D.Disk.content c.write_at-2.new.self ≡ o.front ++ 167 ∷ (c.args.octets.now ++ rest) = gate_done disk c.args.gate list o c.args.octets.now rest (g.D.Disk.content c.sync.new.self) (g.D.Disk.content c.write_at-2.new.self) (c.sync.ensures.same ∙ staged) (c.in_ok-write_at-2.ensures.written told) in
    let room = c.in_ok-write_at.ensures.range told in
    record {
      settled = settled_after disk c.args.gate list o es c.args.octets.now rest (g.D.Disk.content c.sync-2.new.self) is_batch (omega (arith, room, at)) (c.sync-2.ensures.same ∙ done);
      durable = subst (λ (z : List ℕ). Only z (g.D.Disk.image c.sync-2.new.self)) (sym c.sync-2.ensures.same) c.in_ok-sync-2.ensures.durable;
    }
