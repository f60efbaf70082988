use Rattle.std.proofs.Common.{◌≡◌, subst, sym, nat_eq, None, Some, true, length, arith}
use Rattle.std.specs.Prelude.{slice_get}
use Rattle.std.specs.HashMap.{get, get_by_text}
use Rattle.std.proofs.Math.Nat.{min-le_left, min-le_right}
use Rattle.cluster_defs.specs.Engines.{engine_on, engine_named, engine_numbered}
use Rattle.engine_registry.specs.Places.{on, named, numbered, Keeps}
use Rattle.engine_registry.specs.Indexed.{Indexed}
use Rattle.engine_registry.proofs.Keeping.{still, one_more}
use Rattle.engine_registry.proofs.registry.Registry.push.Goals as goal

pub invariant_of-self : goal.invariant_of-self
invariant_of-self c =
    let s = c.self.inside in
    let n = c.note.new in
    still s.live.items (get nat_eq s.conns) (get nat_eq n.conns) (get_by_text s.uuids) (get_by_text n.uuids) (slice_get s.numbers.items) (slice_get n.numbers.items) s.apart s.apart s.least s.least c.self.invariant
    (subst (λ es. Keeps on es (get nat_eq s.conns) (get nat_eq n.conns)) c.deref-2.ensures.value c.note.ensures.conns)
    (subst (λ es. Keeps named es (get_by_text s.uuids) (get_by_text n.uuids)) c.deref-2.ensures.value c.note.ensures.uuids)
    (subst (λ es. Keeps numbered es (slice_get s.numbers.items) (slice_get n.numbers.items)) c.deref-2.ensures.value c.note.ensures.numbers)

pub invariant_of-self-in_err-push : goal.invariant_of-self-in_err-push
invariant_of-self-in_err-push c =
    let s = c.self.inside in
    let n = c.note.new in
    subst (λ es. Indexed es (get nat_eq n.conns) (get_by_text n.uuids) (slice_get n.numbers.items) s.apart s.least) (sym c.in_err-push.ensures.items)
    (still s.live.items (get nat_eq s.conns) (get nat_eq n.conns) (get_by_text s.uuids) (get_by_text n.uuids) (slice_get s.numbers.items) (slice_get n.numbers.items) s.apart s.apart s.least s.least c.self.invariant
    (subst (λ es. Keeps on es (get nat_eq s.conns) (get nat_eq n.conns)) c.deref-2.ensures.value c.note.ensures.conns)
    (subst (λ es. Keeps named es (get_by_text s.uuids) (get_by_text n.uuids)) c.deref-2.ensures.value c.note.ensures.uuids)
    (subst (λ es. Keeps numbered es (slice_get s.numbers.items) (slice_get n.numbers.items)) c.deref-2.ensures.value c.note.ensures.numbers))

pub invariant_of-self-2 : goal.invariant_of-self-2
invariant_of-self-2 c =
    let s = c.self.inside in
    let n = c.note.new in
    let e = c.args.engine in
    let live = s.live.items in
    let c2 = get nat_eq n.conns in
    let u2 = get_by_text n.uuids in
    let n2 = slice_get n.numbers.items in
    let is : c.deref-2.result.now ≡ live = c.deref-2.ensures.value in
    let apart = c.stays_apart-apart.result in
    let least = c.min-least.result in
    subst (λ es. Indexed es c2 u2 n2 apart least) (sym c.in_ok-push.ensures.items)
    (one_more live (get nat_eq s.conns) c2 (get_by_text s.uuids) u2 (slice_get s.numbers.items) n2 s.apart apart s.least least e c.self.invariant
    (subst (λ es. Keeps on es (get nat_eq s.conns) c2) is c.note.ensures.conns)
    (subst (λ es. Keeps named es (get_by_text s.uuids) u2) is c.note.ensures.uuids)
    (subst (λ es. Keeps numbered es (slice_get s.numbers.items) n2) is c.note.ensures.numbers)
    (subst (λ es. engine_on es e.conn ≡ None → c2 e.conn ≡ Some (length es)) is c.in_ok-note.ensures.conn)
    (subst (λ es. engine_named es e.uuid ≡ None → u2 e.uuid ≡ Some (length es)) is c.in_ok-note.ensures.uuid)
    (subst (λ es. engine_numbered es e.number ≡ None → n2 e.number ≡ Some (length es)) is c.in_ok-note.ensures.number)
    c.stays_apart-apart.ensures.apart
    (subst (λ es. apart ≡ true → engine_on es e.conn ≡ None) c.deref.ensures.value c.stays_apart-apart.ensures.conn)
    (omega (arith, c.min-least.ensures, min-le_left s.least e.mark)) (omega (arith, c.min-least.ensures, min-le_right s.least e.mark)))
