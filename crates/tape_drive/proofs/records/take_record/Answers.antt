use Rattle.std.proofs.Common.{◌≡◌, ◌∙◌, sym}
use Rattle.tape.specs.declared.record.TapeKind.TheVariants.{Piece}
use Rattle.tape_drive.proofs.Within.{kind_taken}
use Rattle.tape_drive.proofs.records.take_record.Goals as goal

pub returns-in_ok-take_up-in-Up-clause-taken : goal.returns-in_ok-take_up-in-Up-clause-taken
returns-in_ok-take_up-in-Up-clause-taken c =
    kind_taken c.args.key.now c.args.links.now.items c.args.item.now.moment c.args.item.now.word c.args.item.now.kind c.requires.moment c.requires.kind
    (λ conn octets is. absurd (let no = sym c.in-Up.is ∙ is in cc))

pub returns-in_ok-add_in-in-Message-clause-taken : goal.returns-in_ok-add_in-in-Message-clause-taken
returns-in_ok-add_in-in-Message-clause-taken c =
    kind_taken c.args.key.now c.args.links.now.items c.args.item.now.moment c.args.item.now.word c.args.item.now.kind c.requires.moment c.requires.kind
    (λ conn octets is. absurd (let no = sym c.in-Message.is ∙ is in cc))
