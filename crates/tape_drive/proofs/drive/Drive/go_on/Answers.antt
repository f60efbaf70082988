use Rattle.std.proofs.Common.{◌≡◌, ◌++◌, sym, ap, ◌∙◌, subst, reverse}
use Rattle.std.proofs.lemmas.List.{reverse-reverse}
use Rattle.tape_drive.specs.Inputs.{inputs_of}
use Rattle.tape_drive.specs.Served.{DriveView, IsOnWay}
use Rattle.tape_drive.specs.Steps.{AreTaken}
use Rattle.tape_drive.proofs.Way.{way_here}
use Rattle.tape_drive.proofs.drive.Drive.go_on.Goals as goal

pub serve_inputs-requires : goal.serve_inputs-requires
serve_inputs-requires g c =
    let wanted = inputs_of c.args.key.now c.self.inside.links.items c.args.item.now in
    let taken : c.take_record.new.inputs.items ≡ wanted = c.in_ok-take_record.ensures.inputs ∙ ap (λ xs. xs ++ wanted) c.new-inputs.ensures.items in
    subst AreTaken (sym (ap reverse c.reverse.ensures.items ∙ (reverse-reverse c.take_record.new.inputs.items ∙ taken))) c.in_ok-take_record.ensures.taken

pub returns-in_err-take_record-clause-on_way : goal.returns-in_err-take_record-clause-on_way
returns-in_err-take_record-clause-on_way g c =
    subst (IsOnWay c.args.self.now.stand.limits c.args.self.now.stand.history (inputs_of c.args.key.now c.args.self.now.stand.links c.args.item.now)) (sym (ap (λ (v : DriveView g.row.D.Denot). v.stand.history) c.self.view_is))
    (way_here c.args.self.now.stand.limits c.args.self.now.stand.history (inputs_of c.args.key.now c.args.self.now.stand.links c.args.item.now))
