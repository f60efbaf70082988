-- The moves of a run.
use Rattle.std.proofs.Common.{◌≡◌, ◌∷◌, [], ℤ, List, Option, refl, sym, subst}
use Rattle.cluster_types.specs.declared.message.Message.{Message}
use Rattle.cluster_types.specs.declared.entry.Input.{Input as InputType}
use Rattle.cluster_types.specs.declared.out.Out.{Out}
use Rattle.cluster_defs.specs.Histories.{History}
use Rattle.cluster_defs.specs.Outs.{conn_of}
use Rattle.engine_core.specs.State.{State}
use Rattle.tape.specs.declared.record.TapeRecord.{TapeRecord}
use Rattle.quick_commands.specs.Results.{IsAdded}
use Rattle.quick_commands.specs.Work.{Work, IsAnswered, answer_in, Moves, MovesAs}

abbrev at_work : History → List State → List InputType → List Out → List TapeRecord → ℤ → Work
at_work history engines inputs outs tape sum = record { history = history; engines = engines; inputs = inputs; outs = outs; tape = tape; sum = sum }

-- an out is taken where no input comes next
pub takes : (history : History) (engines later : List State) (inputs next : List InputType) (outs rest : List Out) (tape : List TapeRecord) (sum more : ℤ) (out : Out) (reply : Option Message) → inputs ≡ [] → outs ≡ out ∷ rest →
    IsAnswered out engines reply later → IsAdded out sum more → next ≡ answer_in (conn_of out) reply →
    Moves (record { history = history; engines = engines; inputs = inputs; outs = outs; tape = tape; sum = sum }) (record { history = history; engines = later; inputs = next; outs = rest; tape = tape; sum = more })
takes history engines later inputs next outs rest tape sum more out reply none first answered added is =
    let w = at_work history engines inputs outs tape sum in
    let n = at_work history later next rest tape more in
    subst (λ (i : List InputType). MovesAs w i outs tape n) (sym none)
    (subst (λ (o : List Out). MovesAs w [] o tape n) (sym first)
    (record { reply = reply; engines = later; sum = more; answered = answered; added = added; is = subst (λ (i : List InputType). at_work history later next rest tape more ≡ at_work history later i rest tape more) is refl }))
