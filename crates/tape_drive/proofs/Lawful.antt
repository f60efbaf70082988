-- The history of a tape stays legal, with no decision due; and a message that isn't signed is no input.
use Rattle.std.proofs.Common.{◌≡◌, ℕ, zero, suc, List, [], ◌∷◌, true, false, cond, map, refl, ap, Option, Some, None, Err}
use Rattle.cluster_types.specs.declared.entry.Entry.TheVariants.{Input}
use Rattle.cluster_types.specs.declared.entry.Input.{Input as InputType}
use Rattle.cluster_defs.specs.Scheduling.{due}
use Rattle.cluster_defs.specs.Histories.{History, facts, Legal, go_on, decided, decide_all}
use Rattle.cluster_core.proofs.Growing.{due_allowed}
use Rattle.cluster_core.proofs.Plans.{decide_all_rests}
use Rattle.jupyter_parts.specs.declared.fault.PartsError.{PartsError}
use Rattle.jupyter_parts.specs.Signed.{read_parts}
use Rattle.tape.specs.declared.record.TapeRecord.{TapeRecord}
use Rattle.tape.specs.declared.record.TapeKind.TheVariants.{Message}
use Rattle.tape_drive.specs.Inputs.{in_of, inputs_of}
use Rattle.tape_drive.specs.Rules.{stop_of}
use Rattle.tape_drive.specs.Steps.{may_come, stepped, fitting, stepped_all}
use Rattle.tape_drive.specs.Links.{links_at}
use Rattle.tape_drive.specs.Sends.{steps_send, sent_at}
use Rattle.tape_drive.specs.declared.drive.TapeStop.{TapeStop}
use Rattle.tape_drive.specs.Drive.{Stand, inputs_made, served_as, served_from, served, outs_as, outs_from_stand, stand_at}
use Rattle.tape_drive.specs.Lawful.{Rests, Unheard}

decided_legal : (n : ℕ) (h : History) → Legal h → Legal (decided n h)
decided_legal zero h legal = legal
decided_legal (suc n) h legal =
    elim (due (facts h)) as (λ o. due (facts h) ≡ o → Legal (go_on h o (decided n))) [
      | None ↦ λ is. legal
      | (Some d) ↦ λ is. decided_legal n (d ∷ h) (due_allowed (facts h) d is, legal)
    ] refl

decide_all_legal : (h : History) → Legal h → Legal (decide_all h)
unfolding decide_all
decide_all_legal h legal = decided_legal _ h legal

stepped_rests : (h : History) (input : InputType) → Rests h → Rests (stepped h input)
stepped_rests h input rests =
    elim (may_come h input) as (λ b. may_come h input ≡ b → Rests (cond b (decide_all (Input input ∷ h)) h)) [
      | true ↦ λ may. (decide_all_legal (Input input ∷ h) ((rests.1, may), rests.0), decide_all_rests (Input input ∷ h))
      | false ↦ λ may. rests
    ] refl

stepped_all_rests : (h : History) (inputs : List InputType) → Rests h → Rests (stepped_all h inputs)
stepped_all_rests h [] rests = rests
stepped_all_rests h (input ∷ inputs) rests = stepped_all_rests (stepped h input) inputs (stepped_rests h input rests)

served_as_rests : (key : List ℕ) (s : Stand) (r : TapeRecord) (stop : Option ℕ) → Rests s.history → Rests (served_as key s r stop).history
served_as_rests key s r None rests = stepped_all_rests s.history (inputs_made key s r) rests
served_as_rests key s r (Some place) rests = rests

served_from_rests : (key : List ℕ) (s : Stand) (r : TapeRecord) (stop : Option TapeStop) → Rests s.history → Rests (served_from key s r stop).history
served_from_rests key s r None rests = served_as_rests key s r (stop_of s.links s.least s.at r) rests
served_from_rests key s r (Some stop) rests = rests

pub stand_rests : (key : List ℕ) (s : Stand) (rs : List TapeRecord) → Rests s.history → Rests (stand_at key s rs).history
stand_rests key s [] rests = rests
stand_rests key s (r ∷ rs) rests = stand_rests key (served key s r) rs (served_from_rests key s r s.stop rests)

pub begin_rests : (h : History) (input : InputType) → Rests h → may_come h input ≡ true → Rests (decide_all (Input input ∷ h))
begin_rests h input rests may = (decide_all_legal (Input input ∷ h) ((rests.1, may), rests.0), decide_all_rests (Input input ∷ h))

-- a record of frames that aren't signed
pub unsigned_record : (key : List ℕ) (s : Stand) (moment word conn : ℕ) (frames : List (List ℕ)) (fault : PartsError) → read_parts key frames ≡ Err fault →
    Unheard key s (record { moment = moment; word = word; kind = Message conn frames })
unsigned_record key s moment word conn frames fault is = from s.stop
  where
    r : TapeRecord
    r = record { moment = moment; word = word; kind = Message conn frames }

    none : inputs_of key s.links r ≡ []
    none = rw is refl

    then_as : (o : Option ℕ) → ((served_as key s r o).history ≡ s.history) × (outs_as key s r o ≡ [])
    then_as None = (
      ap (λ inputs. stepped_all s.history (fitting s.limits s.history inputs)) none,
      ap (λ inputs. map (sent_at moment) (steps_send key (links_at s.links (Message conn frames)) s.history (fitting s.limits s.history inputs))) none,
    )
    then_as (Some place) = (refl, refl)

    from : (o : Option TapeStop) → ((served_from key s r o).history ≡ s.history) × (outs_from_stand key s r o ≡ [])
    from None = then_as (stop_of s.links s.least s.at r)
    from (Some stop) = (refl, refl)

pub unsigned : (key : List ℕ) (conn moment word : ℕ) (frames : List (List ℕ)) (fault : PartsError) → read_parts key frames ≡ Err fault → in_of key conn moment word frames ≡ []
unsigned key conn moment word frames fault is = rw is refl
