use Rattle.std.proofs.Common.{◌≡◌, Bool, true, false, cond, Result, Ok, Err, IfOk, ap, subst, ◌∙◌}
use Rattle.std.proofs.lemmas.Str.{is_utf8-from_IsUtf8}
use Rattle.std.specs.Str.{is_utf8}
use Rattle.cluster_types.specs.declared.message.Message.{Message}
use Rattle.cluster_defs.specs.Submit.{read_submit}
use Rattle.client_core.specs.declared.error.SubmitError.{SubmitError}
use Rattle.client_core.specs.Messages.{submit_metadata, meta_once}
use Rattle.client_core.proofs.ReadBack.{reads_back}
use Rattle.client_core.proofs.client.Requests.submit.Goals as goal

sent_is : (b : Bool) (message m : Message) → cond b (Err SubmitError.KnownId) (Ok message) ≡ Ok m → message ≡ m
sent_is true message m h = absurd (cc)
sent_is false message m h = cc

-- what was sent has the metadata that reads back
reads : (r : Result Message SubmitError) (b : Bool) (message : Message) (reading : Message → Type 0) → IfOk r (λ m. cond b (Err SubmitError.KnownId) (Ok message) ≡ Ok m) → reading message → IfOk r reading
reads (Ok m) b message reading h known = subst reading (sent_is b message m h) known
reads (Err e) b message reading h known = h

pub returns-clause-reads : goal.returns-clause-reads
returns-clause-reads g c =
    let meta = c.args.meta.now in
    let text : c.as_str.result.now ≡ submit_metadata meta = c.as_str.ensures.value ∙ c.in_ok-metadata.ensures in
    let utf8 = subst (λ t. is_utf8 t ≡ true) text (is_utf8-from_IsUtf8 c.as_str.result.now c.as_str.utf8) in
    let back = ap read_submit text ∙ reads_back meta c.requires.limits utf8 in
    reads c.send.result _ _ (λ m. read_submit m.metadata ≡ Ok (meta_once meta)) c.send.ensures.ok back
