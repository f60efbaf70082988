use Rattle.std.proofs.Common.{◌≡◌, List, ◌∷◌, ◌++◌, [], drop, sym, ap, ◌∙◌, subst, append_assoc}
use Rattle.std.proofs.lemmas.List.Elements.{All-same, All-drop}
use Rattle.cluster_types.specs.declared.entry.Entry.{Entry}
use Rattle.record_codec.specs.Spelling.{IsWithinLimits}
use Rattle.journal_standby.specs.Batches.{batches}
use Rattle.journal_standby.specs.Steps.{HasShortSteps}
use Rattle.journal_standby.proofs.batches.batches_of.Goals as goal

made_more : (all made now rest behind : List (List Entry)) (batch : List Entry) → all ≡ made ++ rest → rest ≡ batch ∷ behind → now ≡ made ++ batch ∷ [] → all ≡ now ++ behind
made_more all made now rest behind batch so_far parts pushed =
    so_far ∙ ap (λ (bs : List (List Entry)). made ++ bs) parts ∙ sym (append_assoc made (batch ∷ []) behind) ∙ ap (λ (bs : List (List Entry)). bs ++ behind) (sym pushed)

pub loop-rest-preserved : goal.loop-rest-preserved
loop-rest-preserved c =
    let rest = c.loop-rest.rest.now in
    let batch = c.split_at.result.0.now in
    let behind = c.split_at.result.1.now in
    let n = c.first_batch.result in
    let front = c.split_at.ensures.front in
    let back = c.split_at.ensures.back in
    let parts : batches rest ≡ batch ∷ batches behind = c.first_batch.ensures.is ∙ ap (λ (es : List Entry). es ∷ batches (drop n rest)) (sym front) ∙ ap (λ (es : List Entry). batch ∷ batches es) (sym back) in
    let pushed : c.push.new.self.items ≡ c.loop-rest.made.items ++ batch ∷ [] = c.in_ok-push.ensures.items ∙ ap (λ (es : List Entry). c.loop-rest.made.items ++ es ∷ []) c.in_ok-batch_of.ensures in
    record {
      each = All-same IsWithinLimits behind (drop n rest) back (All-drop IsWithinLimits n rest c.loop-rest.invariant.each);
      short = subst (λ (es : List Entry). HasShortSteps es) (sym back) c.first_batch.ensures.rest;
      made = made_more (batches c.args.entries.now) c.loop-rest.made.items c.push.new.self.items (batches rest) (batches behind) batch c.loop-rest.invariant.made parts pushed;
    }
