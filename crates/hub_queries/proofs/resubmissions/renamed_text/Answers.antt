use Rattle.std.proofs.Common.{refl}
use Rattle.cluster_defs.specs.Texts.{resubmit_content}
use Rattle.hub_queries.proofs.Parts.{members_of}
use Rattle.hub_queries.proofs.resubmissions.renamed_text.Goals as goal

pub returns : goal.returns
unfolding resubmit_content
returns c = rw (c.in_ok-push_str-2.ensures.bytes, c.in_ok-push_str.ensures.bytes, c.in_ok-push_renamed.ensures, c.in_ok-text.ensures.ok, members_of c.args.renamed.now) refl
