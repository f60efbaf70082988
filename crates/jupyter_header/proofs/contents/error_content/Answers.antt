use Rattle.std.proofs.Common.{◌≡◌, IfOk, string_bytes, refl, subst}
use Rattle.cluster_defs.specs.Texts.{error_content}
use Rattle.jupyter_header.proofs.contents.error_content.Goals as goal

pub returns : goal.returns
unfolding error_content
returns c =
    let text : string_bytes c.push_str-3.new.self ≡ error_content c.args.ename.now c.args.evalue.now c.args.ids.now =
    rw (c.in_ok-push_str-3.ensures.bytes, c.in_ok-push_str-2.ensures.bytes, c.in_ok-push_str.ensures.bytes, c.in_ok-text.ensures, c.as_str.ensures.value, c.as_str-2.ensures.value, c.as_str-3.ensures.value, c.in_ok-name.ensures, c.in_ok-value.ensures, c.in_ok-list.ensures) refl in
    subst (λ z. IfOk c.from_string.result (λ o. o ≡ z)) text c.from_string.ensures
