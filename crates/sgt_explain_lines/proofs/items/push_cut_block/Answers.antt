use Rattle.std.proofs.Common.{◌++◌, ap₂, ◌∙◌}
use Rattle.std.specs.Prelude.{string_bytes}
use Rattle.sgt_explain_lines.specs.Beside.{block_words}
use Rattle.sgt_explain_lines.proofs.Beside.{shows-block}
use Rattle.sgt_explain_lines.proofs.Numbering.{on-ok}
use Rattle.sgt_explain_lines.proofs.items.push_cut_block.Goals as goal

pub returns : goal.returns
returns c =
    let head = c.in_ok-push_block_head.ensures
    ∙ ap₂ (λ tx done. string_bytes c.args.out.now ++ block_words tx done) c.tx.ensures c.verb.ensures in
    on-ok c.push_block_rule.result _ _ (λ more. shows-block c.args.last.now c.args.number c.args.text.now _ _ _ _ _ _
    head c.in_ok-push_logged.ensures
    c.in_ok-push_str.ensures.bytes c.in_ok-push_numbered.ensures more) c.push_block_rule.ensures
