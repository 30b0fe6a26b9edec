use Rattle.std.proofs.Common.{◌∙◌, ◌-◌, ap, length, subst}
use Rattle.std.specs.Prelude.{slice_get, string_bytes}
use Rattle.std.proofs.lemmas.Option.{same_Some}
use Rattle.sgt_explain_lines.specs.Beside.{ShowsBlock}
use Rattle.sgt_explain_lines.proofs.Numbering.{on-ok}
use Rattle.sgt_explain_lines.proofs.items.push_block.Goals as goal

pub returns-in-Some-clause-shown : goal.returns-in-Some-clause-shown
returns-in-Some-clause-shown c = λ last at.
    let same = same_Some c.in-Some.last.now last (c.in-Some.ensures.value
    ∙ ap (λ ls. slice_get ls (length ls - 1)) c.as_slice.ensures.value ∙ at) in
    on-ok c.push_cut_block.result _ _
    (λ shows. subst (λ l. ShowsBlock l c.args.number c.args.text.now (string_bytes c.args.out.now)
    (string_bytes c.push_cut_block.new.out)) same shows) c.push_cut_block.ensures
