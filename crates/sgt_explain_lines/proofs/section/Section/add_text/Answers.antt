use Rattle.std.proofs.Common.{◌≡◌, ◌∙◌, sym, subst}
use Rattle.sgt_notation.specs.Spelling.{line_text, IsLine}
use Rattle.sgt_notation.specs.declared.SectionLine.{SectionLine}
use Rattle.sgt_notation.proofs.OneSpelling.{line-one}
use Rattle.sgt_explain_lines.specs.Numbered.{HasOneMore}
use Rattle.sgt_explain_lines.proofs.Numbering.{on-ok}
use Rattle.sgt_explain_lines.proofs.section.Section.add_text.Goals as goal

pub returns-in-Ok : goal.returns-in-Ok
returns-in-Ok c =
    let is = c.in-Ok.ensures in
    on-ok c.add.result (HasOneMore c.args.self.now c.add.new.self c.args.line c.in-Ok.read)
    ((read : SectionLine) → IsLine read → c.args.text.now ≡ line_text read
    → HasOneMore c.args.self.now c.add.new.self c.args.line read)
    (λ more read one e. subst (HasOneMore c.args.self.now c.add.new.self c.args.line)
    (line-one c.in-Ok.read read is.0 one (sym is.1 ∙ e)) more)
    c.add.ensures
