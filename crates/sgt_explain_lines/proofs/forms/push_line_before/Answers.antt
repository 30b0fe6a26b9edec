use Rattle.std.proofs.Common.{◌≡◌, ◌-◌, ◌<◌, ◌++◌, codes, refl, sym, subst, arith}
use Rattle.sgt_explain_lines.specs.Numbered.{IsLineAt}
use Rattle.sgt_explain_lines.proofs.Adding.{numbered-as}
use Rattle.sgt_explain_lines.proofs.Numbering.{on-ok}
use Rattle.sgt_explain_lines.proofs.Placing.{line-before}
use Rattle.sgt_explain_lines.proofs.forms.push_line_before.Goals as goal

pub returns-then-before-gt2-clause-line : goal.returns-then-before-gt2-clause-line
returns-then-before-gt2-clause-line c = λ line less h.
    let before = c.saturating_sub-before.result in
    let same : before ≡ c.args.number - 1 = omega (arith, c.saturating_sub-before.ensures) in
    on-ok c.push_numbered.result _ _ (λ s. numbered-as before _ c.text_at.result.now line _ _ same
    (c.text_at.ensures line (subst (λ n. IsLineAt c.args.bytes.now n line) (sym same) h)) s) c.push_numbered.ensures

pub returns-then-before-gt2-clause-text : goal.returns-then-before-gt2-clause-text
returns-then-before-gt2-clause-text c =
    let before = c.saturating_sub-before.result in
    let same : before ≡ c.args.number - 1 = omega (arith, c.saturating_sub-before.ensures) in
    let less : 3 < c.args.number = omega (arith, c.saturating_sub-before.ensures, c.if-before-gt2.true) in
    on-ok c.push_numbered.result _ _ (λ s. line-before c.args.bytes.now c.args.number before c.text_at.result.now _ _
    same less
    (λ line h. c.text_at.ensures line (subst (λ n. IsLineAt c.args.bytes.now n line) (sym same) h)) s)
    c.push_numbered.ensures

pub returns-else-before-gt2-clause-text : goal.returns-else-before-gt2-clause-text
returns-else-before-gt2-clause-text c =
    on-ok c.push_text.result _ _ (λ e. (
      codes "",
      record {
        none = λ few. refl;
        some = λ less line h. absurd (omega (arith, c.saturating_sub-before.ensures, c.if-before-gt2.false, less));
      },
      e,
    )) c.push_text.ensures
