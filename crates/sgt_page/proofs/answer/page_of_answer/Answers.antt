use Rattle.std.proofs.lemmas.Result.{IfOk-weaker}
use Rattle.std.proofs.Common.{◌∙◌, List, subst, sym, ℕ}
use Rattle.sgt_page.specs.Answer.{IsCutAtLine, IsFrontOf}
use Rattle.sgt_page.specs.Page.{shown_of}
use Rattle.sgt_page.specs.Verdict.{IsVerdict}
use Rattle.sgt_page.proofs.answer.page_of_answer.Goals as goal

pub returns : goal.returns
returns c =
    IfOk-weaker c.page_of.result _ _ (λ page is. record {
      shown = shown_of record {
        title = c.as_bytes.result;
        verdict = c.as_bytes-2.result;
        name = c.as_bytes-3.result;
        meaning = c.as_bytes-4.result;
        picture = c.small.result;
        text = c.front_of.result;
      };
      title = c.as_bytes.ensures.value ∙ c.in_ok-title.ensures;
      first = c.cut_at_line.result.0.now;
      behind = c.cut_at_line.result.1.now;
      line = c.cut_at_line.ensures;
      verdict =
          subst (λ (v : List ℕ). IsVerdict c.args.answer.command.now c.cut_at_line.result.0.now v)
          (sym c.as_bytes-2.ensures.value) c.in_ok-verdict.ensures;
      picture = c.small.ensures;
      rule = subst (λ (n : List ℕ). IsCutAtLine c.args.answer.rule.now n c.as_bytes-4.result.now)
          (sym c.as_bytes-3.ensures.value)
          (subst (λ (m : List ℕ). IsCutAtLine c.args.answer.rule.now c.cut_at_line-2.result.0.now m)
          (sym c.as_bytes-4.ensures.value) c.cut_at_line-2.ensures);
      text = subst (λ (t : List ℕ). IsFrontOf c.front_of.result.now t) c.as_bytes-5.ensures.value c.front_of.ensures;
      is = is;
    }) c.page_of.ensures
