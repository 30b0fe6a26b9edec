use Rattle.std.proofs.Common.{◌++◌, List, length, map, ap, arith, subst, All}
use Rattle.std.proofs.lemmas.Grind.{common_steps}
use Rattle.std.proofs.lemmas.List.Elements.{All-cons, All-same}
use Rattle.sgt_notation.specs.Spelling.{line_text, text_of_lines}
use Rattle.sgt_bundle.specs.Text.{sections_from, IsLog}
use Rattle.sgt_bundle.specs.declared.bundle.SiteLog.{SiteLog}
use Rattle.sgt_bundle.proofs.InRange.{all-none}
use Rattle.sgt_bundle.proofs.text.push_given_sections.Goals as goal

pub loop-log-init : goal.loop-log-init
loop-log-init c =
    let same = c.into_iter-log-iterator.ensures.into_iter_gives.0 in
    record {
      few = omega (arith, c.requires, ap (λ (logs : List SiteLog). length logs) same);
      text = ap (λ (logs : List SiteLog). c.args.out.now.items ++ text_of_lines
          (map line_text (sections_from 0 logs))) same;
      in_range = λ whole. subst (All IsLog) same whole;
    }

pub loop-log-preserved : goal.loop-log-preserved
loop-log-preserved c =
    let log = c.in-Some.log in
    let here = c.in_ok-push_log.ensures.in_range in
    record {
      few = grind (arith, common_steps);
      text = grind (arith, common_steps);
      in_range =
          λ rest. c.loop-log.invariant.in_range
          (All-same IsLog _ _ c.in-Some.ensures.steps.0 (All-cons IsLog log _ here rest));
    }

pub returns-clause-in_range : goal.returns-clause-in_range
returns-clause-in_range c =
    c.loop-log.invariant.in_range (all-none IsLog _ (grind (arith, common_steps)))
