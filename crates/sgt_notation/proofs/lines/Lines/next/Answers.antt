use Rattle.std.proofs.Common.{Some, ap, ◌∙◌, rules, arith}
use Rattle.std.proofs.lemmas.Grind.{common_steps}
use Rattle.sgt_notation.proofs.Looking.{found-not_ended, found-spends, gives_found, line_found}
use Rattle.sgt_notation.proofs.lines.Lines.next.Goals as goal

pub returns-in-Some-default-clause-ok : goal.returns-in-Some-default-clause-ok
returns-in-Some-default-clause-ok g c =
    let looks = rw c.in-Some-default.is-0 at c.in_ok-next.ensures.looks in
    let left = rw c.in-Some-default.is-0 at c.in_ok-next.ensures.left in
    record {
      gives = gives_found _ c.args.self.now c.reads.self c.look.new.self _ _ _ _ _ _ c.reads.invariant.0
          c.reads.invariant.2 looks left;
      quiet = search rules;
      spends = found-spends _ _ _ _ _ _ _ _ _ _ looks (search rules);
      falls = λ line. let less = c.in_ok-next.ensures.falls (c.in-Some-default.is-0 ∙ ap Some line) in
          omega (arith, less);
      ended = found-not_ended _ _ _ _ _ _ looks;
      unlimited = λ none long. c.in_ok-next.ensures.unlimited none (c.in-Some-default.is-0 ∙ ap Some long);
    }

pub returns-in-Some-default-clause-line : goal.returns-in-Some-default-clause-line
returns-in-Some-default-clause-line g c =
    line_found _ _ _ _ _ _ c.reads.invariant.0 c.reads.invariant.1
    (rw c.in-Some-default.is-0 at c.in_ok-next.ensures.looks)

pub returns-else-is_empty-clause-ok : goal.returns-else-is_empty-clause-ok
returns-else-is_empty-clause-ok g c =
    record {
      gives = grind (arith, common_steps);
      quiet = search rules;
      spends = grind (arith, common_steps);
      falls = λ line. absurd cc;
      ended = λ _. let counted = c.in_ok-fill.ensures.ok.4 in omega arith;
      unlimited = λ none long. absurd cc;
    }
