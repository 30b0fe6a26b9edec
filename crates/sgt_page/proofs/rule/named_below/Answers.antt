use Rattle.std.proofs.Common.{◌++◌, List, ℕ, None, Some, ap, arith, ◌∙◌}
use Rattle.std.proofs.lemmas.Str.Pattern.{split_parts, split_text_parts}
use Rattle.sgt_page.specs.Rule.{naming}
use Rattle.sgt_page.proofs.Cutting.{lacks-later, split-first}
use Rattle.sgt_page.proofs.rule.named_below.Goals as goal

pub returns-in-Some-split_once : goal.returns-in-Some-split_once
returns-in-Some-split_once c =
    let front = c.in-Some.field-0-0.now in
    let cut = split-first naming c.args.answer.now front c.in-Some.behind.now c.in-Some.ensures.cases in
    let parts = split_parts 96 c.in-Some.behind.now
    (Some (c.in-Some-split_once.name, c.in-Some-split_once.field-0-1)) c.in-Some-split_once.ensures.cases
    (omega arith) in
    record {
      front = front;
      rest = c.in-Some-split_once.field-0-1.now;
      there = cut.0 ∙ ap (λ (b : List ℕ). front ++ (naming ++ b)) parts.0;
      whole = parts.1;
      first = cut.1;
    }

pub returns-in-None-split_once : goal.returns-in-None-split_once
returns-in-None-split_once c =
    let front = c.in-Some.field-0-0.now in
    let behind = c.in-Some.behind.now in
    let cut = split-first naming c.args.answer.now front behind c.in-Some.ensures.cases in
    λ f b e. lacks-later c.args.answer.now f b front behind naming 96 cut.0 e (cut.1 f b e)
    (split_parts 96 behind None c.in-None-split_once.ensures.cases (omega arith))

pub returns-in-None : goal.returns-in-None
returns-in-None c = λ f b e. absurd (split_text_parts naming c.args.answer.now None c.in-None.ensures.cases f b e)
