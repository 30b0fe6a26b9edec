use Rattle.std.proofs.Common.{◌∙◌, sym}
use Rattle.sgt_history_kept.proofs.Rows.{row-push, row-skip}
use Rattle.sgt_history_kept.proofs.plain.push_asked.Goals as goal

pub returns-then-not-is_asked : goal.returns-then-not-is_asked
returns-then-not-is_asked c = λ old adds.
    row-skip c.args.asked.now c.args.from c.args.to old c.args.edges.now.items (λ asked. let f =
    sym c.if-not-is_asked.true ∙ c.is_asked.ensures.1 asked in cc) adds

pub returns : goal.returns
returns c = λ old adds.
    row-push c.args.asked.now c.args.from c.args.to old c.args.edges.now.items c.push.new.self.items
    (c.is_asked.ensures.0 c.if-not-is_asked.false)
    c.in_ok-push.ensures.items adds
