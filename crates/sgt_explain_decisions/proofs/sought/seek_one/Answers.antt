use Rattle.sgt_explain_decisions.proofs.Seeking.{put-seeks, put-own}
use Rattle.sgt_explain_decisions.proofs.sought.seek_one.Goals as goal

pub returns-clause-seeks : goal.returns-clause-seeks
returns-clause-seeks c =
    put-seeks c.put.result c.number-site.result c.args.step.now.label.item c.args.tx c.nothing.result
    c.args.sought.now c.put.new.sought c.args.classes.now.items c.mark.new.classes.items
    c.nothing.ensures c.put.ensures.none c.mark.ensures.own c.mark.ensures.kept

pub returns-clause-own : goal.returns-clause-own
returns-clause-own c =
    put-own c.put.result c.number-site.result c.args.step.now.label.site c.args.step.now.label.item c.args.tx
    c.nothing.result c.args.sought.now c.put.new.sought
    c.number-site.ensures.is c.put.ensures.none
