use Rattle.std.proofs.Common.{subst, arith}
use Rattle.sgt_service_settle.specs.private.Words.{Pushed}
use Rattle.sgt_service_settle.proofs.Siting.{sited_hit, sited_miss}
use Rattle.sgt_service_settle.proofs.sited.add_at_site.Goals as goal

pub returns-in_ok-push_at : goal.returns-in_ok-push_at
returns-in_ok-push_at c before is =
    sited_hit before c.args.one.now c.args.rows.now c.push_at.new.rows
    (subst (λ k. Pushed c.args.rows.now k c.args.one.now c.push_at.new.rows) c.number-site.ensures.is
    c.in_ok-push_at.ensures) c.push_at.auto.rows is

pub returns-else-site-rows : goal.returns-else-site-rows
returns-else-site-rows c before is =
    sited_miss before c.args.one.now c.args.rows.now (omega (arith, c.if-site-rows.false, c.number-site.ensures.is)) is
