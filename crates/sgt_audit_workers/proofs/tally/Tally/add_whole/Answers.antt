use Rattle.std.proofs.Common.{◌≡◌, ◌<◌, ◌+◌, arith}
use Rattle.sgt_audit_workers.specs.declared.tally.Tally.{Tally}
use Rattle.sgt_audit_workers.proofs.OneMore.{more-tally}
use Rattle.sgt_audit_workers.proofs.tally.Tally.add_whole.Goals as goal

pub returns-clause-adds : goal.returns-clause-adds
returns-clause-adds c second cert logs bytes more t few w =
    let old = c.args.self.now in
    let met = c.args.met in
    let new : Tally = record {
      whole = c.saturating_add-self.result;
      lines = c.in_ok-self.field-0;
      met =
          c.both-self.result;
    } in
    let most = t.certificate.spelled.1 in
    let small : old.whole < 4294967296 = omega (arith, t.whole, few, most) in
    let whole : new.whole ≡ old.whole + 1 = omega (arith, small, c.saturating_add-self.ensures) in (
      w.log,
      more-tally second cert logs old t bytes c.args.lines met w new whole c.in_ok-self.ensures.ok
          c.both-self.ensures,
      w.text,
    )
