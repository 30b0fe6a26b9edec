use Rattle.std.proofs.Common.{refl, sym, ap, ◌∙◌, length, None, []}
use Rattle.sgt_audit.proofs.alone.Alone.new.Goals as goal

pub returns-clause-ready : goal.returns-clause-ready
returns-clause-ready c same = record {
  sites = (c.new.ensures (record { sites = c.args.sites; whole = []; current = None }) refl).sites ∙ same;
  state = c.in_ok-new.ensures c.args.certificate.now.decisions (ap length (sym c.decisions.ensures.same));
}
