use Rattle.std.proofs.Common.{ap, length, refl, sym}
use Rattle.sgt_certify_faults.proofs.ReadLines.{none-read, nothing-decided_yet}
use Rattle.sgt_certify_faults.proofs.reading.Reading.new.Goals as goal

pub returns : goal.returns
returns c second bytes =
    record {
      sections = _;
      read = none-read second bytes;
      place = c.new.ensures _ refl;
      open_site = c.in_ok-new.ensures c.args.decided.now.decisions (ap length (sym c.decisions.ensures.same));
      decided = nothing-decided_yet c.args.decided.now.decisions;
    }
