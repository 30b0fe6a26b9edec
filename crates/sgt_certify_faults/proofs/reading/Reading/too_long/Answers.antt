use Rattle.std.proofs.Common.{sym, subst}
use Rattle.sgt_bundle.specs.Text.{AreSections}
use Rattle.sgt_audit.specs.Reading.{lines_read}
use Rattle.sgt_audit_decisions.proofs.Loops.{refuted}
use Rattle.sgt_certify_faults.proofs.Broken.{long-broken, long-last, trailing-broken}
use Rattle.sgt_certify_faults.proofs.reading.Reading.too_long.Goals as goal

pub returns-then-is_complete : goal.returns-then-is_complete
returns-then-is_complete c b second next sites begun place long =
    trailing-broken second (lines_read b) next
    (subst (λ n. AreSections n (lines_read b)) sites
    ((c.is_complete.ensures b begun place).0 c.if-is_complete.true)) (long-last next long)

pub returns-else-is_complete : goal.returns-else-is_complete
returns-else-is_complete c b second next sites begun place long =
    long-broken second (lines_read b) next
    (λ all. refuted c.is_complete.result (c.is_complete.ensures b begun place) c.if-is_complete.false
    (subst (λ n. AreSections n (lines_read b)) (sym sites) all)) long
