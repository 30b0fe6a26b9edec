-- An answer is a certificate exactly where there is one.
use Rattle.std.proofs.Common.{List}
use Rattle.std.specs.Prelude.{◌↔◌}
use Rattle.sgt_bundle.specs.declared.bundle.SiteLog.{SiteLog}
use Rattle.sgt_certify_logs.specs.Certifiable.{AreCertifiable}
use Rattle.sgt_certify_logs.specs.Witness.{EndsBefore, PrecedesCommitted}
use Rattle.sgt_certify_logs.proofs.Cycles.{conflicts-no_cycle, ends-no_cycle}
use Rattle.sgt_certify_logs.proofs.Stuck.{stuck-none}
use Rattle.sgt_certify_greedy.specs.declared.deciding.Answer.{Answer}
use Rattle.sgt_certify_greedy.specs.declared.deciding.Answer.TheVariants as answer
use Rattle.sgt_certify_greedy.specs.Answer.{IsAnswerTo, IsCertifying}
use Rattle.sgt_certify_greedy.proofs.Rings.{ring-cycle}

pub certifying : (sites : List SiteLog) (a : Answer) → IsAnswerTo sites a → (AreCertifiable sites ↔ IsCertifying a)
certifying sites (answer.Certificate c) is = (λ _. tt, λ _. (c, is.0))
certifying sites (answer.Order cycle) is =
    (λ can. ends-no_cycle sites (ring-cycle (EndsBefore sites) cycle.items is) can, λ no. absurd no)
certifying sites (answer.Ranks cycle) is =
    (λ can. conflicts-no_cycle sites (ring-cycle (PrecedesCommitted sites) cycle.items is.0) can, λ no. absurd no)
certifying sites (answer.Stuck set) is = (λ can. stuck-none sites set.items is.0 can, λ no. absurd no)
