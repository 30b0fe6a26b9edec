use Rattle.std.proofs.Common.{◌∷◌, ◌++◌, []}
use Rattle.sgt_bundle.specs.Text.{Spells}
use Rattle.sgt_bundle.specs.Valid.{IsValid}
use Rattle.sgt_audit.proofs.Verdicts.{told-map}
use Rattle.sgt_audit_chain.proofs.Growing.{spell-next}
use Rattle.sgt_audit_chain.proofs.auditor.ChainAuditor.next.Goals as goal

pub returns-in-Ok-None-clause-goes_on : goal.returns-in-Ok-None-clause-goes_on
returns-in-Ok-None-clause-goes_on g c told h =
    let b = c.in-Ok-Valid.bundle in
    let tells = g.R.Source.tells c.args.reader.now in
    let found = rw c.in-Ok-Valid.field-0-is at c.in-Ok-Valid.ensures.audited in
    let valid = rw c.in-Ok-Valid.field-0-is at c.in-Ok-Valid.ensures.valid in
    let kept = rw c.in-Ok-None.field-0-is at (c.in-Ok-None.ensures.follows valid h.0 h.2) in (
      h.0 ++ b ∷ [],
      spell-next told h.0 tells b h.1 (told-map (λ bytes. Spells bytes b × IsValid b) (λ bytes. Spells bytes b)
          tells (λ bytes is. is.0) found),
      kept,
    )
