use Rattle.std.proofs.Common.{refl}
use Rattle.sgt_bundle.proofs.InRange.{if_ok-with}
use Rattle.sgt_bundle.proofs.OneText.{spells-from}
use Rattle.sgt_bundle.proofs.bundle.Bundle.into_text.Goals as goal

pub returns-clause-spells : goal.returns-clause-spells
returns-clause-spells c = rw (← c.self.view_is) (if_ok-with _ _ c.given_text.result
    (λ v e decisions logs. spells-from c.self.inside.certificate c.self.inside.sites.items _ v.items c.self.invariant
    refl e decisions logs)
    c.given_text.ensures.text c.given_text.ensures.decisions c.given_text.ensures.logs)
