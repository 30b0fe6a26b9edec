use Rattle.std.proofs.lemmas.Result.{IfOk-weaker}
use Rattle.sgt_bundle.proofs.InRange.{if_ok-with}
use Rattle.sgt_bundle.proofs.OneText.{spells-from, text-from}
use Rattle.sgt_bundle.proofs.bundle.Bundle.to_text.Goals as goal

pub returns-clause-text : goal.returns-clause-text
returns-clause-text c =
    rw (← c.self.view_is)
    (IfOk-weaker c.text.result _ _ (λ v e. text-from c.self.inside.certificate c.self.inside.sites.items _ v.items
    c.as_slice.ensures.value e) c.text.ensures.text)

pub returns-clause-spells : goal.returns-clause-spells
returns-clause-spells c = rw (← c.self.view_is) (if_ok-with _ _ c.text.result
    (λ v e decisions logs. spells-from c.self.inside.certificate c.self.inside.sites.items _ v.items c.self.invariant
    c.as_slice.ensures.value e decisions logs)
    c.text.ensures.text c.text.ensures.decisions c.text.ensures.logs)
