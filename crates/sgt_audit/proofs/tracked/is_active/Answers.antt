use Rattle.std.proofs.lemmas.Bool.{false≢true}
use Rattle.sgt_names.specs.Entry.{tx_of}
use Rattle.sgt_audit.proofs.SiteStates.{suiting-at, suiting-none}
use Rattle.sgt_audit.proofs.tracked.is_active.Goals as goal

pub returns-in-Some : goal.returns-in-Some
returns-in-Some c ds e items entries k t =
    let by = suiting-at ds e c.args.known.now.ruling.suiting c.in-Some.number c.in-Some.is k.ruling.suiting in
    let active = c.is_active.ensures ds items entries (tx_of e) t (by.0, by.1, by.2) in
    (λ h. ((c.in-Some.number, by), active.0 h), λ both. active.1 both.1)

pub returns-in-None : goal.returns-in-None
returns-in-None c ds e items entries k t =
    let none = suiting-none ds e c.args.known.now.ruling.suiting c.in-None.is k.ruling.suiting in
    (λ h. absurd (false≢true h), λ both. absurd (none both.0.0 both.0.1))
