-- What the tickets alone tell of a run, whatever its sites.
use Rattle.std.proofs.Common.{◌≡◌, ℕ, zero, suc, List, [], ◌∷◌, refl, ◌∙◌, ap, arith, rules}
use Rattle.sgt_site.specs.State.{opened}
use Rattle.sgt_certifier.specs.History.{Replays}
use Rattle.sgt_certifier.specs.Kept.{Kept}
use Rattle.sgt_certifier.specs.declared.call.Call.{Call}
use Rattle.sgt_workers.specs.declared.ticket.Done.{Done}
use Rattle.sgt_service_agreement.specs.declared.fault.ServiceFault.{ServiceFault}
use Rattle.sgt_service_agreement.specs.declared.fault.ServiceFault.TheVariants.{Memory}
use Rattle.sgt_service_settle.specs.Settled.{AreCountedAt, Run}
use Rattle.sgt_service_settle.specs.Fault.{IsUnjudged, IsUnsettled}
use Rattle.sgt_service_settle.specs.private.Tickets.{IsRunOf}
use Rattle.sgt_service_settle.proofs.Settling.{settled_counted}
use Rattle.sgt_service_settle.proofs.Whole.{rulings_told}

-- what is told of the calls of a certifier's history is told of each run with it
pub told_of_each : (history seen : List Call) (c : Kept) (dones : List Done) (f : ServiceFault)
    → Replays history c.state → seen ≡ history
    → ((r : Run) → IsRunOf r seen dones → IsUnsettled r f) → (r : Run) → r.certifier ≡ c → r.dones ≡ dones
    → IsUnsettled r f
told_of_each history seen c dones f replays same each r is answers =
    each r (record {
      told = ap (λ (k : Kept). k.state.rulings) is ∙ rulings_told history seen c.state replays same;
      answers = answers;
    })

-- one site without entries, at which a read was counted
abbrev miscounted : Kept → List Done → Run
miscounted c dones = record {
  certifier = c;
  sites = opened 0 [] ∷ [];
  counts = record { reads = 1; others = 0 } ∷ [];
  dones = dones;
}

counts_differ : (c : Kept) (dones : List Done) → AreCountedAt (miscounted c dones).sites (miscounted c dones).counts 0
    → ⊥
counts_differ c dones counted =
    let here = counted (opened 0 []) (record { reads = 1; others = 0 }) refl refl in
    let none : zero ≡ suc zero = search (rules, here) in
    absurd (omega (arith, none))

-- so want of memory is told of none
pub told_never : (c : Kept) (dones : List Done)
    → ((r : Run) → r.certifier ≡ c → r.dones ≡ dones → IsUnsettled r Memory) → ⊥
told_never c dones each = by (each (miscounted c dones) refl refl).1
  where
    by : (site : ℕ) × IsUnjudged (miscounted c dones) site → ⊥
    by (zero, unjudged) = counts_differ c dones unjudged.counted
    by (suc k, unjudged) = counts_differ c dones
        (settled_counted c.history c.state.rulings (miscounted c dones).sites (miscounted c dones).counts 0
        (unjudged.before 0 (omega arith)))
