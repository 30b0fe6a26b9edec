-- Committed transactions with their ranks.
use Rattle.std.specs.Prelude.{Option, Some, None}
use Rattle.sgt_bundle.specs.declared.certificate.Decision.{Decision}
use Rattle.sgt_bundle.specs.declared.certificate.Decision.TheVariants.{Commit}
use Rattle.sgt_serial.specs.declared.order.Ranked.{Ranked}

-- the transaction and its rank, if the decision commits it
abbrev pub ranked_in : Decision → Option Ranked
ranked_in (Commit tx rank) = Some (record { tx = tx; rank = rank })
ranked_in _ = None
