-- What validity asks of logs without speaking of the certificate.
use Rattle.std.specs.Prelude.{◌≡◌, ℕ, List, All}
use Rattle.sgt_names.specs.Entry.{tx_of}
use Rattle.sgt_names.specs.Log.{IsFormed, ReadsAreLegal, FinalsAreLegal}
use Rattle.sgt_names.specs.declared.entry.Entry.{Entry}
use Rattle.sgt_bundle.specs.Certificate.{Suits}
use Rattle.sgt_bundle.specs.declared.certificate.Decision.{Decision}
use Rattle.sgt_bundle.specs.declared.bundle.SiteLog.{SiteLog}
use Rattle.sgt_certify_logs.specs.Certifiable.{SpellsLogs}
use Rattle.sgt_certify_logs.specs.Witness.{IsIn}

-- some decision suits both entries: they ask for one kind of end
abbrev pub EndAlike : Entry → Entry → Type 0
EndAlike e f = (d : Decision) × Suits e d × Suits f d

-- a log is in order, each of its transactions has an end there, and each read and each final value
-- is right
pub record IsSoundLog (log : SiteLog) : Type 0 where
  pub formed : IsFormed log.items log.entries
  pub reads : ReadsAreLegal log.items log.entries
  pub finals : FinalsAreLegal log.items log.entries log.finals

-- each log is sound, and the entries of a transaction, at whatever sites, ask for one kind of end
pub record AreSound (sites : List SiteLog) : Type 0 where
  pub logs : All IsSoundLog sites
  pub alike : (e f : Entry) → IsIn sites e → IsIn sites f → tx_of e ≡ tx_of f → EndAlike e f

-- the bytes spell logs that are sound
abbrev pub SpellsSoundLogs : List ℕ → Type 0
SpellsSoundLogs bytes = (sites : List SiteLog) × SpellsLogs bytes sites × AreSound sites
