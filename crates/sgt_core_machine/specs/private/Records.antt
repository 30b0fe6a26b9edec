-- The logs of sites that are given up.
use Rattle.std.specs.Prelude.{List, map}
use Rattle.sgt_bundle.specs.declared.bundle.SiteLog.{SiteLog}
use Rattle.sgt_core_machine.specs.declared.records.SiteRecord.{SiteRecord}

-- the log that a record holds
abbrev pub log_in : SiteRecord → SiteLog
log_in r = record { items = r.items.items; entries = r.log.entries; finals = r.finals.items }

abbrev pub logs_in : List SiteRecord → List SiteLog
logs_in records = map log_in records
