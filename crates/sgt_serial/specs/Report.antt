-- What a serial run reports: each committed transaction by rank, with its logged reads, writes and
-- increments, and the final values.
use Rattle.std.specs.Prelude.{ℕ, List, [], length, map, Option, Some, None, slice_get}
use Rattle.std.specs.List.{filter_map, flat_map, range_with_len}
use Rattle.sgt_names.specs.declared.entry.Entry.{Entry}
use Rattle.sgt_names.specs.declared.entry.Entry.TheVariants.{Read, Write, Add}
use Rattle.sgt_names.specs.declared.entry.Change.TheVariants as change
use Rattle.sgt_names.specs.declared.entry.Holding.{Holding}
use Rattle.sgt_bundle.specs.Parts.{Parts}
use Rattle.sgt_bundle.specs.Certificate.{by_rank}
use Rattle.sgt_bundle.specs.Serial.{entries_of, own_entries}
use Rattle.sgt_bundle.specs.declared.bundle.SiteLog.{SiteLog}
use Rattle.sgt_serial.specs.declared.report.SiteChange.{SiteChange}
use Rattle.sgt_serial.specs.declared.report.SiteValue.{SiteValue}
use Rattle.sgt_serial.specs.declared.report.SerialTx.{SerialTx}
use Rattle.sgt_serial.specs.declared.report.SerialReport.{SerialReport}

-- what an entry of this site reads, if it is a read
abbrev pub read_at : ℕ → Entry → Option SiteValue
read_at s (Read tx x v) = Some (record { site = s; item = x; value = v })
read_at s _ = None

-- what it does to its item, if it changes it: a write puts its value, an increment adds it
abbrev pub write_at : ℕ → Entry → Option SiteChange
write_at s (Write tx x v) = Some (record { site = s; item = x; change = change.Put v })
write_at s (Add tx x v) = Some (record { site = s; item = x; change = change.Add v })
write_at s _ = None

-- a list of each site, joined by site
abbrev pub by_site : {A : Type 0} → (ℕ → List A) → List SiteLog → List A
by_site of_site sites = flat_map of_site (range_with_len 0 (length sites))

-- what is picked of a transaction's entries: by site, then in log order
abbrev pub picked_of : {A : Type 0} → (ℕ → Entry → Option A) → List SiteLog → ℕ → List A
picked_of pick sites tx =
    by_site (λ s. filter_map (pick s) (own_entries tx (entries_of sites s))) sites

-- the transaction's logged reads
abbrev pub reads_of : List SiteLog → ℕ → List SiteValue
reads_of sites tx = picked_of read_at sites tx

-- its logged writes and increments
abbrev pub writes_of : List SiteLog → ℕ → List SiteChange
writes_of sites tx = picked_of write_at sites tx

-- a final value of this site
abbrev pub final_at : ℕ → Holding → SiteValue
final_at s h = record { site = s; item = h.item; value = h.value }

abbrev pub finals_at : Option SiteLog → List Holding
finals_at None = []
finals_at (Some log) = log.finals

-- the recorded final values: by site, then by name
abbrev pub finals_of : List SiteLog → List SiteValue
finals_of sites = by_site (λ s. map (final_at s) (finals_at (slice_get sites s))) sites

-- the transaction as the serial run has it
abbrev pub run_of : List SiteLog → ℕ → SerialTx
run_of sites tx = record { tx = tx; reads = reads_of sites tx; writes = writes_of sites tx }

-- the report of the bundle's serial run
abbrev pub report_of : Parts → SerialReport
report_of b =
    record {
      runs = map (run_of b.sites) (by_rank b.certificate.decisions);
      finals = finals_of b.sites;
    }
