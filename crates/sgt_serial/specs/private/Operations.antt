-- The entries of all logs, each with its site.
use Rattle.std.specs.Prelude.{ℕ, List, map, Bool, ◌==◌}
use Rattle.sgt_names.specs.Entry.{tx_of}
use Rattle.sgt_names.specs.declared.entry.Entry.{Entry}
use Rattle.sgt_bundle.specs.Serial.{entries_of}
use Rattle.sgt_bundle.specs.declared.bundle.SiteLog.{SiteLog}
use Rattle.sgt_serial.specs.declared.entries.SiteEntry.{SiteEntry}
use Rattle.sgt_serial.specs.Report.{by_site}

abbrev pub entry_at : ℕ → Entry → SiteEntry
entry_at s e = record { site = s; entry = e }

-- by site, then in log order
abbrev pub all_entries : List SiteLog → List SiteEntry
all_entries sites = by_site (λ s. map (entry_at s) (entries_of sites s)) sites

-- the site of the entry
abbrev pub site_of : SiteEntry → ℕ
site_of e = e.site

-- the transaction whose entry it is
abbrev pub owner : SiteEntry → ℕ
owner e = tx_of e.entry

abbrev pub is_by : ℕ → SiteEntry → Bool
is_by tx e = owner e == tx
