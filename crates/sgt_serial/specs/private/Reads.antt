-- What an entry with its site reads and changes.
use Rattle.std.specs.Prelude.{Option}
use Rattle.sgt_serial.specs.declared.entries.SiteEntry.{SiteEntry}
use Rattle.sgt_serial.specs.declared.report.SiteChange.{SiteChange}
use Rattle.sgt_serial.specs.declared.report.SiteValue.{SiteValue}
use Rattle.sgt_serial.specs.Report.{read_at, write_at}

-- what it reads, and what it does to its item, if it does
abbrev pub read_by : SiteEntry → Option SiteValue
read_by e = read_at e.site e.entry

abbrev pub change_by : SiteEntry → Option SiteChange
change_by e = write_at e.site e.entry
