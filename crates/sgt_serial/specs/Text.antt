-- How a serial run is written.
use Rattle.std.specs.Prelude.{ℕ, List, ◌∷◌, ◌++◌, map, codes, decimal}
use Rattle.std.specs.List.{flat_map}
use Rattle.sgt_notation.specs.Spelling.{text_of_lines}
use Rattle.sgt_names.specs.declared.entry.Change.{Change}
use Rattle.sgt_names.specs.declared.entry.Change.TheVariants.{Put, Add}
use Rattle.sgt_serial.specs.declared.report.SiteChange.{SiteChange}
use Rattle.sgt_serial.specs.declared.report.SiteValue.{SiteValue}
use Rattle.sgt_serial.specs.declared.report.SerialTx.{SerialTx}
use Rattle.sgt_serial.specs.declared.report.SerialReport.{SerialReport}

-- an item of a site
abbrev pub place_text : SiteValue → List ℕ
place_text a = decimal a.site ++ codes "." ++ a.item

-- an operation of this letter, of the transaction
abbrev pub operation_line : List ℕ → ℕ → SiteValue → List ℕ
operation_line letter tx a = letter ++ decimal tx ++ codes "[" ++ place_text a ++ codes "]=" ++ decimal a.value

-- the value that a change puts or adds
abbrev pub value_of : Change → ℕ
value_of (Put v) = v
value_of (Add v) = v

abbrev pub letter_of : Change → List ℕ
letter_of (Put v) = codes "w"
letter_of (Add v) = codes "d"

-- a write or an increment of the transaction
abbrev pub change_line : ℕ → SiteChange → List ℕ
change_line tx a =
    operation_line (letter_of a.change) tx
    (record { site = a.site; item = a.item; value = value_of a.change })

-- a transaction, then its reads, then its writes and increments
abbrev pub run_lines : SerialTx → List (List ℕ)
run_lines run = (codes "t" ++ decimal run.tx) ∷ (map (operation_line (codes "r") run.tx) run.reads ++ map (change_line run.tx) run.writes)

abbrev pub final_line : SiteValue → List ℕ
final_line a = codes "final " ++ place_text a ++ codes "=" ++ decimal a.value

-- the transactions, then the final values
abbrev pub report_lines : SerialReport → List (List ℕ)
report_lines report = flat_map run_lines report.runs ++ map final_line report.finals

-- the text of a report
abbrev pub report_text : SerialReport → List ℕ
report_text report = text_of_lines (report_lines report)
