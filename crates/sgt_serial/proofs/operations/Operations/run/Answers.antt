use Rattle.std.proofs.Common.{◌≡◌, ap, ◌∙◌}
use Rattle.std.specs.List.{filter_map}
use Rattle.sgt_serial.specs.declared.entries.SiteEntry.{SiteEntry}
use Rattle.sgt_serial.specs.Report.{read_at, write_at, reads_of, writes_of}
use Rattle.sgt_serial.proofs.Grouping.{of_all}
use Rattle.sgt_serial.proofs.operations.Operations.run.Goals as goal

pub returns : goal.returns
returns c =
    let logs = c.args.logs.now in
    let tx = c.args.tx in
    let reads : c.new.result ≡ reads_of logs tx =
    c.new.ensures ∙ c.in_ok-reads.ensures
    ∙ ap (filter_map (λ (e : SiteEntry). read_at e.site e.entry)) (c.as_slice.ensures.value ∙ c.in_ok-own.ensures)
    ∙ of_all read_at tx logs in
    let writes : c.new-2.result ≡ writes_of logs tx =
    c.new-2.ensures ∙ c.in_ok-writes.ensures
    ∙ ap (filter_map (λ (e : SiteEntry). write_at e.site e.entry)) (c.as_slice-2.ensures.value
    ∙ c.in_ok-own.ensures) ∙ of_all write_at tx logs in
    λ i. record { tx = tx; reads = reads i; writes = writes i }
