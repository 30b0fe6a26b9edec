use Rattle.std.proofs.Common.{sym, subst}
use Rattle.std.specs.Prelude.{codes, OnOk, string_bytes}
use Rattle.sgt_audit.specs.Faults.{bytes_of}
use Rattle.sgt_explain_lines.specs.Told.{ShowsLine}
use Rattle.sgt_explain.proofs.FaultyText.{format-at}
use Rattle.sgt_explain.proofs.Telling.{on-all, on-both}
use Rattle.sgt_explain.proofs.lines.tell_format.Goals as goal

pub returns : goal.returns
returns c = on-both _ _ c.push_format.result
    (on-all _ c.push_format.result (λ first.
    let at = format-at c.args.bytes.now c.args.number first in
    subst (λ n. OnOk c.push_format.result (ShowsLine (codes "Format: ") n (bytes_of first.next) (string_bytes c.args.out.now) (string_bytes c.push_format.new.out))) (sym at.0)
    (c.push_format.ensures.line (bytes_of first.next) at.1)))
    (on-all _ c.push_format.result (λ first. c.push_format.ensures.text (bytes_of first.next)
    (format-at c.args.bytes.now c.args.number first).1))
