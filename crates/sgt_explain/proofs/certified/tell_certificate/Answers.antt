use Rattle.std.proofs.Common.{sym, subst}
use Rattle.std.specs.Prelude.{OnOk, string_bytes}
use Rattle.sgt_bundle.specs.Line.{Refuses}
use Rattle.sgt_audit.specs.Faults.{bytes_of}
use Rattle.sgt_explain_lines.specs.Told.{ShowsLine}
use Rattle.sgt_explain_certificate.specs.Told.{fault_words}
use Rattle.sgt_explain.proofs.FaultyText.{certificate-at}
use Rattle.sgt_explain.proofs.Telling.{on-all}
use Rattle.sgt_explain.proofs.certified.tell_certificate.Goals as goal

pub returns : goal.returns
returns c =
    on-all _ c.push_certificate.result
    (λ first. on-all _ c.push_certificate.result
    (λ e. on-all _ c.push_certificate.result (λ other. on-all _ c.push_certificate.result (λ refuses.
    let same = c.text_at.ensures (bytes_of first.next) (certificate-at c.args.bytes.now c.args.number first) in
    let refuses_read : Refuses c.text_at.result.now e = subst (λ l. Refuses l e) (sym same) refuses in
    subst (λ l. OnOk c.push_certificate.result (ShowsLine (fault_words e) 2 l (string_bytes c.args.out.now)
    (string_bytes c.push_certificate.new.out))) same
    (c.push_certificate.ensures.refused e other refuses_read)))))
