use Rattle.std.proofs.Common.{inl, inr, refl, subst}
use Rattle.std.specs.Prelude.{OnOk, string_bytes}
use Rattle.sgt_explain_lines.specs.Told.{ShowsLine}
use Rattle.sgt_explain_lines.proofs.Numbering.{on-ok}
use Rattle.sgt_explain_certificate.specs.Told.{fault_words}
use Rattle.sgt_explain_certificate.proofs.certificate.push_certificate.Goals as goal
use Rattle.sgt_explain_certificate.proofs.certificate.push_certificate.Goals.{in-Ok, in-Err}

pub returns-clause-refused : goal.returns-clause-refused
returns-clause-refused c = λ e apart refuses.
    elim c.match-from_line.branch [
      | in-Ok w ↦ absurd (rw w.in-Ok.is at c.from_line.ensures.each e apart refuses)
      | in-Err w ↦
          rw (w.out-is, w.result-is) (elim (rw w.in-Err.is at c.from_line.ensures.each e apart refuses) [
            | inl same ↦
                subst (λ f. OnOk w.push_fault.result
                (ShowsLine (fault_words f) 2 c.args.line.now (string_bytes c.args.out.now)
                (string_bytes w.push_fault.new.out)))
                same w.push_fault.ensures.shown
            | inr memory ↦ on-ok w.push_fault.result _ _ (λ no. absurd no) (w.push_fault.ensures.memory memory)
          ])
    ]

pub returns-clause-read : goal.returns-clause-read
returns-clause-read c = λ k is same.
    elim c.match-from_line.branch [
      | in-Ok w ↦ rw (w.out-is, w.result-is) refl
      | in-Err w ↦
          rw (w.out-is, w.result-is)
          (on-ok w.push_fault.result _ _ (λ no. absurd no)
          (w.push_fault.ensures.memory (rw w.in-Err.is at c.from_line.ensures.only k is same)))
    ]
