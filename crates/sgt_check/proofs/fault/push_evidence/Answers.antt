use Rattle.std.proofs.Common.{◌≡◌, ◌++◌, OnOk, subst, sym}
use Rattle.std.proofs.lemmas.Result.{on_ok_weaker}
use Rattle.sgt_history.specs.History.{closed_of}
use Rattle.sgt_history_evidence.specs.declared.evidence.Evidence.{Evidence}
use Rattle.sgt_check.specs.Text.{evidence_text}
use Rattle.sgt_check.specs.Told.{spelled}
use Rattle.sgt_check.proofs.Pushing.{three}
use Rattle.sgt_check.proofs.fault.push_evidence.Goals as goal

pub returns-in_ok-extend_from_slice-in-Surpassed : goal.returns-in_ok-extend_from_slice-in-Surpassed
returns-in_ok-extend_from_slice-in-Surpassed c =
    let s = spelled c.args.naming.now in
    let h = closed_of c.args.history.now in
    subst (λ (e : Evidence). OnOk c.push_number-in-Surpassed.result
    (c.push_number-in-Surpassed.new.out.items ≡ c.args.out.now.items ++ evidence_text s h c.args.faulty.0
    c.args.faulty.1 e)) (sym c.in-Surpassed.is)
    (on_ok_weaker c.push_number-in-Surpassed.result (λ e.
    three _ _ _ _ _ _ _ c.in_ok-push_writer-in-Surpassed.ensures c.in_ok-extend_from_slice-in-Surpassed.ensures.items e)
    c.push_number-in-Surpassed.ensures.ok)
