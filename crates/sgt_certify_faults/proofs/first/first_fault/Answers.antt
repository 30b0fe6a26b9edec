use Rattle.std.proofs.Common.{ℕ, List, ◌++◌, ◌∷◌, sym, ap, ◌∙◌, subst}
use Rattle.std.proofs.lemmas.Result.{IfOk-weaker}
use Rattle.sgt_certify_faults.specs.Faults.{IsFaultless}
use Rattle.sgt_certify_logs.specs.Sound.{SpellsSoundLogs}
use Rattle.sgt_certify_faults.proofs.ReadLines.{first-line}
use Rattle.sgt_names.proofs.Elements.{none-weaker}
use Rattle.sgt_certify_faults.proofs.first.first_fault.Goals as goal

pub returns-in_default-read_format-clause-found : goal.returns-in_default-read_format-clause-found
returns-in_default-read_format-clause-found c more goes =
    let split = c.in-Some.ensures.some in
    first-line c.args.text.now c.in-Some.first.now c.in-Some.behind.now more split.0 split.1
    c.in_default-read_format.ensures.none

pub returns-clause-none : goal.returns-clause-none
returns-clause-none c =
    let split = c.in-Some.ensures.some in
    let text = split.1 ∙ ap (λ (l : List ℕ). l ++ 10 ∷ c.in-Some.behind.now) c.in-Some-read_format.ensures.some in
    IfOk-weaker c.fault_behind.result _ _
    (λ found. none-weaker found _ _ (λ h. (
      h.0,
      subst IsFaultless (sym text) h.1,
      subst SpellsSoundLogs (sym text) h.2,
    ))) c.fault_behind.ensures.none
