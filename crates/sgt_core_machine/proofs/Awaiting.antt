-- After a decision the installs of the transaction can be noted.
use Rattle.std.proofs.Common.{◌≡◌, ℕ, Bool, List, [], Option, Some, subst, Contains}
use Rattle.std.specs.Prelude.{slice_get, Result, Ok, Err, IfOk, OnOk}
use Rattle.sgt_edges.specs.declared.edge.Edge.{Edge}
use Rattle.sgt_certifier.specs.Certifier.{State}
use Rattle.sgt_certifier.specs.Judged.{Rules}
use Rattle.sgt_certifier.specs.declared.call.CertifierFault.{CertifierFault}
use Rattle.sgt_core_machine.specs.declared.machine.Running.{Running}
use Rattle.sgt_core_machine.specs.private.Decided.{RulesAt}
use Rattle.sgt_names.proofs.Elements.{contains-none}

-- the judge's answer; it has noted nothing then
pub rules_from : (old new : State) (table : List (Option Running)) (slot : ℕ) (edges : List Edge) (r : Running)
    → slice_get table slot ≡ Some (Some r) → (answer : Result Bool CertifierFault)
    → IfOk answer (λ told. Rules old r.handle edges told new) → OnOk answer (new.installs ≡ [])
    → IfOk answer (λ told. RulesAt old new table slot edges told)
rules_from old new table slot edges r runs (Ok told) rules none = record {
  running = r;
  runs = runs;
  rules = rules;
  awaits = λ e s noted. contains-none noted.1 (subst (λ xs. Contains xs noted.1) none (noted.0, noted.2, noted.3));
}
rules_from old new table slot edges r runs (Err f) rules none = tt
