use Rattle.std.proofs.Common.{◌≡◌, List, map, Some, sym, ap, ◌∙◌}
use Rattle.std.specs.Prelude.{option_map}
use Rattle.std.proofs.lemmas.List.Elements.{All-push}
use Rattle.std.proofs.lemmas.Option.{none-some, same_Some}
use Rattle.sgt_names.specs.declared.entry.Holding.{Holding}
use Rattle.sgt_bundle.specs.Parts.{FitTogether}
use Rattle.sgt_bundle.specs.declared.certificate.Certificate.{Certificate}
use Rattle.sgt_audit_chain.specs.Chain.{final_of, initial_of, initial_values, values_behind}
use Rattle.sgt_audit_chain.specs.declared.auditor.ChainAuditor.{ChainAuditor}
use Rattle.sgt_audit_chain.proofs.Growing.{behind-next, chain-next, counts-next}
use Rattle.sgt_audit_chain.proofs.auditor.ChainAuditor.follow.Goals.{in-Some+in_default-first_break, in_default}
use Rattle.sgt_audit_chain.proofs.auditor.ChainAuditor.follow.Goals as goal

pub returns-clause-follows : goal.returns-clause-follows
returns-clause-follows c valid bundles audited =
    let b = c.args.bundle in
    let on : (left : List (List Holding)) → values_behind bundles ≡ Some left → initial_values b ≡ left =
    λ left was. elim c.match-self.branch [
      | in-Some+in_default-first_break w ↦
          ap (map initial_of) (sym c.logs-logs.ensures.logs) ∙ w.in_default-first_break.ensures.none
          ∙ w.as_slice.ensures.value
          ∙ same_Some w.in-Some.left.items left (sym (ap (option_map (λ left. left.items)) w.in-Some.is)
          ∙ audited.left ∙ was)
      | in_default w ↦ absurd (none-some left (sym (ap (option_map (λ left. left.items)) w.in_default.is)
          ∙ audited.left ∙ was))
    ] in
    let left = c.in_ok-left.ensures ∙ ap (map final_of) c.into_parts-certificate.ensures.logs in
    let same = c.decisions.ensures
    ∙ ap (λ (d : Certificate). d.decisions) c.into_parts-certificate.ensures.certificate in
    let was : c.match-self.self ≡ c.args.self.now =
    elim c.match-self.branch [ in-Some+in_default-first_break w ↦ w.self-is | in_default w ↦ w.self-is ] in
    record {
      chain = chain-next bundles b audited.chain valid on;
      fit = All-push FitTogether bundles b audited.fit c.logs-logs.ensures.fit;
      left = ap Some left ∙ sym (behind-next bundles b);
      counts = counts-next bundles b c.match-self.self.counts c.with-self.result c.decisions.result.now same
          (ap (λ (a : ChainAuditor). a.counts) was ∙ audited.counts)
          c.with-self.ensures.committed c.with-self.ensures.refused c.with-self.ensures.withdrawn;
    }
