use Rattle.std.proofs.Common.{rules, ◌≡◌, ◌∙◌, ap, IfOk}
use Rattle.std.specs.Prelude.{string_bytes}
use Rattle.sgt_audit_chain.specs.Audited.{IsYes, yes_text}
use Rattle.sgt_audit_chain.proofs.Growing.{ok-map}
use Rattle.sgt_audit_chain.proofs.Row.{chain-agrees}
use Rattle.sgt_audit_chain.proofs.auditor.ChainAuditor.to_line.Goals as goal

pub returns-clause-yes : goal.returns-clause-yes
returns-clause-yes c told h =
    let kept = h.2 in
    let text : IfOk c.format.result (λ line. string_bytes line ≡ yes_text c.args.self.now.counts) = search rules in
    ok-map (λ line. string_bytes line ≡ yes_text c.args.self.now.counts) (λ line. IsYes told (string_bytes line))
    c.format.result
    (λ line same. (h.0, h.1, kept.chain, same ∙ ap yes_text kept.counts)) text

pub returns-clause-headline : goal.returns-clause-headline
returns-clause-headline c told h = record {
  bundles = h.0;
  spelled = h.1;
  chain = h.2.chain;
  serial =
      chain-agrees h.0 h.2.fit h.2.chain;
}
