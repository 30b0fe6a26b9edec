use Rattle.std.proofs.Common.{subst}
use Rattle.std.specs.Prelude.{string_bytes}
use Rattle.sgt_explain.specs.Asked.{TellsAsked}
use Rattle.sgt_explain.proofs.answers.dealings_of.Goals as goal

pub returns-clause-told : goal.returns-clause-told
returns-clause-told c =
    subst (λ old. TellsAsked c.args.bytes.now c.args.verdict c.args.asked old (string_bytes c.push_asked.new.out))
    c.new-text.ensures.bytes c.in_ok-is_found.ensures.told
