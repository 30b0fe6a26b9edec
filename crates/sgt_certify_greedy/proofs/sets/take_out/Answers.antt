use Rattle.std.proofs.Common.{eqb, rules}
use Rattle.std.specs.Prelude.{not}
use Rattle.std.proofs.lemmas.Fn.{filter_same}
use Rattle.sgt_certify_greedy.proofs.sets.take_out.Goals as goal

pub returns : goal.returns
returns c = filter_same _ (λ t. not (eqb t c.args.tx)) _ (λ x b f' h. search rules) _ _ c.retain.ensures.filtered
