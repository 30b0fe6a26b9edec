use Rattle.std.proofs.Common.{drop, length}
use Rattle.std.proofs.lemmas.Bool.Decides.{Decides-eqb}
use Rattle.std.proofs.lemmas.Slice.Eq.{starts_is}
use Rattle.sgt_line.proofs.kind.begins.Goals as goal

pub returns : goal.returns
returns c =
    let both =
    starts_is Decides-eqb c.args.text.now c.args.front.now c.starts_with.result c.starts_with.ensures.value in (
      (λ yes. (drop (length c.args.front.now) c.args.text.now, both.0 yes)),
      (λ some. both.1 some.0 some.1),
    )
