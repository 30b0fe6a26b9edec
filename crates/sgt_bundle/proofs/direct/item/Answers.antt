use Rattle.std.proofs.Common.{rules, ◌≡◌, ◌++◌, ◌∙◌, drop, sym, ap}
use Rattle.sgt_bundle.proofs.Chunks.{name-front}
use Rattle.sgt_bundle.proofs.direct.item.Goals as goal

pub returns : goal.returns
returns c =
    let item = c.in_ok-item.item in
    let found =
    name-front c.args.bytes.now c.in_ok-chunk.chunk.now item c.in_ok-item.length c.in_ok-chunk.ensures.cases
    c.in_ok-item.ensures.some.0 c.in_ok-item.ensures.some.1 in
    let rest : c.in_ok-rest.rest.now ≡ drop c.in_ok-item.length c.args.bytes.now = search rules in
    (found.0, found.1 ∙ ap (λ t. item ++ t) (sym rest))
