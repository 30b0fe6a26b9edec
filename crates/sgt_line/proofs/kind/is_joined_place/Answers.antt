use Rattle.sgt_line.specs.Kinds.{JoinsPlace}
use Rattle.sgt_line.proofs.Finding.{found_iff}
use Rattle.sgt_line.proofs.kind.is_joined_place.Goals as goal

pub returns : goal.returns
returns c =
    found_iff c.place_in.result c.is_some.result (λ file. file.now) (JoinsPlace c.args.command c.args.word.now)
    c.is_some.ensures c.place_in.ensures.some c.place_in.ensures.none
