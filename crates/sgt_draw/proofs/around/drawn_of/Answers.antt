use Rattle.std.proofs.Common.{◌≤◌, ◌<◌, arith}
use Rattle.std.proofs.lemmas.Option.{slice_get_within}
use Rattle.sgt_draw.proofs.Neighbours.{in-window}
use Rattle.sgt_draw.proofs.around.drawn_of.Goals as goal

pub returns-clause-own : goal.returns-clause-own
returns-clause-own c = λ there.
    let at = c.standing_of-at.result in
    let begin = c.min-begin.result in
    let end = c.min-end.result in
    let stands = c.standing_of-at.ensures there in
    let within = slice_get_within c.args.places.now at c.args.place stands in
    let low : begin ≤ at = omega arith in
    let high : at < end = omega arith in
    in-window c.args.places.now c.args.place at begin end stands low high
