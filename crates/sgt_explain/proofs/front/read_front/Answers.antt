use Rattle.std.proofs.Common.{List, ℕ, subst}
use Rattle.std.proofs.lemmas.Result.{IfOk-weaker}
use Rattle.sgt_explain.specs.Front.{ReadsOn}
use Rattle.sgt_explain.proofs.Fronts.{alone-further}
use Rattle.sgt_explain.proofs.front.read_front.Goals as goal

pub returns-clause-no_further : goal.returns-clause-no_further
returns-clause-no_further g c =
    let tells = g.R.Source.tells in
    let asked = g.R.Source.asked in
    let given = g.R.Source.last in
    IfOk-weaker c.read_judged.result _ _
    (λ f on. alone-further tells asked given c.args.reader.now c.read_judged.new.reader
    (subst (λ (t : List ℕ). ReadsOn tells asked given t c.args.reader.now c.read_judged.new.reader) c.new.ensures.items on))
    c.read_judged.ensures.reads
