use Rattle.std.proofs.Common.{rules, length, sym, subst, arith, vec_capacity}
use Rattle.std.proofs.lemmas.List.{take_all}
use Rattle.sgt_notation.specs.Spelling.{HasNoLf}
use Rattle.sgt_notation.specs.Private.{Outgrows}
use Rattle.sgt_notation.proofs.lines.look_in.Goals as goal

pub returns-in_err-append-in-None-clause-wanted : goal.returns-in_err-append-in-None-clause-wanted
returns-in_err-append-in-None-clause-wanted c =
    let held = c.args.held.now in
    let grown : Outgrows (vec_capacity c.args.line.now) c.args.limit c.args.line.now.items held = (
      length held,
      omega arith,
      subst HasNoLf (sym (take_all (length held) held (omega arith))) c.in-None.ensures.none,
      omega (arith, c.in_err-append-in-None.ensures.wanted, c.args.line.now.ok.0),
      omega (arith, c.args.line.now.ok.0),
    ) in
    search rules
