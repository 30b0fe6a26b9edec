use Rattle.std.proofs.Common.{codes, length, ℕ, length-take, refl, arith}
use Rattle.sgt_line.proofs.Lines.{cut_there}
use Rattle.sgt_line.proofs.written.cut.Goals as goal

pub returns-in-Some-clause-some : goal.returns-in-Some-clause-some
returns-in-Some-clause-some c = cut_there c.args.text.now (codes "---\n") c.in-Some.place c.in-Some.ensures.0

pub returns-in-Some-clause-first : goal.returns-in-Some-clause-first
returns-in-Some-clause-first c = λ front bundle cut.
    let least = c.in-Some.ensures.1 (length front) (front, bundle, cut.0, refl, cut.1) in
    omega (arith, least, length-take {A = ℕ})

pub returns-in-None-clause-first : goal.returns-in-None-clause-first
returns-in-None-clause-first c =
    λ front bundle cut. absurd (c.in-None.ensures (length front) (front, bundle, cut.0, refl, cut.1))

pub returns-in-None-clause-none : goal.returns-in-None-clause-none
returns-in-None-clause-none c =
    λ is. (refl, λ front bundle cut. c.in-None.ensures (length front) (front, bundle, cut.0, refl, cut.1))
