use Rattle.std.proofs.Common.{◌∙◌, refl, sym}
use Rattle.std.proofs.lemmas.Option.{none-some}
use Rattle.sgt_service_settle.proofs.index.link_of.Goals as goal

pub returns-in_default-clause-none : goal.returns-in_default-clause-none
returns-in_default-clause-none c l k = none-some l.from (sym c.in_default.is ∙ (c.end_of.ensures l.from).1 k.from)

pub returns-in_default-end_of-clause-none : goal.returns-in_default-end_of-clause-none
returns-in_default-end_of-clause-none c l k =
    none-some l.to (sym c.in_default-end_of.is ∙ (c.end_of-2.ensures l.to).1 k.to)

pub returns-clause-some : goal.returns-clause-some
returns-clause-some c = record {
  from = (c.end_of.ensures c.in-Some.from).0 c.in-Some.is;
  to = (c.end_of-2.ensures c.in-Some-end_of.to).0 c.in-Some-end_of.is;
  label = refl;
  number = refl;
}
