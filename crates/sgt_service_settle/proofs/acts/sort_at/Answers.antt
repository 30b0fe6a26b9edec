use Rattle.std.proofs.Common.{rules, sym, subst, Vec, Global}
use Rattle.std.specs.List.Sorted.{IsPermutation}
use Rattle.std.proofs.lemmas.Fn.{always_returns_same}
use Rattle.std.proofs.lemmas.List.Sorted.{IsNonDecreasingBy-from_sort}
use Rattle.sgt_service_settle.specs.declared.acts.Act.{Act as AnAct}
use Rattle.sgt_service_settle.specs.private.Acts.{actor}
use Rattle.sgt_service_settle.proofs.Acting.{sorted_row}
use Rattle.sgt_names.proofs.Lists.{element_at}
use Rattle.sgt_service_settle.proofs.acts.sort_at.Goals as goal

pub returns : goal.returns
returns c =
    let here = element_at c.args.acts.now c.args.at c.index-acts-at.result c.requires c.index-acts-at.is in
    sorted_row c.args.acts.now c.args.at c.index-acts-at.result c.sort_by_key.new.self here
    (subst (λ (v : Vec AnAct Global). IsPermutation v.items c.sort_by_key.new.self.items) (sym c.index-acts-at.is)
    c.in_ok-sort_by_key.ensures.permutation)
    (IsNonDecreasingBy-from_sort actor c.sort_by_key.new.self.items
    (c.in_ok-sort_by_key.ensures.sorted actor
    (always_returns_same _ _ _ (λ a r g called. (search rules, search rules)))))
