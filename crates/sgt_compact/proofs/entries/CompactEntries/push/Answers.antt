use Rattle.std.proofs.Common.{map, ap, ◌∙◌, subst}
use Rattle.sgt_compact_entry.specs.Compact.{IsNumberOf, named}
use Rattle.sgt_compact_entry.proofs.Naming.{always, entries-kept, entries-pushed, numbers-pushed}
use Rattle.sgt_compact.proofs.entries.CompactEntries.push.Goals as goal

pub returns-in_err-number-clause-err : goal.returns-in_err-number-clause-err
returns-in_err-number-clause-err c =
    always c.from_residual.result (
    entries-kept c.self.inside.items.items c.number_of.new.items.items c.number_of.ensures.more.0
    c.self.inside.entries.items c.args.self.now c.self.invariant c.number_of.ensures.more.1 c.self.view_is)

pub returns-in_err-push-clause-err : goal.returns-in_err-push-clause-err
returns-in_err-push-clause-err c =
    always c.from_residual-in_err-push.result (
    ap (map (named c.number_of.new.items.items)) c.in_err-push.ensures.items ∙
    entries-kept c.self.inside.items.items c.number_of.new.items.items c.number_of.ensures.more.0
    c.self.inside.entries.items c.args.self.now c.self.invariant c.number_of.ensures.more.1 c.self.view_is)

pub invariant_of-self-2 : goal.invariant_of-self-2
invariant_of-self-2 c =
    numbers-pushed c.self.inside.items.items c.number_of.new.items.items c.number_of.ensures.more.0
    c.self.inside.entries.items c.args.self.now c.self.invariant c.number_of.ensures.more.1 c.self.view_is
    c.push.new.self.items c.compact.result c.in_ok-push.ensures.items
    (c.compact.ensures.numbered c.number_of.new.items.items (subst (λ o. IsNumberOf c.number_of.new.items.items o c.in_ok-number.number) c.item.ensures c.in_ok-number.ensures.number))

pub returns-clause-ok : goal.returns-clause-ok
returns-clause-ok c =
    entries-pushed c.self.inside.items.items c.number_of.new.items.items c.number_of.ensures.more.0
    c.self.inside.entries.items c.args.self.now c.self.invariant c.number_of.ensures.more.1 c.self.view_is
    c.push.new.self.items c.compact.result c.args.entry c.in_ok-push.ensures.items
    (c.compact.ensures.same c.number_of.new.items.items (subst (λ o. IsNumberOf c.number_of.new.items.items o c.in_ok-number.number) c.item.ensures c.in_ok-number.ensures.number))
