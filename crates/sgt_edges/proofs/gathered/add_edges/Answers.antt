use mathlib.Core.Bool.{false≢true}
use Rattle.std.proofs.Common.{◌≡◌, ◌<◌, rules, sym, subst, arith}
use Rattle.sgt_edges.proofs.Gathers.{adds-both, one-parts, seen-known}
use Rattle.sgt_edges.proofs.Once.{once-both, read-change-differ}
use Rattle.sgt_edges.proofs.gathered.add_edges.Goals as goal

pub add_of_read-requires-clause-seen : goal.add_of_read-requires-clause-seen
add_of_read-requires-clause-seen c = λ seen some.
    let here : c.args.touch.now.site ≡ c.args.site.now.number = search rules in
    let many = c.accesses_at-item.ensures.are.wrote.1 in
    let known = seen-known c.args.site.now c.args.touch.now seen here some (λ new. false≢true
    (c.if-exceeds.ensures.1 (new.1.0, new.1.1, subst (λ n. n < new.1.0.version) (sym many) new.1.2))) in
    omega (arith, many, known)

pub returns-clause-seen : goal.returns-clause-seen
returns-clause-seen c =
    λ new. false≢true
    (c.if-exceeds.ensures.1 (
      new.1.0,
      new.1.1,
      subst (λ n. n < new.1.0.version) (sym c.accesses_at-item.ensures.are.wrote.1) new.1.2,
    ))

pub returns-clause-all : goal.returns-clause-all
returns-clause-all c =
    let here : c.args.touch.now.site ≡ c.args.site.now.number = search rules in
    let are = c.accesses_at-item.ensures.are in
    adds-both _ _ _ _ _ _ (one-parts _ _ c.args.me here) (c.in-Ok.ensures.all c.args.site.now are)
    (c.in-Ok-add_of_change.ensures.all c.args.site.now are)

pub returns-clause-once : goal.returns-clause-once
returns-clause-once c = λ own.
    let here : c.args.touch.now.site ≡ c.args.site.now.number = search rules in
    let are = c.accesses_at-item.ensures.are in
    let apart = c.accesses_at-item.ensures.writers_apart own in
    once-both _ _ _ _ _ _ (one-parts _ _ c.args.me here)
    (read-change-differ c.args.touch.now c.args.me c.args.site.now) (c.in-Ok.ensures.all c.args.site.now are)
    (c.in-Ok.ensures.once c.args.site.now are apart)
    (c.in-Ok-add_of_change.ensures.once c.args.site.now are apart (c.accesses_at-item.ensures.readers_apart own))

pub returns-then-ne-clause-once : goal.returns-then-ne-clause-once
returns-then-ne-clause-once c = λ own apart none. apart
