use Rattle.std.proofs.Common.{◌∙◌, ◌<◌, sym, subst, arith, inl, inr, refl}
use Rattle.std.proofs.lemmas.Bool.{true≢false}
use Rattle.std.proofs.lemmas.Option.{slice_get_within}
use Rattle.sgt_names.specs.Entry.{Clash}
use Rattle.sgt_service_settle.specs.declared.acts.Act.{Act as AnAct}
use Rattle.sgt_service_settle.proofs.Lists.{before_or_here}
use Rattle.sgt_names.proofs.Lists.{element_at}
use Rattle.sgt_service_settle.proofs.logged.are_between.Goals as goal

pub returns-then-is_followed : goal.returns-then-is_followed
returns-then-is_followed c =
    let k = c.is_followed.ensures.0 c.if-is_followed.true in
    let here = element_at c.args.from.now c.loop-first.first-index c.first-item.result c.loop-first-test.true
    c.first-item.is in (
      λ told. record {
        n = c.loop-first.first-index;
        m = k.0;
        a = c.first-item.result;
        b = k.1;
        first = here;
        second =
            k.2;
        before = k.3;
        clash = k.4;
      },
      λ x. refl,
    )

pub loop-first-preserved : goal.loop-first-preserved
loop-first-preserved c n m a b low first second lt clash =
    let seen : AnAct = c.first-item.result in
    let here = element_at c.args.from.now c.loop-first.first-index seen c.loop-first-test.true c.first-item.is in
    elim (before_or_here c.args.from.now c.loop-first.first-index n seen a here first low) [
      | inl early ↦ c.loop-first.invariant n m a b early first second lt clash
      | inr last ↦
          let before : seen.place < b.place = subst (λ (x : AnAct). x.place < b.place) (sym last.1) lt in
          let clashes : Clash c.args.kind c.args.item.now seen.entry b.entry =
          subst (λ (x : AnAct). Clash c.args.kind c.args.item.now x.entry b.entry) (sym last.1) clash in
          true≢false (sym (c.is_followed.ensures.1 (m, b, second, before, clashes)) ∙ c.if-is_followed.false)
    ]

pub returns : goal.returns
returns c = (
  λ told. absurd (true≢false (sym told)),
  λ k. absurd (c.loop-first.invariant k.n k.m k.a k.b (let low = slice_get_within c.args.from.now k.n k.a k.first in
      omega (arith, low, c.loop-first-test.false)) k.first k.second k.before k.clash),
)
