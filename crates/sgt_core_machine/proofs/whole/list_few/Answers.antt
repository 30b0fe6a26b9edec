use Rattle.std.proofs.Common.{◌≡◌, ◌<◌, ◌≤◌, ◌+◌, ◌++◌, ◌∷◌, [], ℕ, Vec, Global, inl, inr, sym, ◌∙◌, ap, arith}
use Rattle.std.specs.Prelude.{filter}
use Rattle.std.specs.List.{range_with_len}
use Rattle.sgt_names.proofs.Lists.{element_at}
use Rattle.sgt_core_machine.proofs.FewSites.{listed_next, listed_all, over_same, over_more}
use Rattle.sgt_core_machine.proofs.whole.list_few.Goals as goal
use Rattle.sgt_core_machine.proofs.whole.list_few.Goals.{then-next-number+then-number-count+in_ok-push, else-next-number, else-next-number-via-then-next-number+else-number-count, else-next-number-via-else-next-number}

pub loop-touch-preserved : goal.loop-touch-preserved
loop-touch-preserved c =
    let ts = c.args.touched.now in
    let n = c.loop-touch.touch-index in
    let t = c.touch-item.result in
    let i = c.loop-touch.invariant in
    let was = c.loop-touch.next in
    let at = element_at ts n t c.loop-touch-test.true c.touch-item.is in
    let same : t.site ≡ c.number-number.result = sym c.number-number.ensures.is in
    elim c.if-next-number.branch [
      | then-next-number+then-number-count+in_ok-push w ↦
          let sites : c.if-next-number.sites.items ≡ c.loop-touch.sites.items ++ t.site ∷ [] =
          ap (λ (v : Vec ℕ Global). v.items) w.sites-is ∙ w.in_ok-push.ensures.items in
          let next : c.if-next-number.next ≡ t.site + 1 = w.next-is ∙ ap (λ k. k + 1) (sym same) in
          let from : was ≤ t.site = omega (arith, same, w.if-next-number.true) in
          let inside : t.site < c.args.count = omega (arith, same, w.if-number-count.true) in
          record {
            listed = λ p each. sites
                ∙ (listed_next ts c.args.count c.requires.rising c.requires.used p each c.loop-touch.sites.items was n t at
                i.over (i.listed p each) from inside
                ∙ ap (λ k. filter p (range_with_len 0 k)) (sym next));
            over = over_same ts c.args.count c.if-next-number.next n t at
                (over_more ts c.args.count was c.if-next-number.next n i.over (omega (arith, next, from)))
                (inl (omega (arith, next)));
            within = omega (arith, next, inside);
          }
      | else-next-number w ↦
          let sites : c.if-next-number.sites.items ≡ c.loop-touch.sites.items =
          ap (λ (v : Vec ℕ Global). v.items) w.sites-is in
          let next : c.if-next-number.next ≡ was = w.next-is in
          record {
            listed = λ p each. sites ∙ (i.listed p each ∙ ap (λ k. filter p (range_with_len 0 k)) (sym next));
            over = over_same ts c.args.count c.if-next-number.next n t at
                (over_more ts c.args.count was c.if-next-number.next n i.over (omega (arith, next)))
                (elim w.else-next-number.branch [
                  | else-next-number-via-then-next-number+else-number-count v ↦
                      inr (omega (arith, same, v.if-number-count.false))
                  | else-next-number-via-else-next-number v ↦ inl (omega (arith, same, next, v.if-next-number.false))
                ]);
            within = omega (arith, next, i.within);
          }
    ]

pub returns : goal.returns
returns c = λ p each.
    let i = c.loop-touch.invariant in
    listed_all c.args.touched.now c.args.count c.requires.rising c.requires.used p each c.loop-touch.sites.items
    c.loop-touch.next c.loop-touch.touch-index (omega arith) i.over i.within (i.listed p each)
