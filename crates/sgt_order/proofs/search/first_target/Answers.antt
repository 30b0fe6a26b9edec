use Rattle.std.proofs.Common.{Some, sym, ap, ◌∙◌, arith, inl, inr}
use Rattle.std.specs.Prelude.{slice_get}
use Rattle.std.proofs.lemmas.List.{take_all}
use Rattle.sgt_names.proofs.Lists.{element_at}
use Rattle.sgt_order.proofs.Handles.{handle_same, handle_other}
use Rattle.sgt_order.proofs.Lists.{get_take_next, get_take_more, get_take_last}
use Rattle.sgt_order.proofs.search.first_target.Goals as goal
use Rattle.sgt_order.proofs.search.first_target.Goals.{then-eq, else-eq}

pub loop-edge-preserved : goal.loop-edge-preserved
loop-edge-preserved c =
    let n = c.loop-edge.edge-index in
    let x = c.edge-item.result in
    let here = element_at c.args.offered.now n x c.loop-edge-test.true c.edge-item.is in
    elim c.if-eq.branch [
      | then-eq w ↦
          rw w.first-is (record {
            within = omega (arith, w.earlier-first.ensures.first, c.loop-edge.invariant.within);
            least = λ e from p at.
                elim (get_take_next c.args.offered.now n from.0 x e here from.1) [
                  | inl early ↦ omega (
                    arith,
                    w.earlier-first.ensures.first,
                    c.loop-edge.invariant.least e (from.0, early.1, from.2) p at,
                  )
                  | inr last ↦ w.earlier-first.ensures.place p ((w.place_of.ensures p).1 (at
                      ∙ ap (λ y. Some y.to) (sym last.1)))
                ];
            met = elim w.earlier-first.ensures.which [
              | inl same ↦ elim c.loop-edge.invariant.met [
                | inl end ↦ inl (same ∙ end)
                | inr there ↦ inr (
                  there.0,
                  (there.1.0, get_take_more c.args.offered.now n there.1.0 there.0 there.1.1, there.1.2),
                  ap (slice_get c.args.dag.now.order.items) same ∙ there.2,
                )
              ]
              | inr placed ↦ inr (
                x,
                (
                  n,
                  get_take_last c.args.offered.now n x here,
                  handle_same x.from c.args.from (sym c.eq.ensures
                      ∙ w.if-eq.true),
                ),
                (w.place_of.ensures w.earlier-first.result).0 placed,
              )
            ];
          })
      | else-eq w ↦
          rw w.first-is (record {
            within = c.loop-edge.invariant.within;
            least = λ e from p at.
                elim (get_take_next c.args.offered.now n from.0 x e here from.1) [
                  | inl early ↦ c.loop-edge.invariant.least e (from.0, early.1, from.2) p at
                  | inr last ↦ absurd (handle_other x.from c.args.from (sym c.eq.ensures
                      ∙ w.if-eq.false) (ap (λ y. y.from) last.1 ∙ from.2))
                ];
            met = elim c.loop-edge.invariant.met [
              | inl end ↦ inl end
              | inr there ↦ inr (
                there.0,
                (
                  there.1.0,
                  get_take_more c.args.offered.now n there.1.0 there.0 there.1.1,
                  there.1.2,
                ),
                there.2,
              )
            ];
          })
    ]

pub returns-clause-first : goal.returns-clause-first
returns-clause-first c e from p at =
    let whole = take_all c.loop-edge.edge-index c.args.offered.now (omega arith) in
    c.loop-edge.invariant.least e (from.0, ap (λ xs. slice_get xs from.0) whole ∙ from.1, from.2) p at

pub returns-clause-met : goal.returns-clause-met
returns-clause-met c =
    let whole = take_all c.loop-edge.edge-index c.args.offered.now (omega arith) in
    elim c.loop-edge.invariant.met [
      | inl end ↦ inl end
      | inr there ↦ inr (
        there.0,
        (there.1.0, ap (λ xs. slice_get xs there.1.0) (sym whole) ∙ there.1.1, there.1.2),
        there.2,
      )
    ]
