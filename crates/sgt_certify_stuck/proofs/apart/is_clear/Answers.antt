use Rattle.std.proofs.Common.{refl, sym, ◌∙◌, arith}
use Rattle.std.proofs.lemmas.Bool.{true≢false}
use Rattle.std.proofs.lemmas.Option.{slice_get_within}
use Rattle.sgt_names.proofs.Lists.{element_at}
use Rattle.sgt_certify_stuck.proofs.Clear.{not-clear, seen-next}
use Rattle.sgt_certify_stuck.proofs.apart.is_clear.Goals as goal

pub loop-entry-preserved : goal.loop-entry-preserved
loop-entry-preserved c =
    seen-next _ _ _ _ _ _ _ _ c.entry-item.result c.loop-entry.invariant
    (element_at _ _ _ c.loop-entry-test.true c.entry-item.is)
    (λ x has bars does. true≢false (sym (c.meets.ensures.all x has bars does) ∙ c.if-meets.false))
    c.in_ok-note.ensures.kept c.in_ok-note.ensures.added c.in_ok-note.ensures.only

pub returns-then-meets : goal.returns-then-meets
returns-then-meets c = (
  λ no. absurd (true≢false (sym no)),
  λ clear.
      let met = c.meets.ensures.only c.if-meets.true in
      absurd (not-clear c.args.entries.now c.loop-entry.entry-index c.args.sources.now c.args.barred.now
      c.args.pair.first c.args.pair.second met.0 c.entry-item.result
      (c.loop-entry.invariant.only met.0 met.1) (element_at _ _ _ c.loop-entry-test.true c.entry-item.is) met.2 met.3
      clear),
)

pub returns : goal.returns
returns c = (
  λ _. λ p q e f x lt at_p at_q source bars does then.
      let within = slice_get_within c.args.entries.now q f at_q in
      c.loop-entry.invariant.clear p q e f x lt (omega (arith, within, c.loop-entry-test.false)) at_p at_q source bars
      does then,
  λ _. refl,
)
