use Rattle.std.proofs.Common.{ap, sym, subst, ◌∙◌, Option}
use Rattle.std.specs.Prelude.{◌==◌, ◌&&◌}
use Rattle.std.specs.Str.{bytes_eq}
use Rattle.std.proofs.lemmas.List.{take_all}
use Rattle.sgt_names.specs.Draft.{touched_at}
use Rattle.sgt_names.specs.declared.draft.Touch.{Touch}
use Rattle.sgt_names.proofs.Lists.{element_at}
use Rattle.sgt_core_machine.specs.private.Looked.{IsFoundOf}
use Rattle.sgt_core_machine.proofs.FirstFound.{find_first, find_further}
use Rattle.sgt_core_machine.proofs.looking.find_among.Goals as goal

pub loop-touch-preserved : goal.loop-touch-preserved
loop-touch-preserved c =
    let ts = c.args.touched.now in
    let n = c.loop-touch.touch-index in
    let t = c.touch-item.result in
    let at = element_at ts n t c.loop-touch-test.true c.touch-item.is in
    find_further (λ (u : Touch). (u.site == c.args.site) && bytes_eq u.item c.args.item.now) ts n t at
    c.loop-touch.invariant (sym c.is_of.ensures ∙ c.if-is_of.false)

pub returns-then-is_of : goal.returns-then-is_of
returns-then-is_of c =
    let ts = c.args.touched.now in
    let n = c.loop-touch.touch-index in
    let t = c.touch-item.result in
    let at = element_at ts n t c.loop-touch-test.true c.touch-item.is in
    subst (λ (o : Option Touch). IsFoundOf o c.found_of.result)
    (sym (find_first (λ (u : Touch). (u.site == c.args.site) && bytes_eq u.item c.args.item.now) ts n t at
    c.loop-touch.invariant (sym c.is_of.ensures ∙ c.if-is_of.true))) c.found_of.ensures

pub returns : goal.returns
returns c =
    ap (λ ts. touched_at ts (c.args.site, c.args.item.now))
    (sym (take_all c.loop-touch.touch-index c.args.touched.now (omega Rattle.std.proofs.Common.arith)))
    ∙ c.loop-touch.invariant
