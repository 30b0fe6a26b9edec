use Rattle.std.proofs.Common.{◌∙◌, sym, ap, arith}
use Rattle.std.specs.Prelude.{slice_get}
use Rattle.std.proofs.lemmas.Option.{same_Some, none-some, slice_get_within}
use Rattle.sgt_names.proofs.Lists.{element_at}
use Rattle.sgt_service_settle.proofs.names.tx_under.Goals as goal

pub returns-in-Some : goal.returns-in-Some
returns-in-Some c tx =
    let h = c.in-Some.ensures.lookup in
    let here = element_at c.args.windows.now c.args.handle.generation c.in-Some.window.now h.3.0 h.1 in
    let there = c.tx_at.ensures ∙ ap (λ xs. slice_get xs c.args.handle.index) c.as_slice.ensures.value in (
      λ e. (c.in-Some.window.now, here, sym there ∙ e),
      λ k.
          let same = same_Some k.0 c.in-Some.window.now (sym k.1 ∙ here) in
          there ∙ (ap (λ v. slice_get v.items c.args.handle.index) (sym same) ∙ k.2),
    )

pub returns-in-None : goal.returns-in-None
returns-in-None c tx = (
  λ e. absurd (none-some tx e),
  λ k. absurd (let low = slice_get_within c.args.windows.now c.args.handle.generation k.0 k.1 in
      omega (arith, low, c.in-None.ensures.lookup.3)),
)
