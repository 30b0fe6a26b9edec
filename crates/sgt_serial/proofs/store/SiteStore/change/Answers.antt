use Rattle.std.proofs.Common.{subst, sym, ap, ◌∙◌, Some, cond}
use Rattle.std.specs.Prelude.{slice_get, AllPairs}
use Rattle.std.specs.Str.{bytes_eq}
use Rattle.sgt_names.specs.Log.{value_in, value_with}
use Rattle.sgt_names.specs.declared.entry.Holding.{Holding}
use Rattle.sgt_bundle.specs.Parts.{ComesBefore}
use Rattle.std.proofs.lemmas.Option.{same_Some}
use Rattle.sgt_serial.proofs.Items.{names-set, value_in-set, change-where, read_at}
use Rattle.sgt_serial.proofs.store.SiteStore.change.Goals as goal

pub invariant_of-self : goal.invariant_of-self
invariant_of-self c =
    let hs = c.self.inside.holdings.items in
    let place = c.in-Some.place in
    let h = c.index_mut-holding.result.now in
    let there = ap (λ gs. slice_get gs place) c.self.view_is ∙ c.in-Some.ensures.1 in
    let at = read_at hs place (record { item = c.args.item.now; value = c.in-Some.ensures.0 }) h there
    c.index_mut-holding.ensures.value in
    subst (AllPairs ComesBefore) (sym (names-set hs place h c.apply-holding.result at)) c.self.invariant

pub returns-in-Some-clause-after : goal.returns-in-Some-clause-after
returns-in-Some-clause-after c x =
    let hs = c.self.inside.holdings.items in
    let place = c.in-Some.place in
    let item = c.args.item.now in
    let v = c.in-Some.ensures.0 in
    let w = c.apply-holding.result in
    let h = c.index_mut-holding.result.now in
    let there = ap (λ gs. slice_get gs place) c.self.view_is ∙ c.in-Some.ensures.1 in
    let at = read_at hs place (record { item = item; value = v }) h there c.index_mut-holding.ensures.value in
    let same = same_Some h (record { item = item; value = v }) (sym at ∙ there) in
    let after = ap (λ (g : Holding). value_with (Some g.value) c.args.change) (sym same)
    ∙ sym c.apply-holding.ensures in
    value_in-set hs c.self.invariant place h w at x
    ∙ ap (λ (g : Holding). cond (bytes_eq g.item x) (Some w) (value_in hs x)) same
    ∙ ap (λ gs. cond (bytes_eq item x) (Some w) (value_in gs x)) c.self.view_is
    ∙ change-where c.args.self.now item x v w c.args.change c.in-Some.ensures.2 after
