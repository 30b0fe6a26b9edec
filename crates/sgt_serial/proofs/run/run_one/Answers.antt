use Rattle.std.proofs.Common.{List, All, Some, sym, subst, inl, inr}
use Rattle.sgt_serial.specs.declared.report.SiteChange.{SiteChange}
use Rattle.sgt_serial.specs.declared.report.SiteValue.{SiteValue}
use Rattle.sgt_serial.specs.Difference.{Has, Knows, IsFirstWithout}
use Rattle.sgt_serial.specs.private.Values.{store_of}
use Rattle.sgt_serial.proofs.Running.{same-tx, same-site, same-item, at_value, at_change}
use Rattle.sgt_serial.proofs.run.run_one.Goals as goal

pub returns-in-Some-clause-differs : goal.returns-in-Some-clause-differs
returns-in-Some-clause-differs c tx s x e =
    let run = c.args.run.now in
    let store = store_of c.args.store.now in
    let a = c.in-Some.read in
    let first =
    subst (λ (rs : List SiteValue). IsFirstWithout (Has store) rs a) c.as_slice.ensures c.in-Some.ensures in (
      sym (same-tx (Some run.tx) tx a.site s a.item x e),
      inl (
        a.value,
        at_value (IsFirstWithout (Has store) run.reads) a s x (same-site (Some run.tx) tx a.site s a.item x e)
            (same-item (Some run.tx) tx a.site s a.item x e) first,
      ),
    )

pub returns-in-Some-change_all-clause-differs : goal.returns-in-Some-change_all-clause-differs
returns-in-Some-change_all-clause-differs c tx s x e =
    let run = c.args.run.now in
    let store = store_of c.args.store.now in
    let w = c.in-Some-change_all.write in
    let reads = subst (All (Has store)) c.as_slice.ensures c.in_default.ensures in
    let first =
    subst (λ (ws : List SiteChange). IsFirstWithout (Knows store) ws w) c.as_slice-2.ensures
    c.in-Some-change_all.ensures.known in (
      sym (same-tx (Some run.tx) tx w.site s w.item x e),
      inr (
        reads,
        (
          w.change,
          at_change (IsFirstWithout (Knows store) run.writes) w s x (same-site (Some run.tx) tx w.site s w.item x e)
              (same-item (Some run.tx) tx w.site s w.item x e) first,
        ),
      ),
    )
