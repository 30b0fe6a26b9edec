use Rattle.std.proofs.Common.{◌≡◌, ◌<◌, ◌+◌, ◌-◌, ◌++◌, [], ◌∷◌, List, length, take, drop, sym, subst}
use Rattle.sgt_names.proofs.Lists.{element_at}
use Rattle.sgt_serial.specs.declared.entries.SiteEntry.{SiteEntry}
use Rattle.sgt_serial.proofs.Windows.{window-next}
use Rattle.sgt_serial.proofs.sorted.Sorted.read_at.Goals as goal

pub returns : goal.returns
returns c =
    let xs = c.self.inside.entries.items in
    let place = c.args.place in
    let e = c.index.result.now in
    let within : place < length xs =
    subst (λ (ys : List SiteEntry). place < length ys) (sym c.self.view_is) c.requires in (
      e,
      λ logs from le. subst (λ (ys : List SiteEntry). take (place + 1 - from) (drop from ys) ≡ take (place - from)
          (drop from ys) ++ e ∷ []) c.self.view_is
          (window-next xs from place e le (element_at xs place e within c.index.ensures)),
      c.read_of.ensures,
    )
