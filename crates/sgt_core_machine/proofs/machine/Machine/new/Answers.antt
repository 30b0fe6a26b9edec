use Rattle.std.proofs.Common.{sym, subst}
use Rattle.std.proofs.Common.{List, Option}
use Rattle.sgt_core_machine.specs.declared.machine.Running.{Running}
use Rattle.sgt_core_model.specs.Core.{fresh}
use Rattle.sgt_core_machine.specs.Machine.{StandsFor}
use Rattle.sgt_core_machine.proofs.Opening.{new_stands}
use Rattle.sgt_core_machine.proofs.machine.Machine.new.Goals as goal

pub returns-clause-ok : goal.returns-clause-ok
returns-clause-ok c =
    let s = new_stands c.args.sites.now c.in_ok-places.places.items c.new.result c.in_ok-places.ensures.ok
    c.new.ensures c.requires.some c.requires.few in
    subst (λ (t : List (Option Running)). StandsFor (record {
      places = c.in_ok-places.places.items;
      certifier =
          c.new.result;
      begun = 0;
      before = 0;
      table = t;
      step = Rattle.std.proofs.Common.None;
    })
    (fresh c.args.sites.now)) (sym c.new-2.ensures.items) s
