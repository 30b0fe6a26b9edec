use Rattle.std.proofs.Common.{refl}
use Rattle.sgt_history_text.specs.Name.{compact}
use Rattle.sgt_history_text.specs.declared.table.Interned.TheVariants.{Old, New}
use Rattle.sgt_history_text.proofs.Grown.{built_line}
use Rattle.sgt_history_text.proofs.Kept.{absent_new, contains_old, interned_is}
use Rattle.sgt_history_text.proofs.building.close_line.Goals as goal

pub returns-in-Old : goal.returns-in-Old
returns-in-Old c = λ ids h begun j built numbers text.
    let texts = c.args.builder.now.ids in
    contains_old texts ids j built.ids_kept numbers c.intern.new.self c.in-Old.field-0
    (interned_is texts c.args.id.now (compact j) c.in_ok-intern.field-0 (Old c.in-Old.field-0)
    c.intern.new.self c.in_ok-intern.ensures text c.in-Old.is)

pub returns-in_ok-close-in-New : goal.returns-in_ok-close-in-New
returns-in_ok-close-in-New c = λ ids h begun j built numbers text.
    let b = c.args.builder.now in
    let new = interned_is b.ids c.args.id.now (compact j) c.in_ok-intern.field-0 (New c.in-New.field-0)
    c.intern.new.self
    c.in_ok-intern.ensures text c.in-New.is in (
      absent_new b.ids ids j built.ids_kept numbers new.2,
      built_line b _ ids h begun built j c.args.commits numbers new.2 new.1 refl refl
          c.in_ok-close-in-New.ensures.closed c.in_ok-close-in-New.ensures.open,
    )
