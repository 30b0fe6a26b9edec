use Rattle.std.proofs.Common.{refl, arith}
use Rattle.sgt_names.proofs.Places.{Contains-from_at}
use Rattle.sgt_service_settle.specs.declared.link.Link.{Link as ALink}
use Rattle.sgt_service_settle.specs.private.Joined.{IsHanded}
use Rattle.sgt_service_settle.proofs.Joining.{under_far, noted_far, none_noted}
use Rattle.sgt_names.proofs.Lists.{element_at}
use Rattle.sgt_service_settle.proofs.course.Marks.note.Goals as goal

pub loop-link-init : goal.loop-link-init
loop-link-init c = record {
  step = refl;
  under = record {
    from = λ a s at. let low = c.requires.from a s at in omega (arith, low);
    to = λ a s at. let low =
        c.requires.to a s at in omega (arith, low);
  };
  noted = none_noted c.args.links.now c.args.deed.now c.args.self.now c.requires;
}

pub loop-link-preserved : goal.loop-link-preserved
loop-link-preserved c =
    let links = c.args.links.now in
    let d = c.args.deed.now in
    let old = c.loop-link.self in
    let link : ALink = c.link-item.result in
    let has =
    Contains-from_at links c.loop-link.link-index link
    (element_at links c.loop-link.link-index link c.loop-link-test.true c.link-item.is) in
    let inv = c.loop-link.invariant in
    let early = c.if-link-deed.false in
    record {
      step = inv.step;
      under = record {
        from = under_far old.from.items c.mark_far.new.marks.items link.to link.from d.tx old.step c.mark_far.ensures
            inv.under.from;
        to = under_far old.to.items c.mark_far-in-loop-link.new.marks.items link.from link.to d.tx old.step
            c.mark_far-in-loop-link.ensures inv.under.to;
      };
      noted = record {
        from = noted_far (λ a. IsHanded links d.number a d.tx) old.from.items c.mark_far.new.marks.items link.to
            link.from d.tx old.step c.mark_far.ensures (λ near. (link, has, refl, near, early)) inv.noted.from;
        to = noted_far (λ b. IsHanded links d.number d.tx b) old.to.items c.mark_far-in-loop-link.new.marks.items
            link.from link.to d.tx old.step c.mark_far-in-loop-link.ensures (λ near. (link, has, near, refl, early))
            inv.noted.to;
      };
    }
