use Rattle.sgt_edges.proofs.laws.pledged_are_active.Goals as goal

pub returns : goal.returns
returns c s tx touched site pledged =
    let covered = site.pledged _ pledged in
    record { active = covered.active; reads = covered.reads }
