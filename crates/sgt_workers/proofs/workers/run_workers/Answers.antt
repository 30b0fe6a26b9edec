use Rattle.std.proofs.Common.{◌∙◌, IfOk, sym, subst, arith, slice_index_or}
use Rattle.sgt_workers.specs.Answers.{IsReport}
use Rattle.sgt_workers.specs.declared.worker.Kit.{Kit}
use Rattle.sgt_workers.proofs.Lists.{zip_by}
use Rattle.sgt_names.proofs.Elements.{if_ok_both}
use Rattle.sgt_workers.proofs.workers.run_workers.Goals as goal

pub returns-clause-keeps : goal.returns-clause-keeps
returns-clause-keeps g c =
    if_ok_both c.map_vec.result _ _ _ c.map_vec.ensures.len c.map_vec.ensures.each (λ v len each.
    zip_by _ c.args.kits.items v.items (sym v.ok.0 ∙ len ∙ c.args.kits.ok.0) (λ i a b h.
    let k = (each i b h).1 in
    subst (λ (j : Kit g.row.S.Denot). IfOk (slice_index_or v.items i b) (λ r. g.W.Work.keeps j.state r.state))
    (sym (k.job_is a)) k.call.met.1.0))

pub returns-clause-reports : goal.returns-clause-reports
returns-clause-reports g c =
    if_ok_both c.map_vec.result _ _ _ c.map_vec.ensures.len c.map_vec.ensures.each (λ v len each.
    zip_by _ c.args.kits.items v.items (sym v.ok.0 ∙ len ∙ c.args.kits.ok.0) (λ i a b h.
    let k = (each i b h).1 in
    subst (λ (j : Kit g.row.S.Denot). IfOk (slice_index_or v.items i b)
    (IsReport (g.W.Work.does c.args.work.now) c.args.scripts.now j.state)) (sym (k.job_is a)) k.call.met.1.1.0))

pub returns-clause-answers : goal.returns-clause-answers
returns-clause-answers g c =
    if_ok_both c.map_vec.result _ _ _ c.map_vec.ensures.len c.map_vec.ensures.each (λ v len each.
    λ i b h. (each i b (omega (arith, h, v.ok.0, len, c.args.kits.ok.0))).1.call.met.1.1.1.0)

pub returns-clause-fault : goal.returns-clause-fault
returns-clause-fault g c =
    if_ok_both c.map_vec.result _ _ _ c.map_vec.ensures.len c.map_vec.ensures.each (λ v len each.
    λ i b h. (each i b (omega (arith, h, v.ok.0, len, c.args.kits.ok.0))).1.call.met.1.1.1.1)

pub returns-clause-taken : goal.returns-clause-taken
returns-clause-taken g c =
    if_ok_both c.map_vec.result _ _ _ c.map_vec.ensures.len c.map_vec.ensures.each (λ v len each.
    λ i b h. (each i b (omega (arith, h, v.ok.0, len, c.args.kits.ok.0))).1.call.met.0)
