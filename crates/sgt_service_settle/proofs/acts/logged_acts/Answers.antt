use Rattle.std.proofs.Common.{◌≡◌, ◌∙◌, ◌+◌, ap, sym, subst, arith, length}
use Rattle.sgt_names.specs.declared.entry.Entry.{Entry as AnEntry}
use Rattle.std.proofs.lemmas.Option.{none-some}
use Rattle.sgt_service_settle.proofs.Rowing.{written_back}
use Rattle.sgt_service_settle.proofs.Acting.{AreActsTo, acts_none, acts_next, acts_skip, acts_all}
use Rattle.sgt_service_settle.proofs.acts.logged_acts.Goals as goal
use Rattle.sgt_service_settle.proofs.acts.logged_acts.Goals.{in-Some+in_ok-push_at, in_default}
use Rattle.sgt_names.proofs.Lists.{element_at}

pub loop-place-init : goal.loop-place-init
loop-place-init c =
    record {
      long = c.in_ok-acts.ensures.long;
      acts =
          acts_none c.args.items.now c.args.log.now c.in_ok-acts.acts.items c.in_ok-acts.ensures.none;
    }

pub push_at-requires : goal.push_at-requires
push_at-requires c =
    let k = (c.place_in.ensures c.in-Some.at).0 c.in-Some.is in
    let within = k.2.within in
    omega (arith, within, ap length c.as_mut_slice.ensures.value, c.loop-place.invariant.long)

pub loop-place-preserved : goal.loop-place-preserved
loop-place-preserved c =
    let items = c.args.items.now in
    let log = c.args.log.now in
    let m = c.loop-place.place in
    let e : AnEntry = c.index-log-place.result in
    let here = element_at log m e c.loop-place-test.true c.index-log-place.is in
    elim c.match-place_in.branch [
      | in-Some+in_ok-push_at w ↦
          let old = c.loop-place.acts in
          let k = (c.place_in.ensures w.in-Some.at).0 w.in-Some.is in
          let long : length w.as_mut_slice.result.now ≡ length old.items = ap length w.as_mut_slice.ensures.value in
          let same : length w.push_at.new.rows ≡ length w.as_mut_slice.result.now = w.push_at.auto.rows in
          let back = written_back old.items w.push_at.new.rows old.len (omega (arith, old.ok.0, same, long)) in
          let pushed = rw w.as_mut_slice.ensures.value at w.in_ok-push_at.ensures in
          record {
            long = rw w.acts-is (ap length back ∙ (same ∙ (long ∙ c.loop-place.invariant.long)));
            acts = rw w.acts-is
                (subst (AreActsTo items log (m + 1)) (sym back)
                (acts_next items log m w.in-Some.at e k.0 old.items w.push_at.new.rows c.requires here k.1 k.2 pushed
                c.loop-place.invariant.acts));
          }
      | in_default w ↦ record {
        long = rw w.acts-is c.loop-place.invariant.long;
        acts = rw w.acts-is
            (acts_skip items log m e c.loop-place.acts.items here (λ at x item is. none-some at (sym w.in_default.is
            ∙ (c.place_in.ensures at).1 (x, item, is))) c.loop-place.invariant.acts);
      }
    ]

pub returns-clause-acts : goal.returns-clause-acts
returns-clause-acts c = acts_all c.args.items.now c.args.log.now c.loop-place.place c.loop-place.acts.items
    (omega (arith, c.loop-place-test.false)) c.loop-place.invariant.acts
