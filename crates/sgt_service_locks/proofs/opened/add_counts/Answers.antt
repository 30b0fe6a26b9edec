use Rattle.std.proofs.Common.{◌≡◌, ◌<◌, ◌∙◌, Some, length, set, refl, sym, ap, arith, add-one}
use Rattle.std.specs.Prelude.{slice_get}
use Rattle.std.proofs.lemmas.Option.{slice_get_read, slice_get-get_or}
use Rattle.sgt_service_locks.proofs.Adding.{AddedTo, added_at, added_next, added_over}
use Rattle.sgt_service_locks.proofs.opened.add_counts.Goals as goal

pub loop-site-preserved : goal.loop-site-preserved
loop-site-preserved c =
    let n = c.loop-site.site in
    let cs = c.args.counts.now.items in
    let ts = c.args.theirs.now in
    let counts = c.loop-site.counts.items in
    let inv = c.loop-site.invariant.items in
    let within : n < length counts =
    omega (
      arith,
      c.loop-site-test.true,
      c.len-site-end.ensures,
      c.loop-site.invariant.len,
      c.loop-site.counts.ok.0,
    ) in
    let read : slice_get counts n ≡ Some c.index.result.now =
    slice_get_read counts (length counts) n c.index.result.now refl within c.index.ensures in
    let mine : slice_get cs n ≡ Some c.index.result.now = sym (added_at cs ts n)
    ∙ (ap (λ xs. slice_get xs n) (sym inv) ∙ read) in
    record {
      items = ap (λ xs. set xs n c.both.result) inv
          ∙ (ap (set (AddedTo cs ts n) n) c.both.ensures
          ∙ (added_next cs ts n c.index.result.now _ mine (slice_get-get_or ts n _ c.if-site-theirs.false)
          ∙ ap (AddedTo cs ts) (sym (add-one n))));
      len = c.loop-site.invariant.len;
    }

pub returns-then-site-theirs : goal.returns-then-site-theirs
returns-then-site-theirs c =
    c.loop-site.invariant.items
    ∙ added_over c.args.counts.now.items c.args.theirs.now c.loop-site.site c.if-site-theirs.true
