use mathlib.Core.Bool.{false≢true}
use Rattle.std.proofs.Common.{◌≡◌, refl, subst}
use Rattle.sgt_names.specs.Draft.{at_site}
use Rattle.sgt_edges.proofs.Gathers.{near-given, near-stands, item-new, draft-new}
use Rattle.sgt_edges.proofs.Touching.{given-whole, stands-whole, new-whole, new-part}
use Rattle.sgt_edges.proofs.gathered.gather_into.Goals as goal

pub returns-in-Err-clause-refused : goal.returns-in-Err-clause-refused
returns-in-Err-clause-refused c =
    let ts = c.args.draft.now.touched in
    let again = subst (λ n. at_site n c.touched_near-here.result.now ≡ at_site n ts) c.number.ensures.number
    c.touched_near-here.ensures.here in
    new-whole c.args.site.now ts c.args.me c.touched_near-here.result.now again
    (item-new c.args.site.now _ c.args.me (c.if-sees_too_new.ensures.0 refl))

pub returns-in-Ok-clause-given : goal.returns-in-Ok-clause-given
returns-in-Ok-clause-given c =
    let ts = c.args.draft.now.touched in
    let again = subst (λ n. at_site n c.touched_near-here.result.now ≡ at_site n ts) c.number.ensures.number
    c.touched_near-here.ensures.here in
    given-whole c.args.site.now ts c.args.me c.touched_near-here.result.now again _
    (near-given _ _ _ _ c.in-Ok.ensures.near)

pub returns-in-Ok-clause-stands : goal.returns-in-Ok-clause-stands
returns-in-Ok-clause-stands c =
    let ts = c.args.draft.now.touched in
    let again = subst (λ n. at_site n c.touched_near-here.result.now ≡ at_site n ts) c.number.ensures.number
    c.touched_near-here.ensures.here in
    stands-whole c.args.site.now ts c.args.me c.touched_near-here.result.now again _
    (near-stands _ _ _ _ c.to_neighbours.ensures.site
    (λ new. c.in-Ok.ensures.seen (draft-new c.args.site.now _ c.args.me new)) c.in-Ok.ensures.near)

pub returns-in-Ok-clause-allowed : goal.returns-in-Ok-clause-allowed
returns-in-Ok-clause-allowed c = λ new.
    let ts = c.args.draft.now.touched in
    let again = subst (λ n. at_site n c.touched_near-here.result.now ≡ at_site n ts) c.number.ensures.number
    c.touched_near-here.ensures.here in
    c.in-Ok.ensures.seen
    (draft-new c.args.site.now _ c.args.me
    (new-part c.args.site.now ts c.args.me c.touched_near-here.result.now again new))

pub returns-in-Err-2-clause-refused : goal.returns-in-Err-2-clause-refused
returns-in-Err-2-clause-refused c = λ new.
    let ts = c.args.draft.now.touched in
    let again = subst (λ n. at_site n c.touched_near-here.result.now ≡ at_site n ts) c.number.ensures.number
    c.touched_near-here.ensures.here in
    false≢true
    (c.if-sees_too_new.ensures.1
    (draft-new c.args.site.now _ c.args.me
    (new-part c.args.site.now ts c.args.me c.touched_near-here.result.now again new)))
