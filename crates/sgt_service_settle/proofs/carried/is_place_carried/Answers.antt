use Rattle.std.proofs.Common.{◌≡◌, ◌∙◌, sym, ap, subst, arith, length}
use Rattle.sgt_names.specs.Entry.{tx_of}
use Rattle.sgt_service_settle.specs.private.Search.{InRows, Told}
use Rattle.sgt_service_settle.specs.private.Index.{AllSided}
use Rattle.sgt_service_settle.proofs.Carrying.{place_carried, link_within}
use Rattle.sgt_service_settle.proofs.carried.is_place_carried.Goals as goal

pub search-requires-clause-within : goal.search-requires-clause-within
search-requires-clause-within c a b e =
    let link =
    (c.requires.rows.out c.args.cut.now a b).0
    (subst (λ rows. InRows rows c.args.cut.now a b) c.as_slice.ensures.value e) in
    let low = link_within c.args.index.now c.args.cut.now a b link in
    omega (arith, low.1, c.requires.rows.out_long, ap length c.as_slice.ensures.value)

pub search-requires-2-clause-within : goal.search-requires-2-clause-within
search-requires-2-clause-within c a b e =
    let link =
    (c.requires.rows.back c.args.cut.now a b).0
    (subst (λ rows. InRows rows c.args.cut.now a b) c.as_slice-2.ensures.value e) in
    let low = link_within c.args.index.now c.args.cut.now b a link in
    omega (arith, low.0, c.requires.rows.back_long, ap length c.as_slice-2.ensures.value)

pub returns : goal.returns
returns c =
    let index = c.args.index.now in
    let rows = c.args.rows.now in
    let cut = c.args.cut.now in
    let start : c.number-start.result ≡ tx_of c.args.entry.now = c.number-start.ensures.is ∙ c.tx.ensures in
    let out : Told rows.out.items cut (tx_of c.args.entry.now) c.search.new.marks =
    subst (λ t. Told rows.out.items cut t c.search.new.marks) start
    (subst (λ rs. Told rs cut c.number-start.result c.search.new.marks) c.as_slice.ensures.value
    c.in_ok-search.ensures) in
    let back : Told rows.back.items cut (tx_of c.args.entry.now) c.search-2.new.marks =
    subst (λ t. Told rows.back.items cut t c.search-2.new.marks) start
    (subst (λ rs. Told rs cut c.number-start.result c.search-2.new.marks) c.as_slice-2.ensures.value
    c.in_ok-search-2.ensures) in
    let whole = place_carried index rows cut c.args.log.now c.args.place c.args.entry.now c.search.new.marks
    c.search-2.new.marks c.requires.rows out back in
    let commits = c.as_slice-commits.ensures.value in (
      λ yes. whole.0
          (subst (λ commits. AllSided c.args.log.now commits cut c.args.place c.args.entry.now c.search.new.marks
          c.search-2.new.marks) commits (c.all_sided.ensures.0 yes)),
      λ all. c.all_sided.ensures.1
          (subst (λ commits. AllSided c.args.log.now commits cut c.args.place c.args.entry.now c.search.new.marks
          c.search-2.new.marks) (sym commits) (whole.1 all)),
    )
