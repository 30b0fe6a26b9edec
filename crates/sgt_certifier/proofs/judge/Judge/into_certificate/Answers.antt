use Rattle.std.proofs.Common.{◌≡◌, ◌<◌, length, map, sym, ap, ◌∙◌, subst, arith}
use Rattle.sgt_certifier.specs.Certifier.{State, ruled, serial, ranked, certificate_of}
use Rattle.sgt_certifier.specs.Judged.{ruling_from}
use Rattle.sgt_certifier.specs.Kept.{with_rank_in}
use Rattle.sgt_certifier.proofs.Judging.{parts_of, state_of}
use Rattle.sgt_certifier.proofs.Certifying.{IsTable, table_ranks, rulings_below, below_from, map_from}
use Rattle.sgt_certifier.proofs.judge.Judge.into_certificate.Goals as goal

pub decisions_from-requires : goal.decisions_from-requires
decisions_from-requires c =
    let s = state_of (parts_of c.self.inside) in
    let n = length c.as_slice.result.now in
    let begun = ap (λ (v : State). v.begun) c.self.view_is in
    let less : s.begun < n = omega (arith, c.as_slice.ensures.len, c.in_ok-ranks.ensures.len, begun) in
    below_from n c.self.inside.rulings.items (rulings_below s n c.self.invariant.good.ruled less)

pub returns : goal.returns
returns c =
    let s = state_of (parts_of c.self.inside) in
    let table = c.in_ok-ranks.ranks.items in
    let is_table : IsTable (serial s) table =
    subst (λ (v : State). IsTable (serial v) table) (sym c.self.view_is) c.in_ok-ranks.ensures.ranks in
    let decisions : c.new.result ≡ map (ranked (serial s)) s.rulings =
    c.new.ensures
    ∙ (c.in_ok-decisions.ensures
    ∙ (ap (λ t. map (λ r. with_rank_in t (ruling_from r)) c.self.inside.rulings.items) c.as_slice.ensures.value
    ∙ (map_from (with_rank_in table) c.self.inside.rulings.items
    ∙ table_ranks s table c.self.invariant.good.ruled is_table))) in
    let mine : record { sites = c.args.sites; decisions = c.new.result } ≡ certificate_of s c.args.sites =
    ap (λ ds. record { sites = c.args.sites; decisions = ds }) decisions in
    mine ∙ ap (λ (v : State). certificate_of v c.args.sites) c.self.view_is
