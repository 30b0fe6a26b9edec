use Rattle.std.proofs.Common.{ℕ, ◌∙◌, subst, arith}
use Rattle.sgt_names.specs.Entry.{tx_of}
use Rattle.std.proofs.lemmas.Option.{slice_get_within}
use Rattle.sgt_certify_greedy.specs.Pairs.{HasPairsTo, Leads}
use Rattle.sgt_certify_greedy.proofs.Pairing.{one-more, pairs-kept}
use Rattle.sgt_certify_greedy.proofs.pairs.pairs_of.Goals as goal

pub loop-site-preserved : goal.loop-site-preserved
loop-site-preserved c = record {
  only = c.in_ok-add_pairs_in.ensures.only c.loop-site.invariant.only;
  has = one-more (λ (s : ℕ). (q : ℕ) → HasPairsTo c.args.rule c.args.sites.now c.add_pairs_in.new.found.items s q)
      c.loop-site.site
      (λ s lt q. pairs-kept c.args.rule c.args.sites.now c.loop-site.found.items c.add_pairs_in.new.found.items s q
      c.in_ok-add_pairs_in.ensures.kept (c.loop-site.invariant.has s lt q))
      c.in_ok-add_pairs_in.ensures.has;
}

pub returns : goal.returns
returns c = record {
  only = c.loop-site.invariant.only;
  has = λ a b (pair, found, from, to).
      let here = slice_get_within c.args.sites.now pair.site found.log found.here in
      let leads = c.loop-site.invariant.has pair.site (omega (arith, here, c.loop-site-test.false)) pair.second
      pair.first found.log found.e found.f
      found.before found.here found.first found.second found.paired in
      subst (λ (t : ℕ). Leads c.loop-site.found.items t b) (found.from ∙ from)
      (subst (Leads c.loop-site.found.items (tx_of found.e)) (found.to ∙ to) leads);
}
