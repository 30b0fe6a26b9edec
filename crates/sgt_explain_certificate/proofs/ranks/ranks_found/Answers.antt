use Rattle.std.proofs.Common.{◌∙◌}
use Rattle.sgt_explain_certificate.proofs.Giving.{given-count, doubled-is, single-is, above-is, below-is, missing-is, given-all}
use Rattle.sgt_explain_certificate.proofs.ranks.ranks_found.Goals as goal

pub returns : goal.returns
returns c =
    let ds = c.args.decisions.now in
    let gs = c.in_ok-given.given.items in
    let all = c.in_ok-given.ensures.all in
    record {
      commits = c.len.ensures ∙ c.in_ok-given.given.ok.0 ∙ given-count ds gs all;
      doubled =
          doubled-is ds gs c.as_slice.result.now c.doubled.result all c.as_slice.ensures.value c.doubled.ensures.some;
      single = single-is ds gs c.as_slice.result.now c.doubled.result all c.as_slice.ensures.value
          c.doubled.ensures.none;
      above = above-is ds gs c.as_slice-2.result.now c.above.result all c.as_slice-2.ensures.value c.above.ensures.some;
      below = below-is ds gs c.as_slice-2.result.now c.above.result all c.as_slice-2.ensures.value c.above.ensures.none;
      missing =
          missing-is ds gs c.as_slice-3.result.now c.missing.result all c.as_slice-3.ensures.value
          c.missing.ensures.some;
      given = given-all ds gs c.as_slice-3.result.now c.missing.result all c.as_slice-3.ensures.value
          c.missing.ensures.none;
    }
