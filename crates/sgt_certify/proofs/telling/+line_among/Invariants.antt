use Rattle.sgt_certify.proofs.telling.+line_among.Given as goal

abbrev pub decreases-line_among : goal.decreases-line_among
decreases-line_among l = l.site
