use Rattle.sgt_bundle.specs.Text.{decision_data}
use Rattle.sgt_bundle.proofs.Fronts.{all-read, certificate-read}
use Rattle.sgt_bundle.proofs.direct.spelled.Goals as goal

pub returns-clause-text : goal.returns-clause-text
returns-clause-text c =
    certificate-read _ c.args.line.now c.in-Some.rest.now c.in-Some-2.rest.now c.in-Some.ensures
    (all-read decision_data c.in_ok-decisions.decisions.items c.in-Some.rest.now c.in_ok-rest.field-0 c.in-Some-2.rest
    c.add_decisions.new.decisions.items c.new-decisions.result c.in_ok-decisions.ensures.items c.in-Some-2.is
    c.in_ok-rest.ensures.text c.new-decisions.ensures)
    c.in-Some-sites.ensures.text
