use Rattle.std.proofs.Common.{refl, sym}
use Rattle.std.proofs.lemmas.Bool.{eq-eqb, ne_eqb}
use Rattle.sgt_certifier.proofs.Installs.{counted_hit, counted_miss, counted_other, any_member, no_member}
use Rattle.sgt_certifier.proofs.laws.installs_are_counted.Goals as goal

pub returns-clause-one : goal.returns-clause-one
returns-clause-one c history tx site items item member =
    counted_hit history tx site site items item (rw (eq-eqb site site refl) (any_member item items member))

pub returns-clause-other_item : goal.returns-clause-other_item
returns-clause-other_item c history tx site items item none =
    counted_miss history tx site site items item (rw (eq-eqb site site refl) (no_member item items none))

pub returns-clause-other_site : goal.returns-clause-other_site
returns-clause-other_site c history tx site other items item apart =
    counted_miss history tx site other items item (rw (ne_eqb site other (λ e. apart (sym e))) refl)

pub returns-clause-other_call : goal.returns-clause-other_call
returns-clause-other_call c history call site item none = counted_other history call site item none
