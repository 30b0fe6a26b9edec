use Rattle.std.proofs.Common.{◌∷◌, ◌++◌, [], sym, subst}
use Rattle.std.specs.List.{filter_map}
use Rattle.std.proofs.lemmas.Result.{on_ok_weaker}
use Rattle.sgt_notation.specs.declared.SectionLine.{SectionLine}
use Rattle.sgt_audit.specs.Faults.{logged_in}
use Rattle.sgt_certify_faults.specs.private.Asked.{AreAskings}
use Rattle.sgt_certify_faults.proofs.asked.Askings.add_line.Goals as goal

pub returns-in-Logged : goal.returns-in-Logged
returns-in-Logged c =
    on_ok_weaker c.add.result (λ adds entries are.
    subst (λ (l : SectionLine). AreAskings (entries ++ filter_map logged_in (l ∷ [])) c.add.new.self)
    (sym c.in-Logged.is) (adds entries are))
    c.add.ensures
