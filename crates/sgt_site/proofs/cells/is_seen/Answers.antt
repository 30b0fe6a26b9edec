use Rattle.std.proofs.Common.{sym, ◌∙◌, subst, Contains}
use Rattle.std.proofs.lemmas.Option.{same_Some}
use Rattle.sgt_names.specs.declared.draft.Seen.{Seen}
use Rattle.sgt_site.proofs.cells.is_seen.Goals as goal

pub returns-in-Some : goal.returns-in-Some
returns-in-Some c = (
  λ hit seen is. subst (λ (s : Seen). Contains c.args.cell.now.readings (record { tx = c.args.tx; seen = s }))
      (same_Some c.in-Some.seen seen (sym c.in-Some.is ∙ is))
      ((c.seen_by.ensures c.in-Some.seen).0 (c.is_same.ensures.0 hit)),
  λ has. c.is_same.ensures.1 ((c.seen_by.ensures c.in-Some.seen).1 (has c.in-Some.seen c.in-Some.is)),
)
