use Rattle.std.proofs.Common.{[], subst, sym}
use Rattle.sgt_history_text.specs.Built.{AreKept, NamesHistory, NamesOperations}
use Rattle.sgt_history_text.proofs.Kept.{kept_none}
use Rattle.sgt_history_text.proofs.building.no_lines.Goals as goal

pub returns : goal.returns
returns c = record {
  items = [];
  values = [];
  ids_kept = subst (λ t. AreKept t []) (sym c.in_ok-new.ensures) kept_none;
  items_kept = subst (λ t. AreKept t []) (sym c.in_ok-new-2.ensures) kept_none;
  values_kept = subst (λ t. AreKept t []) (sym c.in_ok-new-3.ensures) kept_none;
  closed = subst (λ h. NamesHistory [] [] h []) (sym c.new.ensures.closed) tt;
  opened = subst (λ os. NamesOperations [] [] os []) (sym c.new.ensures.open) tt;
}
