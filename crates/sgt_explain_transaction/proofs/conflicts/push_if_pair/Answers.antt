use Rattle.std.proofs.Common.{sym, ◌∙◌}
use Rattle.std.specs.Prelude.{string_bytes}
use Rattle.sgt_explain_lines.proofs.Numbering.{on-ok}
use Rattle.sgt_explain_transaction.proofs.Showing.{shows-found, shows-not_found}
use Rattle.sgt_explain_transaction.proofs.conflicts.push_if_pair.Goals as goal

pub returns-in-Some : goal.returns-in-Some
returns-in-Some c =
    on-ok c.show_pair.result _ _ (λ shown. shows-found c.args.own.now c.args.other.now c.in-Some.pair
    (string_bytes c.args.out.now) c.args.count.now (string_bytes c.show_pair.new.out) c.show_pair.new.count
    (sym c.in-Some.is ∙ c.pair_of.ensures) shown) c.show_pair.ensures

pub returns-in-None : goal.returns-in-None
returns-in-None c =
    shows-not_found c.args.own.now c.args.other.now (string_bytes c.args.out.now) c.args.count.now
    (sym c.in-None.is ∙ c.pair_of.ensures)
