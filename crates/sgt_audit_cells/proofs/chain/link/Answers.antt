use Rattle.std.proofs.Common.{◌≡◌, suc, ◌∷◌, ◌++◌, [], length, option_map, sym, ap, ◌∙◌, arith}
use Rattle.std.specs.Option.{option_to_list}
use Rattle.std.proofs.lemmas.List.{append-nil, length_push}
use Rattle.sgt_audit_cells.specs.declared.act.Deed.TheVariants as deed
use Rattle.sgt_audit_cells.specs.declared.record.Node.{Node}
use Rattle.sgt_audit_cells.specs.private.Deeds.{act_of}
use Rattle.sgt_audit_cells.specs.private.Linked.{chain}
use Rattle.sgt_audit_cells.proofs.Linked.{chain-pushed, chain-last}
use Rattle.sgt_audit_cells.proofs.chain.link.Goals as goal

pub returns-in_ok-add-in-Some-clause-others : goal.returns-in_ok-add-in-Some-clause-others
returns-in_ok-add-in-Some-clause-others c k le =
    let nodes = c.args.nodes.now.items in
    let x : Node = record { done = c.in-Some.done; before = c.args.last } in
    ap (λ ns. chain ns k) c.in_ok-add-in-Some.ensures.ok ∙ chain-pushed nodes c.requires.linked x c.requires.within k le

pub returns-in_ok-add-in-Some-clause-place : goal.returns-in_ok-add-in-Some-clause-place
returns-in_ok-add-in-Some-clause-place c =
    let nodes = c.args.nodes.now.items in
    let x : Node = record { done = c.in-Some.done; before = c.args.last } in
    let items = c.in_ok-add-in-Some.ensures.ok in
    let place : c.in_ok-place-in-Some.place ≡ suc (length nodes) =
    omega (arith, c.in_ok-place-in-Some.ensures, c.len.ensures, c.args.nodes.now.ok.0) in
    let long = ap length items ∙ length_push nodes x in (
      omega (arith, place, long),
      long,
      ap (λ ns. chain ns c.in_ok-place-in-Some.place) items ∙ ap (chain (nodes ++ x ∷ [])) place
          ∙ chain-last nodes c.requires.linked x c.requires.within
          ∙ ap (λ o. chain nodes c.args.last ++ option_to_list (option_map (act_of (length nodes)) o))
          (sym c.in-Some.is),
    )

pub returns-in_ok-add-in-None-clause-others : goal.returns-in_ok-add-in-None-clause-others
returns-in_ok-add-in-None-clause-others c k le =
    let nodes = c.args.nodes.now.items in
    let x : Node = record { done = record { place = 0; deed = deed.Read }; before = 0 } in
    ap (λ ns. chain ns k) c.in_ok-add-in-None.ensures.ok ∙ chain-pushed nodes c.requires.linked x (omega arith) k le

pub returns-in_ok-add-in-None-clause-place : goal.returns-in_ok-add-in-None-clause-place
returns-in_ok-add-in-None-clause-place c =
    let nodes = c.args.nodes.now.items in
    let x : Node = record { done = record { place = 0; deed = deed.Read }; before = 0 } in
    let items = c.in_ok-add-in-None.ensures.ok in
    let long = ap length items ∙ length_push nodes x in (
      omega (arith, c.requires.within, long),
      long,
      ap (λ ns. chain ns c.args.last) items
          ∙ chain-pushed nodes c.requires.linked x (omega arith) c.args.last c.requires.within
          ∙ sym (append-nil (chain nodes c.args.last))
          ∙ ap (λ o. chain nodes c.args.last ++ option_to_list (option_map (act_of (length nodes)) o))
          (sym c.in-None.is),
    )
