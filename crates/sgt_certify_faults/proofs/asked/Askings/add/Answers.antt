use Rattle.std.proofs.Common.{◌++◌, ◌∷◌, [], ℕ, List, Some, cond, length, refl, sym, ap, ap₂, ◌∙◌, set}
use Rattle.std.specs.Prelude.{slice_get}
use Rattle.std.specs.BTreeMap.{get}
use Rattle.std.specs.Vec.{with_items}
use Rattle.std.proofs.lemmas.List.{with_items_is}
use Rattle.std.specs.Ordering.{nat_cmp, is_eq}
use Rattle.sgt_names.specs.Entry.{tx_of}
use Rattle.sgt_certify_faults.specs.declared.asked.Asking.{Asking}
use Rattle.sgt_certify_faults.specs.private.Asked.{asking_with}
use Rattle.sgt_certify_faults.proofs.Noted.{asked-again, asked-first}
use Rattle.sgt_certify_faults.proofs.asked.Askings.add.Goals as goal

pub returns-in-Some : goal.returns-in-Some
returns-in-Some c entries are =
    let e = c.args.entry.now in
    let number = c.in-Some.number.now in
    let there = ap (get nat_cmp c.args.self.now.numbers) (sym c.tx-tx.ensures) ∙ sym c.in-Some.ensures.value in
    let k = are.found (tx_of e) number there in
    asked-again entries e c.args.self.now (record {
      numbers = c.args.self.now.numbers;
      list =
          with_items c.args.self.now.list c.note_again.new.list;
    }) number k.0 are there k.1 refl
    (with_items_is c.args.self.now.list c.note_again.new.list (c.note_again.auto.list ∙ c.as_mut_slice.ensures.len)
    ∙ c.note_again.ensures k.0 (ap (λ (ks : List Asking). slice_get ks number) c.as_mut_slice.ensures.value ∙ k.1)
    ∙ ap (λ (ks : List Asking). set ks number (asking_with k.0 e)) c.as_mut_slice.ensures.value)

pub returns : goal.returns
returns c entries are =
    let e = c.args.entry.now in
    let map = c.args.self.now.numbers in
    asked-first entries e c.args.self.now (record { numbers = c.insert.new.self; list = c.push.new.self }) are
    (ap (get nat_cmp map) (sym c.tx-tx.ensures) ∙ sym c.in_default.ensures.value)
    (λ q. c.in_ok-insert.ensures.updates.0 q
    ∙ ap₂ (λ (k n : ℕ). cond (is_eq (nat_cmp k q)) (Some n) (get nat_cmp map q)) c.tx-tx.ensures
    (ap length c.as_slice-number.ensures.value))
    (c.in_ok-push.ensures.items
    ∙ ap₂ (λ t o. c.args.self.now.list.items ++ record { tx = t; end = o } ∷ []) c.tx-tx.ensures c.asked_by.ensures)
