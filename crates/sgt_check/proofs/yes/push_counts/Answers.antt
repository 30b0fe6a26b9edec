use Rattle.std.proofs.Common.{ℕ, List, ◌≡◌, ◌-◌, length, subst, OnOk, ◌++◌}
use Rattle.std.proofs.lemmas.Result.{on_ok_weaker}
use Rattle.sgt_check.specs.Text.{counts_text}
use Rattle.sgt_check.proofs.Pushing.{five}
use Rattle.sgt_names.proofs.Elements.{ok-taken}
use Rattle.sgt_check.proofs.yes.push_counts.Goals as goal

pub returns : goal.returns
returns c =
    subst (λ n. OnOk c.extend_from_slice-3.result
    (c.extend_from_slice-3.new.self.items ≡ c.args.out.now.items ++ counts_text n (length c.args.lines.now - n)))
    c.count_committed-committed.ensures.count
    (on_ok_weaker c.extend_from_slice-3.result (λ e.
    five _ _ _ _ _ _ _ _ _ _ _ c.in_ok-extend_from_slice.ensures.items c.in_ok-push_number.ensures.ok
    c.in_ok-extend_from_slice-2.ensures.items
    c.in_ok-push_number-2.ensures.ok e)
    (ok-taken c.extend_from_slice-3.result _ _ _ c.extend_from_slice-3.ensures.items))
