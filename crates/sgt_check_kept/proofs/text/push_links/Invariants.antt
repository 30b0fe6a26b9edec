use Rattle.std.proofs.Common.{◌≡◌, ◌++◌, take}
use Rattle.std.specs.List.{flat_map}
use Rattle.sgt_check.specs.Told.{spelled, text_at}
use Rattle.sgt_check_kept.specs.Text.{link_text}
use Rattle.sgt_check_kept.proofs.text.push_links.Given as goal

abbrev pub invariant-loop-link : goal.invariant-loop-link
invariant-loop-link l =
    l.out.items ≡ l.fn.out.items ++ flat_map (link_text (spelled l.setting.naming) (text_at l.setting.sessions))
    (take l.link-index l.links)
