use Rattle.std.proofs.Common.{ℕ, List, ◌++◌, ap, ap₂, ◌∙◌}
use Rattle.std.specs.List.{flat_map}
use Rattle.sgt_check.proofs.Pushing.{two}
use Rattle.sgt_check.specs.Told.{spelled, text_at}
use Rattle.sgt_check_kept.specs.Text.{class_text, kind_text, link_text, read_writes, timed}
use Rattle.sgt_check_kept.proofs.text.cycle_text.Goals as goal

pub returns : goal.returns
returns c =
    let links = c.args.links.now in
    two (class_text (read_writes links)) (kind_text (timed links)) _ _ _
    (c.in_ok-extend_from_slice.ensures.items ∙ ap₂ (λ (a b : List ℕ). a ++ b)
    (c.in_ok-text.ensures.items ∙ c.class_word.ensures ∙ ap class_text c.count_rw.ensures) (c.kind_word.ensures
    ∙ ap kind_text c.count_rt.ensures))
    c.in_ok-push_links.ensures
