use Rattle.std.proofs.Common.{◌≡◌, ◌++◌, ◌-◌, ℕ, List, [], length, map, take, refl, sym, ap, ◌∙◌, append_assoc, subst}
use Rattle.std.proofs.lemmas.List.{length-map, take-map}
use Rattle.std.proofs.lemmas.Result.{IfOk-weaker}
use Rattle.sgt_draw.specs.Parts.{parts_text}
use Rattle.sgt_draw.specs.Picture.{foot_of, head_of}
use Rattle.sgt_history_picture.specs.Drawn.{AreDrawn, IsMoreTold, most_steps}
use Rattle.sgt_history_picture.specs.Told.{Step, step_of}
use Rattle.sgt_history_picture.specs.declared.told.Told.{Told}
use Rattle.sgt_history_picture.proofs.Growing.{drawn, grown, grows-on, headed, headline-grows, more-behind, put-before, put-behind}
use Rattle.sgt_history_picture.proofs.Quiet.{quiet-foot}
use Rattle.sgt_history_picture.proofs.picture.picture.Goals as goal

pub returns : goal.returns
returns c =
    let all = map step_of c.args.steps.now in
    let shown = map step_of c.drawn_of-drawn.result.now in
    let same : shown ≡ take most_steps all =
    ap (λ (xs : List Told). map step_of xs) c.drawn_of-drawn.ensures ∙ sym (take-map step_of most_steps c.args.steps.now) in
    let left : c.saturating_sub-more.result ≡ length all - most_steps =
    c.saturating_sub-more.ensures ∙ ap (λ (n : ℕ). n - most_steps) (sym (length-map c.args.steps.now step_of)) in
    let more = c.in_ok-put_more.ensures in
    IfOk-weaker c.into_text.result _ _ (λ text whole. record {
      picture = (
        whole.0,
        whole.1.0,
        whole.2 ∙ ap (λ (t : List ℕ). t ++ foot_of whole.0) whole.1.1
            ∙ append_assoc (head_of whole.0) (parts_text whole.1.0) (foot_of whole.0),
      );
      headed = headed shown c.args.headline.now _ _ _ _ text.items _ c.in_ok-put_headline.ensures
          c.in_ok-put_kinds.ensures c.in_ok-put_steps.ensures
          (whole.2 ∙ ap (λ (t : List ℕ). t ++ foot_of whole.0) more.0.1 ∙ append_assoc _ more.0.0 (foot_of whole.0));
      drawn = subst (λ (xs : List Step). AreDrawn text.items xs) same (drawn shown text.items
          (put-before shown [] _ text.items (grows-on [] _ _ (grown [] _ _ c.in_ok-canvas.ensures refl)
          (grows-on _ _ _ c.in_ok-put_head.ensures
          (grows-on _ _ _ (headline-grows c.args.headline.now _ _ c.in_ok-put_headline.ensures)
          c.in_ok-put_kinds.ensures)))
          (put-behind shown _ _ text.items c.in_ok-put_steps.ensures
          (grows-on _ _ _ more.0 (grown _ _ _ whole.2 (quiet-foot whole.0))))));
      more = subst (λ (n : ℕ). IsMoreTold n text.items) left (more-behind _ _ text.items _ more.1 whole.2);
    }) c.into_text.ensures.whole
