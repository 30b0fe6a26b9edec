use Rattle.std.proofs.Common.{◌≡◌, ◌++◌, ◌∷◌, [], refl, Any, Contains, inl, inr, sym, ◌∙◌, subst}
use Rattle.std.proofs.lemmas.Bool.{true≢false}
use Rattle.std.proofs.lemmas.List.Elements.{Contains-append_cases, Contains-append_left, Contains-append_right}
use Rattle.sgt_names.proofs.Lists.{element_at}
use Rattle.sgt_certifier.specs.declared.install.Prepared.{Prepared}
use Rattle.sgt_certifier.specs.Kept.{changed_at}
use Rattle.sgt_certifier.proofs.Members.{cons_here}
use Rattle.sgt_certifier.proofs.Changes.{listed, listed_next, listed_at}
use Rattle.sgt_certifier.proofs.install.add_lists.Goals as goal
use Rattle.sgt_certifier.proofs.install.add_lists.Goals.{then-is_changed+then-not-has_site+in_ok-items+in_ok-push, else-is_changed, else-is_changed-via-then-is_changed+else-not-has_site, else-is_changed-via-else-is_changed}
use Rattle.sgt_names.proofs.Elements.{contains-cases, contains-none}

pub loop-touch-preserved : goal.loop-touch-preserved
loop-touch-preserved c =
    let touched = c.args.touched.now in
    let whole = c.args.draft.now.touched in
    let lists = c.loop-touch.lists.items in
    let n = c.loop-touch.touch-index in
    let t = c.touch-item.result in
    let here = element_at touched n t c.loop-touch-test.true c.touch-item.is in
    elim c.if-is_changed.branch [
      | then-is_changed+then-not-has_site+in_ok-items+in_ok-push w ↦
          let one : Prepared = listed whole t.site in
          let is : c.if-is_changed.lists.items ≡ lists ++ one ∷ [] =
          (let made = w.lists-is in let pushed = w.in_ok-push.ensures.items in let items =
          w.in_ok-items.ensures.ok ∙ w.touched_near.ensures.changed in cc) in
          record {
            each = λ p m. elim (Contains-append_cases lists (one ∷ []) p (subst (λ xs. Contains xs p) is m)) [
              | inl was ↦ c.loop-touch.invariant.each p was
              | inr last ↦ elim (contains-cases one [] p last) [
                | inl e ↦ subst (λ (q : Prepared). q.items ≡ changed_at whole q.site) e refl
                | inr none ↦ absurd (contains-none p none)
              ]
            ];
            kept = λ p m. subst (λ xs. Contains xs p) (sym is)
                (Contains-append_left lists (one ∷ []) p (c.loop-touch.invariant.kept p m));
            all = listed_next whole touched lists c.if-is_changed.lists.items n t here
                (λ p m. subst (λ xs. Contains xs p) (sym is) (Contains-append_left lists (one ∷ []) p m))
                (λ hit. subst (λ xs. Contains xs one) (sym is)
                (Contains-append_right lists (one ∷ []) one (cons_here one []))) c.loop-touch.invariant.all;
          }
      | else-is_changed w ↦
          let same : c.if-is_changed.lists.items ≡ lists = (let kept = w.lists-is in cc) in
          record {
            each = λ p m. c.loop-touch.invariant.each p (subst (λ xs. Contains xs p) same m);
            kept = λ p m. subst (λ xs. Contains xs p) (sym same) (c.loop-touch.invariant.kept p m);
            all = listed_next whole touched lists c.if-is_changed.lists.items n t here
                (λ p m. subst (λ xs. Contains xs p) (sym same) m)
                (λ hit. subst (λ xs. Contains xs (listed whole t.site)) (sym same) (elim w.else-is_changed.branch [
                  | else-is_changed-via-then-is_changed+else-not-has_site v ↦ listed_at whole lists t.site
                      c.loop-touch.invariant.each
                      (subst (Any (λ (p : Prepared). p.site ≡ t.site)) v.as_slice.ensures.value
                      (v.has_site.ensures.0 v.if-not-has_site.false))
                  | else-is_changed-via-else-is_changed v ↦ absurd
                      (true≢false (sym hit ∙ (sym c.is_changed.ensures ∙ v.if-is_changed.false)))
                ])) c.loop-touch.invariant.all;
          }
    ]
