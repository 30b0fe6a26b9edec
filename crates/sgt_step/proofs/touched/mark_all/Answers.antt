use Rattle.std.proofs.Common.{◌≡◌, ◌<◌, ◌⊎◌, ◌∙◌, ℕ, true, false, get_or, set, arith, length, subst, sym}
use Rattle.std.proofs.lemmas.List.{length-set}
use Rattle.sgt_names.proofs.Lists.{element_at}
use Rattle.sgt_names.proofs.Places.{All_at}
use Rattle.sgt_names.specs.Draft.{IsUsed, Touches}
use Rattle.sgt_step.proofs.Flags.{set_all, set_each, set_hit, set_kept}
use Rattle.sgt_step.proofs.touched.mark_all.Goals as goal

pub loop-touch-preserved : goal.loop-touch-preserved
loop-touch-preserved c =
    let touched = c.args.touched.now in
    let n = c.loop-touch.touch-index in
    let t = c.touch-item.result in
    let flags = c.loop-touch.flags in
    let at = element_at touched n t c.loop-touch-test.true c.touch-item.is in
    let used = All_at IsUsed touched n t c.requires.used at in
    let long = c.loop-touch.invariant.long in
    let within : t.site < length flags = omega (arith, long, c.number.ensures.in_range) in
    let same : t.site ≡ c.number.result = sym c.number.ensures.is in
    record {
      long = length-set flags _ _ ∙ long;
      hit = subst (λ (k : ℕ). (s : ℕ) → get_or (set flags k true) s false ≡ true
          → (get_or c.args.flags.now s false ≡ true) ⊎ Touches touched s) same
          (set_hit c.args.flags.now flags touched n t at used c.loop-touch.invariant.hit);
      kept = λ s on. subst (λ (k : ℕ). get_or (set flags k true) s false ≡ true) same
          (set_kept flags t.site s within (c.loop-touch.invariant.kept s on));
      each = λ k u upto there. subst (λ (j : ℕ). get_or (set flags j true) u.site false ≡ true) same
          (set_each flags touched n t at within c.loop-touch.invariant.each k u upto there);
    }

pub returns-clause-marks : goal.returns-clause-marks
returns-clause-marks c = set_all c.args.flags.now c.loop-touch.flags c.args.touched.now c.loop-touch.touch-index
    (omega arith) c.loop-touch.invariant.hit c.loop-touch.invariant.kept c.loop-touch.invariant.each

pub returns-clause-long : goal.returns-clause-long
returns-clause-long c = c.loop-touch.invariant.long
