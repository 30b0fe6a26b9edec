use Rattle.std.proofs.Common.{◌≡◌, ◌∙◌, ◌++◌, ◌∷◌, [], ℕ, Bool, List, Vec, Global, sym, ap}
use Rattle.sgt_step.specs.Touched.{is_in}
use Rattle.sgt_step.proofs.Listing.{listed_hit, listed_miss}
use Rattle.sgt_step.proofs.touched.TouchedSites.list_below.Goals as goal
use Rattle.sgt_step.proofs.touched.TouchedSites.list_below.Goals.{then-is_set+in-Ok+in_ok-push, else-is_set}

pub loop-number-preserved : goal.loop-number-preserved
loop-number-preserved c =
    let p = is_in c.args.self.now in
    let n = c.loop-number.number in
    let xs = c.loop-number.sites.items in
    let told : p n ≡ c.is_set.result = ap (λ (flags : List Bool). is_in flags n) (sym c.self.view_is) ∙ sym c.is_set.ensures in
    elim c.if-is_set.branch [
      | then-is_set+in-Ok+in_ok-push w ↦
          ap (λ (v : Vec ℕ Global). v.items) w.sites-is
          ∙ (w.in_ok-push.ensures.items ∙ (ap (λ (s : ℕ). xs ++ s ∷ []) w.in-Ok.ensures.1
          ∙ listed_hit p n xs c.loop-number.invariant (told ∙ w.if-is_set.true)))
      | else-is_set w ↦
          ap (λ (v : Vec ℕ Global). v.items) w.sites-is
          ∙ listed_miss p n xs c.loop-number.invariant (told ∙ w.if-is_set.false)
    ]
