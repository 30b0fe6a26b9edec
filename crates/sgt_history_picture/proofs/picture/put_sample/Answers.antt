use Rattle.std.proofs.Common.{◌≡◌, ◌++◌, [], ℕ, List}
use Rattle.std.proofs.lemmas.Result.{on_ok_weaker}
use Rattle.sgt_history_picture.specs.Private.{Elsewhere, sees}
use Rattle.sgt_history_picture.proofs.Growing.{grown}
use Rattle.sgt_history_picture.proofs.Quiet.{quiet-name, quiet-text}
use Rattle.sgt_history_picture.proofs.picture.put_sample.Goals as goal

pub returns : goal.returns
returns c =
    let tip : (rest : List ℕ) → sees Elsewhere (c.tip_of.result.now ++ rest) ≡ sees Elsewhere rest = λ rest.
    quiet-text c.tip_of.result.now rest c.tip_of.ensures in
    let meaning = quiet-text c.meaning_of.result.now [] c.meaning_of.ensures in
    on_ok_weaker c.put.result (λ is. grown _ _ _ is (simp (quiet-name, tip, meaning))) c.put.ensures
