use Rattle.std.proofs.Common.{Contains}
use Rattle.std.proofs.lemmas.List.Sorted.{All-permutation, Contains-permutation}
use Rattle.sgt_draw.proofs.scene.Scene.only.Goals as goal

pub returns-clause-own : goal.returns-clause-own
returns-clause-own c = λ place one there at.
    Contains-permutation _ _ one c.in_ok-settle.ensures.committed.all
    (c.in_ok-scene.ensures.own place one there (rw c.as_slice.ensures.value at))

pub returns-clause-others : goal.returns-clause-others
returns-clause-others c =
    All-permutation (Contains c.args.self.now.committed.items) _ _ c.in_ok-settle.ensures.committed.all
    (rw c.as_slice.ensures.value at c.in_ok-scene.ensures.others)
