use Rattle.std.proofs.Common.{◌≡◌, take}
use Rattle.sgt_history_picture.specs.Words.{HasNoGap, after}
use Rattle.sgt_history_picture.specs.declared.word.Place.TheVariants.{Outside}
use Rattle.sgt_history_picture.proofs.word.cut_word.Given as goal

abbrev pub invariant-loop-at : goal.invariant-loop-at
invariant-loop-at l = HasNoGap Outside (take l.at l.text) × (l.place ≡ after Outside (take l.at l.text))
