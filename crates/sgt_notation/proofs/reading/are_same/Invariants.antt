use Rattle.std.proofs.Common.{◌≡◌, ◌≢◌, take}
use Rattle.std.specs.Prelude.{MatchBool}
use Rattle.sgt_notation.proofs.reading.are_same.Given as goal

-- as far as was read they are the same, or they are not the same at all
abbrev pub invariant-loop-i : goal.invariant-loop-i
invariant-loop-i l = MatchBool l.same (take l.i l.bytes ≡ take l.i l.word) (l.bytes ≢ l.word)
