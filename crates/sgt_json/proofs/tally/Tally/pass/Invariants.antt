use Rattle.std.proofs.Common.{◌≡◌, take}
use Rattle.sgt_json.specs.Tally.{counts_of, passed}
use Rattle.sgt_json.proofs.tally.Tally.pass.Given as goal

abbrev pub invariant-loop-byte : goal.invariant-loop-byte
invariant-loop-byte l = counts_of l.self ≡ passed (counts_of l.initial.self) (take l.byte-index l.bytes)
