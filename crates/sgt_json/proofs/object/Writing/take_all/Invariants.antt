use Rattle.std.proofs.Common.{◌≡◌, take}
use Rattle.sgt_json.specs.Object.{state_of, taken}
use Rattle.sgt_json.proofs.object.Writing.take_all.Given as goal

abbrev pub invariant-loop-byte : goal.invariant-loop-byte
invariant-loop-byte l = state_of l.self ≡ taken (state_of l.initial.self) (take l.byte-index l.answer)
