use Rattle.std.proofs.Common.{◌≡◌, ◌-◌, ◌++◌, ◌≤◌, length, take, replicate, IsTrue}
use Rattle.std.specs.List.{list_all}
use Rattle.sgt_names.specs.Name.{is_name_byte}
use Rattle.sgt_names.proofs.item.keep_name.Given as goal

-- the bytes so far are kept, and zeros stand behind them
abbrev pub invariant-loop-at : goal.invariant-loop-at
invariant-loop-at l =
    (length l.bytes ≤ 16)
    × IsTrue (list_all is_name_byte (take l.at l.bytes))
    × (l.padded ≡ take l.at l.bytes ++ replicate (16 - l.at) 0)
