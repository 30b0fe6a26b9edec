use Rattle.std.proofs.Common.{◌≡◌, take}
use Rattle.std.specs.List.{flat_map}
use Rattle.sgt_certify.specs.Lines.{tx_line}
use Rattle.sgt_certify.proofs.telling.tx_lines.Given as goal

abbrev pub invariant-loop-tx : goal.invariant-loop-tx
invariant-loop-tx l = l.lines.items ≡ flat_map tx_line (take l.tx-index l.txs)
