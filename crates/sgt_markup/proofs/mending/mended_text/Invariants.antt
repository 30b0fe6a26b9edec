use Rattle.std.proofs.Common.{◌≡◌, take}
use Rattle.sgt_markup.specs.Escaped.{mended}
use Rattle.sgt_markup.proofs.Growing.{before_of, last_of}
use Rattle.sgt_markup.proofs.mending.mended_text.Given as goal

abbrev pub invariant-loop-byte : goal.invariant-loop-byte
invariant-loop-byte l = (l.out.items ≡ mended (take l.byte-index l.text))
    × (l.before ≡ before_of 0 0 (take l.byte-index l.text)) × (l.last ≡ last_of 0 0 (take l.byte-index l.text))
