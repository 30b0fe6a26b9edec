use Rattle.std.proofs.Common.{option_map}
use Rattle.sgt_notation.specs.PrivateEvents.{words, words_behind}
use Rattle.sgt_notation.proofs.ScriptWords.{IsPartly}
use Rattle.sgt_notation.proofs.SiteWords.{size}
use Rattle.sgt_notation.proofs.reading_scripts.keep_ops.Given as goal

abbrev pub invariant-words : goal.invariant-words
invariant-words l = IsPartly (words l.line) (words_behind (option_map (λ t. t.now) l.rest)) l.ops.items l.kept

abbrev pub decreases-words : goal.decreases-words
decreases-words l = size (option_map (λ t. t.now) l.rest)
