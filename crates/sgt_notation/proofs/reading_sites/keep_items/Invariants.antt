use Rattle.std.proofs.Common.{option_map}
use Rattle.sgt_notation.specs.PrivateEvents.{words_behind}
use Rattle.sgt_notation.proofs.SiteWords.{IsPartly, size}
use Rattle.sgt_notation.proofs.reading_sites.keep_items.Given as goal

abbrev pub invariant-words : goal.invariant-words
invariant-words l =
    let all = words_behind (option_map (λ t. t.now) l.fn.text) in
    let left = words_behind (option_map (λ t. t.now) l.rest) in
    IsPartly all left l.items.items l.kept l.last l.room

abbrev pub decreases-words : goal.decreases-words
decreases-words l = size (option_map (λ t. t.now) l.rest)
