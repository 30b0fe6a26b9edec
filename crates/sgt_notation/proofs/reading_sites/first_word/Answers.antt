use Rattle.sgt_notation.proofs.SiteWords.{words-first, words-only}
use Rattle.sgt_notation.proofs.reading_sites.first_word.Goals as goal

pub returns-in-Some-clause-words : goal.returns-in-Some-clause-words
returns-in-Some-clause-words c =
    words-first c.args.text.now c.in-Some.word.now c.in-Some.rest.now c.in-Some.ensures.some

pub returns-in-None-clause-words : goal.returns-in-None-clause-words
returns-in-None-clause-words c = words-only c.args.text.now c.in-None.ensures.none
