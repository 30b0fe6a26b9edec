use Rattle.std.proofs.Common.{sym, subst}
use Rattle.sgt_notation.specs.Scripts.{AreSourcesNamed}
use Rattle.sgt_notation.proofs.ScriptWords.{no_ops, script-kept, unnamed, wanting}
use Rattle.sgt_notation.proofs.reading_scripts.keep_script.Goals as goal

pub returns-in_default : goal.returns-in_default
returns-in_default c = (c.if-line-gt-MAX_LINE.false, no_ops _ c.in_default.ensures.none)

pub returns-then-not-kept : goal.returns-then-not-kept
returns-then-not-kept c = wanting _ _ _ c.in-Some.ensures.some c.if-line-gt-MAX_LINE.false

pub returns-then-not-are_sources_named : goal.returns-then-not-are_sources_named
returns-then-not-are_sources_named c = (
  c.if-line-gt-MAX_LINE.false,
  unnamed _ _ _ c.in-Some.ensures.some c.if-not-kept.false
      (λ named.
      let t = c.are_sources_named.ensures.1 (subst AreSourcesNamed (sym c.as_slice.ensures.value) named) in
      let f = c.if-not-are_sources_named.true in cc),
)

pub returns : goal.returns
returns c =
    let named = c.are_sources_named.ensures.0 c.if-not-are_sources_named.false in
    script-kept _ _ _ c.in-Some.ensures.some c.if-not-kept.false (subst AreSourcesNamed c.as_slice.ensures.value named)
    c.if-line-gt-MAX_LINE.false
