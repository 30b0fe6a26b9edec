use Rattle.std.proofs.Common.{inl, map, refl}
use Rattle.std.specs.Char.{to_ascii_uppercase}
use Rattle.sgt_line.proofs.rule.names_rule.Goals as goal

pub returns-then-is_short_name : goal.returns-then-is_short_name
returns-then-is_short_name c = (
  λ yes. (
    map to_ascii_uppercase c.args.word.now,
    inl (c.is_short_name.ensures.0 c.if-is_short_name.true, refl),
  ),
  λ names. refl,
)
