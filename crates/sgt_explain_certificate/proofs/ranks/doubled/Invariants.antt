use Rattle.std.proofs.Common.{Contains, take}
use Rattle.std.specs.Prelude.{IfSome}
use Rattle.sgt_explain_certificate.specs.Ranks.{AreSingle}
use Rattle.sgt_explain_certificate.proofs.Giving.{IsLast}
use Rattle.sgt_explain_certificate.proofs.ranks.doubled.Given as goal

abbrev pub invariant-loop-one : goal.invariant-loop-one
invariant-loop-one l = record {
  has : IfSome l.before (λ g. Contains l.given g);
  last : IsLast l.given l.one-index l.before;
  single : AreSingle (take l.one-index l.given);
}
