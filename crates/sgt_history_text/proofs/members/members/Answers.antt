use Rattle.std.proofs.Common.{◌∙◌, List, ℕ, Some, option_map, ap, arith, length, refl}
use Rattle.std.specs.Borrow.{Bor}
use Rattle.std.proofs.lemmas.Bool.{MatchBool-at_false, MatchBool-at_true}
use Rattle.json.proofs.Trees.{view-Object}
use Rattle.sgt_history_text.proofs.Fronts.{key_none, key_some, object_fails}
use Rattle.sgt_history_text.proofs.Gathered.{collects_end, collects_fails, collects_next, collects_none}
use Rattle.sgt_history_text.proofs.members.members.Goals as goal

pub members-init : goal.members-init
members-init c = (
  collects_none c.args.reader.now c.args.builder.now _ c.new.ensures.items refl,
  omega arith,
)

pub returns-in_default-clause-read : goal.returns-in_default-clause-read
returns-in_default-clause-read c = λ rest closes.
    object_fails c.members.reader rest c.in_default.ensures.value (c.members.invariant.0.back rest closes)

pub returns-in_default-next-clause-read : goal.returns-in_default-next-clause-read
returns-in_default-next-clause-read c =
    let key = c.in-Ok.ensures.value
    ∙ ap (λ k. Some (option_map (λ (s : Bor (List ℕ)). s.now) k, c.next_key.new.self)) c.in_default-next.is in
    collects_end c.args.reader.now c.args.builder.now c.members.reader c.members.builder c.members.found
    c.members.invariant.0 c.next_key.new.self _
    (key_none c.members.reader c.next_key.new.self key) (view-Object c.members.found.members) refl

pub returns-then-not-taken-clause-read : goal.returns-then-not-taken-clause-read
returns-then-not-taken-clause-read c =
    let key = c.in-Ok.ensures.value
    ∙ ap (λ k. Some (option_map (λ (s : Bor (List ℕ)). s.now) k, c.next_key.new.self)) c.in-Some.is in
    let comes = key_some c.members.reader c.next_key.new.self c.in-Some.key.now key in
    collects_fails c.args.reader.now c.args.builder.now c.members.reader c.members.builder c.members.found
    c.members.invariant.0 c.next_key.new.self c.in-Some.key.now comes
    (MatchBool-at_false _ _ c.if-not-taken.true c.in_ok-taken.ensures.taken)

pub members-preserved : goal.members-preserved
members-preserved c =
    let key = c.in-Ok.ensures.value
    ∙ ap (λ k. Some (option_map (λ (s : Bor (List ℕ)). s.now) k, c.next_key.new.self)) c.in-Some.is in
    let comes = key_some c.members.reader c.next_key.new.self c.in-Some.key.now key in (
      collects_next c.args.reader.now c.args.builder.now c.members.reader c.members.builder c.members.found
          c.members.invariant.0
          c.next_key.new.self c.take_member.new.reader c.in-Some.key.now c.take_member.new.found
          c.take_member.new.builder comes
          (MatchBool-at_true _ _ c.if-not-taken.false c.in_ok-taken.ensures.taken),
      omega (arith, c.take_member.ensures.fewer, ap length comes, c.members.invariant.1),
    )
