use Rattle.std.proofs.Common.{◌≡◌, true, Some, length, sym, ◌∙◌, ap, subst, arith}
use Rattle.std.specs.Prelude.{slice_get, ◌↔◌}
use Rattle.std.proofs.lemmas.Bool.{true≢false}
use borrow.Author.Tests.{ltb-true, ltb-false}
use Rattle.std.proofs.lemmas.Option.{same_Some, slice_get_within}
use Rattle.sgt_names.proofs.Lists.{element_at}
use Rattle.sgt_certifier.specs.Certifier.{State}
use Rattle.sgt_certifier.specs.History.{IsActive}
use Rattle.sgt_certifier.proofs.Judging.{parts_of, state_of}
use Rattle.sgt_certifier.proofs.Flags.{flag_at, flagged_has}
use Rattle.sgt_certifier.proofs.judge.Judge.is_active.Goals as goal

pub returns-in-Some : goal.returns-in-Some
returns-in-Some c =
    let flags = c.self.inside.flags.items in
    let before = c.self.inside.before in
    let k = c.args.handle.index in
    let seen =
    element_at c.as_slice.result.now k c.in-Some.flag.now
    (ltb-true k (length c.as_slice.result.now) (sym c.in-Some.ensures.lookup.0)) c.in-Some.ensures.lookup.1 in
    let at : slice_get flags k ≡ Some c.in-Some.flag.now =
    subst (λ xs. slice_get xs k ≡ Some c.in-Some.flag.now) c.as_slice.ensures.value seen in
    let s = state_of (parts_of c.self.inside) in
    let is : (c.in-Some.flag.now ≡ true) ↔ IsActive s c.args.handle = (
      λ told. (c.if-handle-generation.false ∙ c.generation.ensures, flagged_has before flags k (at ∙ ap Some told)),
      λ active. same_Some _ _ (sym at ∙ flag_at before flags k active.1),
    ) in
    subst (λ (v : State). (c.in-Some.flag.now ≡ true) ↔ IsActive v c.args.handle) c.self.view_is is

pub returns-in-None : goal.returns-in-None
returns-in-None c = (
  λ told. absurd (true≢false (sym told)),
  λ active.
      let mine = subst (λ (v : State). IsActive v c.args.handle) (sym c.self.view_is) active in
      let at = flag_at c.self.inside.before c.self.inside.flags.items c.args.handle.index mine.1 in
      let within = slice_get_within c.self.inside.flags.items c.args.handle.index true at in
      absurd (omega (
        arith,
        within,
        ltb-false c.args.handle.index (length c.as_slice.result.now) (sym c.in-None.ensures.lookup.0),
        ap length c.as_slice.ensures.value,
      )),
)
