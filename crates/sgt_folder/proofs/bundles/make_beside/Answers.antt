use Rattle.std.proofs.Common.{◌≡◌, ◌++◌, ◌∷◌, [], ℕ, Ok, Err, sym, subst, arith}
use Rattle.std.proofs.lemmas.List.{append-nil}
use Rattle.sgt_folder.specs.Call.{make}
use Rattle.sgt_folder.specs.Keeping.{Tries, failed, full, made, more, none}
use Rattle.sgt_folder.specs.declared.fault.FolderFault.{FolderFault}
use Rattle.sgt_folder.specs.declared.fault.FolderFault.TheVariants.{Taken}
use Rattle.sgt_folder.proofs.Kept.{then}
use Rattle.sgt_folder.proofs.bundles.make_beside.Goals as goal

pub loop-at-init : goal.loop-at-init
loop-at-init g c = ([], none, sym (append-nil _))

pub loop-at-preserved : goal.loop-at-preserved
loop-at-preserved g c =
    let before = c.loop-at.invariant in
    let taken : c.in-Err.fault ≡ Taken = c.is_taken.ensures.0 c.if-is_taken.true in (
      before.0 ++ (make c.args.number c.loop-at.at, Err Taken) ∷ [],
      more before.1,
      subst (λ (f : FolderFault). c.make.new.self.calls.items
          ≡ c.args.asked.now.calls.items ++ (before.0 ++ (make c.args.number c.loop-at.at, Err f) ∷ [])) taken
          (then _ _ _ before.0 ((make c.args.number c.loop-at.at, Err c.in-Err.fault) ∷ []) before.2 c.in-Err.ensures.notes),
    )

pub returns-in-Ok : goal.returns-in-Ok
returns-in-Ok g c =
    let before = c.loop-at.invariant in (
      before.0 ++ (make c.args.number c.loop-at.at, Ok tt) ∷ [],
      made before.1,
      then _ _ _ before.0 ((make c.args.number c.loop-at.at, Ok tt) ∷ []) before.2 c.in-Ok.ensures.notes,
    )

pub returns-in-Err : goal.returns-in-Err
returns-in-Err g c =
    let before = c.loop-at.invariant in (
      before.0 ++ (make c.args.number c.loop-at.at, Err c.in-Err.fault) ∷ [],
      failed before.1
          (λ same. let is = c.is_taken.ensures.1 same in let is_not = c.if-is_taken.false in absurd cc),
      then _ _ _ before.0 ((make c.args.number c.loop-at.at, Err c.in-Err.fault) ∷ []) before.2 c.in-Err.ensures.notes,
    )

pub returns : goal.returns
returns g c =
    let before = c.loop-at.invariant in
    let all : c.loop-at.at ≡ 1000 = omega arith in
    (before.0, full (subst (λ (n : ℕ). Tries c.args.number n before.0) all before.1), before.2)
