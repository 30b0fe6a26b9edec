-- How the machine has the parts of a block, and how the three are made one result. Assumes `Logic`.
use mathlib.Core.Path.{◌≡◌, refl, ap, ◌∙◌}
use mathlib.Core.List.{List, [], ◌∷◌, ◌++◌}
use seplogic.Ra.Ura.{Ura}
use mir.Val.{Val, vstruct, vcons, vnil, of_list}
use base.Logic.{SProp, ent, sep, emp, via, mono_r, fst∗, snd∗}
use types.Logic.{Logic, sem}
use contract.Monad.{fact, fact_use}
use types.Kit.{Item, Goal, Seq, ‵, ◌$◌, ◌∵◌, !, qed, move, drop, fsplit, fjoin, fpick, fpack, feq_i, feq_l, rewrite, done}
use denote.RattleType.{RattleType, Valss}
use denote.Laws.{Is, shows}
use denote.RawPtr.{ptr_val}
use denote.Shadow.{makes_shadow}
use denote.Steps.{nothing, peeks}
use denote.Struct.Struct.{Struct, within}
use denote.Struct.Owning.{shape}
use denote.Struct.Declared as Declared
use denote.Struct.Tuple.{Tuple, tuple_type}
use denote.Triple.Walked.{needs}
use Rattle.core.proofs.mem.Param.{El, R, Good, lawful, one}
use Rattle.std_alloc.proofs.RcSteps.{word}
use Rattle.sgt_arena.specs.contracts.cells.Cells as cells
use Rattle.sgt_arena.specs.contracts.cells.Base as bases

module _ (E : El) where
  abbrev pub Cr : RattleType
  Cr = cells.the_row (R E)

  abbrev pub Bs : RattleType
  Bs = bases.the_row (R E)

  -- the one field of the cells and of the deed, which takes no bytes
  abbrev pub Mark : RattleType
  Mark = Struct (shape (cells.the_type (R E)))

abbrev pub mark : Val
mark = vstruct (vcons (vstruct vnil) vnil)

abbrev pub three_val : Val → Val → Val → Val
three_val u v w = vstruct (of_list (u ∷ v ∷ w ∷ []))

module _ (E : El) {M : Type 1} {𝓤 : Ura M} {𝓛 : Logic 𝓤} {K : Type 0} {Γ : List (Item 𝓤)} {G : Goal 𝓤 𝓛.H} where
  -- a base is its pointer
  pub base_had : K → (at : (Bs E).Denot) (vs : List Val) → (vs ≡ word at.ptr ∷ [] → Seq K 𝓛 Γ G)
      → Seq K 𝓛 (‵ ((Bs E).own_val at vs) ∷ Γ) G
  base_had t at vs then =
      fpick t (λ parts. fsplit t $ feq_l t
      (λ whole. fsplit t $ feq_l t (λ pointer. drop t $ then (whole
      ∙ ap (λ (ws : List Val). vstruct (of_list (ws ++ [])) ∷ []) pointer))))

  pub mark_had : K → (vs : List Val) → (vs ≡ mark ∷ [] → Seq K 𝓛 Γ G) → Seq K 𝓛 (‵ ((Mark E).own_val (tt, tt) vs) ∷ Γ) G
  mark_had t vs then =
      fpick t (λ parts. fsplit t $ feq_l t
      (λ whole. fsplit t $ fpick t (λ none. fsplit t $ feq_l t (λ empty. drop t $ drop t $
      then (whole ∙ ap (λ (ws : List Val). vstruct (of_list (ws ++ [])) ∷ []) empty)))))

  -- a value is one machine value, of its type
  pub value_had : K → (x : E.row.Denot) (vs : List Val)
      → ((v : Val) → vs ≡ v ∷ [] → Good E v → Seq K 𝓛 (‵ (E.row.own_val x (v ∷ [])) ∷ Γ) G)
      → Seq K 𝓛 (‵ ((R E).own_val x vs) ∷ Γ) G
  value_had t x vs then =
      peeks t (R E) (Is (R E)) (shows 𝓛 (R E)) x vs (λ is. let v = one E vs ((lawful E 𝓛).typed x vs is) in
      rewrite t 0 (λ (us : List Val). ‵ (E.row.own_val x us)) v.1 refl $ then v.0 v.1 v.2)

module _ {M : Type 1} {𝓤 : Ura M} (𝓛 : Logic 𝓤) where
  pub mark_made : (E : El) → ent 𝓤 (emp 𝓤) (sem 𝓛 ((Mark E).own_val (tt, tt) (mark ∷ [])))
  mark_made E = makes_shadow 𝓛 ((Mark E).own_val (tt, tt) (mark ∷ [])) (λ parts. (tt, ((λ none. (tt, tt)), tt)))
      ((vstruct vnil ∷ [], tt), (refl, ((tt, (refl, tt)), tt)))

  pub base_made : (E : El) (at : (Bs E).Denot) → ent 𝓤 (emp 𝓤) (sem 𝓛 ((Bs E).own_val at (word at.ptr ∷ [])))
  base_made E at = makes_shadow 𝓛 ((Bs E).own_val at (word at.ptr ∷ [])) (λ parts. (tt, (tt, tt)))
      ((ptr_val at.ptr ∷ [], tt), (refl, (refl, tt)))

  pub three_made : (S T U : RattleType) (x : S.Denot) (y : T.Denot) (z : U.Denot) (u v w : Val)
      → ent 𝓤 (sep 𝓤 (sem 𝓛 (S.own_val x (u ∷ [])))
      (sep 𝓤 (sem 𝓛 (T.own_val y (v ∷ []))) (sem 𝓛 (U.own_val z (w ∷ [])))))
      (sem 𝓛 ((Tuple (S ∷ T ∷ U ∷ [])).own_val (x, y, z) (three_val u v w ∷ [])))
  three_made S T U x y z u v w =
      let all = S ∷ T ∷ U ∷ [] in
      qed 𝓛 (‵ (S.own_val x (u ∷ [])) ∷ ‵ (T.own_val y (v ∷ [])) ∷ ‵ (U.own_val z (w ∷ [])) ∷ []) ∵
      nothing ! $ move ! (3 ∷ 0 ∷ []) $ fjoin ! $ move ! (2 ∷ 0 ∷ []) $ fjoin ! $ move ! (1 ∷ 0 ∷ []) $ fjoin !
      $ feq_i ! (List Val) (three_val u v w ∷ []) (three_val u v w ∷ []) refl $ fjoin ! $
      fpack ! (Valss all) (within (Declared.shape (tuple_type all)) (x, (y, (z, tt))) (three_val u v w ∷ [])) (
        u ∷ [],
        (v ∷ [], (w ∷ [], tt)),
      ) $ done !

-- a `requires` of two facts is heard
pub both_heard : {M : Type 1} (𝓤 : Ura M) (φ ψ : Type 0) (P : SProp 𝓤) {Q : SProp 𝓤} → (φ → ψ → ent 𝓤 P Q)
    → ent 𝓤 (sep 𝓤 P (sep 𝓤 (fact 𝓤 φ) (fact 𝓤 ψ))) Q
both_heard 𝓤 φ ψ P then =
    let both : SProp 𝓤 = sep 𝓤 (fact 𝓤 φ) (fact 𝓤 ψ) in
    fact_use 𝓤 φ (via 𝓤 both (snd∗ 𝓤 P both) (fst∗ 𝓤 (fact 𝓤 φ) (fact 𝓤 ψ)))
    (λ x. via 𝓤 (sep 𝓤 P (fact 𝓤 ψ)) (mono_r 𝓤 P {Q = both} {Q' = fact 𝓤 ψ} (snd∗ 𝓤 (fact 𝓤 φ) (fact 𝓤 ψ)))
    (needs 𝓤 ψ P (then x)))
