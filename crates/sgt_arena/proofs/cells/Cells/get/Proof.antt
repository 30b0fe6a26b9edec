-- `get` shows one value that the cells lend. Assumes `Logic`.
use mathlib.Core.Path.{◌≡◌, refl, sym, subst, ◌∙◌}
use Prim.Native.Nat.{ℕ, ◌+◌, ◌*◌, ◌<◌, ◌^◌}
use mathlib.Core.List.{List, [], ◌∷◌, ◌++◌}
use lib.ListN.{length, get_or}
use seplogic.Ra.Ura.{Ura}
use base.Fraction.{full_share}
use mir.Syntax.{Fn, named, w64}
use mir.MapTy.{inst_fn}
use mir.Val.{Val, vptr, vint}
use base.Logic.{SProp, ent, never, id⊢}
use base.Fml.{Lft, Share, ftrue, fat, flft}
use prog.Memory.{Memory}
use prog.Routine.{Routine}
use prog.Wp.{Env, Calls, Loops, WpFn, Tables}
use types.Logic.{Logic}
use contract.Monad.{Fun}
use contract.BorrowLft.{◌⊑◌}
use contract.Running.{tables, tables_of}
use sound.WpLaws.{WpFn-mono}
use types.Kit.{Item, ⋆, ‵, ◌⊛◌, at_ret, ◌$◌, ◌∵◌, !, qed, by, move, keep, drop, use1, split, join, rewrite, fsplit, fjoin, feq_i, feq_l, flt_l, suffices, frame, done}
use types.Part.{whole, sub}
use types.Run.{stop, fld, bin, size_lit, of_opd, addr, first, blocks, exec, returns, enter}
use types.ByLocal.{alloc_all, pass_all, free_all, look_at, get, get_in, through, sets, sets_last, env, take_at, give_at}
use denote.Builtin.{RefOf, usize}
use denote.Exit.{yes, no}
use denote.RattleType.{owns}
use denote.Memory.{hidden_shr}
use denote.Param.{layout}
use denote.RawPtr.{Ptr, in_a_block}
use denote.Ref.{Bor, ShrRef}
use denote.Signature.{plain}
use denote.Opens.{hide, unhide}
use denote.Steps.{nothing}
use denote.Triple.Clauses.{Clauses, Ended, closing}
use denote.Triple.Entry.{on_entry}
use denote.Triple.Spec.{Meets, triple_of}
use denote.Triple.Table.{entered}
use denote.Triple.Walked.{says, Stays, stay_dropped, walk_of, ends_at, Goes-dropped, walk_Meets}
use Rattle.std.specs.Prelude.{Some, None}
use Rattle.core.proofs.mem.Param.{El, R, args, el_x}
use Rattle.std_alloc.proofs.RcSteps.{word, word-Good}
use Rattle.std_alloc.proofs.VecSteps.Shapes.{after}
use Rattle.sgt_arena.specs.Places.{IsFilled}
use Rattle.sgt_arena.specs.Ownership.{slot_lent, cells_lent}
use Rattle.sgt_arena.proofs.Places.{holds_within}
use Rattle.sgt_arena.proofs.Parts.{Cr, Bs, base_had, both_heard}
use Rattle.sgt_arena.proofs.Row.{sz, Slot, offset_fits, slot_seen}
use Rattle.sgt_arena.specs.contracts.cells.Cells.get as F
use Rattle.sgt_arena.specs.contracts.cells.Cells.get.Key.{name as #self}
use Rattle.sgt_arena.proofs.cells.Cells.get.Statement as stated
use Rattle.sgt_arena.proofs.cells.Cells.get.Code as code

module _ (E : El) where
  abbrev function : Fn
  function = inst_fn (args E) code.function

  abbrev ended : Ended
  ended = F.ended E.row

  abbrev clauses : {M : Type 1} {𝓤 : Ura M} (𝓛 : Logic 𝓤) → (Memory → SProp 𝓤) → (Routine → Fun 𝓤) → Clauses 𝓤 ended
  clauses 𝓛 = F.clauses E.row 𝓛

  abbrev stayed : Stays ended.signature.params ended.kept
  stayed = (
    stay_dropped (RefOf (0 ∷ []) tt (plain (λ _. Cr E)) (λ _. tt)) yes,
    (stay_dropped (plain (λ _. Bs E)) no, (stay_dropped (plain (λ _. usize)) yes, tt)),
  )

  abbrev Asks : (Cr E).Denot → (Bs E).Denot → ℕ → Type 0
  Asks d base i = (base.ptr ≡ d.at) × IsFilled d.slots i

module _ (E : El) {M : Type 1} {𝓤 : Ura M} (𝓛 : Logic 𝓤) (at_mem : Memory → SProp 𝓤) (run : Routine → Fun 𝓤) where
  open 𝓛 use {H}

  module _ (C : Calls 𝓤 H) (Λ : Loops 𝓤 H) (κ κ₁ : Lft) (q q₁ : Share) (short : κ ⊑ κ₁) (rb ro : ℕ) (d : (Cr E).Denot)
      (base : (Bs E).Denot) (i : ℕ) (us0 us1 us2 : List Val) where
    abbrev self : Bor (Cr E).Denot
    self = record { ref_ptr = (rb, ro); now = d }

    abbrev bound : (walk_of 𝓛 (ended E) (stayed E) (clauses E 𝓛 at_mem run)).Ghost
    bound = (((κ, (κ₁, tt)), (q, (q₁, tt)), (short, tt), (self, (base, (i, tt))), (us0, (us1, (us2, tt)))), tt)

    abbrev Post : Val → SProp 𝓤
    Post = (walk_of 𝓛 (ended E) (stayed E) (clauses E 𝓛 at_mem run)).post bound

    abbrev Shown : Bor (el_x E) → Val → List (Item 𝓤)
    Shown r v = ‵ (flft κ q) ∷ ‵ (flft κ₁ q₁) ∷ ‵ ((ShrRef (named 0) κ (R E)).own_val r (v ∷ [])) ∷ []

    exits : (r : Bor (el_x E)) (v : Val) → get_or d.slots i None ≡ Some r.now → ent 𝓤 (⋆ 𝓛 (Shown r v)) (Post v)
    exits r v is =
        qed 𝓛 (Shown r v) ∵ suffices ! _ (ends_at 𝓛 (ended E) (stayed E) (clauses E 𝓛 at_mem run) bound v r (
          tt,
          (tt, (tt, tt)),
        ) (tt, (tt, (tt, tt)))) $ says ! is $
        nothing ! $ move ! (2 ∷ 0 ∷ []) $ join ! $ move ! (1 ∷ 0 ∷ []) $ join ! $ frame ! $ nothing ! $ nothing !
        $ fjoin ! $ nothing ! $ fjoin ! $ nothing ! $ fjoin ! $ done !

    abbrev Had : List (Item 𝓤)
    Had = ‵ (hidden_shr (Cr E) κ d rb ro) ∷ ‵ (flft κ q) ∷ ‵ (flft κ₁ q₁) ∷ []

    walk : Asks E d base i → i < 2 ^ 64
        → ent 𝓤 (⋆ 𝓛 Had) (WpFn 𝓤 H C Λ (function E) (vptr rb ro ∷ word base.ptr ∷ vint w64 i ∷ []) Post)
    walk asked fits =
        let s = sz E in let x = asked.1.0 in let within = holds_within d.slots i x asked.1.1 in
        qed 𝓛 Had ∵ enter ! C Λ (function E) (vptr rb ro ∷ word base.ptr ∷ vint w64 i ∷ []) _ $ alloc_all !
        (λ l. pass_all ! refl ((tt, tt), (word-Good [] base.ptr, ((tt, record { fits = fits }), tt))) $
        let En : Env 𝓤 H = env (function E).locals l in
        unhide ! $ fsplit ! $ drop ! $ in_a_block ! d.at (λ p. cells_lent (R E) p d.slots κ) (id⊢ 𝓤 (never 𝓤))
        (λ b o e. fsplit ! $ flt_l ! (λ small.
        let word_fits = offset_fits (length d.slots) s i within small in let at = i * s + o in
        take_at ! 2 $ rewrite ! 0 (λ (p : Ptr). ‵ (fat full_share (layout (Bs E)) (l 2) 0 (word p))) (asked.0
        ∙ e) refl $ give_at ! 2 $ first ! $ blocks ! $
        sets ! (bin ! (get ! refl) (size_lit ! (record { fits = word_fits.0 })) (record { fits = word_fits.1 })) refl
        (tt, record { fits = word_fits.1 }) $
        sets ! (bin ! (get_in ! (fld ! refl (stop !)) (sub ! 0 refl (whole !))) (get ! refl) tt) refl (tt, tt) $
        use1 𝓛 (‵ (slot_lent (R E) b at (get_or d.slots i None) κ)) (slot_seen E 𝓛 b κ o d.slots i within) $
        rewrite ! 0 (λ (c : Slot E). ‵ (slot_lent (R E) b at c κ)) asked.1.1 refl $ hide ! $
        -- [the value, behind a `&`; the two tokens]
        sets_last ! (addr ! (through ! refl (stop !))) refl (tt, tt) $ exec ! C Λ En (after 1 (function E).body)
        (at_ret En Post) $ sets ! (of_opd ! (get ! refl)) refl (tt, tt) $
        feq_i ! (List Val) (vptr b at ∷ []) (vptr b at ∷ []) refl $ fjoin ! $
        returns ! (look_at ! 0 refl) $ free_all ! refl $ move ! (1 ∷ 2 ∷ 0 ∷ []) $ by !
        (exits (record { ref_ptr = (b, at); now = x }) (vptr b at) asked.1.1))))

    entry : Asks E d base i
        → ent 𝓤 (on_entry 𝓛 (ended E).signature (κ, (κ₁, tt)) (q, (q₁, tt)) (self, (base, (i, tt))) (
          us0,
          (us1, (us2, tt)),
        )) (WpFn 𝓤 H C Λ (function E) (us0 ++ (us1 ++ (us2 ++ []))) Post)
    entry asked =
        qed 𝓛 ((‵ (flft κ q) ⊛ ‵ (flft κ₁ q₁) ⊛ ‵ ftrue) ∷ ‵
        (owns (ShrRef (named 0) κ (Cr E) ∷ Bs E ∷ usize ∷ []) (self, (base, (i, tt))) (us0, (us1, (us2, tt)))) ∷
        []) ∵
        split ! $ move ! (2 ∷ []) $ fsplit ! $ fsplit ! $ feq_l !
        (λ e0. move ! (1 ∷ []) $ fsplit ! $ base_had E ! base us1
        (λ e1. fsplit ! $ fsplit ! $ feq_l ! (λ e2. flt_l ! (λ fits.
        move ! (3 ∷ []) $ split ! $ keep ! (3 ∷ 4 ∷ 0 ∷ []) $
        by ! (subst (λ (ws : List Val × List Val × List Val). ent 𝓤 (⋆ 𝓛 Had)
        (WpFn 𝓤 H C Λ (function E) (ws.0 ++ (ws.1 ++ (ws.2 ++ []))) Post)) (λ j. (sym e0 j, sym e1 j, sym e2 j))
        (walk asked fits))))))

  meets : (𝓣 : Tables 𝓤 H)
      → Meets 𝓛 (ended E).signature (WpFn 𝓤 H 𝓣.C 𝓣.Λ (function E)) (closing 𝓛 (ended E) (clauses E 𝓛 at_mem run))
  meets 𝓣 =
      walk_Meets 𝓛 (ended E) (stayed E) (
        Goes-dropped 𝓛 2 (RefOf (0 ∷ []) tt (plain (λ _. Cr E)) (λ _. tt)) yes (λ κs y f. refl),
        (
          Goes-dropped 𝓛 2 (plain (λ _. Bs E)) no (λ κs y f. refl),
          (Goes-dropped 𝓛 2 (plain (λ _. usize)) yes (λ κs y f. refl), tt),
        ),
      )
      (clauses E 𝓛 at_mem run) (WpFn 𝓤 H 𝓣.C 𝓣.Λ (function E)) (WpFn-mono 𝓤 H 𝓛.laws 𝓣 (function E))
      (λ z. let κs = z.0.0 in let qs = z.0.1 in let a = z.0.3 in let vss = z.0.4 in
      both_heard 𝓤 (κs.1.0 ⊑ E.row.lives) (Asks E a.0.now a.1.0 a.1.1.0) (on_entry 𝓛 (ended E).signature κs qs a vss)
      (λ lives.
      entry 𝓣.C 𝓣.Λ κs.0 κs.1.0 qs.0 qs.1.0 z.0.2.0 a.0.ref_ptr.0 a.0.ref_ptr.1 a.0.now a.1.0 a.1.1.0 vss.0 vss.1.0
      vss.1.1.0))

pub get_spec : {M : Type 1} → stated.statement M
unfolding tables_of
get_spec 𝓤 𝓛 𝓜 𝓡 wired X LX =
    let E : El = record { row = X; laws = LX } in
    let 𝓣 : Tables 𝓤 𝓛.H = tables_of 𝓤 𝓛.H 𝓜 (tables 𝓤 𝓛.H 𝓜 𝓡 𝓡.env) in
    entered 𝓤 𝓛.H (triple_of 𝓛 (ended E).signature (F.spec X 𝓛 𝓜.mem 𝓡.returns)) 𝓣.C 𝓣.Λ (#self (args E)) (function E)
    (code.unfolded 𝓤 𝓛.H 𝓜 𝓡 wired (X, tt)) (meets E 𝓛 𝓜.mem 𝓡.returns 𝓣)
