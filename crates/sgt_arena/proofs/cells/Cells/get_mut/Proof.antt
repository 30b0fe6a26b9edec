-- `get_mut` lends one value, and what the cells hold follows it. Assumes `Logic`.
use mathlib.Core.Path.{◌≡◌, refl, sym, subst, ◌∙◌}
use Prim.Native.Nat.{ℕ, ◌+◌, ◌*◌, ◌<◌, ◌^◌}
use mathlib.Core.List.{List, [], ◌∷◌, ◌++◌}
use lib.ListN.{length, set, get_or, length-set}
use seplogic.Ra.Ura.{Ura}
use base.Fraction.{full_share}
use mir.Syntax.{Fn, named, w64}
use mir.MapTy.{inst_fn}
use mir.Val.{Val, vptr, vint}
use base.Logic.{SProp, ent, sep, never, id⊢}
use base.Fml.{Lft, GName, Share, Fml, ftrue, fsep, fat, flft, fobs, fbor}
use prog.Memory.{Memory}
use prog.Routine.{Routine}
use prog.Wp.{Env, Calls, Loops, WpFn, Tables}
use types.Logic.{Logic, sem}
use contract.Monad.{Fun}
use contract.BorrowLft.{◌⊑◌}
use contract.Running.{tables, tables_of}
use sound.WpLaws.{WpFn-mono}
use types.Kit.{Item, ⋆, ‵, raw, ◌⊛◌, some, later, await, pick, at_ret, ◌$◌, ◌∵◌, !, qed, by, move, keep, use1, use2, split, join, group, rewrite, fsplit, fsplit3, fjoin, fjoin3, fpack, feq_l, flt_i, flt_l, suffices, frame, done}
use types.Part.{whole, sub}
use types.Run.{stop, fld, bin, size_lit, of_opd, addr, first, blocks, exec, returns, enter}
use types.ByLocal.{alloc_all, pass_all, free_all, look_at, get, get_in, through, sets, sets_last, env, take_at, give_at}
use types.SemTy.{Body as Borrowed}
use denote.Builtin.{usize}
use denote.Exit.{yes, no}
use denote.Follow.{follows, Part, lends_Part}
use denote.RattleType.{owns}
use denote.Memory.{mem, cell_at, part_of}
use denote.Param.{layout}
use denote.RawPtr.{Ptr, block_ptr, in_a_block}
use denote.Ref.{MutBor, MutRef}
use denote.Signature.{plain, mut_ref_to}
use denote.Steps.{nothing, opens}
use denote.Triple.Clauses.{Clauses, Ended, closing}
use denote.Triple.Entry.{on_entry}
use denote.Triple.Spec.{Meets, triple_of}
use denote.Triple.Table.{entered}
use denote.Triple.Walked.{says, Stays, stay_dropped, walk_of, ends_at, Goes-dropped, Goes-spent_ref, walk_Meets}
use Rattle.std.specs.Prelude.{Some, None}
use Rattle.core.proofs.mem.Param.{El, R, args, el_x}
use Rattle.std_alloc.proofs.RcSteps.{word, word-Good}
use Rattle.std_alloc.proofs.VecSteps.Shapes.{after}
use Rattle.sgt_arena.specs.CellLends.{with_slots}
use Rattle.sgt_arena.specs.Places.{IsFilled}
use Rattle.sgt_arena.specs.Ownership.{slot_owned, row_owned, cells_owned}
use Rattle.sgt_arena.proofs.Places.{holds_within}
use Rattle.sgt_arena.proofs.Parts.{Cr, Bs, Mark, base_had, both_heard}
use Rattle.sgt_arena.proofs.Row.{sz, Slot, others, offset_fits, slot_out, slot_in}
use Rattle.sgt_arena.specs.contracts.cells.Cells.get_mut as F
use Rattle.sgt_arena.specs.contracts.cells.Cells.get_mut.Key.{name as #self}
use Rattle.sgt_arena.proofs.cells.Cells.get_mut.Statement as stated
use Rattle.sgt_arena.proofs.cells.Cells.get_mut.Code as code

module _ (E : El) where
  abbrev function : Fn
  function = inst_fn (args E) code.function

  abbrev ended : Ended
  ended = F.ended E.row

  abbrev clauses : {M : Type 1} {𝓤 : Ura M} (𝓛 : Logic 𝓤) → (Memory → SProp 𝓤) → (Routine → Fun 𝓤) → Clauses 𝓤 ended
  clauses 𝓛 = F.clauses E.row 𝓛

  abbrev stayed : Stays ended.signature.params ended.kept
  stayed = (
    stay_dropped (mut_ref_to (0 ∷ []) tt (plain (λ _. Cr E))) no,
    (stay_dropped (plain (λ _. Bs E)) no, (stay_dropped (plain (λ _. usize)) yes, tt)),
  )

  abbrev Asks : (Cr E).Denot → (Bs E).Denot → ℕ → Type 0
  Asks d base i = (base.ptr ≡ d.at) × IsFilled d.slots i

module _ (E : El) {M : Type 1} {𝓤 : Ura M} (𝓛 : Logic 𝓤) (at_mem : Memory → SProp 𝓤) (run : Routine → Fun 𝓤) where
  open 𝓛 use {H}

  module _ (C : Calls 𝓤 H) (Λ : Loops 𝓤 H) (κ κ₁ : Lft) (q q₁ : Share) (short : κ ⊑ κ₁) (rb ro : ℕ) (γ : GName)
      (d : (Cr E).Denot) (base : (Bs E).Denot) (i : ℕ) (us0 us1 us2 : List Val) where
    abbrev self : MutBor (Cr E).Denot
    self = record { ref_ptr = (rb, ro); ghost_name = γ; now = d }

    abbrev bound : (walk_of 𝓛 (ended E) (stayed E) (clauses E 𝓛 at_mem run)).Ghost
    bound = (((κ, (κ₁, tt)), (q, (q₁, tt)), (short, tt), (self, (base, (i, tt))), (us0, (us1, (us2, tt)))), tt)

    abbrev Post : Val → SProp 𝓤
    Post = (walk_of 𝓛 (ended E) (stayed E) (clauses E 𝓛 at_mem run)).post bound

    -- the cells once the value is w
    abbrev new : el_x E → (Cr E).Denot
    new w = with_slots d (set d.slots i (Some w))

    -- what stays behind while the value is lent, and how the cells are whole again
    module _ (vs : List Val) (b o : ℕ) where
      abbrev Rest : Fml
      Rest = fsep (others E b o d.slots i)
          (fsep ((Mark E).own_val (tt, tt) vs) (cell_at full_share (Cr E).mir vs rb ro))

      whole_again : d.at ≡ block_ptr b o → i < length d.slots → length d.slots * sz E < 2 ^ 63
          → (w : el_x E)
          → ent 𝓤 (sep 𝓤 (sem 𝓛 ((mem (R E)).own_at w b (i * sz E + o))) (sem 𝓛 Rest))
          (sem 𝓛 ((mem (Cr E)).own_at (new w) rb ro))
      unfolding part_of
      whole_again e within small w =
          qed 𝓛 (‵ (slot_owned (R E) b (i * sz E + o) (Some w)) ∷ ‵ Rest ∷ []) ∵ move ! (1 ∷ []) $ fsplit3 ! $ move !
          (3 ∷ 0 ∷ []) $
          use2 𝓛 (‵ (row_owned (R E) b o (new w).slots)) (slot_in E 𝓛 b o d.slots i within (Some w)) $
          flt_i ! (length (new w).slots * sz E) (2 ^ 63)
          (subst (λ k. k * sz E < 2 ^ 63) (sym (length-set d.slots i (Some w))) small) $ fjoin ! $
          rewrite ! 0 (λ (p : Ptr). ‵ (cells_owned (R E) p (new w).slots)) (sym e) refl $ move ! (1 ∷ 0 ∷ []) $ fjoin
          ! $ move ! (1 ∷ 0 ∷ []) $ fjoin ! $
          fpack ! (List Val) (λ us. fsep (cell_at full_share (Cr E).mir us rb ro) ((Cr E).own_val (new w) us)) vs
          $ done !

    abbrev Given : MutBor (el_x E) → Val → List (Item 𝓤)
    Given r v = ‵ ((MutRef (named 0) κ (R E)).own_val r (v ∷ [])) ∷ ‵ (flft κ q) ∷ ‵ (flft κ₁ q₁) ∷ ‵
        (follows (Cr E) (R E) γ r.ghost_name new) ∷ []

    exits : (r : MutBor (el_x E)) (v : Val) → get_or d.slots i None ≡ Some r.now → ent 𝓤 (⋆ 𝓛 (Given r v)) (Post v)
    exits r v is =
        qed 𝓛 (Given r v) ∵ suffices ! _ (ends_at 𝓛 (ended E) (stayed E) (clauses E 𝓛 at_mem run) bound v r (
          tt,
          (tt, (tt, tt)),
        ) (tt, (tt, (tt, tt)))) $
        nothing ! $ nothing ! $ fjoin ! $ nothing ! $ fjoin ! $ nothing ! $ fjoin ! $ join ! $
        nothing ! $ move ! (3 ∷ 0 ∷ []) $ join ! $ move ! (2 ∷ 0 ∷ []) $ join ! $ join ! $ frame ! $ says ! is $ done !

    abbrev Had : List (Item 𝓤)
    Had = ‵ (fobs γ ((Cr E).coded.code d)) ∷ ‵ (fbor κ (Borrowed (mem (Cr E)) rb ro γ)) ∷ ‵ (flft κ q) ∷ ‵
        (flft κ₁ q₁) ∷ []

    walk : Asks E d base i → i < 2 ^ 64
        → ent 𝓤 (⋆ 𝓛 Had) (WpFn 𝓤 H C Λ (function E) (vptr rb ro ∷ word base.ptr ∷ vint w64 i ∷ []) Post)
    walk asked fits =
        let s = sz E in let x = asked.1.0 in let within = holds_within d.slots i x asked.1.1 in let before =
        (Cr E).coded.code d in
        qed 𝓛 Had ∵ enter ! C Λ (function E) (vptr rb ro ∷ word base.ptr ∷ vint w64 i ∷ []) _ $ alloc_all !
        (λ l. pass_all ! refl ((tt, tt), (word-Good [] base.ptr, ((tt, record { fits = fits }), tt))) $
        let En : Env 𝓤 H = env (function E).locals l in
        opens ! tt (Cr E) {h = d} rb ro (λ vs. move ! (1 ∷ []) $ fsplit ! $ move ! (1 ∷ []) $
        in_a_block ! d.at (λ p. cells_owned (R E) p d.slots) (id⊢ 𝓤 (never 𝓤)) (λ b o e. fsplit ! $ flt_l ! (λ small.
        let word_fits = offset_fits (length d.slots) s i within small in let at = i * s + o in let way =
        whole_again vs b o e within small in
        take_at ! 2 $ rewrite ! 0 (λ (p : Ptr). ‵ (fat full_share (layout (Bs E)) (l 2) 0 (word p))) (asked.0
        ∙ e) refl $ give_at ! 2 $ first ! $ blocks ! $
        sets ! (bin ! (get ! refl) (size_lit ! (record { fits = word_fits.0 })) (record { fits = word_fits.1 })) refl
        (tt, record { fits = word_fits.1 }) $
        sets ! (bin ! (get_in ! (fld ! refl (stop !)) (sub ! 0 refl (whole !))) (get ! refl) tt) refl (tt, tt) $
        use1 𝓛 (‵ (slot_owned (R E) b at (get_or d.slots i None)) ⊛ ‵ (others E b o d.slots i))
        (slot_out E 𝓛 b o d.slots i within) $ split ! $
        rewrite ! 0 (λ (c : Slot E). ‵ (slot_owned (R E) b at c)) asked.1.1 refl $
        sets_last ! (addr ! (through ! refl (stop !))) refl (tt, tt) $ exec ! C Λ En (after 1 (function E).body)
        (at_ret En Post) $ sets ! (of_opd ! (get ! refl)) refl (tt, tt) $
        -- [the value; the other places, the mark and its cell; the open borrow, in three entries; T's token]
        move ! (1 ∷ 2 ∷ 3 ∷ []) $ fjoin3 ! $ move ! (2 ∷ 3 ∷ 4 ∷ 1 ∷ 0 ∷ []) $ group ! 5 $
        use1 𝓛 (later
        (some (λ (δ : GName). raw (Part 𝓛 (Cr E) (R E) new (named 0) κ q rb ro b at γ (sem 𝓛 (Rest vs b o)) way x
        δ))))
        (lends_Part 𝓛 (Cr E) (R E) new (named 0) κ q rb ro b at γ (sem 𝓛 (Rest vs b o)) way before before x) $ await !
        tt $ pick ! (λ δ.
        let r : MutBor (el_x E) = record { ref_ptr = (b, at); ghost_name = δ; now = x } in
        use1 𝓛 (‵ ((MutRef (named 0) κ (R E)).own_val r (vptr b at ∷ [])) ⊛ ‵ (flft κ q) ⊛ ‵
        (follows (Cr E) (R E) γ δ new)) (id⊢ 𝓤 _) $ split ! $ move ! (1 ∷ []) $ split ! $
        returns ! (look_at ! 0 refl) $ free_all ! refl $ move ! (2 ∷ 0 ∷ 3 ∷ 1 ∷ []) $ by !
        (exits r (vptr b at) asked.1.1))))))

    entry : Asks E d base i
        → ent 𝓤 (on_entry 𝓛 (ended E).signature (κ, (κ₁, tt)) (q, (q₁, tt)) (self, (base, (i, tt))) (
          us0,
          (us1, (us2, tt)),
        )) (WpFn 𝓤 H C Λ (function E) (us0 ++ (us1 ++ (us2 ++ []))) Post)
    entry asked =
        qed 𝓛 ((‵ (flft κ q) ⊛ ‵ (flft κ₁ q₁) ⊛ ‵ ftrue) ∷ ‵
        (owns (MutRef (named 0) κ (Cr E) ∷ Bs E ∷ usize ∷ []) (self, (base, (i, tt))) (us0, (us1, (us2, tt)))) ∷
        []) ∵
        split ! $ move ! (2 ∷ []) $ fsplit ! $ fsplit3 ! $ feq_l !
        (λ e0. move ! (2 ∷ []) $ fsplit ! $ base_had E ! base us1
        (λ e1. fsplit ! $ fsplit ! $ feq_l ! (λ e2. flt_l ! (λ fits.
        move ! (4 ∷ []) $ split ! $ keep ! (3 ∷ 4 ∷ 5 ∷ 0 ∷ []) $
        by ! (subst (λ (ws : List Val × List Val × List Val). ent 𝓤 (⋆ 𝓛 Had)
        (WpFn 𝓤 H C Λ (function E) (ws.0 ++ (ws.1 ++ (ws.2 ++ []))) Post)) (λ j. (sym e0 j, sym e1 j, sym e2 j))
        (walk asked fits))))))

  meets : (𝓣 : Tables 𝓤 H)
      → Meets 𝓛 (ended E).signature (WpFn 𝓤 H 𝓣.C 𝓣.Λ (function E)) (closing 𝓛 (ended E) (clauses E 𝓛 at_mem run))
  meets 𝓣 =
      walk_Meets 𝓛 (ended E) (stayed E) (
        Goes-spent_ref 𝓛 2 (0 ∷ []) tt (plain (λ _. Cr E)),
        (
          Goes-dropped 𝓛 2 (plain (λ _. Bs E)) no (λ κs y f. refl),
          (Goes-dropped 𝓛 2 (plain (λ _. usize)) yes (λ κs y f. refl), tt),
        ),
      )
      (clauses E 𝓛 at_mem run) (WpFn 𝓤 H 𝓣.C 𝓣.Λ (function E)) (WpFn-mono 𝓤 H 𝓛.laws 𝓣 (function E))
      (λ z. let κs = z.0.0 in let qs = z.0.1 in let a = z.0.3 in let vss = z.0.4 in
      both_heard 𝓤 (κs.1.0 ⊑ E.row.lives) (Asks E a.0.now a.1.0 a.1.1.0) (on_entry 𝓛 (ended E).signature κs qs a vss)
      (λ lives.
      entry 𝓣.C 𝓣.Λ κs.0 κs.1.0 qs.0 qs.1.0 z.0.2.0 a.0.ref_ptr.0 a.0.ref_ptr.1 a.0.ghost_name a.0.now a.1.0 a.1.1.0
      vss.0 vss.1.0 vss.1.1.0))

pub get_mut_spec : {M : Type 1} → stated.statement M
unfolding tables_of
get_mut_spec 𝓤 𝓛 𝓜 𝓡 wired X LX =
    let E : El = record { row = X; laws = LX } in
    let 𝓣 : Tables 𝓤 𝓛.H = tables_of 𝓤 𝓛.H 𝓜 (tables 𝓤 𝓛.H 𝓜 𝓡 𝓡.env) in
    entered 𝓤 𝓛.H (triple_of 𝓛 (ended E).signature (F.spec X 𝓛 𝓜.mem 𝓡.returns)) 𝓣.C 𝓣.Λ (#self (args E)) (function E)
    (code.unfolded 𝓤 𝓛.H 𝓜 𝓡 wired (X, tt)) (meets E 𝓛 𝓜.mem 𝓡.returns 𝓣)
