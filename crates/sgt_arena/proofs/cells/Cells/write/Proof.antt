-- `write` puts a value into an empty place. Assumes `Logic`.
use mathlib.Core.Path.{◌≡◌, refl, sym, subst, ◌∙◌}
use Prim.Native.Nat.{ℕ, ◌+◌, ◌*◌, ◌<◌, ◌^◌}
use mathlib.Core.List.{List, [], ◌∷◌, ◌++◌}
use lib.ListN.{length, set, get_or, length-set}
use seplogic.Ra.Ura.{Ura}
use base.Fraction.{full_share}
use mir.Syntax.{Fn, named, w64}
use mir.MapTy.{inst_fn}
use mir.Val.{Val, vptr, vint, vunit}
use base.Logic.{SProp, ent, never, id⊢}
use base.Fml.{Lft, GName, Share, ftrue, fat, flft, fobs, fbor}
use prog.Memory.{Memory}
use prog.Routine.{Routine}
use prog.Wp.{Env, Calls, Loops, WpFn, Tables}
use types.Logic.{Logic}
use contract.Monad.{Fun}
use contract.BorrowLft.{◌⊑◌}
use contract.Running.{tables, tables_of}
use sound.WpLaws.{WpFn-mono}
use types.Kit.{Item, ⋆, ‵, ◌⊛◌, at_ret, ◌$◌, ◌∵◌, !, qed, by, move, keep, use1, use2, split, join, rewrite, fsplit, fsplit3, fjoin, fjoin3, feq_i, feq_l, flt_i, flt_l, suffices, frame, done}
use types.Part.{whole, sub}
use types.Run.{init, stop, fld, bin, size_lit, unit_lit, of_opd, assigns_last, first, blocks, exec, returns, enter}
use types.ByLocal.{alloc_all, pass_all, free_all, look_at, get, get_in, through, sets, env, take_at, give_at}
use types.SemTy.{Body as Borrowed}
use denote.Builtin.{usize}
use denote.Exit.{yes, no}
use denote.RattleType.{owns}
use denote.Memory.{mem}
use denote.Param.{layout}
use denote.RawPtr.{Ptr, in_a_block}
use denote.Ref.{MutBor, MutRef}
use denote.Signature.{plain}
use denote.Steps.{nothing, opens, closes}
use denote.Triple.Clauses.{Clauses, Ended, closing}
use denote.Triple.Entry.{on_entry}
use denote.Triple.Spec.{Meets, triple_of}
use denote.Triple.Table.{entered}
use denote.Triple.Walked.{says, Stays, stay_ref, stay_dropped, walk_of, ends_at, Goes-ref, Goes-dropped, walk_Meets}
use Rattle.std.specs.Prelude.{Some, None}
use Rattle.core.proofs.mem.Param.{El, R, Good, args, elτ}
use Rattle.core.proofs.slice.Rows.{el_in}
use Rattle.std_alloc.proofs.RawLayout.{as_written}
use Rattle.std_alloc.proofs.RcSteps.{word, word-Good}
use Rattle.std_alloc.proofs.VecSteps.Shapes.{after}
use Rattle.sgt_arena.specs.Ownership.{slot_owned, row_owned, cells_owned}
use Rattle.sgt_arena.proofs.Parts.{Cr, Bs, base_had, value_had, both_heard}
use Rattle.sgt_arena.proofs.Row.{sz, Slot, others, offset_fits, slot_out, slot_in}
use Rattle.sgt_arena.specs.contracts.cells.Cells.write as F
use Rattle.sgt_arena.specs.contracts.cells.Cells.write.Key.{name as #self}
use Rattle.sgt_arena.proofs.cells.Cells.write.Statement as stated
use Rattle.sgt_arena.proofs.cells.Cells.write.Code as code

module _ (E : El) where
  abbrev function : Fn
  function = inst_fn (args E) code.function

  abbrev ended : Ended
  ended = F.ended E.row

  abbrev clauses : {M : Type 1} {𝓤 : Ura M} (𝓛 : Logic 𝓤) → (Memory → SProp 𝓤) → (Routine → Fun 𝓤) → Clauses 𝓤 ended
  clauses 𝓛 = F.clauses E.row 𝓛

  abbrev stayed : Stays ended.signature.params ended.kept
  stayed = (
    stay_ref (0 ∷ []) tt (plain (λ _. Cr E)),
    (
      stay_dropped (plain (λ _. Bs E)) no,
      (stay_dropped (plain (λ _. usize)) yes, (stay_dropped (plain (λ _. R E)) no, tt)),
    ),
  )

  abbrev Asks : (Cr E).Denot → (Bs E).Denot → ℕ → Type 0
  Asks d base i = (base.ptr ≡ d.at) × (i < length d.slots) × (get_or d.slots i None ≡ None)

module _ (E : El) {M : Type 1} {𝓤 : Ura M} (𝓛 : Logic 𝓤) (at_mem : Memory → SProp 𝓤) (run : Routine → Fun 𝓤) where
  open 𝓛 use {H}

  module _ (C : Calls 𝓤 H) (Λ : Loops 𝓤 H) (κ κ₁ : Lft) (q q₁ : Share) (short : κ ⊑ κ₁) (rb ro : ℕ) (γ : GName)
      (d : (Cr E).Denot) (base : (Bs E).Denot) (i : ℕ) (x : (R E).Denot) (us0 us1 us2 us3 : List Val) where
    abbrev self : MutBor (Cr E).Denot
    self = record { ref_ptr = (rb, ro); ghost_name = γ; now = d }

    abbrev bound : (walk_of 𝓛 (ended E) (stayed E) (clauses E 𝓛 at_mem run)).Ghost
    bound = (
      (
        (κ, (κ₁, tt)),
        (q, (q₁, tt)),
        (short, tt),
        (self, (base, (i, (x, tt)))),
        (us0, (us1, (us2, (us3, tt)))),
      ),
      tt,
    )

    abbrev Post : Val → SProp 𝓤
    Post = (walk_of 𝓛 (ended E) (stayed E) (clauses E 𝓛 at_mem run)).post bound

    abbrev new : (Cr E).Denot
    new = record { mark = d.mark; at = d.at; slots = set d.slots i (Some x) }

    -- the loan of the cells at a value, and the tokens
    abbrev Loan : (Cr E).Denot → List (Item 𝓤)
    Loan c = ‵ (fobs γ ((Cr E).coded.code c)) ∷ ‵ (fbor κ (Borrowed (mem (Cr E)) rb ro γ)) ∷ ‵ (flft κ q) ∷ ‵
        (flft κ₁ q₁) ∷ []

    exits : us0 ≡ vptr rb ro ∷ [] → ent 𝓤 (⋆ 𝓛 (Loan new)) (Post vunit)
    exits passed =
        qed 𝓛 (Loan new) ∵ suffices ! _ (ends_at 𝓛 (ended E) (stayed E) (clauses E 𝓛 at_mem run) bound vunit tt (
          new,
          (tt, (tt, (tt, tt))),
        ) (tt, (tt, (tt, (tt, tt))))) $ says ! (refl, refl) $
        nothing ! $ move ! (4 ∷ 0 ∷ []) $ join ! $ move ! (3 ∷ 0 ∷ []) $ join ! $ frame ! $
        feq_i ! (List Val) us0 (vptr rb ro ∷ []) passed $ fjoin3 ! $ nothing ! $ nothing ! $ fjoin ! $ nothing !
        $ fjoin ! $ nothing ! $ fjoin ! $ move ! (1 ∷ 0 ∷ []) $ fjoin ! $
        feq_i ! (List Val) (vunit ∷ []) (vunit ∷ []) refl $ move ! (1 ∷ 0 ∷ []) $ done !

    abbrev Had : Val → List (Item 𝓤)
    Had v = ‵ (fobs γ ((Cr E).coded.code d)) ∷ ‵ (fbor κ (Borrowed (mem (Cr E)) rb ro γ)) ∷ ‵ (flft κ q) ∷ ‵
        (flft κ₁ q₁) ∷ ‵ (E.row.own_val x (v ∷ [])) ∷ []

    walk : us0 ≡ vptr rb ro ∷ [] → Asks E d base i → i < 2 ^ 64 → (v : Val) → Good E v
        → ent 𝓤 (⋆ 𝓛 (Had v)) (WpFn 𝓤 H C Λ (function E) (vptr rb ro ∷ word base.ptr ∷ vint w64 i ∷ v ∷ []) Post)
    walk passed asked fits v good =
        let s = sz E in let within = asked.1 in
        qed 𝓛 (Had v) ∵ enter ! C Λ (function E) (vptr rb ro ∷ word base.ptr ∷ vint w64 i ∷ v ∷ []) _ $ alloc_all !
        (λ l. pass_all ! refl ((tt, tt), (word-Good [] base.ptr, ((tt, record { fits = fits }), (good, tt)))) $
        let En : Env 𝓤 H = env (function E).locals l in
        opens ! tt (Cr E) {h = d} rb ro (λ vs. move ! (1 ∷ []) $ fsplit ! $ move ! (1 ∷ []) $
        in_a_block ! d.at (λ p. cells_owned (R E) p d.slots) (id⊢ 𝓤 (never 𝓤)) (λ b o e. fsplit ! $ flt_l ! (λ small.
        let word_fits = offset_fits (length d.slots) s i within small in let at = i * s + o in
        take_at ! 2 $ rewrite ! 0 (λ (p : Ptr). ‵ (fat full_share (layout (Bs E)) (l 2) 0 (word p))) (asked.0
        ∙ e) refl $ give_at ! 2 $ first ! $ blocks ! $
        sets ! (bin ! (get ! refl) (size_lit ! (record { fits = word_fits.0 })) (record { fits = word_fits.1 })) refl
        (tt, record { fits = word_fits.1 }) $
        sets ! (bin ! (get_in ! (fld ! refl (stop !)) (sub ! 0 refl (whole !))) (get ! refl) tt) refl (tt, tt) $
        sets ! (of_opd ! (get ! refl)) refl good $
        use1 𝓛 (‵ (slot_owned (R E) b at (get_or d.slots i None)) ⊛ ‵ (others E b o d.slots i))
        (slot_out E 𝓛 b o d.slots i within) $ split ! $
        rewrite ! 0 (λ (c : Slot E). ‵ (slot_owned (R E) b at c)) asked.2 refl $ as_written ! (elτ E) b at $
        -- [the room; the other places; the mark; its cell; the open borrow, in three entries; T's token; the value]
        assigns_last ! (of_opd ! (get ! refl)) (through ! refl (stop !)) (init ! 0 refl good) $
        exec ! C Λ En (after 1 (function E).body) (at_ret En Post) $ sets ! (of_opd ! (unit_lit !)) refl (tt, tt) $
        move ! (0 ∷ 8 ∷ []) $ use2 𝓛 (‵ (slot_owned (R E) b at (Some x))) (el_in E 𝓛 b x at v) $
        use2 𝓛 (‵ (row_owned (R E) b o new.slots)) (slot_in E 𝓛 b o d.slots i within (Some x)) $
        flt_i ! (length new.slots * s) (2 ^ 63)
        (subst (λ k. k * s < 2 ^ 63) (sym (length-set d.slots i (Some x))) small) $ fjoin ! $
        rewrite ! 0 (λ (p : Ptr). ‵ (cells_owned (R E) p new.slots)) (sym e) refl $ move ! (1 ∷ 0 ∷ []) $ fjoin !
        $ move ! (1 ∷ 0 ∷ []) $ closes ! tt (Cr E) new vs rb ro $
        returns ! (look_at ! 0 refl) $ free_all ! refl $ by ! (exits passed)))))

    entry : Asks E d base i
        → ent 𝓤 (on_entry 𝓛 (ended E).signature (κ, (κ₁, tt)) (q, (q₁, tt)) (self, (base, (i, (x, tt)))) (
          us0,
          (us1, (us2, (us3, tt))),
        )) (WpFn 𝓤 H C Λ (function E) (us0 ++ (us1 ++ (us2 ++ (us3 ++ [])))) Post)
    entry asked =
        qed 𝓛 ((‵ (flft κ q) ⊛ ‵ (flft κ₁ q₁) ⊛ ‵ ftrue) ∷ ‵
        (owns (MutRef (named 0) κ (Cr E) ∷ Bs E ∷ usize ∷ R E ∷ []) (self, (base, (i, (x, tt)))) (
          us0,
          (us1, (us2, (us3, tt))),
        )) ∷ []) ∵
        split ! $ move ! (2 ∷ []) $ fsplit ! $ fsplit3 ! $ feq_l !
        (λ e0. move ! (2 ∷ []) $ fsplit ! $ base_had E ! base us1
        (λ e1. fsplit ! $ fsplit ! $ feq_l ! (λ e2. flt_l ! (λ fits.
        fsplit ! $ value_had E ! x us3 (λ v e3 good.
        move ! (5 ∷ []) $ split ! $ keep ! (4 ∷ 5 ∷ 6 ∷ 0 ∷ 2 ∷ []) $
        by ! (subst (λ (ws : List Val × List Val × List Val × List Val). ent 𝓤 (⋆ 𝓛 (Had v))
        (WpFn 𝓤 H C Λ (function E) (ws.0 ++ (ws.1 ++ (ws.2 ++ (ws.3 ++ [])))) Post))
        (λ j. (sym e0 j, sym e1 j, sym e2 j, sym e3 j)) (walk e0 asked fits v good)))))))

  meets : (𝓣 : Tables 𝓤 H)
      → Meets 𝓛 (ended E).signature (WpFn 𝓤 H 𝓣.C 𝓣.Λ (function E)) (closing 𝓛 (ended E) (clauses E 𝓛 at_mem run))
  meets 𝓣 =
      walk_Meets 𝓛 (ended E) (stayed E) (
        Goes-ref 𝓛 2 0 tt (plain (λ _. Cr E)),
        (
          Goes-dropped 𝓛 2 (plain (λ _. Bs E)) no (λ κs y f. refl),
          (
            Goes-dropped 𝓛 2 (plain (λ _. usize)) yes (λ κs y f. refl),
            (Goes-dropped 𝓛 2 (plain (λ _. R E)) no (λ κs y f. refl), tt),
          ),
        ),
      )
      (clauses E 𝓛 at_mem run) (WpFn 𝓤 H 𝓣.C 𝓣.Λ (function E)) (WpFn-mono 𝓤 H 𝓛.laws 𝓣 (function E))
      (λ z. let κs = z.0.0 in let qs = z.0.1 in let a = z.0.3 in let vss = z.0.4 in
      both_heard 𝓤 (κs.1.0 ⊑ E.row.lives) (Asks E a.0.now a.1.0 a.1.1.0) (on_entry 𝓛 (ended E).signature κs qs a vss)
      (λ lives.
      entry 𝓣.C 𝓣.Λ κs.0 κs.1.0 qs.0 qs.1.0 z.0.2.0 a.0.ref_ptr.0 a.0.ref_ptr.1 a.0.ghost_name a.0.now a.1.0 a.1.1.0
      a.1.1.1.0 vss.0 vss.1.0 vss.1.1.0 vss.1.1.1.0))

pub write_spec : {M : Type 1} → stated.statement M
unfolding tables_of
write_spec 𝓤 𝓛 𝓜 𝓡 wired X LX =
    let E : El = record { row = X; laws = LX } in
    let 𝓣 : Tables 𝓤 𝓛.H = tables_of 𝓤 𝓛.H 𝓜 (tables 𝓤 𝓛.H 𝓜 𝓡 𝓡.env) in
    entered 𝓤 𝓛.H (triple_of 𝓛 (ended E).signature (F.spec X 𝓛 𝓜.mem 𝓡.returns)) 𝓣.C 𝓣.Λ (#self (args E)) (function E)
    (code.unfolded 𝓤 𝓛.H 𝓜 𝓡 wired (X, tt)) (meets E 𝓛 𝓜.mem 𝓡.returns 𝓣)
