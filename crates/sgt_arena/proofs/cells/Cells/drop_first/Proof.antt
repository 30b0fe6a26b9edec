-- `drop_first` reads the values one by one, from the first on, and lets each go by T's glue. Assumes `Logic`.
use mathlib.Core.Path.{◌≡◌, refl, sym, ap, subst, ◌∙◌}
use Prim.Native.Nat.{ℕ, zero, suc, ◌+◌, ◌-◌, ◌*◌, ◌<◌, ◌≤◌, ◌^◌}
use native.Mathlib.Omega.{arith}
use mathlib.Core.List.{List, [], ◌∷◌, ◌++◌}
use mathlib.Core.WellFounded.InvImage
use lib.Dec.{T, lit<, ltb→lt, nltb→le}
use lib.ListN.{length, drop as drop_of, set, get_or, replicate}
use lib.WfN.{lt-wf_rel}
use seplogic.Ra.Ura.{Ura}
use base.Fraction.{full_share}
use mir.Syntax.{Fn, Body, Args, Dict, Callee, a_type, method, no_args, dcons, dnil, named, w64, ty_int, ty_unit}
use mir.MapTy.{inst_fn}
use mir.Val.{Val, vptr, vint, vunit, has_ty, WT}
use base.Logic.{SProp, ent, sep, emp, never, id⊢}
use base.Fml.{Lft, GName, Share, ftrue, fsep, feq, fat, froom, flft, fobs, fbor, fobor, fauth}
use prog.Memory.{Memory}
use prog.Routine.{Routine}
use prog.Wp.{Env, Out, Wp, WpFn, Tables, at_return, after_seq, after_block, after_turn}
use types.Logic.{Logic, sem}
use contract.Monad.{Fun, fact, fact_i}
use contract.BorrowLft.{◌⊑◌}
use contract.Running.{tables, tables_of}
use sound.WpLaws.{WpFn-mono, fm_of}
use types.Kit.{Item, Sq, ⋆, ‵, raw, ◌⊛◌, some, given, later, at_ret, runs, any_q, ◌$◌, ◌∵◌, !, qed, by, move, keep, use0, use1, use2, split, join, pick, learn, rewrite, fsplit, fsplit3, fjoin, fjoin3, feq_i, feq_l, flt_l, flt_i, suffices, frame, await, updating, now as at_once, done}
use types.Part.{whole, sub}
use types.Run.{stop, fld, look, load, lit, size_lit, bin, unit_lit, of_opd, and_then, no_more, first, blocks, skips, jumps, branches, exec, returns, enter, loops, again, Below}
use types.ByLocal.{alloc_all, pass_all, free_all, look_at, get, get_in, through, sets, sets_last, lands_last, env, holding, forget_but, take_at, give_at}
use types.SemTy.{Body as Borrowed}
use denote.Exit.{yes, no}
use denote.RattleType.{owns}
use denote.Builtin.{usize}
use denote.Memory.{mem, cell_at}
use denote.Param.{bounded, layout}
use denote.Param.Glue as glue
use denote.RawPtr.{Ptr, block_ptr, in_a_block}
use denote.Ref.{MutBor, MutRef}
use denote.Signature.{plain}
use denote.Steps.{nothing, opens, closes}
use denote.Triple.Call.{calls_at_last}
use denote.Triple.Clauses.{Clauses, Ended, closing}
use denote.Triple.Entry.{on_entry}
use denote.Triple.Spec.{Meets, triple_of}
use denote.Triple.Statement.{Contract, Triple}
use denote.Triple.Table.{entered}
use denote.Triple.Walked.{says, Stays, stay_ref, stay_dropped, walk_of, ends_at, Goes-ref, Goes-dropped, walk_Meets}
use Rattle.std.specs.Prelude.{None}
use Rattle.core.proofs.mem.Param.{El, R, Good, elτ}
use Rattle.core.proofs.slice.Rows.{el_out}
use Rattle.core.proofs.slots.Bodies.{after, head}
use Rattle.std_alloc.proofs.RawLayout.{as_raw}
use Rattle.std_alloc.proofs.RcSteps.{word, word-Good}
use Rattle.sgt_arena.specs.Places.{HoldsFirst}
use Rattle.sgt_arena.specs.Ownership.{slot_owned, row_owned, cells_owned}
use Rattle.sgt_arena.proofs.Parts.{Cr, Bs, Mark, base_had, both_heard}
use Rattle.sgt_arena.proofs.Row.{sz, Slot, others, offset_fits, slot_out, slot_in}
use Rattle.sgt_arena.proofs.Places.{dropped, length-dropped, get_or-dropped, set-dropped, holds_long}
use Rattle.sgt_arena.specs.contracts.cells.Cells.drop_first as F
use Rattle.sgt_arena.specs.contracts.cells.Cells.drop_first.Key.{name as #self}
use Rattle.sgt_arena.proofs.cells.Cells.drop_first.Statement as stated
use Rattle.sgt_arena.proofs.cells.Cells.drop_first.Code as code

module _ (E : El) (D : Dict) where
  abbrev args : Args
  args = bounded (a_type ∷ []) (E.row, tt) (dcons D dnil)

  abbrev function : Fn
  function = inst_fn args code.function

  abbrev turn : Body
  turn = head (head (head (after 1 function.body)))

  abbrev ended : Ended
  ended = F.ended E.row D

  abbrev clauses : {M : Type 1} {𝓤 : Ura M} (𝓛 : Logic 𝓤) → (Memory → SProp 𝓤) → (Routine → Fun 𝓤) → Clauses 𝓤 ended
  clauses 𝓛 = F.clauses E.row D 𝓛

  abbrev stayed : Stays ended.signature.params ended.kept
  stayed = (
    stay_ref (0 ∷ []) tt (plain (λ _. Cr E)),
    (stay_dropped (plain (λ _. Bs E)) no, (stay_dropped (plain (λ _. usize)) yes, tt)),
  )

  abbrev key : Callee
  key = method D 0 no_args

  abbrev Asks : (Cr E).Denot → (Bs E).Denot → ℕ → Type 0
  Asks d base count = (base.ptr ≡ d.at) × HoldsFirst d.slots count

  abbrev Gives : (Cr E).Denot → ℕ → (Cr E).Denot → Type 0
  Gives d count new = (new.at ≡ d.at) × (new.slots ≡ replicate count None ++ drop_of count d.slots)

abbrev head_or : Val → List Val → Val
head_or d [] = d
head_or d (u ∷ us) = u

the_one : (u w : Val) → u ∷ [] ≡ w ∷ [] → u ≡ w
the_one u w e = ap (head_or u) e

module _ (E : El) (D : Dict) {M : Type 1} {𝓤 : Ura M} (𝓛 : Logic 𝓤) (at_mem : Memory → SProp 𝓤) (run : Routine
    → Fun 𝓤) where
  open 𝓛 use {H, A}

  abbrev Lets : Contract 𝓤
  Lets = triple_of 𝓛 (glue.signature E.row) (glue.spent 𝓛 E.row)

  module _ (κ : Lft) (q : Share) (x : E.row.Denot) (v : Val) where
    abbrev lets_at : Lets.Ghost
    lets_at = (((κ, tt), (q, tt), tt, (x, tt), (v ∷ [], tt)), tt)

    Lets-goes : κ ⊑ E.row.lives → ent 𝓤 (sep 𝓤 (sem 𝓛 ((R E).own_val x (v ∷ []))) (A.lft κ q)) (Lets.pre lets_at)
    Lets-goes ok =
        qed 𝓛 (‵ ((R E).own_val x (v ∷ [])) ∷ ‵ (flft κ q) ∷ []) ∵
        use0 𝓛 (raw (emp 𝓤)) (id⊢ 𝓤 (emp 𝓤)) $ use0 𝓛 (raw (fact 𝓤 (κ ⊑ E.row.lives)))
        (fact_i 𝓤 (κ ⊑ E.row.lives) (emp 𝓤) ok) $ join ! $
        nothing ! $ move ! (2 ∷ 0 ∷ []) $ fjoin ! $ nothing ! $ move ! (3 ∷ 0 ∷ []) $ join ! $ join ! $ join ! $ done !

    Lets-gives : (u : Val)
        → ent 𝓤 (Lets.post lets_at u) (H.⇛ (sem 𝓛 (fsep (feq (List Val) (u ∷ []) (vunit ∷ [])) (flft κ q))))
    Lets-gives u =
        qed 𝓛 (raw (Lets.post lets_at u) ∷ []) ∵ updating ! $
        use1 𝓛 (later
        (some (λ (r : Unit {0}). ((‵ (flft κ q) ⊛ ‵ ftrue) ⊛ ‵ (feq (List Val) (u ∷ []) (vunit ∷ []))) ⊛ some
        (λ (ws : Unit {0} × Unit {0}). ‵ (fsep ftrue ftrue) ⊛ ‵ ftrue)))) (id⊢ 𝓤 _) $ await ! tt $ pick ! (λ r.
        split ! $ split ! $ split ! $ at_once ! $ keep ! (2 ∷ 0 ∷ []) $ fjoin ! $ done !)

  module _ (𝓣 : Tables 𝓤 H) (met : Triple 𝓤 (𝓣.C (key E D)) Lets) (κ κ₁ : Lft) (q q₁ : Share) (short : κ ⊑ κ₁)
      (inT : κ₁ ⊑ E.row.lives)
      (rb ro : ℕ) (γ : GName) (d : (Cr E).Denot) (base : (Bs E).Denot) (count : ℕ) (us0 us1 us2 : List Val) where
    abbrev s : ℕ
    s = sz E

    abbrev self : MutBor (Cr E).Denot
    self = record { ref_ptr = (rb, ro); ghost_name = γ; now = d }

    abbrev bound : (walk_of 𝓛 (ended E D) (stayed E D) (clauses E D 𝓛 at_mem run)).Ghost
    bound = (((κ, (κ₁, tt)), (q, (q₁, tt)), (short, tt), (self, (base, (count, tt))), (us0, (us1, (us2, tt)))), tt)

    abbrev Post : Val → SProp 𝓤
    Post = (walk_of 𝓛 (ended E D) (stayed E D) (clauses E D 𝓛 at_mem run)).post bound

    exits : us0 ≡ vptr rb ro ∷ [] → (new : (Cr E).Denot) → Gives E D d count new
        → ent 𝓤 (⋆ 𝓛 (‵ (fobs γ ((Cr E).coded.code new)) ∷ ‵ (fbor κ (Borrowed (mem (Cr E)) rb ro γ)) ∷ ‵ (flft κ q)
        ∷ ‵ (flft κ₁ q₁) ∷ [])) (Post vunit)
    exits passed new gives =
        qed 𝓛 (‵ (fobs γ ((Cr E).coded.code new)) ∷ ‵ (fbor κ (Borrowed (mem (Cr E)) rb ro γ)) ∷ ‵ (flft κ q) ∷ ‵
        (flft κ₁ q₁) ∷ []) ∵
        suffices ! _ (ends_at 𝓛 (ended E D) (stayed E D) (clauses E D 𝓛 at_mem run) bound vunit tt (
          new,
          (tt, (tt, tt)),
        ) (tt, (tt, (tt, tt)))) $ says ! gives $
        nothing ! $ move ! (4 ∷ 0 ∷ []) $ join ! $ move ! (3 ∷ 0 ∷ []) $ join ! $ frame ! $
        feq_i ! (List Val) us0 (vptr rb ro ∷ []) passed $ fjoin3 ! $ nothing ! $ nothing ! $ fjoin ! $ nothing !
        $ fjoin ! $ move ! (1 ∷ 0 ∷ []) $ fjoin ! $
        feq_i ! (List Val) (vunit ∷ []) (vunit ∷ []) refl $ move ! (1 ∷ 0 ∷ []) $ done !

    -- how many values have been dropped
    abbrev Gone : Type 0
    Gone = (j : ℕ) × (j ≤ count)

    abbrev Nearer : Gone → Gone → Type 0
    Nearer t u = count - t.0 < count - u.0

    abbrev Had : List (Item 𝓤)
    Had = ‵ (fobs γ ((Cr E).coded.code d)) ∷ ‵ (fbor κ (Borrowed (mem (Cr E)) rb ro γ)) ∷ ‵ (flft κ q) ∷ ‵
        (flft κ₁ q₁) ∷ []

    module _ (passed : us0 ≡ vptr rb ro ∷ []) (asked : Asks E D d base count) (fits : count < 2 ^ 64) (l : ℕ
        → ℕ) (vs : List Val) (b o : ℕ) (e : d.at ≡ block_ptr b o) (small : length d.slots * s < 2 ^ 63) where
      abbrev En : Env 𝓤 H
      En = env (function E D).locals l

      -- the places; the block's mark, its cell and its open borrow; T's token
      abbrev Now : Gone → List (Item 𝓤)
      Now t = ‵ (row_owned (R E) b o (dropped t.0 d.slots)) ∷ ‵ ((Mark E).own_val (tt, tt) vs) ∷ ‵
          (cell_at full_share (Cr E).mir vs rb ro) ∷ ‵ (fobor κ q (Borrowed (mem (Cr E)) rb ro γ))
          ∷ ‵ (fobs γ ((Cr E).coded.code d)) ∷ ‵ (fauth γ ((Cr E).coded.code d)) ∷ ‵ (flft κ₁ q₁)
          ∷ holding 𝓛 En ((1, vptr rb ro) ∷ (2, word (block_ptr b o)) ∷ (3, vint w64 count) ∷ (4, vint w64 t.0) ∷ [])

      abbrev Turned : Gone → Out → SProp 𝓤
      Turned t =
          after_turn 𝓤 H (Below 𝓛 Nearer Now t)
          (after_block 𝓤 H (after_seq 𝓤 H (Wp 𝓤 H 𝓣.C 𝓣.Λ En (after 2 (function E D).body) (at_return 𝓤 H En Post))
          (at_return 𝓤 H En Post)))

      turns : (t : Gone) → Sq 𝓛 (Now t) (runs 𝓣.C 𝓣.Λ En (turn E D) (any_q (Turned t)))
      unfolding after_turn
      turns t =
          let j : ℕ = t.0 in let le = t.1 in let held = holds_long d.slots count asked.1 in let cs =
          dropped j d.slots in
          sets ! (bin ! (get ! refl) (get ! refl) tt) refl (tt, tt) $ first ! $ branches ! (get ! refl)
          (λ less. let h : j < count = ltb→lt j count less in
          let long = length-dropped j d.slots (omega arith) in let within : j < length cs = omega arith in
          let at = asked.1 j h in let x = at.0 in
          let word_fits = offset_fits (length d.slots) s j (omega arith) small in
          let f₁ : j + 1 < 2 ^ 64 = omega arith in let plus : j + 1 ≡ suc j = omega arith in
          skips ! $ exec ! 𝓣.C 𝓣.Λ En (after 2 (turn E D)) (any_q (Turned t)) $
          first ! $ blocks ! $
          sets ! (bin ! (get ! refl) (size_lit ! (record { fits = word_fits.0 })) (record { fits = word_fits.1 }))
          refl (tt, record { fits = word_fits.1 }) $
          sets ! (bin ! (get_in ! (fld ! refl (stop !)) (sub ! 0 refl (whole !))) (get ! refl) tt) refl (tt, tt) $
          use1 𝓛 (‵ (slot_owned (R E) b (j * s + o) (get_or cs j None)) ⊛ ‵ (others E b o cs j))
          (slot_out E 𝓛 b o cs j within) $ split ! $
          rewrite ! 0 (λ (c : Slot E). ‵ (slot_owned (R E) b (j * s + o) c)) (get_or-dropped j d.slots (omega arith)
          ∙ at.1) refl $
          use1 𝓛 (some
          (λ (v : Val). given (Good E v)
          (‵ (fat full_share (elτ E) b (j * s + o) v) ⊛ ‵ (E.row.own_val x (v ∷ [])))))
          (el_out E 𝓛 b x (j * s + o)) $
          pick ! (λ v. learn !
          (λ good. split ! $ sets_last ! (of_opd ! (load ! (through ! refl (stop !)) (look ! 0 refl))) refl good $
          exec ! 𝓣.C 𝓣.Λ En (after 3 (turn E D)) (any_q (Turned t)) $
          sets ! (of_opd ! (get ! refl)) refl good $
          sets ! (bin ! (get ! refl) (lit ! tt) (record { fits = f₁ })) refl (tt, record { fits = f₁ }) $
          -- [the value's cell; the value; the other places; the mark; the block's cell; its open borrow, in three
          -- entries; T's token]
          move ! (1 ∷ 8 ∷ []) $ use2 𝓛 (raw (Lets.pre (lets_at κ₁ q₁ x v))) (Lets-goes κ₁ q₁ x v inT) $
          calls_at_last ! (fm_of 𝓤 H 𝓛.laws 𝓣) Lets met (lets_at κ₁ q₁ x v) (and_then ! (get ! refl) (no_more !)) (λ r.
          use1 𝓛 (later (‵ (fsep (feq (List Val) (r ∷ []) (vunit ∷ [])) (flft κ₁ q₁)))) (Lets-gives κ₁ q₁ x v r)
          $ await ! tt $ fsplit ! $ feq_l ! (λ unit.
          lands_last ! refl (subst (λ (z : Val). T (has_ty ty_unit z) × WT z) (sym (the_one r vunit unit)) (tt, tt)) $
          -- [T's token; the value's cell; the other places; ..]
          move ! (1 ∷ []) $ use1 𝓛 (‵ (froom (elτ E) b (j * s + o))) (𝓛.laws.at_room (elτ E) b (j * s + o) v) $ as_raw
          ! (elτ E) b (j * s + o) $ move ! (0 ∷ 2 ∷ []) $
          use2 𝓛 (‵ (row_owned (R E) b o (set cs j None))) (slot_in E 𝓛 b o cs j within None) $
          rewrite ! 0 (λ (ds : List (Slot E)). ‵ (row_owned (R E) b o ds)) (set-dropped j d.slots (omega arith)) refl $
          move ! (0 ∷ 2 ∷ 3 ∷ 4 ∷ 5 ∷ 6 ∷ 1 ∷ []) $
          forget_but ! En (1 ∷ 2 ∷ 3 ∷ 4 ∷ []) refl $ take_at ! 4 $ rewrite ! 0
          (λ (k : ℕ). ‵ (fat full_share (ty_int w64) (l 4) zero (vint w64 k))) plus refl $ give_at ! 4 $
          again ! Nearer Now t (suc j, omega arith) (omega arith))))))
          (λ over. let ge = nltb→le j count over in let all : j ≡ count = omega arith in
          let new : (Cr E).Denot = record { mark = d.mark; at = d.at; slots = dropped count d.slots } in
          jumps ! $ exec ! 𝓣.C 𝓣.Λ En (after 2 (function E D).body) (at_ret En Post) $
          rewrite ! 0 (λ (k : ℕ). ‵ (row_owned (R E) b o (dropped k d.slots))) all refl $
          flt_i ! (length new.slots * s) (2 ^ 63)
          (subst (λ k. k * s < 2 ^ 63) (sym (length-dropped count d.slots (holds_long d.slots count asked.1)))
          small) $ fjoin ! $
          rewrite ! 0 (λ (p : Ptr). ‵ (cells_owned (R E) p new.slots)) (sym e) refl $ move ! (1 ∷ 0 ∷ []) $ fjoin !
          $ move ! (1 ∷ 0 ∷ []) $ closes ! tt (Cr E) new vs rb ro $
          sets ! (of_opd ! (unit_lit !)) refl (tt, tt) $ returns ! (look_at ! 0 refl) $ free_all ! refl $ by !
          (exits passed new (refl, refl)))

    walk : us0 ≡ vptr rb ro ∷ [] → Asks E D d base count → count < 2 ^ 64
        → ent 𝓤 (⋆ 𝓛 Had) (WpFn 𝓤 H 𝓣.C 𝓣.Λ (function E D) (vptr rb ro ∷ word base.ptr ∷ vint w64 count ∷ []) Post)
    walk passed asked fits =
        qed 𝓛 Had ∵ enter ! 𝓣.C 𝓣.Λ (function E D) (vptr rb ro ∷ word base.ptr ∷ vint w64 count ∷ []) _ $ alloc_all !
        (λ l. pass_all ! refl ((tt, tt), (word-Good [] base.ptr, ((tt, record { fits = fits }), tt))) $
        opens ! tt (Cr E) {h = d} rb ro (λ vs. move ! (1 ∷ []) $ fsplit ! $ move ! (1 ∷ []) $
        in_a_block ! d.at (λ p. cells_owned (R E) p d.slots) (id⊢ 𝓤 (never 𝓤)) (λ b o e. fsplit ! $ flt_l ! (λ small.
        take_at ! 2 $ rewrite ! 0 (λ (p : Ptr). ‵ (fat full_share (layout (Bs E)) (l 2) 0 (word p))) (asked.0
        ∙ e) refl $ give_at ! 2 $
        sets ! (of_opd ! (lit ! tt)) refl (tt, record { fits = lit< tt }) $
        first ! $ blocks ! $ loops ! 𝓣 Nearer (InvImage.wf (λ (t : Gone). count - t.0) lt-wf_rel.wf)
        (Now passed asked fits l vs b o e small) (turns passed asked fits l vs b o e small) (0, omega arith)))))

    entry : Asks E D d base count
        → ent 𝓤 (on_entry 𝓛 (ended E D).signature (κ, (κ₁, tt)) (q, (q₁, tt)) (self, (base, (count, tt))) (
          us0,
          (us1, (us2, tt)),
        )) (WpFn 𝓤 H 𝓣.C 𝓣.Λ (function E D) (us0 ++ (us1 ++ (us2 ++ []))) Post)
    entry asked =
        qed 𝓛 ((‵ (flft κ q) ⊛ ‵ (flft κ₁ q₁) ⊛ ‵ ftrue) ∷ ‵
        (owns (MutRef (named 0) κ (Cr E) ∷ Bs E ∷ usize ∷ []) (self, (base, (count, tt))) (us0, (us1, (us2, tt))))
        ∷ []) ∵
        split ! $ move ! (2 ∷ []) $ fsplit ! $ fsplit3 ! $ feq_l ! (λ e0.
        move ! (2 ∷ []) $ fsplit ! $ base_had E ! base us1 (λ e1.
        fsplit ! $ fsplit ! $ feq_l ! (λ e2. flt_l ! (λ fits.
        move ! (4 ∷ []) $ split ! $ keep ! (3 ∷ 4 ∷ 5 ∷ 0 ∷ []) $
        by ! (subst (λ (ws : List Val × List Val × List Val). ent 𝓤 (⋆ 𝓛 Had)
        (WpFn 𝓤 H 𝓣.C 𝓣.Λ (function E D) (ws.0 ++ (ws.1 ++ (ws.2 ++ []))) Post))
        (λ j. (sym e0 j, sym e1 j, sym e2 j)) (walk e0 asked fits))))))

  meets : (𝓣 : Tables 𝓤 H) → Triple 𝓤 (𝓣.C (key E D)) Lets
      → Meets 𝓛 (ended E D).signature (WpFn 𝓤 H 𝓣.C 𝓣.Λ (function E D))
      (closing 𝓛 (ended E D) (clauses E D 𝓛 at_mem run))
  meets 𝓣 met =
      walk_Meets 𝓛 (ended E D) (stayed E D) (
        Goes-ref 𝓛 2 0 tt (plain (λ _. Cr E)),
        (
          Goes-dropped 𝓛 2 (plain (λ _. Bs E)) no (λ κs x f. refl),
          (Goes-dropped 𝓛 2 (plain (λ _. usize)) yes (λ κs x f. refl), tt),
        ),
      ) (clauses E D 𝓛 at_mem run)
      (WpFn 𝓤 H 𝓣.C 𝓣.Λ (function E D)) (WpFn-mono 𝓤 H 𝓛.laws 𝓣 (function E D))
      (λ z. let κs = z.0.0 in let qs = z.0.1 in let a = z.0.3 in let vss = z.0.4 in
      both_heard 𝓤 (κs.1.0 ⊑ E.row.lives) (Asks E D a.0.now a.1.0 a.1.1.0)
      (on_entry 𝓛 (ended E D).signature κs qs a vss) (λ inT.
      entry 𝓣 met κs.0 κs.1.0 qs.0 qs.1.0 z.0.2.0 inT a.0.ref_ptr.0 a.0.ref_ptr.1 a.0.ghost_name a.0.now a.1.0 a.1.1.0
      vss.0 vss.1.0 vss.1.1.0))

pub drop_first_spec : {M : Type 1} → stated.statement M
unfolding tables_of
drop_first_spec 𝓤 𝓛 𝓜 𝓡 wired X LX D met =
    let E : El = record { row = X; laws = LX } in
    let A = 𝓛.A in
    let 𝓣 : Tables 𝓤 𝓛.H = tables_of 𝓤 𝓛.H 𝓜 (tables 𝓤 𝓛.H 𝓜 𝓡 𝓡.env) in
    entered 𝓤 𝓛.H (triple_of 𝓛 (ended E D).signature (F.spec X D 𝓛 𝓜.mem 𝓡.returns)) 𝓣.C 𝓣.Λ (#self (args E D))
    (function E D) (code.unfolded 𝓤 𝓛.H 𝓜 𝓡 wired (X, tt) D) (meets E D 𝓛 𝓜.mem 𝓡.returns 𝓣 met)
