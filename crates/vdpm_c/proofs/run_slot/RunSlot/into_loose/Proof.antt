-- `into_loose` hands it over again. Assumes `Logic`.
use Rattle.std.proofs.Common.{◌≡◌, List, [], ◌∷◌, ◌++◌, refl, subst, Some, Option, IsSome}
use mir.Syntax.{Fn}
use mir.Raw.{raw as bare}
use mir.Val.{Val, vptr}
use base.Logic.{SProp, emp, never, fst∗}
use prog.Wp.{Env, WpFn}
use contract.Monad.{fact, fact_i}
use contract.Running.{tables}
use types.Logic.{sem}
use types.Kit.{‵, raw, rewrite, ◌⊛◌, prop, ◌$◌, ◌∵◌, !, qed, by, move, drop, use0, split, regoal}
use types.Kit.{fsplit, fjoin}
use types.Part.{whole, sub, agg}
use types.Run.{stop, fld, of_opd, no_more, and_then, returns, enter}
use types.ByLocal.{alloc_all, pass_all, free_all, look_at, get, get_in, sets, env}
use denote.RattleType.{owns}
use denote.Memory.{lone}
use denote.RawPtr.{Ptr, block_ptr, null_ptr, ptr_val, in_a_block}
use denote.Signature.{types_at}
use denote.Steps.{nothing, heard}
use denote.Triple.Entry.{alive}
use denote.Triple.Walked.{Stays, stay_dropped, walk_of}
use Rattle.core.proofs.alloc.Calls.{Goes-blank}
use Rattle.std.proofs.raw_atomic.Walks.{proved_at, leaves}
use Rattle.std.proofs.alloc.Global.TheLaws as heap_laws
use Rattle.std.specs.contracts.impls.GlobalAllocator.TheImpl.{ghosts}
use Rattle.vdpm_c.proofs.SlotValues.{slot_at, Z, some_of}
use Rattle.vdpm_c.proofs.Values.{both, Loose, loose_good, loose_in}
use Rattle.vdpm_c.proofs.RunValues.{R, slot_out}
use Rattle.std_alloc.specs.Box.Ownership.{box_owns}
use Rattle.vdpm_c.specs.Held.{held}
use Rattle.pm_commands.specs.Stepwise.{SteppedRun}
use Rattle.vdpm_c.specs.contracts.run_slot.RunSlot.into_loose.{ended, clauses}
use Rattle.vdpm_c.specs.contracts.run_slot.RunSlot.into_loose.Key.{name as #self}
use Rattle.vdpm_c.proofs.run_slot.RunSlot.into_loose.Statement.{statement}
use Rattle.vdpm_c.proofs.run_slot.RunSlot.into_loose.Code as compiled

pub into_loose_spec : {M : Type 1} → statement M
into_loose_spec 𝓤 𝓛 𝓜 𝓡 wired =
    let H = 𝓛.H in
    let En₀ = ended in
    let c = clauses 𝓛 𝓜.mem 𝓡.returns in
    let fn : Fn = compiled.function in
    let stays : Stays En₀.signature.params En₀.kept = (
      stay_dropped
          (slot_at 0 En₀.signature.params) En₀.kept.0,
      tt,
    ) in
    let C = (tables 𝓤 H 𝓜 𝓡 𝓡.env).C in
    let Λ = (tables 𝓤 H 𝓜 𝓡 𝓡.env).Λ in
    proved_at 𝓛 En₀ stays c 𝓜 𝓡 (
      Goes-blank 𝓛 0 (slot_at 0 En₀.signature.params) En₀.kept.0
          (λ κs x f. tt),
      tt,
    ) #self fn (compiled.unfolded 𝓤 H 𝓜 𝓡 wired) (λ z are.
    let Post : Val → SProp 𝓤 = (walk_of 𝓛 En₀ stays c).post z in
    let a = z.0.3 in
    let vss = z.0.4 in
    let d = a.0 in
    let LZ = heap_laws.the_row_laws in
    qed 𝓛 ((raw (alive 𝓛 En₀.signature z.0.0 z.0.1) ⊛ ‵ (owns
    (types_at En₀.signature.params z.0.0) a vss)) ∷ raw (fact 𝓤
    (IsSome d.value)) ∷ []) ∵ move ! (1 ∷ []) $ heard ! (IsSome d.value)
    (λ there. let x : SteppedRun = (some_of d.value there).0 in let is : d.value ≡ Some x =
    (some_of d.value there).1 in split ! $ move ! (1 ∷ []) $
    fsplit ! $ move ! (1 ∷ []) $ drop ! $ slot_out ! d vss.0 (λ h told fits. rewrite ! 0 (λ
    (o : Option SteppedRun). ‵ (held (ghosts.dealloc_token d.alloc) R d.at o)) is refl $
    in_a_block ! d.at (λ p. box_owns (ghosts.dealloc_token d.alloc) R p x) (fst∗ 𝓤 (never 𝓤)
    (sem 𝓛 (ghosts.dealloc_token d.alloc (bare (lone R.mir)) null_ptr))) (λ b o e.
    let good = loose_good R Z LZ ghosts b o h fits in
    let made : (Loose R Z LZ ghosts).Denot = record {
      at = block_ptr b o;
      alloc = d.alloc;
      value =
          x;
    } in
    let spelled : vss.0 ≡ both (vptr b o) h ∷ [] = subst (λ (p : Ptr). vss.0 ≡ both
    (ptr_val p) h ∷ []) e told in
    regoal ! (λ (us : List Val). prop (WpFn 𝓤 H C Λ fn us Post)) (λ i. spelled i ++ []) refl $
    enter ! C Λ fn (both (vptr b o) h ∷ []) Post $
    alloc_all ! (λ l. pass_all ! refl (good, tt) $ let En : Env 𝓤 𝓛.H = env fn.locals l in
    sets ! (of_opd ! (get_in ! (fld ! refl (stop !)) (sub ! 0 refl (whole !)))) refl (tt, tt) $
    sets ! (of_opd ! (get_in ! (fld ! refl (stop !)) (sub ! 1 refl (whole !)))) refl fits $
    sets ! (of_opd ! (get ! refl)) refl (tt, tt) $
    sets ! (agg ! (and_then ! (get ! refl) (and_then ! (get ! refl) (no_more !)))) refl good $
    returns ! (look_at ! 0 refl) $ free_all ! refl $
    loose_in R Z LZ ghosts ! b o h d.alloc x $ use0 𝓛 (raw (fact 𝓤 (d.value ≡ Some x))) (fact_i 𝓤
    (d.value ≡ Some x) (emp 𝓤) is) $ nothing ! $ nothing ! $ fjoin ! $ move !
    (3 ∷ 0 ∷ 2 ∷ 1 ∷ []) $
    by ! (leaves 𝓛 En₀ stays c z (both (vptr b o) h) made (tt, tt) (tt, tt)))))))
