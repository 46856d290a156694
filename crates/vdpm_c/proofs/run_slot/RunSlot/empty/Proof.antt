-- `empty` owns nothing beside its fields. Assumes `Logic`.
use Rattle.std.proofs.Common.{◌≡◌, List, [], ◌∷◌, ◌++◌, refl, lit<, true, None}
use mir.Syntax.{Fn}
use mir.Val.{Val, has_ty}
use base.Logic.{SProp, emp}
use base.Fml.{ftrue}
use prog.Wp.{Env, WpFn}
use contract.Monad.{fact, fact_i}
use contract.Running.{tables}
use types.Kit.{‵, raw, ◌⊛◌, prop, ◌$◌, ◌∵◌, !, qed, by, move, drop, use0, split, regoal, fsplit}
use types.Kit.{fjoin, rewrite}
use types.Part.{agg}
use types.Run.{no_more, and_then, returns, enter, lit}
use types.ByLocal.{alloc_all, pass_all, free_all, look_at, get, sets, env}
use denote.RattleType.{owns}
use denote.RawPtr.{null_ptr, ptr_val}
use denote.Param.{layout}
use denote.Signature.{types_at}
use denote.Steps.{nothing}
use denote.Triple.Entry.{alive}
use denote.Triple.Walked.{Stays, stay_dropped, walk_of}
use Rattle.core.proofs.alloc.Calls.{Goes-blank}
use Rattle.core.proofs.cell.Inside.{Good, one}
use Rattle.std.proofs.raw_atomic.Walks.{proved_at, leaves}
use Rattle.std.proofs.alloc.Global.TheLaws as heap_laws
use Rattle.vdpm_c.proofs.SlotValues.{slot_at, Z}
use Rattle.vdpm_c.proofs.Values.{both, both_tt}
use Rattle.vdpm_c.proofs.RunValues.{slot_in}
use Rattle.vdpm_c.specs.contracts.run_slot.RunSlot as slot
use Rattle.vdpm_c.specs.contracts.run_slot.RunSlot.empty.{ended, clauses}
use Rattle.vdpm_c.specs.contracts.run_slot.RunSlot.empty.Key.{name as #self}
use Rattle.vdpm_c.proofs.run_slot.RunSlot.empty.Statement.{statement}
use Rattle.vdpm_c.proofs.run_slot.RunSlot.empty.Code as compiled

pub empty_spec : {M : Type 1} → statement M
empty_spec 𝓤 𝓛 𝓜 𝓡 wired =
    let H = 𝓛.H in
    let En₀ = ended in
    let c = clauses 𝓛 𝓜.mem 𝓡.returns in
    let fn : Fn = compiled.function in
    let stays : Stays En₀.signature.params En₀.kept = (
      stay_dropped
          (slot_at 0 En₀.signature.params) En₀.kept.0,
      tt,
    ) in
    let C = (tables 𝓤 H 𝓜 𝓡 𝓡.env).C in
    let Λ = (tables 𝓤 H 𝓜 𝓡 𝓡.env).Λ in
    proved_at 𝓛 En₀ stays c 𝓜 𝓡 (
      Goes-blank 𝓛 0 (slot_at 0 En₀.signature.params) En₀.kept.0
          (λ κs x f. tt),
      tt,
    ) #self fn (compiled.unfolded 𝓤 H 𝓜 𝓡 wired) (λ z are.
    let Post : Val → SProp 𝓤 = (walk_of 𝓛 En₀ stays c).post z in
    let a = z.0.3 in
    let vss = z.0.4 in
    let LZ = heap_laws.the_row_laws in
    let h = one (layout Z) vss.0 ((LZ.lawful 𝓛).typed a.0 vss.0 are.0) in
    let w : Val = both (ptr_val null_ptr) h.0 in
    let good : Good (layout slot.the_row) w = (
      both_tt true (has_ty (layout Z) h.0) tt h.2.0,
      (record { fits = lit< tt }, (h.2.1, tt)),
    ) in
    let made : slot.the_row.Denot = record { at = null_ptr; alloc = a.0; value = None } in
    qed 𝓛 ((raw (alive 𝓛 En₀.signature z.0.0 z.0.1) ⊛ ‵ (owns
    (types_at En₀.signature.params z.0.0) a vss)) ∷ ‵ ftrue ∷ []) ∵ move ! (1 ∷ []) $
    drop ! $ split ! $ move ! (1 ∷ []) $
    fsplit ! $ move ! (1 ∷ []) $ drop ! $ rewrite ! 0 (λ (us : List Val). ‵
    (Z.own_val a.0 us)) h.1 refl $
    regoal ! (λ (us : List Val). prop (WpFn 𝓤 H C Λ fn us Post)) (λ i. h.1 i ++ []) refl $
    enter ! C Λ fn (h.0 ∷ []) Post $
    alloc_all ! (λ l. pass_all ! refl (h.2, tt) $ let En : Env 𝓤 𝓛.H = env fn.locals l in
    sets ! (agg ! (and_then ! (lit ! tt) (and_then ! (get ! refl) (no_more !)))) refl good $
    returns ! (look_at ! 0 refl) $ free_all ! refl $
    nothing ! $ slot_in ! null_ptr h.0 a.0 None $ use0 𝓛 (raw (fact 𝓤 (made.value ≡ None)))
    (fact_i 𝓤 (made.value ≡ None) (emp 𝓤) refl) $ nothing ! $ nothing ! $ fjoin ! $ move !
    (3 ∷ 0 ∷ 2 ∷ 1 ∷ []) $
    by ! (leaves 𝓛 En₀ stays c z w made (tt, tt) (tt, tt))))
