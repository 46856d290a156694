use Rattle.std.proofs.Common.{◌≡◌, length, IfOk, IfErr, OnOk, OnErr, subst}
use Rattle.pm_base.specs.Counts.{set_of}
use Rattle.pm_change.specs.declared.fitting.ChangeSizes.{ChangeSizes}
use Rattle.pm_change.specs.Changes.{Change}
use Rattle.pm_change.specs.Arrays.{sizes_of_change, ChangeFits, BeginWith, LeavesBehind}
use Rattle.pm_change.proofs.StoreLaws.{change_in-is, puts_kept}
use Rattle.pm_change.proofs.changer.Changer.store.Goals as goal

pub store_sets-told-requires-clause-kept : goal.store_sets-told-requires-clause-kept
store_sets-told-requires-clause-kept c =
    puts_kept c.args.front.now.h (set_of c.args.front.now.flags) c.gather_uncounted.new.sets
    (set_of c.args.marks.now) c.gather_uncounted.ensures

pub returns-clause-fits : goal.returns-clause-fits
returns-clause-fits c =
    let a = c.args in
    subst (λ (d : Change). OnOk c.store_sets-told.result (ChangeFits (sizes_of_change d)
    (length a.gone_faces.now) (length a.gone_nodes.now) (length a.new_nodes.now)
    (length a.new_places.now) (length a.put_faces.now) (length a.put_corners.now)))
    (change_in-is a.front.now.h (set_of a.front.now.flags) c.gather_uncounted.new.sets
    (set_of a.marks.now) c.gather_uncounted.ensures) c.store_sets-told.ensures.fits

pub returns-clause-refused : goal.returns-clause-refused
returns-clause-refused c =
    let a = c.args in
    subst (λ (d : Change). OnErr c.store_sets-told.result (ChangeFits (sizes_of_change d)
    (length a.gone_faces.now) (length a.gone_nodes.now) (length a.new_nodes.now)
    (length a.new_places.now) (length a.put_faces.now) (length a.put_corners.now) → ⊥))
    (change_in-is a.front.now.h (set_of a.front.now.flags) c.gather_uncounted.new.sets
    (set_of a.marks.now) c.gather_uncounted.ensures) c.store_sets-told.ensures.refused

pub returns-clause-sizes : goal.returns-clause-sizes
returns-clause-sizes c =
    let a = c.args in
    subst (λ (d : Change). IfOk c.store_sets-told.result (λ (s : ChangeSizes). s
    ≡ sizes_of_change d))
    (change_in-is a.front.now.h (set_of a.front.now.flags) c.gather_uncounted.new.sets
    (set_of a.marks.now) c.gather_uncounted.ensures) c.store_sets-told.ensures.sizes

pub returns-clause-wanted : goal.returns-clause-wanted
returns-clause-wanted c =
    let a = c.args in
    subst (λ (d : Change). IfErr c.store_sets-told.result (λ (s : ChangeSizes). s
    ≡ sizes_of_change d))
    (change_in-is a.front.now.h (set_of a.front.now.flags) c.gather_uncounted.new.sets
    (set_of a.marks.now) c.gather_uncounted.ensures) c.store_sets-told.ensures.wanted

pub returns-clause-arrays : goal.returns-clause-arrays
returns-clause-arrays c =
    let a = c.args in
    let n = c.store_sets-told.new in
    subst (λ (d : Change). OnOk c.store_sets-told.result (BeginWith d n.gone_faces n.gone_nodes
    n.new_nodes n.new_places n.put_faces n.put_corners))
    (change_in-is a.front.now.h (set_of a.front.now.flags) c.gather_uncounted.new.sets
    (set_of a.marks.now) c.gather_uncounted.ensures) c.store_sets-told.ensures.arrays

pub returns-clause-behind : goal.returns-clause-behind
returns-clause-behind c =
    let a = c.args in
    let n = c.store_sets-told.new in
    subst (λ (d : Change). OnOk c.store_sets-told.result (LeavesBehind d a.gone_faces.now
    a.gone_nodes.now a.new_nodes.now a.new_places.now a.put_faces.now a.put_corners.now
    n.gone_faces n.gone_nodes n.new_nodes n.new_places n.put_faces n.put_corners))
    (change_in-is a.front.now.h (set_of a.front.now.flags) c.gather_uncounted.new.sets
    (set_of a.marks.now) c.gather_uncounted.ensures) c.store_sets-told.ensures.behind
