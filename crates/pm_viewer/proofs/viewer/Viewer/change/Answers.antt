use Rattle.std.proofs.Common.{◌≡◌, OnOk, OnErr, IfOk, IfErr, length, subst}
use Rattle.pm_change.specs.Arrays.{sizes_of_change, ChangeFits, BeginWith, LeavesBehind}
use Rattle.pm_session.specs.Session.{Shown, change_since}
use Rattle.pm_viewer.specs.Viewing.{Viewed}
use Rattle.pm_viewer.proofs.viewer.Viewer.change.Goals as goal

pub returns-clause-fits : goal.returns-clause-fits
returns-clause-fits c =
    let a = c.args in
    let r = c.change.result in
    let at_session = subst (λ (s : Shown). OnOk r (ChangeFits (sizes_of_change (change_since s))
    (length a.gone_faces.now) (length a.gone_nodes.now) (length a.new_nodes.now)
    (length a.new_places.now) (length a.put_faces.now) (length a.put_corners.now)))
    c.deref_mut.ensures.value c.change.ensures.fits in
    subst (λ (v : Viewed). OnOk r (ChangeFits (sizes_of_change (change_since v.shown))
    (length a.gone_faces.now) (length a.gone_nodes.now) (length a.new_nodes.now)
    (length a.new_places.now) (length a.put_faces.now) (length a.put_corners.now)))
    c.self.view_is at_session

pub returns-clause-refused : goal.returns-clause-refused
returns-clause-refused c =
    let a = c.args in
    let r = c.change.result in
    let at_session = subst (λ (s : Shown). OnErr r (ChangeFits (sizes_of_change (change_since s))
    (length a.gone_faces.now) (length a.gone_nodes.now) (length a.new_nodes.now)
    (length a.new_places.now) (length a.put_faces.now) (length a.put_corners.now) → ⊥))
    c.deref_mut.ensures.value c.change.ensures.refused in
    subst (λ (v : Viewed). OnErr r (ChangeFits (sizes_of_change (change_since v.shown))
    (length a.gone_faces.now) (length a.gone_nodes.now) (length a.new_nodes.now)
    (length a.new_places.now) (length a.put_faces.now) (length a.put_corners.now) → ⊥))
    c.self.view_is at_session

pub returns-clause-sizes : goal.returns-clause-sizes
returns-clause-sizes c =
    let r = c.change.result in
    let at_session = subst (λ (s : Shown). IfOk r (λ n. n ≡ sizes_of_change (change_since s)))
    c.deref_mut.ensures.value c.change.ensures.sizes in
    subst (λ (v : Viewed). IfOk r (λ n. n ≡ sizes_of_change (change_since v.shown)))
    c.self.view_is at_session

pub returns-clause-wanted : goal.returns-clause-wanted
returns-clause-wanted c =
    let r = c.change.result in
    let at_session = subst (λ (s : Shown). IfErr r (λ n. n ≡ sizes_of_change (change_since s)))
    c.deref_mut.ensures.value c.change.ensures.wanted in
    subst (λ (v : Viewed). IfErr r (λ n. n ≡ sizes_of_change (change_since v.shown)))
    c.self.view_is at_session

pub returns-clause-arrays : goal.returns-clause-arrays
returns-clause-arrays c =
    let n = c.change.new in
    let r = c.change.result in
    let at_session = subst (λ (s : Shown). OnOk r (BeginWith (change_since s) n.gone_faces
    n.gone_nodes n.new_nodes n.new_places n.put_faces n.put_corners))
    c.deref_mut.ensures.value c.change.ensures.arrays in
    subst (λ (v : Viewed). OnOk r (BeginWith (change_since v.shown) n.gone_faces n.gone_nodes
    n.new_nodes n.new_places n.put_faces n.put_corners))
    c.self.view_is at_session

pub returns-clause-behind : goal.returns-clause-behind
returns-clause-behind c =
    let a = c.args in
    let n = c.change.new in
    let r = c.change.result in
    let at_session = subst (λ (s : Shown). OnOk r (LeavesBehind (change_since s) a.gone_faces.now
    a.gone_nodes.now a.new_nodes.now a.new_places.now a.put_faces.now a.put_corners.now
    n.gone_faces n.gone_nodes n.new_nodes n.new_places n.put_faces n.put_corners))
    c.deref_mut.ensures.value c.change.ensures.behind in
    subst (λ (v : Viewed). OnOk r (LeavesBehind (change_since v.shown) a.gone_faces.now
    a.gone_nodes.now a.new_nodes.now a.new_places.now a.put_faces.now a.put_corners.now
    n.gone_faces n.gone_nodes n.new_nodes n.new_places n.put_faces n.put_corners))
    c.self.view_is at_session
