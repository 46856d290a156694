use Rattle.std.proofs.Common.{◌≡◌, ◌+◌, ◌<◌, is_some, Some, refl, sym, ap, ◌∙◌, subst, arith}
use Rattle.std.specs.Option.{option_copied}
use Rattle.pm_base.specs.Counts.{one_if}
use Rattle.pm_forest.specs.declared.parts.Record.{Record}
use Rattle.pm_forest.specs.Forest.{record_at}
use Rattle.pm_forest.specs.Faces.{first_face, face_count, revealed_by, inner_of}
use Rattle.pm_sides.proofs.FirstLaws.{right_there, right_own}
use Rattle.pm_sides.proofs.FaceLaws.{right_made}
use Rattle.pm_sides.proofs.indexed.IndexedHierarchy.right_face.Goals as goal

pub inner-requires-clause-face : goal.inner-requires-clause-face
inner-requires-clause-face c =
    let h = c.args.self.now in
    let k = c.args.k in
    let read = c.record_at-change.ensures ∙ ap (λ i. record_at i k) c.hierarchy.ensures in
    let is : (record_at h k).right ≡ Some c.in_ok-told.told.now =
    sym (c.as_ref.ensures.value ∙ ap (λ (r : Record). r.right) read)
    ∙ ap option_copied c.in_ok-told.was in
    let left = c.is_some.ensures ∙ ap (λ (r : Record). is_some r.left) read in
    let number : c.first_face.result + c.from.result
    ≡ first_face h k + one_if (is_some (record_at h k).left) =
    omega (arith, c.first_face.ensures.value, c.from.ensures ∙ ap one_if left) in
    subst (λ f. f < face_count h) (sym number) (right_there h k c.requires (ap is_some is))

pub inner-requires-clause-own : goal.inner-requires-clause-own
inner-requires-clause-own c =
    let h = c.args.self.now in
    let k = c.args.k in
    let read = c.record_at-change.ensures ∙ ap (λ i. record_at i k) c.hierarchy.ensures in
    let is : (record_at h k).right ≡ Some c.in_ok-told.told.now =
    sym (c.as_ref.ensures.value ∙ ap (λ (r : Record). r.right) read)
    ∙ ap option_copied c.in_ok-told.was in
    let left = c.is_some.ensures ∙ ap (λ (r : Record). is_some r.left) read in
    let number : c.first_face.result + c.from.result
    ≡ first_face h k + one_if (is_some (record_at h k).left) =
    omega (arith, c.first_face.ensures.value, c.from.ensures ∙ ap one_if left) in
    ap (revealed_by h) number ∙ right_own h k c.requires (ap is_some is)

pub returns-clause-face : goal.returns-clause-face
returns-clause-face c =
    let h = c.args.self.now in
    let k = c.args.k in
    let read = c.record_at-change.ensures ∙ ap (λ i. record_at i k) c.hierarchy.ensures in
    let is : (record_at h k).right ≡ Some c.in_ok-told.told.now =
    sym (c.as_ref.ensures.value ∙ ap (λ (r : Record). r.right) read)
    ∙ ap option_copied c.in_ok-told.was in
    let left = c.is_some.ensures ∙ ap (λ (r : Record). is_some r.left) read in
    let number : c.first_face.result + c.from.result
    ≡ first_face h k + one_if (is_some (record_at h k).left) =
    omega (arith, c.first_face.ensures.value, c.from.ensures ∙ ap one_if left) in
    right_made h k c.in_ok-told.told.now _ c.requires is
    (c.inner.ensures.value ∙ ap (inner_of h k) number) refl
