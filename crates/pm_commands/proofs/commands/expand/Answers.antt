use Rattle.std.proofs.Common.{[], None, refl, subst}
use Rattle.std.proofs.lemmas.Result.{err_from_is_err_and}
use Rattle.pm_io.specs.Bytes.{Gains, GainsPart}
use Rattle.pm_base.specs.Meshes.{Mesh}
use Rattle.pm_base.specs.Canonical.{canonical_text}
use Rattle.pm_forest.specs.Meshes.{input_mesh_of}
use Rattle.pm_commands.specs.declared.asked.Asked.TheVariants as asked
use Rattle.pm_commands.specs.Beginning.{IsHierarchyText}
use Rattle.pm_commands.specs.Ran.{whole_output}
use Rattle.pm_commands.proofs.OutcomeLaws.{ends_stopped, counts_stopped, ends_all, ends_part}
use Rattle.pm_commands.proofs.OutcomeLaws.{follows_done}
use Rattle.pm_commands.proofs.commands.expand.Goals as goal

pub returns-in_err-stream-clause-ends : goal.returns-in_err-stream-clause-ends
returns-in_err-stream-clause-ends g c =
    let p = err_from_is_err_and c.from_residual.result c.from_residual.ensures.1 in
    rw (p.1, p.2)
    (ends_stopped asked.Expand IsHierarchyText
    (λ o. whole_output (canonical_text o.digits (input_mesh_of o.h))) (λ x. refl)
    (λ taken. refl) (λ bytes all is. is) (λ bytes all is. is) c.in_err-stream.field-0.0 _ _ _ _
    _ c.in_err-stream.ensures.err)

pub returns-in_err-stream-clause-counts : goal.returns-in_err-stream-clause-counts
returns-in_err-stream-clause-counts g c =
    let p = err_from_is_err_and c.from_residual.result c.from_residual.ensures.1 in
    rw (p.1, p.2)
    (counts_stopped IsHierarchyText c.in_err-stream.field-0.0 _ _ _ _ _
    c.in_err-stream.ensures.err)

pub returns-clause-ends : goal.returns-clause-ends
returns-clause-ends g c =
    ends_all asked.Expand _ _ _
    (whole_output
    (canonical_text c.in_ok-stream.stream.digits (input_mesh_of c.in_ok-stream.stream.h))) None
    (follows_done IsHierarchyText
    (λ o. whole_output (canonical_text o.digits (input_mesh_of o.h))) _
    (record { digits = c.in_ok-stream.stream.digits; h = c.in_ok-stream.stream.h; rest = [] })
    None c.in_ok-stream.ensures.read) refl
    (subst (λ (m : Mesh). Gains (g.K.Sink.got c.args.out.now) (g.K.Sink.got c.put_mesh.new.out)
    (canonical_text c.in_ok-stream.stream.digits m)) c.in_ok-mesh.ensures.mesh
    c.in_ok-put_mesh.ensures.ok)

pub returns-in_err-put_mesh-clause-ends : goal.returns-in_err-put_mesh-clause-ends
returns-in_err-put_mesh-clause-ends g c =
    let p = err_from_is_err_and c.from_residual-in_err-put_mesh.result
    c.from_residual-in_err-put_mesh.ensures.1 in
    rw (p.1, p.2)
    (ends_part asked.Expand _ _ _
    (whole_output
    (canonical_text c.in_ok-stream.stream.digits (input_mesh_of c.in_ok-stream.stream.h)))
    (follows_done IsHierarchyText
    (λ o. whole_output (canonical_text o.digits (input_mesh_of o.h))) _
    (record { digits = c.in_ok-stream.stream.digits; h = c.in_ok-stream.stream.h; rest = [] })
    None c.in_ok-stream.ensures.read)
    (subst (λ (m : Mesh). GainsPart (g.K.Sink.got c.args.out.now) (g.K.Sink.got c.put_mesh.new.out)
    (canonical_text c.in_ok-stream.stream.digits m)) c.in_ok-mesh.ensures.mesh
    c.in_err-put_mesh.ensures.err))

pub returns-in_err-mesh-clause-ends : goal.returns-in_err-mesh-clause-ends
returns-in_err-mesh-clause-ends g c =
    let p = err_from_is_err_and c.from_residual-in_err-mesh.result
    c.from_residual-in_err-mesh.ensures.1 in
    rw (p.1, p.2) refl

pub returns-in_err-mesh-clause-counts : goal.returns-in_err-mesh-clause-counts
returns-in_err-mesh-clause-counts g c =
    let p = err_from_is_err_and c.from_residual-in_err-mesh.result
    c.from_residual-in_err-mesh.ensures.1 in
    rw (p.1, p.2) (c.in_ok-stream.ensures.count, refl)

pub returns-in_err-put_mesh-clause-counts : goal.returns-in_err-put_mesh-clause-counts
returns-in_err-put_mesh-clause-counts g c =
    let p = err_from_is_err_and c.from_residual-in_err-put_mesh.result
    c.from_residual-in_err-put_mesh.ensures.1 in
    rw (p.1, p.2) (c.in_ok-stream.ensures.count, c.in_err-put_mesh.ensures.cause.failed)
