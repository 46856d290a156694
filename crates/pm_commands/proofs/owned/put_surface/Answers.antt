use Rattle.std.proofs.Common.{sym, subst}
use Rattle.pm_base.specs.Meshes.{Mesh, IsWellFormed}
use Rattle.pm_base.specs.Canonical.{canonical_text}
use Rattle.pm_io.specs.Puts.{Puts}
use Rattle.pm_commands.proofs.owned.put_surface.Goals as goal

pub write_obj-requires-clause-formed : goal.write_obj-requires-clause-formed
write_obj-requires-clause-formed g c =
    subst (λ (m : Mesh). IsWellFormed m) (sym c.mesh.ensures) c.invariant.ensures.formed

pub returns : goal.returns
returns g c =
    subst (λ (m : Mesh). Puts g.K.Sink c.args.out.now c.write_obj.new.out
    (canonical_text c.args.digits m) c.write_obj.result) c.mesh.ensures c.write_obj.ensures
