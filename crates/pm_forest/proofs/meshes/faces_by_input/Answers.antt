use Rattle.std.proofs.Common.{◌≡◌, ℕ, ◌+◌, ◌-◌, ◌<◌, ◌≤◌, ◌∙◌, get_or, sym, subst}
use Rattle.std.proofs.Math.ListN.{set}
use Rattle.std.proofs.lemmas.List.{length-set}
use Rattle.pm_forest.specs.Faces.{face_count}
use Rattle.pm_forest.specs.Meshes.{face_input}
use Rattle.pm_forest.proofs.MeshLaws.{numbered_so, numbered_more}
use Rattle.pm_forest.proofs.meshes.faces_by_input.Goals as goal

pub loop-f-preserved : goal.loop-f-preserved
loop-f-preserved c =
    let h = c.args.h.now in
    let f = c.loop-f.f in
    let table = c.loop-f.faces.items in
    let value = c.face_input.ensures.value in
    record {
      len = length-set table (c.face_input.result - 1) f ∙ c.loop-f.invariant.len;
      each = subst (λ (n : ℕ). (i : ℕ) → i < face_count h
          → get_or (set table (n - 1) f) i 0 ≡ numbered_so (face_input h) (f + 1) i) (sym value)
          (numbered_more (face_input h) f (face_count h) table
          (subst (λ n. 0 < n) value c.face_input.ensures.some)
          (subst (λ n. n ≤ face_count h) value c.face_input.ensures.most)
          c.loop-f.invariant.len c.loop-f.invariant.each);
    }
