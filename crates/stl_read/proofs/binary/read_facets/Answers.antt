use Rattle.std.proofs.Common.{◌≡◌, ◌++◌, ◌∷◌, [], rules, arith}
use Rattle.stl_read.proofs.FacetLaws.{facets_next}
use Rattle.stl_read.proofs.binary.read_facets.Goals as goal

pub loop-i-preserved : goal.loop-i-preserved
loop-i-preserved c =
    let so = c.loop-i.invariant in
    let more = c.facet_at.new.reader.vertices.points.items in
    let pushed : c.push.new.self.items ≡ c.loop-i.faces.items ++ c.in-Ok-facet_at.facet ∷ [] =
    search rules in
    record {
      numbered = c.in-Ok-facet_at.ensures.numbered;
      few = c.in-Ok-facet_at.ensures.few;
      known = c.in-Ok-facet_at.ensures.known;
      marked = omega (arith, c.marked_after-attributes.ensures.few, so.marked);
      rest = rw pushed (facets_next c.args.bytes.now c.loop-i.reader.vertices.points.items
          c.loop-i.faces.items c.loop-i.attributes c.loop-i.i c.args.count _ so.rest
          more c.in-Ok-facet_at.facet c.marked_after-attributes.result
          c.loop-i-test.true c.in-Ok-facet_at.ensures.ok c.marked_after-attributes.ensures.value);
    }
