use Rattle.std.proofs.Common.{◌≡◌, ◌<◌, ◌≤◌, ℕ, Bool, true, false, length, map, refl, sym, ap, ◌∙◌}
use Rattle.std.proofs.Common.{subst, arith}
use Rattle.std.specs.List.{flat_map}
use Rattle.std.proofs.lemmas.Result.{err_from_is_err_and}
use Rattle.pm_io.proofs.PutLaws.{through_done, through_failed}
use Rattle.pm_base.specs.Counts.{set_of}
use Rattle.pm_forest.specs.Faces.{face_count}
use Rattle.pm_strips.specs.Strips.{listed_nodes}
use Rattle.pm_strips.specs.Shown.{beyond_in, node_of_corner, strip_line}
use Rattle.pm_strips.proofs.SideLaws.{flag_read}
use Rattle.pm_strips.proofs.Entering.{part_as, through_as}
use Rattle.pm_strips.proofs.Stripping.{stripping_none, stripping_more, stripping_pass}
use Rattle.pm_strips.proofs.Stripping.{stripping_cut, stripping_all, shown_strips}
use Rattle.pm_strips.proofs.stripper.put_strips.Goals.{then-index+in_ok-put_strip, else-index}
use Rattle.pm_strips.proofs.stripper.put_strips.Goals as goal

pub loop-face-init : goal.loop-face-init
loop-face-init g c =
    let h = c.args.front.now.h in
    let T = set_of c.args.front.now.flags in
    let free = set_of c.args.free.now.items in
    record {
      so_far =
          stripping_none (beyond_in h T) (node_of_corner h T) (face_count h) free free _ _ refl;
      len = refl;
      count = refl;
    }

pub put_strip-requires-clause-there : goal.put_strip-requires-clause-there
put_strip-requires-clause-there g c =
    let h = c.args.front.now.h in
    let f : ℕ = c.loop-face.face in
    let faces : c.faces-face-end.result ≡ face_count h =
    c.faces-face-end.ensures.value ∙ ap face_count c.hierarchy.ensures in
    let low : f < length c.loop-face.free.items =
    omega (arith, c.loop-face-test.true, faces, c.loop-face.invariant.len, c.requires.len) in
    let free = flag_read c.loop-face.free.items f c.index.result.now true low c.index.ensures
    c.if-index.true in
    ap (λ (fs : ℕ → Bool). fs f) (sym c.requires.free) ∙ c.loop-face.invariant.so_far.left f free

pub returns-in_err-put_strip-clause-puts : goal.returns-in_err-put_strip-clause-puts
returns-in_err-put_strip-clause-puts g c =
    let p = err_from_is_err_and c.from_residual.result c.from_residual.ensures.1 in
    let h = c.args.front.now.h in
    let T = set_of c.args.front.now.flags in
    let f : ℕ = c.loop-face.face in
    let faces : c.faces-face-end.result ≡ face_count h =
    c.faces-face-end.ensures.value ∙ ap face_count c.hierarchy.ensures in
    let low : f < length c.loop-face.free.items =
    omega (arith, c.loop-face-test.true, faces, c.loop-face.invariant.len, c.requires.len) in
    let free = flag_read c.loop-face.free.items f c.index.result.now true low c.index.ensures
    c.if-index.true in
    let part = part_as _ _ _ _ _
    (ap (λ ss. flat_map strip_line (map (listed_nodes (node_of_corner h T)) ss))
    (sym (shown_strips h T (set_of c.args.free.now.items) c.requires.free)))
    (stripping_cut (beyond_in h T) (node_of_corner h T) (face_count h) f
    (set_of c.args.free.now.items) (set_of c.loop-face.free.items) c.loop-face.strips _ _ _ _ _
    (omega (arith, c.loop-face-test.true, faces)) free
    c.loop-face.invariant.so_far c.in_err-put_strip.ensures.puts.err) in
    rw (p.1, p.2)
    (through_failed g.K.Sink c.args.out.now c.loop-face.out _ _ _ _ _ part
    c.loop-face.invariant.count c.in_err-put_strip.ensures.puts.cause)

pub loop-face-preserved : goal.loop-face-preserved
loop-face-preserved g c =
    let h = c.args.front.now.h in
    let T = set_of c.args.front.now.flags in
    let f : ℕ = c.loop-face.face in
    let faces : c.faces-face-end.result ≡ face_count h =
    c.faces-face-end.ensures.value ∙ ap face_count c.hierarchy.ensures in
    let below : f < face_count h = omega (arith, c.loop-face-test.true, faces) in
    let low : f < length c.loop-face.free.items =
    omega (arith, below, c.loop-face.invariant.len, c.requires.len) in
    elim c.if-index.branch [
      | then-index+in_ok-put_strip w ↦
          let free = flag_read c.loop-face.free.items f c.index.result.now true low c.index.ensures
          w.if-index.true in
          rw (w.out-is, w.page-is, w.free-is, w.strips-is) (record {
            so_far = stripping_more (beyond_in h T) (node_of_corner h T) (face_count h) f
                (set_of c.args.free.now.items) (set_of c.loop-face.free.items) c.loop-face.strips
                _ _ _ _ _ _ _ below free w.in_ok-put_strip.ensures.left c.loop-face.invariant.so_far
                w.in_ok-put_strip.ensures.puts.ok;
            len = w.in_ok-put_strip.ensures.len ∙ c.loop-face.invariant.len;
            count = w.in_ok-put_strip.ensures.puts.cause.same ∙ c.loop-face.invariant.count;
          })
      | else-index w ↦
          let taken = flag_read c.loop-face.free.items f c.index.result.now false low
          c.index.ensures w.if-index.false in
          rw (w.out-is, w.page-is, w.free-is, w.strips-is) (record {
            so_far = stripping_pass (beyond_in h T) (node_of_corner h T) (face_count h) f
                (set_of c.args.free.now.items) (set_of c.loop-face.free.items) c.loop-face.strips _
                _ _ _ below taken c.loop-face.invariant.so_far;
            len = c.loop-face.invariant.len;
            count = c.loop-face.invariant.count;
          })
    ]

pub returns-clause-puts : goal.returns-clause-puts
returns-clause-puts g c =
    let h = c.args.front.now.h in
    let T = set_of c.args.front.now.flags in
    let faces : c.faces-face-end.result ≡ face_count h =
    c.faces-face-end.ensures.value ∙ ap face_count c.hierarchy.ensures in
    let past : face_count h ≤ c.loop-face.face = omega (arith, faces, c.loop-face-test.false) in
    let all = through_as _ _ _ _ _ _
    (ap (λ ss. flat_map strip_line (map (listed_nodes (node_of_corner h T)) ss))
    (sym (shown_strips h T (set_of c.args.free.now.items) c.requires.free)))
    (stripping_all (beyond_in h T) (node_of_corner h T) (face_count h) c.loop-face.face
    (set_of c.args.free.now.items) (set_of c.loop-face.free.items) c.loop-face.strips _ _ _ _
    past c.loop-face.invariant.so_far).0 in
    through_done g.K.Sink c.args.out.now _ _ _ _ _ all c.loop-face.invariant.count

pub returns-clause-count : goal.returns-clause-count
returns-clause-count g c =
    let h = c.args.front.now.h in
    let T = set_of c.args.front.now.flags in
    let faces : c.faces-face-end.result ≡ face_count h =
    c.faces-face-end.ensures.value ∙ ap face_count c.hierarchy.ensures in
    let past : face_count h ≤ c.loop-face.face = omega (arith, faces, c.loop-face-test.false) in
    subst (λ ss. c.loop-face.strips ≡ length (map (listed_nodes (node_of_corner h T)) ss))
    (shown_strips h T (set_of c.args.free.now.items) c.requires.free)
    (stripping_all (beyond_in h T) (node_of_corner h T) (face_count h) c.loop-face.face
    (set_of c.args.free.now.items) (set_of c.loop-face.free.items) c.loop-face.strips _ _ _ _
    past c.loop-face.invariant.so_far).1
