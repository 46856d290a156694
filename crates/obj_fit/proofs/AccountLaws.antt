-- The numbers that are said of a mesh account for each vertex and triangle of its text.
use Rattle.std.proofs.Common.{◌≡◌, length, sym, subst, arith}
use Rattle.std.specs.List.{All}
use Rattle.obj_prepare.specs.Named.{AreVerticesBelow, of_three}
use Rattle.obj_prepare.proofs.AccountLaws.{accounts_close}
use Rattle.obj_prepare.proofs.PlacingLaws.{length-places_of}
use Rattle.obj_prepare.proofs.ThreeLaws.{three_few, three_all}
use Rattle.obj_fit.specs.Outcome.{cut_in, places_in}
use Rattle.obj_fit.specs.Laws.{TextsAreAccounted}
use Rattle.obj_fit.proofs.RecutLaws.{cut_below, cut_long}
use Rattle.obj_fit.proofs.SoundLaws.{meaning_sound}

pub texts_are_accounted : TextsAreAccounted
texts_are_accounted size bytes s done means k =
    let cut = cut_in size s in
    let three = of_three cut in
    let within = (meaning_sound bytes s means).within in
    let long : length (places_in size s)
    ≡ length s.points = length-places_of size s.points (of_three s.faces) in
    let corners = three_all (AreVerticesBelow (length s.points)) cut (cut_below size s within) in
    let close = accounts_close (places_in size s) three k.mesh k.notes
    (subst (λ n. All (AreVerticesBelow n) three) (sym long) corners) k.prepared in
    record {
      triangles = omega (arith, close.triangles_are, three_few cut, cut_long size s within);
      split_few = close.split_few;
      vertices = omega (arith, close.vertices_are, long);
    }
