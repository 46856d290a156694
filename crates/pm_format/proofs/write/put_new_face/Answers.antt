use Rattle.std.proofs.Common.{refl, sym, subst}
use Rattle.pm_io.specs.Bytes.{GainsThrough}
use Rattle.pm_io.proofs.PageLaws.{through_none}
use Rattle.pm_io.proofs.PutLaws.{through_done}
use Rattle.pm_format.specs.Words.{spelled}
use Rattle.pm_format.specs.Stream.{new_face_words}
use Rattle.pm_format.proofs.write.put_new_face.Goals as goal

pub returns-in-None : goal.returns-in-None
unfolding spelled
returns-in-None g c =
    let got = g.K.Sink.got c.args.out.now in
    let page = c.args.page.now in
    let none = subst (λ new. GainsThrough got got page page (spelled (new_face_words new)))
    (sym c.in-None.is) (through_none got page) in
    through_done g.K.Sink c.args.out.now c.args.out.now page page _ _ none refl
