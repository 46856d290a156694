use Rattle.obj_prepare.specs.Firsts.{AreFirsts}
use Rattle.obj_prepare.proofs.JoiningLaws.{AreNames}
use Rattle.obj_prepare.proofs.joining.joined.Given as goal

abbrev pub invariant-loop-v : goal.invariant-loop-v
invariant-loop-v l = record {
  firsts : AreFirsts l.places l.faces l.v l.firsts;
  names : AreNames l.places l.faces l.v l.names.items;
}
