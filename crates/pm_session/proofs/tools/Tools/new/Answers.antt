use Rattle.pm_session.proofs.tools.Tools.new.Goals as goal

pub returns-clause-are : goal.returns-clause-are
returns-clause-are c = record {
  are_its_measures = c.in_ok-measures.ensures.are;
  room_fits = c.in_ok-refiner.ensures;
  marks_fit = c.in_ok-readers.ensures.marks;
  are_its_lists = c.in_ok-readers.ensures.lists;
  flags_fit = c.in_ok-readers.ensures.flags;
  sets_fit = c.in_ok-readers.ensures.sets;
}
