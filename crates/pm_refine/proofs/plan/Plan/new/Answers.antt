use Rattle.pm_refine.proofs.plan.Plan.new.Goals as goal

pub returns-clause-marks : goal.returns-clause-marks
returns-clause-marks c = c.in_ok-marks.ensures.items_if_clones_equal (λ y same. same)
