use Rattle.pm_front.proofs.FlagLaws.{none_yet, none_yet_value}
use Rattle.pm_front.proofs.members.Members.new.Goals as goal

pub invariant_of-result : goal.invariant_of-result
invariant_of-result c =
    none_yet c.in_ok-numbers.numbers c.args.bound c.requires c.in_ok-numbers.ensures

pub returns : goal.returns
returns c = none_yet_value c.in_ok-numbers.numbers c.args.bound c.in_ok-numbers.ensures
