-- The laws of fronts, each from the lemmas on its subject.
use Rattle.std.proofs.Common.{arith}
use Rattle.std.proofs.lemmas.Grind.{common_steps}
use Rattle.pm_forest.specs.Laws as law
use Rattle.pm_forest.proofs.Ancestors.{active-ancestor, holds-ancestor_of, ancestor_of-unique, deep}
use Rattle.pm_forest.proofs.Ancestors.{shallow, below-front}
use Rattle.pm_forest.proofs.Active.{is_active-true, is_active-from}
use Rattle.pm_forest.proofs.OneStep.{with-front, split-under, split-elsewhere, without-front}
use Rattle.pm_forest.proofs.OneStep.{collapse-under, collapse-elsewhere}
use Rattle.pm_forest.proofs.Shown.{kept-shown}

pub one_ancestor : law.EachLeafHasOneAncestor
one_ancestor h shape T front x l =
    grind (arith, common_steps, active-ancestor, ancestor_of-unique, holds-ancestor_of)

pub prefixes : law.FrontsHavePrefixes
prefixes h shape T front j x l m e = grind (arith, common_steps, deep, shallow)

pub splits : law.SplitsMoveTheirLeaves
splits h shape T front k l active n = (
  with-front h shape T front k l active,
  split-under h shape T front k l active n,
  split-elsewhere h shape T front k l active,
)

pub collapses : law.CollapsesMoveTheirLeaves
collapses h shape T front k l e t u =
    grind (arith, common_steps, collapse-elsewhere, collapse-under, without-front)

pub lower : law.LowerRecordsAreFronts
lower h shape n = below-front h shape n

pub kept : law.KeptExactlyWhereRevealed
kept h shape T front f l = kept-shown h shape T front f l

pub tests : law.TestsDecide
tests h shape T v l = (is_active-true h shape T v l, is_active-from h shape T v)
