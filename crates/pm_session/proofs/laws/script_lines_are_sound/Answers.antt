use Rattle.pm_session.proofs.ShortLines.{long_is_bad}
use Rattle.pm_session.proofs.GrammarLaws.{live_has_view_lines, live_plays_view_scripts}
use Rattle.pm_session.proofs.laws.script_lines_are_sound.Goals as goal

pub returns : goal.returns
returns c = record {
  long = long_is_bad;
  lines = live_has_view_lines;
  scripts = live_plays_view_scripts;
}
