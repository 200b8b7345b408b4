use Rattle.felm_script.proofs.Lines.{lines_end, last_line_ends}
use Rattle.felm_script.proofs.laws.lines_end_with_line_feeds.Goals as goal

pub returns-clause-feed : goal.returns-clause-feed
returns-clause-feed c = lines_end

pub returns-clause-last : goal.returns-clause-last
returns-clause-last c = last_line_ends
