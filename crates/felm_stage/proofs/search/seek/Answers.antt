use Rattle.felm_stage.specs.Frames.{plug}
use Rattle.felm_stage.proofs.Runs.{takes_none}
use Rattle.felm_stage.proofs.Searches.{goes_on, is_ready, is_done, is_over}
use Rattle.felm_stage.proofs.search.seek.Goals as goal

pub on-init : goal.on-init
on-init c = record {
  taken = takes_none c.args.left.now (plug c.args.frames.now.items c.args.term);
  typed = c.requires.typed;
  good = c.requires.good;
  focus = tt;
}

pub on-preserved : goal.on-preserved
on-preserved c =
    goes_on (plug c.args.frames.now.items c.args.term) c.args.left.now c.on.frames.items c.on.focus c.on.left c.on.invariant c.advance.new.frames.items c.advance.new.left c.in-On.next (rw c.in-On.is at c.in_ok-next.ensures)

pub returns-in-Ready : goal.returns-in-Ready
returns-in-Ready c =
    is_ready (plug c.args.frames.now.items c.args.term) c.args.left.now c.on.frames.items c.on.focus c.on.left c.on.invariant c.advance.new.frames.items c.advance.new.left c.in-Ready.redex (rw c.in-Ready.is at c.in_ok-next.ensures)

pub returns-in-Done : goal.returns-in-Done
returns-in-Done c =
    is_done (plug c.args.frames.now.items c.args.term) c.args.left.now c.on.frames.items c.on.focus c.on.left c.on.invariant c.advance.new.frames.items c.advance.new.left c.in-Done.signal (rw c.in-Done.is at c.in_ok-next.ensures)

pub returns-in-Over : goal.returns-in-Over
returns-in-Over c =
    is_over (plug c.args.frames.now.items c.args.term) c.args.left.now c.on.frames.items c.on.focus c.on.left c.on.invariant c.advance.new.frames.items c.advance.new.left (rw c.in-Over.is at c.in_ok-next.ensures)
