use Rattle.felm_parser.proofs.Outcome.{is_program, accepts, size, fault_is, refuses}
use Rattle.felm_parser.proofs.program.parse.Goals as goal

pub returns : goal.returns
returns c =
    let text = c.args.text.now in
    let ts = c.args.tokens.now in
    let read = c.program.ensures in
    record {
      program = is_program text ts c.program.result read;
      accepts = accepts text ts c.program.result read c.requires;
      size = size text ts c.program.result read c.requires;
      fault = fault_is text ts c.program.result read c.requires;
      refuses = refuses text ts c.program.result read c.requires;
    }
