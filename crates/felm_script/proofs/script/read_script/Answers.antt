use Rattle.std.proofs.Common.{◌≡◌, length, Some, Ok, arith}
use Rattle.std.proofs.lemmas.Bool.Decides.{nat_tests}
use Rattle.felm_script.specs.Script.{event_of}
use Rattle.felm_script.proofs.Fits.{fit}
use Rattle.felm_script.proofs.Steps.{line_leads, all_read}
use Rattle.felm_script.proofs.script.read_script.Goals as goal

pub loop-rest-preserved-in_ok-push-in-Ok-Some : goal.loop-rest-preserved-in_ok-push-in-Ok-Some
loop-rest-preserved-in_ok-push-in-Ok-Some c =
    let event = c.in-Ok-Some.event in
    let is : Ok (Some event) ≡ event_of c.args.inputs.now.items c.cut_line.result.0.now = cc in
    record {
      within = omega arith;
      leads = line_leads c.args.inputs.now.items c.args.text.now c.loop-rest.rest.now c.cut_line.result.0.now c.cut_line.result.1.now c.loop-rest.number
          (Some event) c.loop-rest.script.items c.push.new.self.items c.cut_line.ensures.lines is c.in_ok-push-in-Ok-Some.ensures.ok c.loop-rest.invariant.leads;
    }

pub returns-clause-fits : goal.returns-clause-fits
returns-clause-fits c =
    let inputs = c.args.inputs.now.items in
    let events = c.loop-rest.script.items in
    let none : length c.loop-rest.rest.now ≡ 0 = grind (arith, nat_tests, c.loop-rest-test.ensures) in
    fit inputs c.args.text.now events (all_read inputs c.args.text.now c.loop-rest.rest.now c.loop-rest.number events none c.loop-rest.invariant.leads)
