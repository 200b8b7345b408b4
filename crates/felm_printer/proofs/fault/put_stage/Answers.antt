use Rattle.felm_printer.proofs.fault.put_stage.Goals as goal

pub returns-in-Large-clause-err : goal.returns-in-Large-clause-err
returns-in-Large-clause-err g c = rw c.in-Large.is c.put_all.ensures.err
