use Rattle.felm_printer.proofs.fault.put_fault.Goals as goal

pub returns-in-Usage-clause-err : goal.returns-in-Usage-clause-err
returns-in-Usage-clause-err g c = rw c.in-Usage.is c.put_all-in-Usage.ensures.err

pub returns-in-Write-clause-ok : goal.returns-in-Write-clause-ok
returns-in-Write-clause-ok g c = rw c.in-Write.is c.put_all-in-Write.ensures.ok

pub returns-in-Write-clause-err : goal.returns-in-Write-clause-err
returns-in-Write-clause-err g c = rw c.in-Write.is c.put_all-in-Write.ensures.err

pub returns-in-Read-clause-ok : goal.returns-in-Read-clause-ok
returns-in-Read-clause-ok g c = rw c.in-Read.is (rw c.as_bytes.ensures.value at c.put_pieces.ensures.ok)

pub returns-in-Read-clause-err : goal.returns-in-Read-clause-err
returns-in-Read-clause-err g c = rw c.in-Read.is (rw c.as_bytes.ensures.value at c.put_pieces.ensures.err)

pub returns-in-TooLong-clause-ok : goal.returns-in-TooLong-clause-ok
returns-in-TooLong-clause-ok g c = rw c.in-TooLong.is (rw c.as_bytes-in-TooLong.ensures.value at c.put_pieces-in-TooLong.ensures.ok)

pub returns-in-TooLong-clause-err : goal.returns-in-TooLong-clause-err
returns-in-TooLong-clause-err g c = rw c.in-TooLong.is (rw c.as_bytes-in-TooLong.ensures.value at c.put_pieces-in-TooLong.ensures.err)

pub returns-in-Script-clause-err : goal.returns-in-Script-clause-err
returns-in-Script-clause-err g c = rw c.in-Script.is (rw c.fault-in-Script.ensures at c.put_at_line.ensures.err)

pub returns-in-Turn-clause-err : goal.returns-in-Turn-clause-err
returns-in-Turn-clause-err g c = rw c.in-Turn.is c.put_turn.ensures.err

pub returns-in-Journal-clause-ok : goal.returns-in-Journal-clause-ok
returns-in-Journal-clause-ok g c = rw c.in-Journal.is c.put_counted.ensures.ok

pub returns-in-Journal-clause-err : goal.returns-in-Journal-clause-err
returns-in-Journal-clause-err g c = rw c.in-Journal.is c.put_counted.ensures.err
