use Rattle.std.proofs.Common.{refl}
use Rattle.felm_io.proofs.DiskFaults.{if_ok_each, counted_load, faults_after_rises}
use Rattle.felm_io.proofs.disk.DiskFilesFiles.TheImpl.Goals as goal

pub load-tells : goal.load-tells
load-tells g c = record {
  text = if_ok_each c.result _ (λ _. tt);
  bound = c.ensures.bound;
  stay = λ _. refl;
  later = λ _. faults_after_rises c.result _ _ c.ensures.faults;
  counts = counted_load c.result _ _ c.args.name.now c.ensures.faults;
}
