use Rattle.std.proofs.Common.{refl}
use Rattle.tis_base.proofs.Always.{IfOk-always}
use Rattle.tis_base.proofs.out_sink.OutSinkSink.TheImpl.Goals as goal

pub put-tells : goal.put-tells
put-tells g c = record {
  ok = IfOk-always c.result _ (λ _. refl);
  failed = c.ensures.failed;
  failed_counted = c.ensures.failed_counted;
  no_memory = λ _. refl;
  faults_stay = c.ensures.faults_stay;
  faults_never_fall = c.ensures.faults_never_fall;
}
