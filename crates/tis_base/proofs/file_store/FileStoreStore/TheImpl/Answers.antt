use Rattle.std.proofs.Common.{refl}
use Rattle.tis_base.proofs.Always.{IfOk-always, IfErr-always}
use Rattle.tis_base.proofs.file_store.FileStoreStore.TheImpl.Goals as goal

pub fetch-tells : goal.fetch-tells
fetch-tells g c = record {
  ok = IfOk-always c.result _ (λ _. tt);
  missing = λ _. tt;
  missing_counted = c.ensures.missing_counted;
  failed_counted = c.ensures.failed_counted;
  texts_stay = refl;
  faults_stay = c.ensures.faults_stay;
  misses_stay = c.ensures.misses_stay;
  faults_never_fall = c.ensures.faults_never_fall;
  misses_never_fall = c.ensures.misses_never_fall;
}

pub keep-tells : goal.keep-tells
keep-tells g c = record {
  ok = IfOk-always c.result _ (λ _. refl);
  err = IfErr-always c.result _ (λ _. refl);
  never_missing = c.ensures.never_missing;
  failed_counted = c.ensures.failed_counted;
  faults_stay = c.ensures.faults_stay;
  misses_stay = c.ensures.misses_stay;
  faults_never_fall = c.ensures.faults_never_fall;
}
