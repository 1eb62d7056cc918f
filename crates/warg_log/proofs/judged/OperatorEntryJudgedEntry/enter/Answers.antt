use Rattle.warg_log.proofs.judged.OperatorEntryJudgedEntry.enter.Goals as goal

pub returns-in-DefineNamespace-clause-err : goal.returns-in-DefineNamespace-clause-err
returns-in-DefineNamespace-clause-err c = rw c.in-DefineNamespace.is c.enter_namespace.ensures.err

pub returns-in_ok-registry-in-ImportNamespace-clause-err : goal.returns-in_ok-registry-in-ImportNamespace-clause-err
returns-in_ok-registry-in-ImportNamespace-clause-err c = rw c.in-ImportNamespace.is c.enter_namespace-in-ImportNamespace.ensures.err
