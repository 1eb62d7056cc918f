use Rattle.std.proofs.Common.{◌≡◌, ◌++◌, map, take}
use Rattle.warg_record.specs.Record.{Package}
use Rattle.warg_log.specs.Rules.{signed_text}
use Rattle.warg_model.specs.Signatures.{signature_on}
use Rattle.warg_model.specs.State.{logged_view}
use Rattle.warg_model.proofs.registry.ModelRegistry.list_records.Given as goal

abbrev pub invariant-loop-record : goal.invariant-loop-record
invariant-loop-record l =
    l.listed.items ≡ l.fn.listed.items ++ map (λ e. signature_on l.self.key (signed_text Package e.1.contents)) (map logged_view (take l.record-index l.record-items))
