use Rattle.std.proofs.Common.{◌++◌, List, take}
use Rattle.warg_exchange.specs.declared.logs.PublishedRecord.{PublishedRecord}
use Rattle.warg_info.specs.Kept.{Kept, Grows}
use Rattle.warg_info.specs.Info.{kept_of, IsSound, IsLawfulLog}
use Rattle.warg_info.proofs.log.LogInfo.take.Given as goal

abbrev pub invariant-loop-record : goal.invariant-loop-record
invariant-loop-record g l =
    let kind = g.E.LogEntry.kind in
    let view = g.E.LogEntry.plain in
    let good = g.V.Verifier.good l.verifier in
    record {
      sound : IsSound kind view l.fn.self → IsSound kind view l.self;
      lawful : IsSound kind view l.fn.self → IsLawfulLog kind good (kept_of view l.fn.self) → IsLawfulLog kind good (kept_of view l.self);
      grows : IsSound kind view l.fn.self → (rest : List PublishedRecord) (new : List Kept) → Grows kind (kept_of view l.self) rest new → Grows kind (kept_of view l.fn.self) (take l.record-index l.published ++ rest) new;
    }
