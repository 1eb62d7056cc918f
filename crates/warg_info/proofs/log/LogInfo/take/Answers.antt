use Rattle.std.proofs.Common.{◌≡◌, ◌∷◌, ◌++◌, [], ◌+◌, List, take, drop, rules, sym, ◌∙◌, ap, subst, append_assoc, append-nil}
use Rattle.std.proofs.lemmas.List.{take_more, take_all, drop_more, take-append-drop}
use Rattle.std.proofs.lemmas.Result.{err_from_is_err_and}
use Rattle.warg_exchange.specs.declared.logs.PublishedRecord.{PublishedRecord}
use Rattle.warg_info.specs.Kept.{Grows}
use Rattle.warg_info.specs.Info.{kept_of}
use Rattle.warg_info.specs.Faults.{FirstFault}
use Rattle.warg_info.proofs.GrowsLaws.{grows-none, grows-more}
use Rattle.warg_info.proofs.log.LogInfo.take.Goals as goal

pub returns-in_err-take_one-clause-fault : goal.returns-in_err-take_one-clause-fault
returns-in_err-take_one-clause-fault g c =
    let kind = g.E.LogEntry.kind in
    let view = g.E.LogEntry.plain in
    let good = g.V.Verifier.good c.args.verifier.now in
    let i = c.loop-record.record-index in
    let ps = c.args.published.now in
    let p = c.record-item.result in
    let log = kept_of view c.args.self.now in
    let mid = kept_of view c.loop-record.self in
    let rest : drop i ps ≡ p ∷ drop (i + 1) ps = search (rules, drop_more) in
    let q = err_from_is_err_and c.from_residual.result c.from_residual.ensures.1 in
    rw (q.1, q.2) (λ sound. subst (FirstFault c.in_err-take_one.field-0.0 kind good log ps) (sym c.in_err-take_one.ensures.same) (record {
      before = take i ps;
      refused = p;
      after = drop (i + 1) ps;
      parts = sym (take-append-drop i ps) ∙ ap (λ (l : List PublishedRecord). take i ps ++ l) rest;
      grows = subst (λ (l : List PublishedRecord). Grows kind log l mid) (append-nil (take i ps)) (c.loop-record.invariant.grows sound [] mid (grows-none kind mid));
      fault = c.in_err-take_one.ensures.fault (c.loop-record.invariant.sound sound);
    }))

pub loop-record-preserved : goal.loop-record-preserved
loop-record-preserved g c =
    let kind = g.E.LogEntry.kind in
    let view = g.E.LogEntry.plain in
    let i = c.loop-record.record-index in
    let ps = c.args.published.now in
    let p = c.record-item.result in
    let before = c.loop-record.invariant in
    let e : take (i + 1) ps ≡ take i ps ++ p ∷ [] = search (rules, take_more) in
    record {
      sound = λ s. c.take_one.ensures.sound (before.sound s);
      lawful = λ s lawful. c.take_one.ensures.lawful (before.sound s) (before.lawful s lawful);
      grows = λ s rest new more. subst (λ (l : List PublishedRecord). Grows kind (kept_of view c.args.self.now) l new)
          (sym (ap (λ (l : List PublishedRecord). l ++ rest) e ∙ append_assoc (take i ps) (p ∷ []) rest))
          (before.grows s (p ∷ rest) new (grows-more kind (kept_of view c.loop-record.self) (kept_of view c.take_one.new.self) new p rest (c.in_ok-take_one.ensures.grows (before.sound s)) more));
    }

pub returns-clause-grows : goal.returns-clause-grows
returns-clause-grows g c sound =
    let kind = g.E.LogEntry.kind in
    let view = g.E.LogEntry.plain in
    let new = kept_of view c.loop-record.self in
    let e : take c.loop-record.record-index c.args.published.now ≡ c.args.published.now = search (rules, take_all) in
    subst (λ (l : List PublishedRecord). Grows kind (kept_of view c.args.self.now) l new) (append-nil _ ∙ e) (c.loop-record.invariant.grows sound [] new (grows-none kind new))
