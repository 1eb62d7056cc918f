use Rattle.std.proofs.Common.{◌≡◌, ◌∷◌, ◌++◌, [], sym, subst, ◌∙◌}
use Rattle.warg_log.specs.Facts.{known_by, undone_all, CanUndoAll}
use Rattle.warg_log.proofs.FactsLaws.{undone_all-push, CanUndoAll-pop}
use Rattle.warg_log.proofs.judged.undo_all.Goals as goal

pub undo-requires : goal.undo-requires
undo-requires c =
    let all : CanUndoAll (c.pop.new.self.items ++ c.in-Some.undo ∷ []) (known_by c.loop-undo.facts) = subst (λ us. CanUndoAll us (known_by c.loop-undo.facts)) c.in-Some.ensures.items c.loop-undo.invariant.can in
    (CanUndoAll-pop c.pop.new.self.items c.in-Some.undo (known_by c.loop-undo.facts) all).0

pub loop-undo-preserved-in-Some : goal.loop-undo-preserved-in-Some
loop-undo-preserved-in-Some c =
    let all : CanUndoAll (c.pop.new.self.items ++ c.in-Some.undo ∷ []) (known_by c.loop-undo.facts) = subst (λ us. CanUndoAll us (known_by c.loop-undo.facts)) c.in-Some.ensures.items c.loop-undo.invariant.can in
    let left : undone_all (c.pop.new.self.items ++ c.in-Some.undo ∷ []) (known_by c.loop-undo.facts) ≡ undone_all c.args.undos.now.items (known_by c.args.facts.now) = subst (λ us. undone_all us (known_by c.loop-undo.facts) ≡ undone_all c.args.undos.now.items (known_by c.args.facts.now)) c.in-Some.ensures.items c.loop-undo.invariant.left in
    rw c.undo.ensures record {
      can = (CanUndoAll-pop c.pop.new.self.items c.in-Some.undo (known_by c.loop-undo.facts) all).1;
      left = sym (undone_all-push c.pop.new.self.items c.in-Some.undo (known_by c.loop-undo.facts)) ∙ left;
    }

pub loop-undo-preserved : goal.loop-undo-preserved
loop-undo-preserved c =
    let all : CanUndoAll (c.pop.new.self.items ++ c.in-Some.undo ∷ []) (known_by c.loop-undo.facts) = subst (λ us. CanUndoAll us (known_by c.loop-undo.facts)) c.in-Some.ensures.items c.loop-undo.invariant.can in
    let left : undone_all (c.pop.new.self.items ++ c.in-Some.undo ∷ []) (known_by c.loop-undo.facts) ≡ undone_all c.args.undos.now.items (known_by c.args.facts.now) = subst (λ us. undone_all us (known_by c.loop-undo.facts) ≡ undone_all c.args.undos.now.items (known_by c.args.facts.now)) c.in-Some.ensures.items c.loop-undo.invariant.left in
    rw c.undo.ensures record {
      can = (CanUndoAll-pop c.pop.new.self.items c.in-Some.undo (known_by c.loop-undo.facts) all).1;
      left = sym (undone_all-push c.pop.new.self.items c.in-Some.undo (known_by c.loop-undo.facts)) ∙ left;
    }
