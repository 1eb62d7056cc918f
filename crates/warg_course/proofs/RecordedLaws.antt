-- Recorded replies are given, and none of them is missing.
use Rattle.std.proofs.Common.{◌≡◌, ◌++◌, ◌∷◌, [], List, sym, ◌∙◌, subst, map}
use Rattle.warg_exchange.specs.declared.exchange.Exchange.{Exchange}
use Rattle.warg_exchange.specs.declared.exchange.Reply.{Reply}
use Rattle.warg_api.specs.Link.{Exchanges, Recorded, IsRecordedStep}
use Rattle.warg_course.specs.Replies.{AreRepliesOf, GivesReplies}
use Rattle.warg_course.specs.Refusals.{IsUnanswered}
use Rattle.warg_course.proofs.ReplyLaws.{head-is, tail-is, cons-none}

pub recorded-given : (xs : List Exchange) (r : Recorded) → AreRepliesOf xs r.left → GivesReplies IsRecordedStep r xs
unfolding GivesReplies
recorded-given [] r are = tt
recorded-given (x ∷ xs) r are = λ reply next step.
    let left : List Reply = map (λ (x : Exchange). x.reply) xs ++ are.unused in
    let both : reply ∷ next.left ≡ x.reply ∷ left = sym step.1 ∙ are.are in
    (head-is reply x.reply next.left left both, recorded-given xs next (record { unused = are.unused; are = tail-is reply x.reply next.left left both }))

-- behind the first exchanges the replies of the others are left
replies-left : (xs ys : List Exchange) (old new : Recorded) → AreRepliesOf (xs ++ ys) old.left → Exchanges IsRecordedStep old xs new → AreRepliesOf ys new.left
unfolding Exchanges
replies-left [] ys old new are same = subst (λ (r : Recorded). AreRepliesOf ys r.left) (sym same) are
replies-left (x ∷ xs) ys old new are passed =
    let left : List Reply = map (λ (x : Exchange). x.reply) (xs ++ ys) ++ are.unused in
    replies-left xs ys passed.0 new (record { unused = are.unused; are = tail-is x.reply x.reply passed.0.left left (sym passed.1.1 ∙ are.are) }) passed.2

pub recorded-answered : (xs : List Exchange) (old new : Recorded) → AreRepliesOf xs old.left → IsUnanswered IsRecordedStep xs old new → ⊥
recorded-answered xs old new are none =
    let left = replies-left none.done (none.next ∷ none.rest) old none.before (subst (λ (l : List Exchange). AreRepliesOf l old.left) none.in_turn are) none.passed in
    cons-none none.next.reply (map (λ x. x.reply) none.rest ++ left.unused) (sym left.are ∙ none.failed.1.0)
