use Rattle.std.proofs.Common.{◌≡◌, ◌++◌, [], ◌∷◌, List, ℕ, false, sym, subst}
use Rattle.std.specs.Prelude.{Option, Some, None, Ok}
use Rattle.sha2.specs.Hashers.{Holds256}
use Rattle.futures.specs.Runs.{Runs, After, Ends}
use Rattle.warg_body.specs.Validated.{CheckedPiece, Validates, Follows}
use Rattle.warg_body.proofs.ValidatedLaws.{piece_first, judged_last, if_given}
use Rattle.warg_body.proofs.validated.ValidatedStreamStream.poll_next.Goals as goal

pub returns-in-Ready-Some-Ok-clause-rest : goal.returns-in-Ready-Some-Ok-clause-rest
returns-in-Ready-Some-Ok-clause-rest g c = λ xs last comes m held.
    let bytes : List ℕ = c.in-Ready-Some-Ok.bytes in
    let now = c.args.self.now in
    let source = g.S.Stream.yields now.source in
    let rest = g.S.Stream.yields c.poll_next.new.self in
    let after : After source (Ok bytes) rest = rw (c.in-Ready-Some-Ok.field-0-is, c.in-Ready-Some-Ok.field-0-0-is) at c.in-Ready-Some-Ok.ensures.rest in
    let fed : Holds256 c.update.new.self (m ++ bytes) = rw c.as_slice.ensures at c.update.ensures m held in
    let behind : Validates rest now.expected (m ++ bytes) false xs last =
    subst (λ b. Validates rest now.expected (m ++ bytes) b xs last) c.if-self.false (comes (m ++ bytes) fed) in
    subst (λ b. Validates source now.expected m b (Ok bytes ∷ xs) last) (sym c.if-self.false) (piece_first source rest now.expected m bytes xs last after behind)

pub returns-in-Ready-None-clause-rest : goal.returns-in-Ready-None-clause-rest
returns-in-Ready-None-clause-rest g c =
    let now = c.args.self.now in
    let after = c.judged.new.self in
    let source = g.S.Stream.yields now.source in
    let old : Runs CheckedPiece = λ xs last. (m : List ℕ) → Holds256 now.hasher m → Validates source now.expected m now.is_ended xs last in
    let new : Runs CheckedPiece = λ xs last. (m : List ℕ) → Holds256 after.hasher m → Validates (g.S.Stream.yields after.source) after.expected m after.is_ended xs last in
    let gives : (x : CheckedPiece) (xs : List CheckedPiece) (last : Option CheckedPiece) → c.judged.result ≡ Some x → new xs last → old (x ∷ xs) last = λ x xs last is comes m held.
    let came : source [] None = rw c.in-Ready-None.field-0-is at c.in-Ready-None.ensures.value in
    let judged : Follows now.expected m None (Some x) = rw is at c.judged.ensures.judged m held in
    let ended : Ends xs last = rw c.judged.ensures.ended at comes [] c.judged.ensures.fresh in
    subst (λ b. Validates source now.expected m b (x ∷ xs) last) (sym c.if-self.false) (judged_last source now.expected m x xs last came judged ended) in
    if_given c.judged.result old new gives
