use Rattle.std.proofs.Common.{◌+◌, ◌-◌, ◌*◌, ◌++◌, ℕ, List, ap, ◌∙◌, arith}
use Rattle.warg_prover.proofs.Steps.{place_fits, joining, joining_none, joining_less, joining_whole, joining_left, joining_right}
use Rattle.warg_prover.proofs.needed.+push_joining.Goals as goal

pub returns-then-level-eq0 : goal.returns-then-level-eq0
returns-then-level-eq0 t c = c.in_ok-push_needed.ensures ∙ joining_none c.args.out.now.items c.args.level c.args.place c.args.old c.args.new c.if-level-eq0.true

pub push_joining-requires : goal.push_joining-requires
push_joining-requires t c =
    let fits = place_fits c.args.level c.args.place (omega arith) c.requires.within c.requires.place_within in
    (omega arith, (omega arith, (omega arith, omega arith)))

pub returns-then-new-half : goal.returns-then-new-half
returns-then-new-half t c =
    c.in_ok-push_joining.ensures ∙ joining_less c.args.out.now.items c.args.level c.size_of-half.result c.args.place c.args.old c.args.new (omega arith) c.size_of-half.ensures (omega arith)

pub returns-then-old-new : goal.returns-then-old-new
returns-then-old-new t c =
    c.in_ok-push_needed-2.ensures ∙ joining_whole c.args.out.now.items c.args.level c.size_of-half.result c.args.place c.args.old c.args.new (omega arith) c.size_of-half.ensures (omega arith) c.if-old-new.true

pub push_needed-requires-then-half-old-clause-place_within :
    goal.push_needed-requires-then-half-old-clause-place_within
push_needed-requires-then-half-old-clause-place_within t c =
    let fits = place_fits c.args.level c.args.place (omega arith) c.requires.within c.requires.place_within in
    omega arith

pub push_joining-requires-then-half-old : goal.push_joining-requires-then-half-old
push_joining-requires-then-half-old t c =
    let fits = place_fits c.args.level c.args.place (omega arith) c.requires.within c.requires.place_within in
    (omega arith, (omega arith, (omega arith, omega arith)))

pub push_needed-requires-else-half-old-clause-place_within :
    goal.push_needed-requires-else-half-old-clause-place_within
push_needed-requires-else-half-old-clause-place_within t c =
    let fits = place_fits c.args.level c.args.place (omega arith) c.requires.within c.requires.place_within in
    omega arith

pub push_joining-requires-else-half-old : goal.push_joining-requires-else-half-old
push_joining-requires-else-half-old t c =
    let fits = place_fits c.args.level c.args.place (omega arith) c.requires.within c.requires.place_within in
    (omega arith, (omega arith, (omega arith, omega arith)))

pub returns-in_ok-push_joining-2 : goal.returns-in_ok-push_joining-2
returns-in_ok-push_joining-2 t c =
    c.in_ok-push_joining-2.ensures
    ∙ ap (λ (xs : List (ℕ × ℕ)). xs ++ joining (c.args.level - 1) (2 * c.args.place + 1) (c.args.old - c.size_of-half.result) (c.args.new - c.size_of-half.result)) c.in_ok-push_needed-3.ensures
    ∙ joining_right c.args.out.now.items c.args.level c.size_of-half.result c.args.place c.args.old c.args.new (omega arith) c.size_of-half.ensures (omega arith) (λ e. c.if-old-new.false e) (omega arith)

pub returns-in_ok-push_joining-3 : goal.returns-in_ok-push_joining-3
returns-in_ok-push_joining-3 t c =
    c.in_ok-push_joining-3.ensures
    ∙ ap (λ (xs : List (ℕ × ℕ)). xs ++ joining (c.args.level - 1) (2 * c.args.place) c.args.old c.size_of-half.result) c.in_ok-push_needed-4.ensures
    ∙ joining_left c.args.out.now.items c.args.level c.size_of-half.result c.args.place c.args.old c.args.new (omega arith) c.size_of-half.ensures (omega arith) (λ e. c.if-old-new.false e) (omega arith)
