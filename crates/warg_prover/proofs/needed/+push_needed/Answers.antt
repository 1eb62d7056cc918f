use Rattle.std.proofs.Common.{◌+◌, ◌-◌, ◌*◌, ◌++◌, ℕ, List, ap, ◌∙◌, arith}
use Rattle.warg_proof.specs.TrueProofs.{needed_within}
use Rattle.warg_prover.proofs.Steps.{place_fits, needed_none, needed_less, needed_whole, needed_split}
use Rattle.warg_prover.proofs.needed.+push_needed.Goals as goal

pub returns-then-level-eq0 : goal.returns-then-level-eq0
returns-then-level-eq0 t c = c.in_ok-push.ensures.items ∙ needed_none c.args.out.now.items c.args.level c.args.place c.args.count c.if-level-eq0.true

pub push_needed-requires : goal.push_needed-requires
push_needed-requires t c =
    let fits = place_fits c.args.level c.args.place (omega arith) c.requires.within c.requires.place_within in
    (omega arith, (omega arith, omega arith))

pub returns-then-count-half : goal.returns-then-count-half
returns-then-count-half t c =
    c.in_ok-push_needed.ensures ∙ needed_less c.args.out.now.items c.args.level c.size_of-half.result c.args.place c.args.count (omega arith) c.size_of-half.ensures (omega arith)

pub returns-then-count-half-2 : goal.returns-then-count-half-2
returns-then-count-half-2 t c =
    c.in_ok-push-2.ensures.items ∙ needed_whole c.args.out.now.items c.args.level c.size_of-half.result c.args.place c.args.count (omega arith) c.size_of-half.ensures (omega arith) (omega arith)

pub push_needed-requires-2 : goal.push_needed-requires-2
push_needed-requires-2 t c =
    let fits = place_fits c.args.level c.args.place (omega arith) c.requires.within c.requires.place_within in
    (omega arith, (omega arith, omega arith))

pub push_needed-requires-3 : goal.push_needed-requires-3
push_needed-requires-3 t c =
    let fits = place_fits c.args.level c.args.place (omega arith) c.requires.within c.requires.place_within in
    (omega arith, (omega arith, omega arith))

pub returns : goal.returns
returns t c =
    c.in_ok-push_needed-3.ensures
    ∙ ap (λ (xs : List (ℕ × ℕ)). xs ++ needed_within (c.args.level - 1) (2 * c.args.place + 1) (c.args.count - c.size_of-half.result)) c.in_ok-push_needed-2.ensures
    ∙ needed_split c.args.out.now.items c.args.level c.size_of-half.result c.args.place c.args.count (omega arith) c.size_of-half.ensures (omega arith) (λ e. c.if-count-half-2.false e)
