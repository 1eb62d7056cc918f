use Rattle.std.proofs.Common.{◌≡◌, length, ap, arith}
use Rattle.std.proofs.lemmas.Option.{MatchOption-at_some, MatchOption-at_none}
use Rattle.std.proofs.lemmas.Result.{err_from_is_err_and}
use Rattle.comp_reader.proofs.places.left_at.Goals as goal

pub returns-in_err-within-clause-found : goal.returns-in_err-within-clause-found
returns-in_err-within-clause-found c = λ this within section content behind item there framed form first.
    let p = err_from_is_err_and c.from_residual.result c.from_residual.ensures.1 in
    rw (p.1, p.2) (c.in_err-within.ensures.found this within section behind there (content, framed, form))

pub returns-in_err-left_from-in-Some-clause-found : goal.returns-in_err-left_from-in-Some-clause-found
returns-in_err-left_from-in-Some-clause-found c = λ this within section content behind item there framed form first.
    let p = err_from_is_err_and c.from_residual-in_err-left_from-in-Some.result c.from_residual-in_err-left_from-in-Some.ensures.1 in
    let found = MatchOption-at_some ⊥ (λ x. (x.0 ≡ within) × (x.1.now ≡ section)) _ c.in-Some.is (c.in_ok-within.ensures.found this within section behind there (content, framed, form)) in
    rw (p.1, p.2) (c.in_err-left_from-in-Some.ensures this content behind item (omega (arith, found.0, there.is_there)) (rw found.1 framed) (rw (found.0, found.1) first))

pub returns-in_ok-left_from-in-Some-clause-found : goal.returns-in_ok-left_from-in-Some-clause-found
returns-in_ok-left_from-in-Some-clause-found c = λ this within section content behind item there framed form first.
    let found = MatchOption-at_some ⊥ (λ x. (x.0 ≡ within) × (x.1.now ≡ section)) _ c.in-Some.is (c.in_ok-within.ensures.found this within section behind there (content, framed, form)) in
    (ap length found.1, c.in_ok-left_from-in-Some.ensures this content behind item (omega (arith, found.0, there.is_there)) (rw found.1 framed) (rw (found.0, found.1) first))

pub returns-in-None-clause-found : goal.returns-in-None-clause-found
returns-in-None-clause-found c = λ this within section content behind item there framed form first.
    absurd (MatchOption-at_none _ _ c.in-None.is (c.in_ok-within.ensures.found this within section behind there (content, framed, form)))
