use Rattle.std.proofs.Common.{rules, ◌≡◌, ◌∷◌, sym, drop, length}
use Rattle.compose_types.specs.Scopes.{with_names}
use Rattle.compose_types.proofs.ScopeLaws.{along_none, along_last, along_more, rest_is, rest_named}
use Rattle.compose_types.proofs.LargestLaws.{along_instance_refused, along_last_refused, along_more_refused}
use Rattle.compose_types.proofs.RefusalLaws.{told}
use Rattle.compose_types.proofs.open.Declared.+along.Goals as goal

pub returns-in-empty-clause-added : goal.returns-in-empty-clause-added
returns-in-empty-clause-added t c = λ width known. along_none c.args.from c.args.path.now (with_names width known c.args.self.now) c.in-empty.len_below

pub returns-in_ok-index-in-len1-up-clause-added : goal.returns-in_ok-index-in-len1-up-clause-added
returns-in_ok-index-in-len1-up-clause-added t c = λ width known.
    let rest = drop 1 c.args.path.now in
    let cut : c.args.path.now ≡ c.name-item.result ∷ rest = search rules in
    let none : length rest ≡ 0 = search rules in
    along_last c.args.from c.in_ok-index-in-len1-up.index c.name-item.result c.args.path.now rest (with_names width known c.args.self.now) (with_names width known c.add_export.new.self) cut none (c.in_ok-index-in-len1-up.ensures.added width known)

pub returns-in_ok-index-in-len1-up-2-clause-added : goal.returns-in_ok-index-in-len1-up-2-clause-added
returns-in_ok-index-in-len1-up-2-clause-added t c = λ width known.
    let rest = drop 1 c.args.path.now in
    let cut : c.args.path.now ≡ c.name-item.result ∷ rest = search rules in
    let some : ¬ (length rest ≡ 0) = search rules in
    along_more c.args.from c.in_ok-instance-in-len1-up.instance c.in_ok-index-in-len1-up-2.index c.name-item.result c.args.path.now rest (with_names width known c.args.self.now)
    (with_names width known c.add_instance.new.self) (with_names width known c.along.new.self) cut some (c.in_ok-instance-in-len1-up.ensures.added width known) (rw (sym (rest_is c.args.path.now)) (c.in_ok-index-in-len1-up-2.ensures.added width known))

pub returns-in_err-index-in-len1-up-clause-among : goal.returns-in_err-index-in-len1-up-clause-among
returns-in_err-index-in-len1-up-clause-among t c = λ width known n e.
    let rest = drop 1 c.args.path.now in
    let cut : c.args.path.now ≡ c.name-item.result ∷ rest = search rules in
    let none : length rest ≡ 0 = search rules in
    along_last_refused n c.args.from c.name-item.result c.args.path.now rest (with_names width known c.args.self.now) cut none
    (c.in_err-index-in-len1-up.ensures.among width known n (told c.from_residual.result _ n c.from_residual.ensures.1 e))

pub returns-in_err-instance-in-len1-up-clause-among : goal.returns-in_err-instance-in-len1-up-clause-among
returns-in_err-instance-in-len1-up-clause-among t c = λ width known n e.
    let rest = drop 1 c.args.path.now in
    let cut : c.args.path.now ≡ c.name-item.result ∷ rest = search rules in
    let some : ¬ (length rest ≡ 0) = search rules in
    along_instance_refused n c.args.from c.name-item.result c.args.path.now rest (with_names width known c.args.self.now) cut some
    (c.in_err-instance-in-len1-up.ensures.among width known n (told c.from_residual-in_err-instance-in-len1-up.result _ n c.from_residual-in_err-instance-in-len1-up.ensures.1 e))

pub returns-in_err-index-in-len1-up-2-clause-among : goal.returns-in_err-index-in-len1-up-2-clause-among
returns-in_err-index-in-len1-up-2-clause-among t c = λ width known n e.
    let rest = drop 1 c.args.path.now in
    let cut : c.args.path.now ≡ c.name-item.result ∷ rest = search rules in
    let some : ¬ (length rest ≡ 0) = search rules in
    along_more_refused n c.args.from c.in_ok-instance-in-len1-up.instance c.name-item.result c.args.path.now rest (with_names width known c.args.self.now) (with_names width known c.add_instance.new.self) cut some (c.in_ok-instance-in-len1-up.ensures.added width known)
    (rw (sym (rest_is c.args.path.now)) (c.in_err-index-in-len1-up-2.ensures.among width known n (told c.from_residual-in_err-index-in-len1-up-2.result _ n c.from_residual-in_err-index-in-len1-up-2.ensures.1 e)))

pub along-requires : goal.along-requires
along-requires t c = (search rules, rw (rest_is c.args.path.now) (rest_named c.args.path.now c.requires))
