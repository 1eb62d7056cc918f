use Rattle.std.proofs.Common.{◌+◌, subst}
use Rattle.std.specs.Prelude.{IfSome, IfNone, map}
use Rattle.std.specs.Str.{str_to_ascii_lowercase}
use Rattle.compose_agree.specs.Lowered.{FindsLowered, IsLowered, NoneLowered}
use Rattle.compose_agree.proofs.CaseLaws.{apart_more, first_clash, name_at}
use Rattle.compose_agree.proofs.letter_case.case_clash.Goals as goal

pub returns-in-Some : goal.returns-in-Some
returns-in-Some g c =
    let name = g.N.Named.name in
    let names = map name c.args.named.now in
    let at = name_at name c.args.named.now c.loop-later.later c.index-named-later.result c.name.result.now c.loop-later-test.true c.index-named-later.is c.name.ensures in
    let found = subst (λ o. IfSome o (IsLowered (str_to_ascii_lowercase c.name.result.now) names c.loop-later.later)) c.in-Some.is (c.in_ok-earlier.ensures.found names c.loop-later.invariant.finds) in
    first_clash names c.loop-later.later c.name.result.now c.in-Some.earlier at c.loop-later.invariant.apart found

pub loop-later-preserved : goal.loop-later-preserved
loop-later-preserved g c =
    let name = g.N.Named.name in
    let names = map name c.args.named.now in
    let at = name_at name c.args.named.now c.loop-later.later c.index-named-later.result c.name.result.now c.loop-later-test.true c.index-named-later.is c.name.ensures in
    let noted = subst (λ o. IfNone o (FindsLowered c.note.new.places names (c.loop-later.later + 1) × NoneLowered (str_to_ascii_lowercase c.name.result.now) names c.loop-later.later)) c.in_default.is (c.in_ok-earlier.ensures.noted names c.loop-later.invariant.finds at) in
    record {
      finds = noted.0;
      apart = apart_more names c.loop-later.later c.name.result.now at noted.1 c.loop-later.invariant.apart;
    }
