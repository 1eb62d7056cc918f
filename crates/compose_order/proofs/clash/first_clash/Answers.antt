use Rattle.std.proofs.Common.{map, subst, inl}
use Rattle.std.specs.Prelude.{MatchOption}
use Rattle.compose_agree.specs.LetterCase.{AreApart}
use Rattle.compose_order.specs.Known.{IsNameClashOf, left_tree}
use Rattle.compose_order.specs.declared.left.LeftImport.{LeftImport}
use Rattle.compose_order.proofs.OrderLaws.{clash_or, import_names}
use Rattle.compose_order.proofs.clash.first_clash.Goals as goal

pub returns-in-Some : goal.returns-in-Some
returns-in-Some c =
    inl (subst (λ ns. IsNameClashOf ns c.in-Some.clash) (import_names c.args.lefts.now) (subst (λ o. MatchOption o (AreApart (map (λ (l : LeftImport). l.name) c.args.lefts.now)) (IsNameClashOf (map (λ (l : LeftImport). l.name) c.args.lefts.now))) c.in-Some.is c.in_ok-clash.ensures))

pub returns-in_ok-clash-in-None : goal.returns-in_ok-clash-in-None
returns-in_ok-clash-in-None c =
    clash_or (map left_tree c.args.lefts.now) c.in_ok-clash-in-None.clash
    (subst (λ ns. AreApart ns) (import_names c.args.lefts.now) (subst (λ o. MatchOption o (AreApart (map (λ (l : LeftImport). l.name) c.args.lefts.now)) (IsNameClashOf (map (λ (l : LeftImport). l.name) c.args.lefts.now))) c.in-None.is c.in_ok-clash.ensures))
    c.in_ok-clash-in-None.ensures
