use Rattle.std.proofs.Common.{rules, ◌≡◌, subst}
use Rattle.std.specs.Prelude.{Some}
use Rattle.std.specs.BTreeMap.{get}
use Rattle.std.specs.Cmp.Lexicographic.{slice_cmp}
use Rattle.std.specs.Ordering.{nat_cmp}
use Rattle.comp_entity.specs.Fits.{under}
use Rattle.comp_fit.specs.Known.{IsUnder}
use Rattle.compose_fit.proofs.ExportLaws.{found_is}
use Rattle.compose_fit.proofs.wire.fits_under.Goals as goal

pub fits_as_named-requires-clause-given : goal.fits_as_named-requires-clause-given
fits_as_named-requires-clause-given c =
    let found : get (slice_cmp nat_cmp) c.args.names.now c.args.name.now ≡ Some c.in-Some.given.now = search rules in
    let names = c.requires.names in
    found_is c.args.table.now c.in-Some.given.now (under c.args.name.now names.0) (subst (λ o. IsUnder c.args.table.now o (under c.args.name.now names.0)) found (names.1 c.args.name.now))
