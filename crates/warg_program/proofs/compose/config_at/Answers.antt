use Rattle.std.proofs.Common.{IfSome, refl, subst, sym}
use Rattle.warg_program.specs.Compose.{HoldsNone, IsOfText}
use Rattle.warg_program.proofs.ComposeLaws.{holds_none}
use Rattle.warg_program.proofs.compose.config_at.Goals as goal

pub returns-in-NotUtf8-clause-cause : goal.returns-in-NotUtf8-clause-cause
returns-in-NotUtf8-clause-cause g c =
    let told = g.F.Files.told c.args.files.now in
    let is = c.in-NotUtf8.is in (
      refl,
      subst (λ e. IfSome told (HoldsNone c.args.path.now e)) is
          (holds_none told c.args.path.now c.in-Err.field-0.error (subst IsOfText (sym is) tt) c.in-Err.ensures.refused c.in-Err.ensures.only),
    )

pub returns-in-Yaml-clause-cause : goal.returns-in-Yaml-clause-cause
returns-in-Yaml-clause-cause g c =
    let told = g.F.Files.told c.args.files.now in
    let is = c.in-Yaml.is in (
      refl,
      subst (λ e. IfSome told (HoldsNone c.args.path.now e)) is
          (holds_none told c.args.path.now c.in-Err.field-0.error (subst IsOfText (sym is) tt) c.in-Err.ensures.refused c.in-Err.ensures.only),
    )
