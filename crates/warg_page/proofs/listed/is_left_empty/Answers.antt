use Rattle.std.proofs.Common.{List, ℕ, sym, subst}
use Rattle.std.specs.Prelude.{Contains}
use Rattle.warg_page.proofs.listed.is_left_empty.Goals as goal

pub returns-then-is_empty-clause-kept : goal.returns-then-is_empty-clause-kept
returns-then-is_empty-clause-kept c left none records there =
    c.is_listed.ensures.absent left records (subst (λ (id : List ℕ). Contains c.args.listed.now.entries (id, records)) (sym c.package_log.ensures) there)
