use Rattle.std.proofs.Common.{◌≡◌, ◌∙◌, ◌+◌, ◌-◌, ◌*◌, take, drop, ap, arith}
use Rattle.warg_proof.specs.declared.empty_root.TheConstants.{EMPTY_ROOTS}
use Rattle.warg_proof.proofs.EmptyRoots.{row_is}
use Rattle.warg_proof.proofs.empty_root.empty_root.Goals as goal

pub returns : goal.returns
returns c =
    let width : 32 * c.args.height + 32 - 32 * c.args.height ≡ 32 = omega arith in
    c.copy_from_slice.ensures.after ∙ ap (λ n. take n (drop (32 * c.args.height) EMPTY_ROOTS.now)) width ∙ row_is c.args.height c.requires
