use Rattle.std.proofs.Common.{◌≡◌, ◌∙◌, Err, sym, ap, take}
use Rattle.std.specs.List.{fold}
use Rattle.std.proofs.lemmas.Result.{err_from_is_err_and}
use Rattle.comp_format.specs.declared.error.EncodeError.{EncodeError}
use Rattle.comp_format.specs.declared.error.EncodeError.TheVariants as encode_error
use Rattle.compose_image.specs.Instances.{with_instance}
use Rattle.compose_encode.specs.Looked.{lent_tree}
use Rattle.compose_encode.proofs.Errors.{err_is}
use Rattle.compose_encode.proofs.HeldLaws.{instance_extends, loop_large, loop_more}
use Rattle.compose_encode.proofs.instances.write_instances.Goals as goal

pub write_instance-requires-clause-held : goal.write_instance-requires-clause-held
write_instance-requires-clause-held c =
    let held = c.requires.held in
    record {
      define = held.define;
      imports = held.imports;
      written = fold (with_instance (lent_tree c.args.tables.now) held.define held.imports) held.written (take c.loop-instance.instance-index c.args.order.now);
      tables = held.tables;
      holds = c.loop-instance.invariant held.define held.imports held.written held.tables held.holds;
    }

pub returns-in_err-write_instance-clause-too_large : goal.returns-in_err-write_instance-clause-too_large
returns-in_err-write_instance-clause-too_large c = λ define imports w n t h e.
    let p = err_from_is_err_and c.from_residual.result c.from_residual.ensures.1 in
    let same : p.0 ≡ encode_error.TooLarge n = err_is p.0 (encode_error.TooLarge n) (sym p.1 ∙ e) in
    let k = lent_tree c.args.tables.now in
    let ns = c.args.order.now in
    let i = c.loop-instance.instance-index in
    loop_large (with_instance k define imports) (instance_extends k define imports) ns imports w n i 0 c.loop-instance-test.true
    (c.in_err-write_instance.ensures.too_large define imports (fold (with_instance k define imports) w (take i ns)) n t (c.loop-instance.invariant define imports w t h) (ap (λ (x : EncodeError). Err x) (sym p.2 ∙ same)))

pub loop-instance-preserved : goal.loop-instance-preserved
loop-instance-preserved c = λ define imports w t h.
    let k = lent_tree c.args.tables.now in
    let ns = c.args.order.now in
    let i = c.loop-instance.instance-index in
    loop_more (with_instance k define imports) (instance_extends k define imports) ns imports w c.write_instance.new.output i 0 c.loop-instance-test.true
    (c.in_ok-write_instance.ensures.written define imports (fold (with_instance k define imports) w (take i ns)) t (c.loop-instance.invariant define imports w t h))
