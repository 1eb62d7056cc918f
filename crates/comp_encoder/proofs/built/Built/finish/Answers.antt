use Rattle.std.proofs.Common.{◌≡◌, ℕ, Some, Result, Err, Vec, ap, ◌∙◌}
use Rattle.std.specs.Global.{Global}
use Rattle.comp_format.specs.declared.error.EncodeError.{EncodeError}
use Rattle.comp_format.specs.declared.error.EncodeError.TheVariants as encode_error
use Rattle.comp_encoder.specs.Builder.{kepts_of}
use Rattle.comp_encoder.proofs.RunLaws.{cut_is, all_text, all_short, all_long}
use Rattle.comp_encoder.proofs.built.Built.finish.Goals as goal

abbrev failed : EncodeError → Result (Vec ℕ Global) EncodeError
failed x = Err x

size_is : (a b : ℕ) → failed (encode_error.TooLarge a) ≡ failed (encode_error.TooLarge b) → a ≡ b
size_is a b e = cc

pub returns-in-None-clause-text : goal.returns-in-None-clause-text
returns-in-None-clause-text c =
    let built = c.self.inside in
    let whole = cut_is (kepts_of built.history.items) built.out.items built.run.id built.run.count built.run.bytes.items built.too_large c.in_ok-bytes.bytes.items c.in_ok-bytes.told c.self.invariant c.in_ok-bytes.ensures in
    all_text _ c.args.self built.run.id c.in_ok-bytes.bytes.items c.in_ok-bytes.told whole c.self.view_is c.in-None.is

pub returns-in-None-clause-fits : goal.returns-in-None-clause-fits
returns-in-None-clause-fits c =
    let built = c.self.inside in
    let whole = cut_is (kepts_of built.history.items) built.out.items built.run.id built.run.count built.run.bytes.items built.too_large c.in_ok-bytes.bytes.items c.in_ok-bytes.told c.self.invariant c.in_ok-bytes.ensures in
    all_short _ c.args.self built.run.id c.in_ok-bytes.bytes.items c.in_ok-bytes.told whole c.self.view_is c.in-None.is

pub returns-in-Some-clause-too_large : goal.returns-in-Some-clause-too_large
returns-in-Some-clause-too_large c = λ n e.
    let built = c.self.inside in
    let whole = cut_is (kepts_of built.history.items) built.out.items built.run.id built.run.count built.run.bytes.items built.too_large c.in_ok-bytes.bytes.items c.in_ok-bytes.told c.self.invariant c.in_ok-bytes.ensures in
    all_long _ c.args.self built.run.id c.in_ok-bytes.bytes.items c.in_ok-bytes.told whole c.self.view_is n (c.in-Some.is ∙ ap (λ m. Some m) (size_is c.in-Some.large n e))
