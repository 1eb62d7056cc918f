use Rattle.std.proofs.Common.{◌∙◌, sym, ap, drop, length, refl}
use Rattle.std.proofs.lemmas.Bool.{both_ways, not-false, not-true}
use Rattle.std.proofs.lemmas.Slice.Eq.{bytes_eq-Decides}
use Rattle.warg_hash.specs.HashLaws.{length-hash_text, decoded_digest, is_hash_text, digest_of-again, digest_of-none}
use Rattle.warg_hash.proofs.HashLaws.{decodes, refused, same_text}
use Rattle.warg_hash.proofs.hash.AnyHash.from_text.Goals as goal

pub returns-then-bytes-ne71-clause-form : goal.returns-then-bytes-ne71-clause-form
returns-then-bytes-ne71-clause-form c = λ e digest is.
    c.if-bytes-ne71.true (ap length (c.as_bytes-bytes.ensures.value ∙ is.1) ∙ length-hash_text digest is.0.0)

pub returns-then-bytes-ne71-clause-exact : goal.returns-then-bytes-ne71-clause-exact
returns-then-bytes-ne71-clause-exact c =
    rw (digest_of-none c.args.text.now (returns-then-bytes-ne71-clause-form c refl)) refl

pub returns-then-is_err-clause-form : goal.returns-then-is_err-clause-form
returns-then-is_err-clause-form c = λ e digest is.
    refused c.args.text.now _ digest _ _ c.decode_to_slice.ensures.value
    (c.split_at.ensures.back ∙ ap (drop 7) c.as_bytes-bytes.ensures.value)
    (sym c.is_err.ensures.value ∙ c.if-is_err.true) is

pub returns-then-is_err-clause-exact : goal.returns-then-is_err-clause-exact
returns-then-is_err-clause-exact c =
    rw (digest_of-none c.args.text.now (returns-then-is_err-clause-form c refl)) refl

pub invariant_of-hash : goal.invariant_of-hash
invariant_of-hash c =
    decoded_digest c.split_at.result.1.now _ (decodes _ _ _ c.decode_to_slice.ensures.value (sym c.is_err.ensures.value ∙ c.if-is_err.false))

pub returns-then-ne-clause-form : goal.returns-then-ne-clause-form
returns-then-ne-clause-form c = λ e digest is.
    let same = same_text c.args.text.now _ digest _ _ c.decode_to_slice.ensures.value (c.split_at.ensures.back ∙ ap (drop 7) c.as_bytes-bytes.ensures.value) is in
    let shown = c.as_slice.ensures ∙ c.text_bytes.ensures ∙ same ∙ sym c.as_bytes-bytes.ensures.value in
    both_ways _ (not-true _ (sym c.ne.ensures ∙ c.if-ne.true)) ((bytes_eq-Decides c.as_slice.result.now c.as_bytes-bytes.result.now).1 shown)

pub returns-then-ne-clause-exact : goal.returns-then-ne-clause-exact
returns-then-ne-clause-exact c =
    rw (digest_of-none c.args.text.now (returns-then-ne-clause-form c refl)) refl

pub returns-clause-ok : goal.returns-clause-ok
returns-clause-ok c =
    let equal = (bytes_eq-Decides c.as_slice.result.now c.as_bytes-bytes.result.now).0 (not-false _ (sym c.ne.ensures ∙ c.if-ne.false)) in
    let text = sym c.as_bytes-bytes.ensures.value ∙ sym equal ∙ c.as_slice.ensures ∙ c.text_bytes.ensures in
    is_hash_text c.args.text.now c.split_at.result.1.now _ (decodes _ _ _ c.decode_to_slice.ensures.value (sym c.is_err.ensures.value ∙ c.if-is_err.false)) text

pub returns-clause-exact : goal.returns-clause-exact
returns-clause-exact c = rw (digest_of-again c.args.text.now _ (returns-clause-ok c)) refl
