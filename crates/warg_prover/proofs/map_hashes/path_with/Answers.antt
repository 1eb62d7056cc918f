use Rattle.std.proofs.Common.{◌≡◌, ℕ, ◌/◌, ◌<◌, ◌==◌, ◌||◌, Bool, List, [], ◌∷◌, ◌++◌, length, map, take, get_or, sym, ap, subst, ◌∙◌, arith}
use Rattle.std.specs.List.{All}
use Rattle.std.proofs.lemmas.List.{map_push, take_more}
use Rattle.std.proofs.lemmas.List.Elements.{All-push}
use Rattle.warg_hash.specs.Hash.{IsDigest}
use Rattle.warg_prover.proofs.Marks.{Way, no_marks, no_digit, marked, marks_more, digest_with_bit}
use Rattle.warg_prover.proofs.map_hashes.path_with.Goals as goal

pub loop-depth-init : goal.loop-depth-init
loop-depth-init c = record {
  marks = λ d lt. no_marks 32 d;
  siblings = c.in_ok-siblings.ensures.items;
  formed = no_digit;
  digests = subst (All IsDigest) (sym c.in_ok-siblings.ensures.items) (λ k d lt. absurd (omega arith));
}

pub loop-depth-preserved : goal.loop-depth-preserved
loop-depth-preserved c =
    let way : Way = c.args.way.now in
    let i = c.loop-depth.depth-index in
    let s : ℕ × List ℕ = get_or way i (0, []) in
    let lt : i < length way = c.loop-depth-test.true in
    let sibling : c.bytes.result.now ≡ s.1 = c.bytes.ensures.value ∙ c.from_digest-sibling.ensures in
    let digest : IsDigest c.bytes.result.now = subst IsDigest (sym c.bytes.ensures.value) c.bytes.ensures.form in
    let len = c.loop-depth.invariant.formed.0 in
    let within : s.0 / 8 < length c.loop-depth.given = omega arith in
    record {
      marks = λ d below. marked c.loop-depth.given s.0 d within ∙ ap (λ (b : Bool). b || (s.0 == d)) (c.loop-depth.invariant.marks d below) ∙ marks_more way i d lt;
      siblings =
          c.in_ok-push.ensures.items
          ∙ ap (λ (x : List ℕ). c.loop-depth.siblings.items ++ x ∷ []) sibling
          ∙ ap (λ (xs : List (List ℕ)). xs ++ s.1 ∷ []) c.loop-depth.invariant.siblings
          ∙ sym (ap (map (λ (s : ℕ × List ℕ). s.1)) (take_more way i (0, []) lt) ∙ map_push (λ (s : ℕ × List ℕ). s.1) (take i way) s);
      formed = digest_with_bit c.loop-depth.given s.0 within c.loop-depth.invariant.formed;
      digests = subst (All IsDigest) (sym c.in_ok-push.ensures.items) (All-push IsDigest c.loop-depth.siblings.items c.bytes.result.now c.loop-depth.invariant.digests digest);
    }

pub returns-clause-formed : goal.returns-clause-formed
returns-clause-formed c = (c.loop-depth.invariant.formed, c.loop-depth.invariant.digests)
