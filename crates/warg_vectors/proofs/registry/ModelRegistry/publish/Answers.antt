use Rattle.std.proofs.Common.{◌≡◌, List, ℕ, None, ◌∙◌, ap, subst, length, map, take, arith}
use Rattle.std.specs.Prelude.{option_copied, IsSome}
use Rattle.sha2.specs.Sha256.{sha256}
use Rattle.semver.specs.Identifiers.{parts_of}
use Rattle.warg_model.specs.Held.{Held, release_in, with_release}
use Rattle.warg_vectors.specs.Named.{key_of}
use Rattle.warg_vectors.specs.State.{named_view, IsSoundNamed}
use Rattle.warg_vectors.specs.World.{changed, mentioned}
use Rattle.warg_vectors.proofs.ListLaws.{on-ok, on-err, all-set, all-at}
use Rattle.warg_vectors.proofs.MentionLaws.{within, lent-at, mentioned-holds, mentioned-was, mentioned-front, opened-none, called-at, changed-at, unchanged-at}
use Rattle.warg_vectors.proofs.registry.ModelRegistry.publish.Goals as goal

pub index_mut-requires : goal.index_mut-requires
index_mut-requires c =
    let below = within (option_copied c.args.registry) c.mention.new.registries.items c.in_ok-place.place c.in_ok-place.ensures.place in
    omega (arith, below, c.mention.new.registries.ok.0)

pub returns-clause-published : goal.returns-clause-published
returns-clause-published c =
    let name = option_copied c.args.registry in
    let package_name = c.args.name.now in
    let version = parts_of c.args.version.now in
    let rs = c.mention.new.registries.items in
    let place = c.in_ok-place.place in
    let p = c.index_mut.result.now in
    let stands = c.in_ok-place.ensures.place in
    let there = lent-at name rs place p c.in_ok-place.ensures.place c.index_mut.ensures.value in
    let f : Held → Held = λ h. with_release h package_name version (sha256 c.args.content.now) in
    on-ok c.publish_in.result
    (λ is.
    let held_is = is ∙ ap (λ (d : List ℕ). record (named_view p) { held = with_release (named_view p).held package_name version d }) c.in_ok-digest.ensures.digest in
    let are = changed-at name rs place p c.publish_in.new.named f stands there held_is ∙ ap (changed f name) c.in_ok-place.ensures.mentioned in
    (λ k. record { registries = are k; contents = c.in_ok-digest.ensures.kept k }))
    c.publish_in.ensures.published

pub returns-clause-absent : goal.returns-clause-absent
returns-clause-absent c =
    let name = option_copied c.args.registry in
    let package_name = c.args.name.now in
    let version = parts_of c.args.version.now in
    let olds = map named_view c.args.self.now.registries.items in
    let p = c.index_mut.result.now in
    let called = called-at name c.mention.new.registries.items (mentioned olds name) c.in_ok-place.place p c.in_ok-place.ensures.place c.index_mut.ensures.value c.in_ok-place.ensures.mentioned in
    on-ok c.publish_in.result (λ none. mentioned-holds name olds (named_view p).held (λ h. release_in h package_name version ≡ None) called none) c.publish_in.ensures.absent

pub returns-clause-sound : goal.returns-clause-sound
returns-clause-sound c sound =
    let name = option_copied c.args.registry in
    let rs = c.mention.new.registries.items in
    let place = c.in_ok-place.place in
    let p = c.index_mut.result.now in
    let there = lent-at name rs place p c.in_ok-place.ensures.place c.index_mut.ensures.value in
    let all = c.in_ok-place.ensures.sound sound.registries in
    record {
      registries = all-set IsSoundNamed rs place c.publish_in.new.named all (c.publish_in.ensures.sound (all-at IsSoundNamed rs place p all there));
      contents = c.in_ok-digest.ensures.sound sound.contents;
    }

pub returns-clause-again : goal.returns-clause-again
returns-clause-again c again =
    let name = option_copied c.args.registry in
    let package_name = c.args.name.now in
    let version = parts_of c.args.version.now in
    let olds = map named_view c.args.self.now.registries.items in
    let p = c.index_mut.result.now in
    let called = called-at name c.mention.new.registries.items (mentioned olds name) c.in_ok-place.place p c.in_ok-place.ensures.place c.index_mut.ensures.value c.in_ok-place.ensures.mentioned in
    let some = c.publish_in.ensures.again again in (
      (named_view p).held,
      mentioned-was name olds (named_view p).held called (λ new. opened-none (key_of (length olds)) package_name version (subst (λ (h : Held). IsSome (release_in h package_name version)) new some)),
      some,
    )

pub returns-clause-registries : goal.returns-clause-registries
returns-clause-registries c =
    let name = option_copied c.args.registry in
    let rs = c.mention.new.registries.items in
    let olds = map named_view c.args.self.now.registries.items in
    let place = c.in_ok-place.place in
    let p = c.index_mut.result.now in
    let there = lent-at name rs place p c.in_ok-place.ensures.place c.index_mut.ensures.value in
    on-err c.publish_in.result (λ same. ap (take (length olds)) (unchanged-at rs place p c.publish_in.new.named there same ∙ c.in_ok-place.ensures.mentioned) ∙ mentioned-front name olds) c.publish_in.ensures.same
