use Rattle.std.proofs.Common.{◌≡◌, [], ◌∷◌, ◌++◌, length, Some, sym, ap, ◌∙◌, arith}
use Rattle.std.specs.BTreeMap.{UpdatesBy}
use Rattle.semver.specs.Identifiers.{parts_of}
use Rattle.semver.specs.contracts.VersionOrd.TheImpl.{cmp-value}
use Rattle.warg_log.specs.declared.release.Release.{Release}
use Rattle.warg_log.specs.Places.{place_of, versions_of}
use Rattle.warg_log.proofs.PlacedLaws.{ArePlaced-push}
use Rattle.warg_log.proofs.releases.Releases.push.Goals as goal

pub invariant_of-self-2 : goal.invariant_of-self-2
invariant_of-self-2 c =
    let rs = c.self.inside.items.items in
    let made : Release = record { version = c.in_ok-version.version; content = c.args.content } in
    let new = ap (λ v. place_of v (versions_of c.args.self.now)) c.in_ok-version.ensures ∙ c.requires in
    let count : c.len-place.result ≡ length rs = omega (arith, c.self.inside.items.ok.0) in
    let place : UpdatesBy cmp-value.it (cmp-value.it c.in_ok-key.key) c.self.inside.places c.insert.new.self (Some (length rs)) = rw count at c.in_ok-insert.ensures.updates in
    let pushed = rw c.unwrap.ensures at c.push.ensures.items in
    let whole : c.push.new.self.items ≡ rs ++ made ∷ [] = pushed ∙ ap (λ xs. xs ++ made ∷ []) c.in_ok-reserve.ensures.items in
    rw whole (ArePlaced-push rs made c.in_ok-key.key c.self.inside.places c.insert.new.self c.self.invariant (c.in_ok-key.ensures ∙ sym c.in_ok-version.ensures)
    (ap (λ xs. place_of (parts_of c.in_ok-version.version) (versions_of xs)) c.self.view_is ∙ new) place)
