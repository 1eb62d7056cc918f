use Rattle.std.proofs.Common.{refl}
use Rattle.warg_learn.proofs.LogLaws.{taught_by, under_way, unfetched_by}
use Rattle.warg_learn.proofs.learner.Learner.update_package.Goals as goal

pub returns-clause-taught : goal.returns-clause-taught
returns-clause-taught g c =
    let fetch = c.fetch_package.ensures in
    taught_by _ _ _ _ c.fetch_package.result
    (under_way _ _ _ _ refl refl refl fetch.names_kept fetch.link_never_falls fetch.registries_never_fall refl fetch.names_never_fall fetch.own fetch.begun)
    fetch.fetched fetch.knows fetch.unasked fetch.readable fetch.sound

pub returns-clause-refused : goal.returns-clause-refused
returns-clause-refused g c =
    let fetch = c.fetch_package.ensures in
    unfetched_by _ _ _ _ _ _ c.fetch_package.result
    (under_way _ _ _ _ refl refl refl fetch.names_kept fetch.link_never_falls fetch.registries_never_fall refl fetch.names_never_fall fetch.own fetch.begun)
    refl fetch.link_fault fetch.cause fetch.held
