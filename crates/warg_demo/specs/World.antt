-- The demo world: its registries, and the text of the plan that is made over them.
use Rattle.std.specs.Prelude.{ℕ, zero, suc, ◌-◌, List, [], codes, None, if◌then◌else◌}
use Rattle.semver.specs.Parse.{Parts}
use Rattle.warg_vectors.specs.World.{World, grown, published, yanked}
use Rattle.warg_demo.specs.Content.{content_of, package_name, version_text}
use Rattle.warg_demo.specs.Needs.{needs_among, needs_of}
use Rattle.warg_demo.specs.Releases.{Releases, releases_drawn}

-- the version that so many others of its package precede
abbrev pub version : ℕ → Parts
version minor = (1, minor, 0, [], [])

-- with so many releases of the package of a number, whose contents need these others, in the home registry
abbrev pub with_releases : (number : ℕ) → (needs : List ℕ) → (count : ℕ) → World → World
with_releases number needs zero world = world
with_releases number needs (suc minor) world =
    published (with_releases number needs minor world) None (package_name number) (version minor)
    (content_of needs (version_text minor))

-- with a package: its releases, and then the yank of the last of them, where that is drawn
abbrev pub with_package : (number : ℕ) → (needs : List ℕ) → Releases → World → World
with_package number needs releases world =
    let released = with_releases number needs releases.count world in
    if releases.yanks_last then yanked released None (package_name number) (version (releases.count - 1)) else released

-- the generator's state, and the registries
pub record Drawn : Type 0 where
  pub state : ℕ
  pub world : World

-- with the next package, whose releases are drawn
abbrev pub with_drawn : (number : ℕ) → (needs : List ℕ) → Drawn → Drawn
with_drawn number needs old =
    let releases = releases_drawn old.state in
    record { state = releases.state; world = with_package number needs releases old.world }

-- the first packages, so many, of which these need these others
abbrev pub packages_drawn : (pairs : List (ℕ × ℕ)) → (state : ℕ) → (count : ℕ) → Drawn
packages_drawn pairs state zero = record { state = state; world = record { registries = []; contents = [] } }
packages_drawn pairs state (suc number) = with_drawn number (needs_of number pairs) (packages_drawn pairs state number)

-- the registries of so many packages, drawn from a seed: first what they need, and then their releases; in the end each
-- registry has grown once
abbrev pub demo_registries : (seed count : ℕ) → World
demo_registries seed count =
    let needs = needs_among seed (count - 1) in
    grown (packages_drawn needs.pairs needs.state count).world

-- the text of the plan: its root is the first package
abbrev pub demo_text : List ℕ
demo_text = codes "instantiations:\n  root:\n    dependency: demo:p0\n"
