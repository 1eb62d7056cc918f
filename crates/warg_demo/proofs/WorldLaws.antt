-- One package more.
use Rattle.std.proofs.Common.{◌≡◌, ℕ, List, ap, ◌∙◌}
use Rattle.warg_vectors.specs.World.{World}
use Rattle.warg_demo.specs.Releases.{Releases, releases_drawn}
use Rattle.warg_demo.specs.World.{Drawn, with_drawn, with_package}

abbrev drawn_as : ℕ → World → Drawn
drawn_as state world = record { state = state; world = world }

pub drawn_added : (number : ℕ) (needs : List ℕ) (releases : Releases) (old new : World) (state : ℕ) → releases ≡ releases_drawn state → new ≡ with_package number needs releases old
    → drawn_as releases.state new ≡ with_drawn number needs (drawn_as state old)
drawn_added number needs releases old new state drawn added =
    ap (drawn_as releases.state) added ∙ ap (λ (r : Releases). drawn_as r.state (with_package number needs r old)) drawn
