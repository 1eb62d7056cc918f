-- What stands under a name.
use Rattle.std.proofs.Common.{◌≡◌, ℕ, List, Option, Some, None, Bor, sym, ap}
use Rattle.std.specs.HashMap.{HashMap}
use Rattle.std.specs.Prelude.{IfSome, bytes_eq, option_map}
use Rattle.comp_format.specs.Fits.{IsComponent}
use Rattle.indexmap.specs.IndexMap.{get}
use Rattle.compose_bundle.specs.Bundled.{AreComponents, content_in}

pub found_component : {S : Type 0} (contents : HashMap (List ℕ) (Bor (List ℕ)) S) (name : List ℕ) (found : Option (Bor (List ℕ)))
    → AreComponents (content_in contents)
    → found ≡ get bytes_eq contents name
    → IfSome found (λ (bytes : Bor (List ℕ)). IsComponent bytes.now)
found_component contents name None are is = tt
found_component contents name (Some lent) are is =
    are name lent.now (ap (option_map (λ (b : Bor (List ℕ)). b.now)) (sym is))
