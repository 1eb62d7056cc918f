-- Keys are the same exactly where they are equal.
use Rattle.std.proofs.Common.{◌≡◌, true, refl, ap}
use Rattle.std.proofs.lemmas.Slice.Eq.{bytes_eq-Decides}
use Rattle.warg_names.specs.SameLaws.{imports}
use Rattle.warg_plan.specs.Keys.{Key, Named, Parsed, same_key}

pub same_itself : (k : Key) → same_key k k ≡ true
same_itself (Named a) = (bytes_eq-Decides a a).1 refl
same_itself (Parsed a) = imports.0 a

pub same_is : (j k : Key) → same_key j k ≡ true → j ≡ k
same_is (Named a) (Named b) e = ap Named ((bytes_eq-Decides a b).0 e)
same_is (Parsed a) (Parsed b) e = ap Parsed (imports.1 a b e)
same_is j k e = absurd cc
