-- What is none is not some.
use Rattle.std.proofs.Common.{◌≡◌, Some, None}

pub none_some : {A : Type 0} (x : A) → Some x ≡ None → ⊥
none_some x h = cc
