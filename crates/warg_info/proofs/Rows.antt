-- Worked rows of the definitions.
use Rattle.std.proofs.Common.{◌≡◌, ◌∷◌, [], ℕ, true, false, Some, None, refl}
use Rattle.warg_exchange.specs.declared.logs.PublishedRecord.{PublishedRecord}
use Rattle.warg_info.specs.Kept.{new_after}
use Rattle.warg_info.specs.Faults.{ascends}

-- a record at a place
at : ℕ → PublishedRecord
at place = record { content_bytes = []; key_id = []; signature = []; registry_index = place; fetch_token = [] }

-- behind place 3, of the places 3, 5, 4, 5 and 9 those at 5 and 9 are new
passed-over : new_after (Some 3) (at 3 ∷ at 5 ∷ at 4 ∷ at 5 ∷ at 9 ∷ []) ≡ at 5 ∷ at 9 ∷ []
unfolding new_after at
passed-over = refl

-- behind nothing, place 0 is new
first-place : new_after None (at 0 ∷ at 0 ∷ []) ≡ at 0 ∷ []
unfolding new_after at
first-place = refl

rises : ascends (at 0 ∷ at 2 ∷ at 7 ∷ []) ≡ true
unfolding at
rises = refl

stays : ascends (at 0 ∷ at 2 ∷ at 2 ∷ []) ≡ false
unfolding at
stays = refl
