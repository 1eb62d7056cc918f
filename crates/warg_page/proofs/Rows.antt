-- Worked rows of the definitions.
use Rattle.std.proofs.Common.{◌≡◌, ◌∷◌, [], ℕ, None, refl}
use Rattle.warg_exchange.specs.declared.logs.PublishedRecord.{PublishedRecord}
use Rattle.warg_info.specs.Kept.{Kept}
use Rattle.warg_page.specs.Logs.{brought, indices_of}

published : ℕ → PublishedRecord
published place = record { content_bytes = []; key_id = []; signature = []; registry_index = place; fetch_token = [] }

-- of what is listed for the ids 1, 2 and 1, the log with id 1 is brought the first and the last
listed-twice : brought (1 ∷ []) ((1 ∷ [], published 3 ∷ []) ∷ (2 ∷ [], published 4 ∷ []) ∷ (1 ∷ [], published 5 ∷ []) ∷ []) ≡ published 3 ∷ published 5 ∷ []
listed-twice = refl

kept : ℕ → Kept
kept place = record {
  signed = record { rec = record { prev = None; version = 0; time = record { seconds = 0; nanos = 0 }; entries = [] }; contents = []; key_id = []; signature = [] };
  registry_index = place;
  fetch_token = [];
}

-- of an operator's log at places 0 and 4, a package without records and one with a record at place 2, the last records
-- stand at 4 and 2
last-places : indices_of (record { operator = kept 0 ∷ kept 4 ∷ []; packages = (97 ∷ [], []) ∷ (98 ∷ [], kept 2 ∷ []) ∷ [] }) ≡ 4 ∷ 2 ∷ []
unfolding kept
last-places = refl
