-- A registry that makes a checkpoint stays one of its key.
use Rattle.std.proofs.Common.{◌≡◌, ◌∷◌, ◌++◌, [], List, ℕ, Some, refl, sym, ◌∙◌, ap, subst, length, arith}
use Rattle.warg_proof.specs.LogTree.{root}
use Rattle.warg_proof.specs.MapTree.{map_root}
use Rattle.warg_exchange.specs.declared.checkpoint.Checkpoint.{Checkpoint}
use Rattle.warg_exchange.specs.declared.checkpoint.SignedCheckpoint.{SignedCheckpoint}
use Rattle.warg_ledger.specs.Registry.{entry_texts, heads}
use Rattle.warg_model.specs.declared.growth.Growth.{Growth}
use Rattle.warg_model.specs.Growths.{IsGrowthOf}
use Rattle.warg_model.specs.Held.{Held, IsModel, registry_of, checkpoint_at, present, with_checkpoint}

-- it is the checkpoint of all records
pub present-made : (h : Held) (n : ℕ) (log_root maps_root : List ℕ) → n ≡ length (registry_of h).entries → log_root ≡ root (entry_texts (registry_of h) n) → maps_root ≡ map_root (heads (registry_of h) n)
    → record { log_length = n; log_root = log_root; map_root = maps_root; timestamp = n } ≡ present h
present-made h n log_root maps_root all is_log is_map =
    ap (λ (r : List ℕ). record { log_length = n; log_root = r; map_root = maps_root; timestamp = n }) is_log
    ∙ ap (λ (r : List ℕ). record { log_length = n; log_root = root (entry_texts (registry_of h) n); map_root = r; timestamp = n }) is_map
    ∙ ap (λ (m : ℕ). checkpoint_at (registry_of h) m) all

-- a registry has a growth that it takes up
pub taken-up : (h : Held) (g : Growth) → IsGrowthOf h g → record h { checkpoints = g.checkpoints.items; latest = Some g.latest } ≡ with_checkpoint h
taken-up h g is =
    ap (λ (l : List Checkpoint). record h { checkpoints = l; latest = Some g.latest }) is.checkpoints
    ∙ ap (λ (s : SignedCheckpoint). record h { checkpoints = h.checkpoints ++ present h ∷ []; latest = Some s }) is.latest

pub model-grown : (h k : Held) → k ≡ with_checkpoint h → IsModel h → IsModel k
model-grown h k is model =
    subst IsModel (sym is) (record {
      opening = model.opening;
      obeys = model.obeys;
      lawful = model.lawful;
      ids = model.ids;
      opening_is_read = model.opening_is_read;
      each_is_read = model.each_is_read;
      each_is_own = model.each_is_own;
      signature_text = model.signature_text;
      latest = record {
        is = record { positive = omega arith; below = omega arith; log_root = refl; map_root = refl };
        before = h.checkpoints;
        last = refl;
        key_id = refl;
        signature = refl;
      };
    })

pub some-is : {A : Type 0} (x y : A) → Some x ≡ Some y → x ≡ y
some-is x y e = cc e
