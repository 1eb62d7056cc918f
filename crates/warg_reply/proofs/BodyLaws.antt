-- What the members of bodies mean.
use Rattle.std.proofs.Common.{◌≡◌, ◌∷◌, [], ℕ, List, true, refl, sym, subst}
use Rattle.std.specs.Prelude.{Result, Ok, Err, IfOk}
use Rattle.base64.specs.Engines.{standard}
use Rattle.base64.specs.GeneralPurpose.{decode_of}
use Rattle.serde_json.specs.Data.{Data}
use Rattle.serde_json.specs.View.{view}
use Rattle.serde_json.specs.declared.value.Value.{Value}
use Rattle.warg_record.specs.Key.{is_key_text}
use Rattle.warg_exchange.specs.Body.{each_item, each_member}
use Rattle.warg_exchange.specs.Requests.{contents_data, checkpoint_data}
use Rattle.warg_exchange.specs.Replies.{contents_in, checkpoint_in, bundles_in, proof_in, source_in, sources_in}
use Rattle.warg_exchange.specs.declared.checkpoint.Checkpoint.{Checkpoint}
use Rattle.warg_exchange.specs.declared.checkpoint.SignedCheckpoint.{SignedCheckpoint}
use Rattle.warg_exchange.specs.declared.content.ContentSource.TheVariants.{HttpGet}
use Rattle.warg_values.specs.declared.memory.Memory.{Memory}
use Rattle.warg_reply.specs.Order.{NamesItself}
use Rattle.warg_reply.specs.Bodies.{bundles_data, proof_data, sources_data}

-- what holds of a value's members holds of the value
pub by_members : (r : Result Value Memory) (d : Data) (P : Data → Type 0) → IfOk r (λ v. view v ≡ d) → P d → IfOk r (λ v. P (view v))
by_members (Ok v) d P is p = subst P (sym is) p
by_members (Err e) d P is p = tt

pub contents_read : (c : Checkpoint) → NamesItself c.log_root → NamesItself c.map_root → contents_in (contents_data c) ≡ Ok c
unfolding contents_in
contents_read c log map = rw (log, map) refl

pub checkpoint_read : (c : SignedCheckpoint) → NamesItself c.contents.log_root → NamesItself c.contents.map_root → NamesItself c.key_id → is_key_text c.signature ≡ true
    → checkpoint_in (checkpoint_data c) ≡ Ok c
unfolding checkpoint_in
checkpoint_read c log map key signature = rw (contents_read c.contents log map, key, signature) refl

pub bundles_read : (log map a b : List ℕ) → decode_of standard a ≡ Ok log → decode_of standard b ≡ Ok map → bundles_in (bundles_data a b) ≡ Ok (record { log = log; map = map })
unfolding bundles_in
bundles_read log map a b first second = rw (first, second) refl

pub proof_read : (proof a : List ℕ) → decode_of standard a ≡ Ok proof → proof_in (proof_data a) ≡ Ok (record { proof = proof })
unfolding proof_in
proof_read proof a is = rw is refl

pub sources_read : (digest url : List ℕ) → NamesItself digest → sources_in (sources_data digest url) ≡ Ok ((digest, HttpGet url ∷ []) ∷ [])
unfolding source_in each_item each_member
sources_read digest url is = rw is refl
