-- What is read of a whole bundle is what its bytes spell, and what they spell is read.
use Rattle.std.proofs.Common.{◌≡◌, ℕ, zero, suc, true, cond, eqb, List, [], ◌∷◌, ◌++◌, length, Ok, Err, refl, sym, ap, subst, ◌∙◌, append_assoc}
use Rattle.std.specs.List.{flat_map}
use Rattle.std.proofs.lemmas.Bool.{eqb-true}
use Rattle.std.proofs.lemmas.List.{append-nil, nil_from_length}
use Rattle.hex.specs.Hex.{IsBytes}
use Rattle.warg_values.specs.Reading.{◌>>=◌}
use Rattle.warg_values.specs.ReadingLaws.{bind_ok, ok_is, wanted_ok, never}
use Rattle.warg_hash.specs.Hash.{IsDigest}
use Rattle.warg_proof.specs.declared.fault.ProofFault.{ProofFault}
use Rattle.warg_proof.specs.declared.fault.ProofFault.TheVariants.{Form, Memory, WrongCount, WrongLeaf, WrongLength, MissingHash, OtherRoot}
use Rattle.warg_proof.specs.declared.node.Node.{Node}
use Rattle.warg_proof.specs.declared.node.Consistency.{Consistency}
use Rattle.warg_proof.specs.declared.node.Inclusion.{Inclusion}
use Rattle.warg_proof.specs.LogProofs.{LogProofs, node_text, consistency_text, inclusion_text, counted, log_text, IsNode, IsConsistency, IsInclusion, AreCounted, is_ascending, IsLogBundle}
use Rattle.warg_proof.specs.MapProofs.{MapPath, given_before, path_text, map_text, IsMapPath, IsMapBundle}
use Rattle.warg_proof.specs.Reading.{Read, Refuses, hash_at, node_at, consistency_at, inclusion_at, each_at, counted_at, log_rest_at, log_at, path_at, map_rest_at, map_at}
use Rattle.warg_proof.proofs.Fields.{Takes, Reads, hash_reads, node_reads, consistency_reads, inclusion_reads, each_takes, each_again, counted_reads}

-- ---- log bundles

nodes_read : Reads (counted_at node_at) (counted node_text) (AreCounted IsNode)
nodes_read = counted_reads node_at node_text IsNode node_reads

consistencies_read : Reads (counted_at consistency_at) (counted consistency_text) (AreCounted IsConsistency)
consistencies_read = counted_reads consistency_at consistency_text IsConsistency consistency_reads

inclusions_read : Reads (counted_at inclusion_at) (counted inclusion_text) (AreCounted IsInclusion)
inclusions_read = counted_reads inclusion_at inclusion_text IsInclusion inclusion_reads

-- the bundle of what was read, if nothing is left and the nodes ascend
closed : List Node → List Consistency → List Inclusion → List ℕ → Read LogProofs
closed nodes consistencies inclusions rest = cond (eqb (length rest) 0) (cond (is_ascending nodes) (Ok (record { nodes = nodes; consistencies = consistencies; inclusions = inclusions })) (Err Form)) (Err Form)

record Closed (nodes : List Node) (consistencies : List Consistency) (inclusions : List Inclusion) (rest : List ℕ) (proofs : LogProofs) : Type 0 where
  ended : rest ≡ []
  ascending : is_ascending nodes ≡ true
  is : ◌≡◌ {A = LogProofs} (record { nodes = nodes; consistencies = consistencies; inclusions = inclusions }) proofs

was_closed : (nodes : List Node) (consistencies : List Consistency) (inclusions : List Inclusion) (rest : List ℕ) (proofs : LogProofs) → closed nodes consistencies inclusions rest ≡ Ok proofs → Closed nodes consistencies inclusions rest proofs
unfolding closed
was_closed nodes consistencies inclusions rest proofs e =
    let made : LogProofs = record { nodes = nodes; consistencies = consistencies; inclusions = inclusions } in
    let inner : Read LogProofs = cond (is_ascending nodes) (Ok made) (Err Form) in
    let outer = wanted_ok (eqb (length rest) 0) Form inner proofs e in
    let up = wanted_ok (is_ascending nodes) Form (Ok made) proofs outer.1 in
    record { ended = nil_from_length rest (eqb-true _ _ outer.0); ascending = up.0; is = ok_is made proofs up.1 }

log_rest_takes : (bytes : List ℕ) (proofs : LogProofs) → IsBytes bytes → log_rest_at bytes ≡ Ok proofs → IsLogBundle proofs × (0 ∷ bytes ≡ log_text proofs)
unfolding log_rest_at closed
log_rest_takes bytes proofs fits e =
    let a = bind_ok (counted_at node_at bytes) (λ nodes. counted_at consistency_at nodes.1 >>= λ consistencies. counted_at inclusion_at consistencies.1 >>= λ inclusions. closed nodes.0 consistencies.0 inclusions.0 inclusions.1) proofs e in
    let b = bind_ok (counted_at consistency_at a.0.1) (λ consistencies. counted_at inclusion_at consistencies.1 >>= λ inclusions. closed a.0.0 consistencies.0 inclusions.0 inclusions.1) proofs a.2 in
    let d = bind_ok (counted_at inclusion_at b.0.1) (λ inclusions. closed a.0.0 b.0.0 inclusions.0 inclusions.1) proofs b.2 in
    let end = was_closed a.0.0 b.0.0 d.0.0 d.0.1 proofs d.2 in
    let t0 = nodes_read.takes bytes a.0 fits a.1 in
    let t1 = consistencies_read.takes a.0.1 b.0 t0.0.rest_fits b.1 in
    let t2 = inclusions_read.takes b.0.1 d.0 t1.0.rest_fits d.1 in
    let last : b.0.1 ≡ counted inclusion_text d.0.0 = t2.0.parts ∙ ap (λ (r : List ℕ). counted inclusion_text d.0.0 ++ r) end.ended ∙ append-nil (counted inclusion_text d.0.0) in
    let middle : a.0.1 ≡ counted consistency_text b.0.0 ++ counted inclusion_text d.0.0 = t1.0.parts ∙ ap (λ (r : List ℕ). counted consistency_text b.0.0 ++ r) last in
    let whole : bytes ≡ counted node_text a.0.0 ++ (counted consistency_text b.0.0 ++ counted inclusion_text d.0.0) = t0.0.parts ∙ ap (λ (r : List ℕ). counted node_text a.0.0 ++ r) middle in
    let P : LogProofs → Type 0 = λ p. IsLogBundle p × (0 ∷ bytes ≡ log_text p) in
    subst P end.is (record { nodes = t0.1; ascending = end.ascending; consistencies = t1.1; inclusions = t2.1 }, ap (λ (r : List ℕ). 0 ∷ r) whole)

pub log_takes : (bytes : List ℕ) (proofs : LogProofs) → IsBytes bytes → log_at bytes ≡ Ok proofs → IsLogBundle proofs × (bytes ≡ log_text proofs)
unfolding log_at
log_takes [] proofs fits e = never Form proofs e
log_takes (zero ∷ rest) proofs fits e = log_rest_takes rest proofs (λ i. fits (suc i)) e
log_takes (suc version ∷ rest) proofs fits e = never Form proofs e

pub log_again : (proofs : LogProofs) → IsLogBundle proofs → log_at (log_text proofs) ≡ Ok proofs
unfolding log_at log_rest_at
log_again proofs is =
    let last : counted_at inclusion_at (counted inclusion_text proofs.inclusions) ≡ Ok (proofs.inclusions, []) =
    ap (counted_at inclusion_at) (sym (append-nil (counted inclusion_text proofs.inclusions))) ∙ inclusions_read.again proofs.inclusions [] is.inclusions in
    rw (
      nodes_read.again proofs.nodes (counted consistency_text proofs.consistencies ++ counted inclusion_text proofs.inclusions) is.nodes,
      consistencies_read.again proofs.consistencies (counted inclusion_text proofs.inclusions) is.consistencies,
      last,
      is.ascending,
    ) refl

-- ---- map bundles

path_takes : (bytes : List ℕ) (x : MapPath × List ℕ) → IsBytes bytes → path_at bytes ≡ Ok x → Takes bytes (path_text x.0) x.1 × IsMapPath x.0
unfolding path_at
path_takes bytes x fits e =
    let a = bind_ok (hash_at bytes) (λ given. each_at hash_at (given_before 256 given.0) given.1 >>= λ siblings. Ok (record { given = given.0; siblings = siblings.0 }, siblings.1)) x e in
    let b = bind_ok (each_at hash_at (given_before 256 a.0.0) a.0.1) (λ siblings. Ok (record { given = a.0.0; siblings = siblings.0 }, siblings.1)) x a.2 in
    let t0 = hash_reads.takes bytes a.0 fits a.1 in
    let t1 = each_takes hash_at (λ hash. hash) IsDigest hash_reads (given_before 256 a.0.0) a.0.1 b.0 t0.0.rest_fits b.1 in
    let whole : bytes ≡ a.0.0 ++ flat_map (λ hash. hash) b.0.0 ++ b.0.1 =
    t0.0.parts ∙ ap (λ (r : List ℕ). a.0.0 ++ r) t1.0.parts ∙ sym (append_assoc a.0.0 (flat_map (λ hash. hash) b.0.0) b.0.1) in
    let made : MapPath × List ℕ = (record { given = a.0.0; siblings = b.0.0 }, b.0.1) in
    let P : MapPath × List ℕ → Type 0 = λ y. Takes bytes (path_text y.0) y.1 × IsMapPath y.0 in
    subst P (ok_is made x b.2) (record { parts = whole; rest_fits = t1.0.rest_fits }, record { given = t0.1; count = t1.1; siblings = t1.2 })

path_again : (path : MapPath) (rest : List ℕ) → IsMapPath path → path_at (path_text path ++ rest) ≡ Ok (path, rest)
unfolding path_at
path_again path rest is =
    let count : each_at hash_at (given_before 256 path.given) (flat_map (λ hash. hash) path.siblings ++ rest) ≡ Ok (path.siblings, rest) =
    ap (λ (n : ℕ). each_at hash_at n (flat_map (λ hash. hash) path.siblings ++ rest)) (sym is.count) ∙ each_again hash_at (λ hash. hash) IsDigest hash_reads path.siblings rest is.siblings in
    ap path_at (append_assoc path.given (flat_map (λ hash. hash) path.siblings) rest)
    ∙ rw (hash_reads.again path.given (flat_map (λ hash. hash) path.siblings ++ rest) is.given, count) refl

path_reads : Reads path_at path_text IsMapPath
path_reads = record { takes = path_takes; again = path_again }

paths_read : Reads (counted_at path_at) (counted path_text) (AreCounted IsMapPath)
paths_read = counted_reads path_at path_text IsMapPath path_reads

map_rest_takes : (bytes : List ℕ) (paths : List MapPath) → IsBytes bytes → map_rest_at bytes ≡ Ok paths → IsMapBundle paths × (0 ∷ bytes ≡ map_text paths)
unfolding map_rest_at
map_rest_takes bytes paths fits e =
    let a = bind_ok (counted_at path_at bytes) (λ read. cond (eqb (length read.1) 0) (Ok read.0) (Err Form)) paths e in
    let end = wanted_ok (eqb (length a.0.1) 0) Form (Ok a.0.0) paths a.2 in
    let t = paths_read.takes bytes a.0 fits a.1 in
    let ended : a.0.1 ≡ [] = nil_from_length a.0.1 (eqb-true _ _ end.0) in
    let whole : bytes ≡ counted path_text a.0.0 = t.0.parts ∙ ap (λ (r : List ℕ). counted path_text a.0.0 ++ r) ended ∙ append-nil (counted path_text a.0.0) in
    let P : List MapPath → Type 0 = λ ps. IsMapBundle ps × (0 ∷ bytes ≡ map_text ps) in
    subst P (ok_is a.0.0 paths end.1) (t.1, ap (λ (r : List ℕ). 0 ∷ r) whole)

pub map_takes : (bytes : List ℕ) (paths : List MapPath) → IsBytes bytes → map_at bytes ≡ Ok paths → IsMapBundle paths × (bytes ≡ map_text paths)
unfolding map_at
map_takes [] paths fits e = never Form paths e
map_takes (zero ∷ rest) paths fits e = map_rest_takes rest paths (λ i. fits (suc i)) e
map_takes (suc version ∷ rest) paths fits e = never Form paths e

pub map_again : (paths : List MapPath) → IsMapBundle paths → map_at (map_text paths) ≡ Ok paths
unfolding map_at map_rest_at
map_again paths is =
    let last : counted_at path_at (counted path_text paths) ≡ Ok (paths, []) =
    ap (counted_at path_at) (sym (append-nil (counted path_text paths))) ∙ paths_read.again paths [] is in
    rw last refl

-- ---- refusals

-- bytes that can be read are refused for want of memory alone
pub only_memory : {X : Type 0} (fault : ProofFault) (read : Read X) (x : X) → Refuses fault read → read ≡ Ok x → fault ≡ Memory
only_memory Memory read x h e = refl
only_memory Form read x h e = never Form x (sym h ∙ e)
only_memory WrongCount read x h e = absurd h
only_memory WrongLeaf read x h e = absurd h
only_memory WrongLength read x h e = absurd h
only_memory MissingHash read x h e = absurd h
only_memory (OtherRoot root found) read x h e = absurd h

-- two values that one reading gives are one
pub same_read : {X : Type 0} (read : Read X) (x y : X) → read ≡ Ok x → read ≡ Ok y → x ≡ y
same_read read x y e k = ok_is x y (sym e ∙ k)
