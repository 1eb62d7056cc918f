use Rattle.std.proofs.Common.{◌++◌, [], ℕ, List, ◌∙◌, ap, subst, sym, append-nil}
use Rattle.std.specs.List.Sorted.{IsPermutation}
use Rattle.warg_model.specs.Held.{Held, AcceptsSigned, signatures_of}
use Rattle.warg_model.specs.Signatures.{accepted_of}
use Rattle.warg_model.specs.State.{held}
use Rattle.warg_model.proofs.RegistryLaws.{texts-listed}
use Rattle.warg_model.proofs.registry.ModelRegistry.verifier.Goals as goal

pub returns-clause-listed : goal.returns-clause-listed
returns-clause-listed c =
    subst (λ (l : List (List ℕ × List ℕ × List ℕ)). IsPermutation l c.new.result) (c.in_ok-list_signatures.ensures ∙ ap (λ (l : List (List ℕ × List ℕ × List ℕ)). l ++ signatures_of (held c.args.self.now)) c.new-listed.ensures.items) c.new.ensures

accepts-signed : (h : Held) (listed : List (List ℕ × List ℕ × List ℕ)) → IsPermutation (signatures_of h) listed → AcceptsSigned (accepted_of listed) h
accepts-signed h listed same = texts-listed h [] [] listed (subst (λ (l : List (List ℕ × List ℕ × List ℕ)). IsPermutation l listed) (sym (append-nil (signatures_of h))) same)

pub returns-clause-honest : goal.returns-clause-honest
returns-clause-honest c sound apart =
    c.what_is_signed_is_accepted.ensures.honest (accepted_of c.new.result) (held c.args.self.now) sound apart (accepts-signed (held c.args.self.now) c.new.result (returns-clause-listed c))

pub returns-clause-signed : goal.returns-clause-signed
returns-clause-signed c sound =
    c.what_is_signed_is_accepted.ensures.signed (accepted_of c.new.result) (held c.args.self.now) sound (accepts-signed (held c.args.self.now) c.new.result (returns-clause-listed c))
