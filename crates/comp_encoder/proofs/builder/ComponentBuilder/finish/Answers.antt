use Rattle.std.proofs.Common.{◌≡◌, List, Result, Ok, Err, Vec, sym, subst}
use Rattle.std.specs.Prelude.{IfOk, OnOk}
use Rattle.std.specs.Global.{Global}
use Rattle.std.specs.List.{AllByRecursion}
use Rattle.comp_format.specs.declared.error.EncodeError.{EncodeError}
use Rattle.comp_format.specs.Items.{ItemTree}
use Rattle.comp_format.specs.Sections.{Reads}
use Rattle.comp_format.specs.SectionLaws.{reads_once}
use Rattle.comp_encoder.specs.Builder.{Kept, IsKept, entries_of}
use Rattle.comp_encoder.specs.Writing.{IsShort, items_of, sections_of, component_text}
use Rattle.comp_encoder.proofs.SectionLaws.{entries_fit}
use Rattle.comp_encoder.proofs.WritingLaws.{written_reads}
use Rattle.comp_encoder.proofs.builder.ComponentBuilder.finish.Goals as goal

-- what is written reads as what was added
reads : (kepts : List Kept) (r : Result (Vec _ Global) EncodeError) → AllByRecursion IsKept kepts → IfOk r (λ bytes. bytes.items ≡ component_text (entries_of kepts)) → OnOk r (AllByRecursion IsShort (sections_of (entries_of kepts)))
    → IfOk r (λ bytes. Reads bytes.items (items_of (entries_of kepts)))
reads kepts (Ok bytes) fit text short = subst (λ (t : List _). Reads t (items_of (entries_of kepts))) (sym text) (written_reads (entries_of kepts) (entries_fit kepts fit) short)
reads kepts (Err e) fit text short = tt

once : (kepts : List Kept) (r : Result (Vec _ Global) EncodeError) → IfOk r (λ bytes. Reads bytes.items (items_of (entries_of kepts))) → IfOk r (λ bytes. (items : List ItemTree) → Reads bytes.items items → items ≡ items_of (entries_of kepts))
once kepts (Ok bytes) is = λ items h. reads_once bytes.items items (items_of (entries_of kepts)) h is
once kepts (Err e) is = tt

pub returns-clause-reads : goal.returns-clause-reads
returns-clause-reads c =
    subst (λ (ks : List Kept). IfOk c.finish.result (λ bytes. Reads bytes.items (items_of (entries_of ks)))) c.self.view_is
    (reads c.self.inside.built c.finish.result c.self.invariant.fit c.finish.ensures.text c.finish.ensures.fits)

pub returns-clause-once : goal.returns-clause-once
returns-clause-once c = once c.args.self c.finish.result (returns-clause-reads c)
