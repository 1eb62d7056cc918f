-- A text that emits a tree's events is a carried document for that tree.
use Rattle.std.proofs.Common.{ℕ, List, [], Option, sym, subst}
use Rattle.yaml_small.specs.Trees.{Tree, stream_emitted, ends_again}
use Rattle.yaml_small.specs.Grammar.{Carried}
use Rattle.yaml_small.specs.Stream.{State, start, Runs}
use Rattle.yaml_small.specs.FoundTextLaws.{found}
use Rattle.yaml_small.specs.UniqueLaws.{stream_one, last_step}
use Rattle.yaml_small.specs.LiveLaws.{stream_end}

pub is_carried : (text : List ℕ) (o : Option Tree) (z : State) → Runs (start text) (stream_emitted o []) z → Carried text o
is_carried text o z runs =
    let l = last_step o (start text) z runs in
    let f = found text (stream_emitted o []) (z, runs, stream_end l.0 z l.1) in
    subst (Carried text) (sym (stream_one o f.tree [] (ends_again f.count) f.is).0) f.carried
